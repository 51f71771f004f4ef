-- References to strings that were merged: what the writer takes for S makes their place with A, and no other symbol's.
use Rattle.wild_references.proofs.Common.{◌≡◌, ℕ, ◌+◌, ◌-◌, ◌%◌, ◌^◌, ◌<◌, ◌≤◌, Bool, true, false, List, [], ◌∷◌, ◌++◌, Option, Some, None, refl, sym, ap, ◌∙◌, arith, subst, ℤ, Ok, not, ◌&&◌, ◌||◌, if◌then◌else◌, nat_le, All, option_and_then, option_map, slice_get, is_some, w64, cast_unsigned, and_parts, not-true, eqb-true, leb-true, le-leb, All-nil, All-cons, Place, Symbol, ValueFlags, InputRelocation, InputSection, MergedString, File, Layout, has_flag, interposable, absolute, dynamic, ifunc, non_interposable, undefined_weak, copy_relocation, export_dynamic, flags_at, DefinitionNames, sum, address_of, merged_strings, names_merged, address_for, World, OutputKind, IsSymbol, HasFlag, IsReplaceable, is_library, may_be_replaced, IsUndefinedWeak, NamesStrings, flag_is}
use Rattle.std.specs.Option.{option_or}
use Rattle.std.proofs.lemmas.Bool.{leb-false, lt-leb}
use Rattle.std.proofs.lemmas.List.Elements.{All-head, All-tail}
use Rattle.wild_records.specs.Abi.Symbol.{stt_section}
use Rattle.wild_types.specs.declared.fault.Missing.TheVariants as missing
use Rattle.wild_types.specs.declared.symbol.Place.TheVariants as at
use Rattle.wild_types.specs.declared.input.Slot.{Slot}
use Rattle.wild_types.specs.declared.input.Slot.TheVariants as slot
use Rattle.wild_types.specs.Lookups.{files_of, file_of}
use Rattle.wild_layout.specs.SymbolValues.{minus, resolved_address}
use Rattle.wild_layout.specs.Merged.{is_section_symbol, strings_by, strings_of, strings_at, strings_in, strings_of_symbol, is_plain_own, string_before, string_place, symbol_value, merged_byte, without_addend, address_by, address_named}
use Rattle.wild_meaning.specs.Strings.{IsPlainOwn, HasStrings, IsStringAt, byte_of_reference, IsString}
use Rattle.wild_references.proofs.Symbols.{flag_at, replaceable_is}

-- ---- the strings of a symbol

-- a section of a file that the symbol stands for, with merged strings
record IsSectionOf (f : File) (s : Symbol) (strings : List MergedString) : Type 0 where
  of_section : s.info % 16 ≡ stt_section
  index : ℕ
  stands : s.place ≡ at.Section index
  section : InputSection
  found : slice_get f.sections index ≡ Some section
  merged : section.slot ≡ slot.Merge
  is : strings ≡ section.strings

section_of : (f : File) (s : Symbol) (strings : List MergedString) → strings_in f s ≡ Some strings → IsSectionOf f s strings
section_of f s strings h = by_test (is_section_symbol s) refl h
  where
    by_slot : (k : ℕ) (x : InputSection) (t : Slot) → s.info % 16 ≡ stt_section → s.place ≡ at.Section k → slice_get f.sections k ≡ Some x → x.slot ≡ t → strings_by t x ≡ Some strings → IsSectionOf f s strings
    by_slot k x slot.Merge i p e t h = record { of_section = i; index = k; stands = p; section = x; found = e; merged = t; is = (let same : x.strings ≡ strings = cc in sym same) }
    by_slot k x other i p e t h = cc

    by_section : (k : ℕ) (o : Option InputSection) → s.info % 16 ≡ stt_section → s.place ≡ at.Section k → slice_get f.sections k ≡ o → option_and_then strings_of o ≡ Some strings → IsSectionOf f s strings
    by_section k None i p e h = cc
    by_section k (Some x) i p e h = by_slot k x x.slot i p e refl h

    by_place : (p : Place) → s.info % 16 ≡ stt_section → s.place ≡ p → strings_at p f ≡ Some strings → IsSectionOf f s strings
    by_place (at.Section k) i e h = by_section k (slice_get f.sections k) i e refl h
    by_place other i e h = cc

    by_test : (b : Bool) → is_section_symbol s ≡ b → (if b then strings_at s.place f else None) ≡ Some strings → IsSectionOf f s strings
    by_test true e h = by_place s.place (eqb-true _ _ e) refl h
    by_test false e h = cc

plain_parts : (l : Layout) (i : ℕ) (s : Symbol) → All (DefinitionNames l) l.symbols → IsSymbol l i s → is_plain_own (flags_at l i) ≡ true → IsPlainOwn l i
plain_parts l i s named listed h =
    let f = flags_at l i in
    let a = and_parts (not (interposable f)) (not (has_flag f dynamic) && (not (has_flag f absolute) && (not (has_flag f ifunc) && not (has_flag f undefined_weak)))) h in
    let b = and_parts (not (has_flag f dynamic)) (not (has_flag f absolute) && (not (has_flag f ifunc) && not (has_flag f undefined_weak))) a.1 in
    let c = and_parts (not (has_flag f absolute)) (not (has_flag f ifunc) && not (has_flag f undefined_weak)) b.1 in
    let d = and_parts (not (has_flag f ifunc)) (not (has_flag f undefined_weak)) c.1 in
    record {
      own = with_flag non_interposable true (twice (has_flag f non_interposable) a.0);
      here = with_flag dynamic false (not-true _ b.0);
      moves = with_flag absolute false (not-true _ c.0);
      plain = with_flag ifunc false (not-true _ d.0);
      defined = with_flag undefined_weak false (not-true _ d.1);
    }
  where
    twice : (b : Bool) → not (not b) ≡ true → b ≡ true
    twice true h = refl
    twice false h = cc

    with_flag : (flag : ℕ) (b : Bool) → has_flag (flags_at l i) flag ≡ b → HasFlag l i flag b
    with_flag flag b e = subst (λ (c : Bool). HasFlag l i flag c) e (flag_at l i flag s named listed)

-- what the writer finds are the symbol's strings
pub has_strings : (l : Layout) (i : ℕ) (strings : List MergedString) → All (DefinitionNames l) l.symbols → merged_strings l i ≡ Some strings → HasStrings l i strings
unfolding merged_strings
has_strings l i strings named h = by_plain (is_plain_own (flags_at l i)) refl h
  where
    by_file : (s : Symbol) (o : Option File) → is_plain_own (flags_at l i) ≡ true → IsSymbol l i s → file_of (files_of l.groups) i ≡ o → option_and_then (λ (f : File). strings_in f s) o ≡ Some strings → HasStrings l i strings
    by_file s None p listed e h = cc
    by_file s (Some f) p listed e h =
        let x = section_of f s strings h in
        record {
          plain = plain_parts l i s named listed p;
          symbol = s;
          listed = listed;
          of_section = x.of_section;
          index = x.index;
          stands = x.stands;
          file = f;
          own = e;
          section = x.section;
          found = x.found;
          merged = x.merged;
          is = x.is;
        }

    by_symbol : (o : Option Symbol) → is_plain_own (flags_at l i) ≡ true → slice_get l.symbols i ≡ o → option_and_then (strings_of_symbol (files_of l.groups) i) o ≡ Some strings → HasStrings l i strings
    by_symbol None p e h = cc
    by_symbol (Some s) p e h = by_file s (file_of (files_of l.groups) i) p e refl h

    by_plain : (b : Bool) → is_plain_own (flags_at l i) ≡ b → (if b then option_and_then (strings_of_symbol (files_of l.groups) i) (slice_get l.symbols i) else None) ≡ Some strings → HasStrings l i strings
    by_plain false p h = cc
    by_plain true p h = by_symbol (slice_get l.symbols i) p refl h

plain_own : (l : Layout) (i : ℕ) → IsPlainOwn l i → is_plain_own (flags_at l i) ≡ true
plain_own l i p =
    let own = flag_is l i non_interposable true p.own in
    let here = flag_is l i dynamic false p.here in
    let moves = flag_is l i absolute false p.moves in
    let plain = flag_is l i ifunc false p.plain in
    let defined = flag_is l i undefined_weak false p.defined in
    rw (own, here, moves, plain, defined) refl

found_in : (f : File) (s : Symbol) (strings : List MergedString) (k : ℕ) (x : InputSection) → s.info % 16 ≡ stt_section → s.place ≡ at.Section k → slice_get f.sections k ≡ Some x → x.slot ≡ slot.Merge → strings ≡ x.strings → strings_in f s ≡ Some strings
found_in f s strings k x i p e t is = rw (i, p, e, t, is) refl

-- and the writer finds them
pub strings_are : (l : Layout) (i : ℕ) (strings : List MergedString) → HasStrings l i strings → merged_strings l i ≡ Some strings
unfolding merged_strings
strings_are l i strings h =
    let there = found_in h.file h.symbol strings h.index h.section h.of_section h.stands h.found h.merged h.is in
    let listed = h.listed in
    let own = h.own in
    rw (plain_own l i h.plain, listed, own) there

-- so a symbol without strings names none
pub names_none : (l : Layout) (r : InputRelocation) → names_merged l r.symbol ≡ false → NamesStrings l r → ⊥
names_none l r none n =
    let there : names_merged l (Some n.symbol) ≡ false = subst (λ (o : Option ℕ). names_merged l o ≡ false) n.named none in
    let some : is_some (Some n.strings) ≡ false = ap (λ (o : Option (List MergedString)). is_some o) (sym (strings_are l n.symbol n.strings n.has)) ∙ there in
    cc

-- ---- the string of a byte

before_none : (ss : List MergedString) (x : ℕ) → string_before ss x ≡ None → All (λ (t : MergedString). x < t.offset) ss
before_none [] x h = All-nil (λ (t : MergedString). x < t.offset)
before_none (s ∷ ss) x h = by_rest s ss x (string_before ss x) refl (λ rest. before_none ss x rest) h
  where
    by_own : (s : MergedString) (ss : List MergedString) (x : ℕ) (b : Bool) → nat_le s.offset x ≡ b → All (λ (t : MergedString). x < t.offset) ss → (if b then Some s else None) ≡ None → All (λ (t : MergedString). x < t.offset) (s ∷ ss)
    by_own s ss x true e rest h = cc
    by_own s ss x false e rest h = All-cons (λ (t : MergedString). x < t.offset) s ss (leb-false s.offset x e) rest

    by_rest : (s : MergedString) (ss : List MergedString) (x : ℕ) (o : Option MergedString) → string_before ss x ≡ o → (string_before ss x ≡ None → All (λ (t : MergedString). x < t.offset) ss) → option_or o (if nat_le s.offset x then Some s else None) ≡ None → All (λ (t : MergedString). x < t.offset) (s ∷ ss)
    by_rest s ss x (Some t) e rest h = cc
    by_rest s ss x None e rest h = by_own s ss x (nat_le s.offset x) refl (rest e) h

pub string_at : (ss : List MergedString) (x : ℕ) (s : MergedString) → string_before ss x ≡ Some s → IsStringAt ss x s
string_at [] x s h = cc
string_at (t ∷ ss) x s h = by_rest t ss x s (string_before ss x) refl (λ e. string_at ss x s e) h
  where
    by_own : (t : MergedString) (ss : List MergedString) (x : ℕ) (s : MergedString) (b : Bool) → nat_le t.offset x ≡ b → string_before ss x ≡ None → (if b then Some t else None) ≡ Some s → IsStringAt (t ∷ ss) x s
    by_own t ss x s false e rest h = cc
    by_own t ss x s true e rest h =
        let same : t ≡ s = cc in
        record { ahead = []; behind = ss; parts = ap (λ (u : MergedString). u ∷ ss) same; begins = subst (λ (u : MergedString). u.offset ≤ x) same (leb-true t.offset x e); last = before_none ss x rest }

    by_rest : (t : MergedString) (ss : List MergedString) (x : ℕ) (s : MergedString) (o : Option MergedString) → string_before ss x ≡ o → (string_before ss x ≡ Some s → IsStringAt ss x s) → option_or o (if nat_le t.offset x then Some t else None) ≡ Some s → IsStringAt (t ∷ ss) x s
    by_rest t ss x s None e there h = by_own t ss x s (nat_le t.offset x) refl e h
    by_rest t ss x s (Some u) e there h =
        let rest = there (e ∙ h) in
        record { ahead = t ∷ rest.ahead; behind = rest.behind; parts = ap (λ (us : List MergedString). t ∷ us) rest.parts; begins = rest.begins; last = rest.last }

-- it is the one that the writer finds
pub before_at : (ss : List MergedString) (x : ℕ) (s : MergedString) → IsStringAt ss x s → string_before ss x ≡ Some s
before_at ss x s h = subst (λ (ts : List MergedString). string_before ts x ≡ Some s) (sym h.parts) (behind_all h.ahead h.behind x s (found_last h.behind x s h.begins h.last))
  where
    none_behind : (ts : List MergedString) (x : ℕ) → All (λ (t : MergedString). x < t.offset) ts → string_before ts x ≡ None
    none_behind [] x h = refl
    none_behind (t ∷ ts) x h =
        let rest = none_behind ts x (All-tail (λ (u : MergedString). x < u.offset) t ts h) in
        let above : x < t.offset = All-head (λ (u : MergedString). x < u.offset) t ts h in
        let no : nat_le t.offset x ≡ false = lt-leb t.offset x above in
        rw (rest, no) refl

    found_last : (ts : List MergedString) (x : ℕ) (s : MergedString) → s.offset ≤ x → All (λ (t : MergedString). x < t.offset) ts → string_before (s ∷ ts) x ≡ Some s
    found_last ts x s begins last =
        let rest = none_behind ts x last in
        let yes : nat_le s.offset x ≡ true = le-leb s.offset x begins in
        rw (rest, yes) refl

    behind_all : (ms ns : List MergedString) (x : ℕ) (s : MergedString) → string_before (s ∷ ns) x ≡ Some s → string_before (ms ++ (s ∷ ns)) x ≡ Some s
    behind_all [] ns x s h = h
    behind_all (a ∷ ms) ns x s h = (let rest = behind_all ms ns x s h in rw rest refl)

-- ---- S

-- of any other symbol S is its address
pub plain_address : (l : Layout) (r : InputRelocation) → names_merged l r.symbol ≡ false → address_for l r ≡ address_of l r.symbol
unfolding address_for
plain_address l r none = by_symbol r.symbol refl none
  where
    by_strings : (i : ℕ) (o : Option (List MergedString)) → is_some o ≡ false → address_by l r i o ≡ address_of l (Some i)
    by_strings i None e = refl
    by_strings i (Some ss) e = cc

    by_symbol : (o : Option ℕ) → r.symbol ≡ o → names_merged l o ≡ false → address_named l r o ≡ address_of l o
    by_symbol None e h = refl
    by_symbol (Some i) e h = by_strings i (merged_strings l i) h

-- what makes the place of a byte of an input section with A: base, the string's place, the byte behind it, and A
made : (base p d c : ℕ) → c < 2 ^ 64 → ((base + ((p + d) % 2 ^ 64 + (2 ^ 64 - c)) % 2 ^ 64) % 2 ^ 64 + c) % 2 ^ 64 ≡ (base + p + d) % 2 ^ 64
made base p d c h = omega (arith, h)

below : (n : ℕ) → n % 2 ^ 64 < 2 ^ 64
below n = omega arith

-- S of a reference to merged strings, with the base
record IsPlaceOf (l : Layout) (r : InputRelocation) (strings : List MergedString) (x a : ℕ) : Type 0 where
  string : MergedString
  found : IsStringAt strings x string
  is : a ≡ ((string.address + (x - string.offset)) % 2 ^ 64 + (2 ^ 64 - cast_unsigned w64 r.addend)) % 2 ^ 64

place_of_string : (l : Layout) (r : InputRelocation) (i : ℕ) (strings : List MergedString) (x a : ℕ) → without_addend r (resolved_address missing.Address i (string_place strings x)) ≡ Ok a → IsPlaceOf l r strings x a
place_of_string l r i strings x a h = by_string (string_before strings x) refl h
  where
    by_string : (o : Option MergedString) → string_before strings x ≡ o → without_addend r (resolved_address missing.Address i (option_map (λ (s : MergedString). (s.address + (x - s.offset)) % 2 ^ 64) o)) ≡ Ok a → IsPlaceOf l r strings x a
    by_string None e h = cc
    by_string (Some s) e h = record { string = s; found = string_at strings x s e; is = (let same : minus ((s.address + (x - s.offset)) % 2 ^ 64) (cast_unsigned w64 r.addend) ≡ a = cc in sym same) }

-- what the writer takes for S finds the string, and moves with the base
pub string_found : (l : Layout) (w : World) (r : InputRelocation) (i a : ℕ) (strings : List MergedString) → All (DefinitionNames l) l.symbols → r.symbol ≡ Some i → merged_strings l i ≡ Some strings → cast_unsigned w64 r.addend < 2 ^ 64 → address_for l r ≡ Ok a → IsString l w r ((w.base + a) % 2 ^ 64)
unfolding address_for
string_found l w r i a strings named symbol is small h =
    let has = has_strings l i strings named is in
    let here : address_named l r (Some i) ≡ Ok a = subst (λ (o : Option ℕ). address_named l r o ≡ Ok a) symbol h in
    let given : address_by l r i (Some strings) ≡ Ok a = subst (λ (o : Option (List MergedString)). address_by l r i o ≡ Ok a) is here in
    let byte : merged_byte l i r ≡ byte_of_reference has.symbol r = ap (λ (o : Option Symbol). sum (symbol_value o) r.addend) has.listed in
    let p = subst (λ (x : ℕ). IsPlaceOf l r strings x a) byte (place_of_string l r i strings (merged_byte l i r) a given) in
    let s = p.string in
    let d = byte_of_reference has.symbol r - s.offset in
    record {
      symbol = i;
      named = symbol;
      strings = strings;
      has = has;
      string = s;
      found = p.found;
      is = ap (λ (n : ℕ). ((w.base + n) % 2 ^ 64 + cast_unsigned w64 r.addend) % 2 ^ 64) p.is ∙ made w.base s.address d (cast_unsigned w64 r.addend) small;
      small = below (w.base + a);
    }

pub string_named : (l : Layout) (w : World) (r : InputRelocation) (a : ℕ) → IsString l w r a → NamesStrings l r
string_named l w r a h = record { symbol = h.symbol; named = h.named; strings = h.strings; has = h.has }

pub strings_move : (l : Layout) (w : World) (r : InputRelocation) (a : ℕ) → IsString l w r a → (j : ℕ) → r.symbol ≡ Some j → has_flag (flags_at l j) absolute ≡ false
strings_move l w r a h j e =
    let both : Some h.symbol ≡ Some j = sym h.named ∙ e in
    let same : h.symbol ≡ j = cc in
    subst (λ (k : ℕ). has_flag (flags_at l k) absolute ≡ false) same (flag_is l h.symbol absolute false h.has.plain.moves)

-- two references with one symbol and one addend find one place
pub one_string : (l : Layout) (w : World) (r q : InputRelocation) (a b : ℕ) → r.symbol ≡ q.symbol → r.addend ≡ q.addend → IsString l w r a → IsString l w q b → a ≡ b
one_string l w r q a b symbols addends x y =
    let same : x.symbol ≡ y.symbol = (let both : Some x.symbol ≡ Some y.symbol = sym x.named ∙ symbols ∙ y.named in cc) in
    let mine = strings_are l x.symbol x.strings x.has in
    let other : merged_strings l x.symbol ≡ Some y.strings = ap (λ (k : ℕ). merged_strings l k) same ∙ strings_are l y.symbol y.strings y.has in
    let strings : x.strings ≡ y.strings = (let both : Some x.strings ≡ Some y.strings = sym mine ∙ other in cc) in
    let listed : Some x.has.symbol ≡ Some y.has.symbol = sym x.has.listed ∙ ap (λ (k : ℕ). slice_get l.symbols k) same ∙ y.has.listed in
    let one : x.has.symbol ≡ y.has.symbol = cc in
    let byte : byte_of_reference x.has.symbol r ≡ byte_of_reference y.has.symbol q = ap (λ (s : Symbol). byte_of_reference s r) one ∙ ap (λ (z : ℤ). (y.has.symbol.value + cast_unsigned w64 z) % 2 ^ 64) addends in
    let here : string_before y.strings (byte_of_reference y.has.symbol q) ≡ Some x.string = ap (λ (ss : List MergedString). string_before ss (byte_of_reference y.has.symbol q)) (sym strings) ∙ ap (λ (n : ℕ). string_before x.strings n) (sym byte) ∙ before_at x.strings (byte_of_reference x.has.symbol r) x.string x.found in
    let there = before_at y.strings (byte_of_reference y.has.symbol q) y.string y.found in
    let found : x.string ≡ y.string = (let both : Some x.string ≡ Some y.string = sym here ∙ there in cc) in
    let place = ap (λ (n : ℕ). (w.base + x.string.address + (n - x.string.offset)) % 2 ^ 64) byte ∙ ap (λ (s : MergedString). (w.base + s.address + (byte_of_reference y.has.symbol q - s.offset)) % 2 ^ 64) found in
    let added = x.is ∙ place ∙ sym y.is in
    let c : cast_unsigned w64 r.addend ≡ cast_unsigned w64 q.addend = ap (λ (z : ℤ). cast_unsigned w64 z) addends in
    let low = x.small in
    let high = y.small in
    same_less a b (cast_unsigned w64 r.addend) (cast_unsigned w64 q.addend) c added low high
  where
    same_less : (a b c d : ℕ) → c ≡ d → (a + c) % 2 ^ 64 ≡ (b + d) % 2 ^ 64 → a < 2 ^ 64 → b < 2 ^ 64 → a ≡ b
    same_less a b c d e f low high = omega (arith, e, f, low, high)

-- ---- symbols without strings

-- what such a symbol is
pub own_at : (l : Layout) (r : InputRelocation) (i : ℕ) → r.symbol ≡ Some i → NamesStrings l r → IsPlainOwn l i
own_at l r i named n =
    let both : Some n.symbol ≡ Some i = sym n.named ∙ named in
    let same : n.symbol ≡ i = cc in
    subst (λ (k : ℕ). IsPlainOwn l k) same n.has.plain

-- one that is not there
pub absent_none : (l : Layout) (r : InputRelocation) (i : ℕ) → r.symbol ≡ Some i → IsUndefinedWeak l i → NamesStrings l r → ⊥
absent_none l r i named a n =
    let defined = (own_at l r i named n).defined in
    let both : true ≡ false = sym (flag_is l i undefined_weak true a.weak) ∙ flag_is l i undefined_weak false defined in
    cc

-- one that nothing defines
pub weak_plain : (l : Layout) (r : InputRelocation) (k : ℕ) → r.symbol ≡ Some k → has_flag (flags_at l k) undefined_weak ≡ true → names_merged l r.symbol ≡ false
unfolding merged_strings
weak_plain l r k named weak =
    let none : is_plain_own (flags_at l k) ≡ false = rw weak (never (not (interposable (flags_at l k))) (not (has_flag (flags_at l k) dynamic)) (not (has_flag (flags_at l k) absolute)) (not (has_flag (flags_at l k) ifunc))) in
    subst (λ (o : Option ℕ). names_merged l o ≡ false) (sym named) (rw none refl)
  where
    never : (a b c d : Bool) → (a && (b && (c && (d && false)))) ≡ false
    never true true true true = refl
    never true true true false = refl
    never true true false d = refl
    never true false c d = refl
    never false b c d = refl

-- one that a resolver chooses
pub resolver_none : (l : Layout) (r : InputRelocation) (i : ℕ) → r.symbol ≡ Some i → HasFlag l i ifunc true → NamesStrings l r → ⊥
resolver_none l r i named chosen n =
    let plain = (own_at l r i named n).plain in
    let both : true ≡ false = sym (flag_is l i ifunc true chosen) ∙ flag_is l i ifunc false plain in
    cc

-- one that others may define
pub open_none : (l : Layout) (r : InputRelocation) (i : ℕ) → r.symbol ≡ Some i → interposable (flags_at l i) ≡ true → NamesStrings l r → ⊥
open_none l r i named open_one n =
    let own = (own_at l r i named n).own in
    let fixed = flag_is l i non_interposable true own in
    let both : true ≡ false = sym open_one ∙ ap (λ (b : Bool). not b) fixed in
    cc

-- a loader takes none from another module
never_replaced : (k : OutputKind) (f : ValueFlags) → has_flag f non_interposable ≡ true → has_flag f dynamic ≡ false → may_be_replaced k f ≡ false
never_replaced k f own here = by_tests (has_flag f non_interposable) (has_flag f dynamic) (has_flag f copy_relocation) (is_library k) (has_flag f export_dynamic) own here
  where
    by_tests : (fixed d copied library exported : Bool) → fixed ≡ true → d ≡ false → ((d && not copied) || (library && (exported && not fixed))) ≡ false
    by_tests true false copied true true e h = refl
    by_tests true false copied true false e h = refl
    by_tests true false copied false exported e h = refl
    by_tests true true copied library exported e h = cc
    by_tests false d copied library exported e h = cc

pub replaceable_none : (l : Layout) (r : InputRelocation) (i : ℕ) → All (DefinitionNames l) l.symbols → r.symbol ≡ Some i → IsReplaceable l i true → names_merged l r.symbol ≡ false
replaceable_none l r i listed named whose = subst (λ (o : Option ℕ). names_merged l o ≡ false) (sym named) (by_strings (merged_strings l i) refl)
  where
    by_strings : (o : Option (List MergedString)) → merged_strings l i ≡ o → is_some o ≡ false
    by_strings None e = refl
    by_strings (Some ss) e =
        let plain = (has_strings l i ss listed e).plain in
        let never = never_replaced l.kind (flags_at l i) (flag_is l i non_interposable true plain.own) (flag_is l i dynamic false plain.here) in
        let both : true ≡ false = sym (replaceable_is l i true whose) ∙ never in
        cc

-- ---- the two cases

-- what S is of a reference: a merged string's, or that of any other symbol
pub data IsFor (l : Layout) (r : InputRelocation) (a : ℕ) : Type 0 where
  -- strings that were merged
  OfStrings : (i : ℕ) (strings : List MergedString) → r.symbol ≡ Some i → merged_strings l i ≡ Some strings → names_merged l r.symbol ≡ true → IsFor l r a
  -- a symbol by itself
  OfSymbol : names_merged l r.symbol ≡ false → address_of l r.symbol ≡ Ok a → IsFor l r a

pub address_is_for : (l : Layout) (r : InputRelocation) (a : ℕ) → address_for l r ≡ Ok a → IsFor l r a
address_is_for l r a h = by_symbol r.symbol refl
  where
    plain : names_merged l r.symbol ≡ false → IsFor l r a
    plain none = OfSymbol none (sym (plain_address l r none) ∙ h)

    by_strings : (i : ℕ) (o : Option (List MergedString)) → r.symbol ≡ Some i → merged_strings l i ≡ o → IsFor l r a
    by_strings i None e none = plain (ap (λ (o : Option ℕ). names_merged l o) e ∙ ap (λ (o : Option (List MergedString)). is_some o) none)
    by_strings i (Some ss) e some = OfStrings i ss e some (ap (λ (o : Option ℕ). names_merged l o) e ∙ ap (λ (o : Option (List MergedString)). is_some o) some)

    by_symbol : (o : Option ℕ) → r.symbol ≡ o → IsFor l r a
    by_symbol None e = plain (ap (λ (o : Option ℕ). names_merged l o) e)
    by_symbol (Some i) e = by_strings i (merged_strings l i) e refl
