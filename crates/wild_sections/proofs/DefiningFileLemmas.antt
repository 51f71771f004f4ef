-- Laws of the files of symbols, as a table of their places has them, and of layouts without merged sections.
use Rattle.std.proofs.Common.{◌≡◌, ℕ, suc, ◌+◌, ◌-◌, ◌<◌, ◌≤◌, inl, inr, Bool, true, false, List, [], ◌∷◌, ◌++◌, length, get_or, refl, sym, ap, ◌∙◌, arith, subst}
use Rattle.std.specs.Prelude.{All, Option, Some, None, option_and_then, option_map, if◌then◌else◌, not, ◌||◌, slice_get}
use Rattle.std.specs.Option.{option_or}
use Rattle.std.specs.List.{list_all}
use Rattle.std.proofs.lemmas.Bool.{cases_Bool, and_parts}
use Rattle.std.proofs.lemmas.List.{get_or_read}
use Rattle.std.proofs.lemmas.List.Elements.{All-nil, All-append}
use Rattle.std.proofs.lemmas.Option.{slice_get_past}
use Rattle.wild_words.proofs.ListLemmas.{All-from_list_all, holds_at}
use Rattle.wild_types.specs.declared.input.Slot.{Slot}
use Rattle.wild_types.specs.declared.input.Slot.TheVariants as slot
use Rattle.wild_types.specs.declared.input.InputSection.{InputSection}
use Rattle.wild_types.specs.declared.input.MergedString.{MergedString}
use Rattle.wild_types.specs.declared.symbol.Place.{Place}
use Rattle.wild_types.specs.declared.symbol.Place.TheVariants as at
use Rattle.wild_types.specs.declared.symbol.Symbol.{Symbol}
use Rattle.wild_types.specs.declared.file.File.{File}
use Rattle.wild_types.specs.declared.file.Group.{Group}
use Rattle.wild_types.specs.declared.layout.Layout.{Layout}
use Rattle.wild_types.specs.Kinds.{is_partial_link}
use Rattle.wild_types.specs.Lookups.{file_of, files_of}
use Rattle.wild_slot.specs.Treatment.{flags_at}
use Rattle.wild_placement.specs.FrameInputs.{has_symbol}
use Rattle.wild_layout.specs.Merged.{is_section_symbol, strings_by, strings_of, strings_at, strings_in, strings_of_symbol, is_plain_own, merged_strings, names_merged}
use Rattle.wild_layout.proofs.MergedLemmas.{HaveNoStrings, none_named, none_merged}
use Rattle.wild_sections.specs.declared.defining_file.DefiningFile.{DefiningFile}
use Rattle.wild_sections.specs.Strings.{offsets_ascend, section_ascends, all_ascend}
use Rattle.wild_plan_rules.specs.MergedSections.{is_other_slot, is_unmerged, are_unmerged}
use Rattle.wild_sections.specs.DefiningFiles.{defining_file_in, defining_file_among, file_at, layout_needs_owner_files, HasDefiningFiles}

-- ---- places of files

record IsThere (g i : ℕ) (fs : List File) (k : ℕ) (o : DefiningFile) : Type 0 where
  group : o.group ≡ g
  from : i ≤ o.file
  file : File
  there : slice_get fs (o.file - i) ≡ Some file
  is : file_of fs k ≡ Some file

in_files : (g i : ℕ) (fs : List File) (k : ℕ) (o : DefiningFile) → defining_file_in g i fs k ≡ Some o → IsThere g i fs k o
in_files g i [] k o h = cc
in_files g i (f ∷ fs) k o h = by_test (has_symbol f k) refl (λ e. in_files g (i + 1) fs k o e)
  where
    by_test : (b : Bool) → has_symbol f k ≡ b → (defining_file_in g (i + 1) fs k ≡ Some o → IsThere g (i + 1) fs k o) → IsThere g i (f ∷ fs) k o
    by_test true t again =
        let e : Some (record { group = g; file = i }) ≡ Some o = rw t at h in
        let same : o ≡ record { group = g; file = i } = cc in
        let file : o.file ≡ i = ap (λ (x : DefiningFile). x.file) same in
        let first : o.file - i ≡ 0 = omega (arith, file) in
        record { group = ap (λ (x : DefiningFile). x.group) same; from = omega (arith, file); file = f; there = ap (slice_get (f ∷ fs)) first; is = rw t refl }
    by_test false n again =
        let rest = again (rw n at h) in
        let low = rest.from in
        let next : o.file - i ≡ suc (o.file - (i + 1)) = omega (arith, low) in
        record { group = rest.group; from = omega (arith, low); file = rest.file; there = ap (slice_get (f ∷ fs)) next ∙ rest.there; is = rw n rest.is }

no_files : (g i : ℕ) (fs : List File) (k : ℕ) → defining_file_in g i fs k ≡ None → file_of fs k ≡ None
no_files g i [] k h = refl
no_files g i (f ∷ fs) k h =
    elim (cases_Bool (has_symbol f k)) [
      | inl t ↦ cc (rw t at h)
      | inr n ↦ rw n (no_files g (i + 1) fs k (rw n at h))
    ]

file_of-append : (fs gs : List File) (k : ℕ) → file_of (fs ++ gs) k ≡ option_or (file_of fs k) (file_of gs k)
file_of-append [] gs k = refl
file_of-append (f ∷ fs) gs k =
    elim (cases_Bool (has_symbol f k)) [
      | inl t ↦ rw t refl
      | inr n ↦ rw n (file_of-append fs gs k)
    ]

among : (all : List Group) (j : ℕ) (gs : List Group) (k : ℕ) (o : DefiningFile) → ((n : ℕ) → slice_get gs n ≡ slice_get all (j + n)) → defining_file_among j gs k ≡ Some o → option_and_then (λ (g : Group). slice_get g.files o.file) (slice_get all o.group) ≡ file_of (files_of gs) k
among all j [] k o same h = cc
among all j (g ∷ gs) k o same h = by_owner (defining_file_in j 0 g.files k) refl (λ e. among all (j + 1) gs k o (λ n. (let z : j + suc n ≡ j + 1 + n = omega arith in same (suc n) ∙ ap (slice_get all) z)) e) h
  where
    by_owner : (p : Option DefiningFile) → defining_file_in j 0 g.files k ≡ p → (defining_file_among (j + 1) gs k ≡ Some o → option_and_then (λ (g : Group). slice_get g.files o.file) (slice_get all o.group) ≡ file_of (files_of gs) k) → option_or p (defining_file_among (j + 1) gs k) ≡ Some o → option_and_then (λ (g : Group). slice_get g.files o.file) (slice_get all o.group) ≡ file_of (g.files ++ files_of gs) k
    by_owner (Some p) is again e =
        let eq : p ≡ o = cc in
        let t = in_files j 0 g.files k o (is ∙ ap (λ (x : DefiningFile). Some x) eq) in
        let here : slice_get all o.group ≡ Some g = ap (slice_get all) (t.group ∙ (let z : j ≡ j + 0 = omega arith in z)) ∙ sym (same 0) in
        let z : o.file - 0 ≡ o.file = omega arith in
        rw here (ap (slice_get g.files) (sym z) ∙ t.there ∙ sym (file_of-append g.files (files_of gs) k ∙ ap (λ (x : Option File). option_or x (file_of (files_of gs) k)) t.is))
    by_owner None is again e =
        let none = no_files j 0 g.files k is in
        again e
        ∙ sym (file_of-append g.files (files_of gs) k ∙ ap (λ (x : Option File). option_or x (file_of (files_of gs) k)) none)

none_among : (j : ℕ) (gs : List Group) (k : ℕ) → defining_file_among j gs k ≡ None → file_of (files_of gs) k ≡ None
none_among j [] k h = refl
none_among j (g ∷ gs) k h = by_owner (defining_file_in j 0 g.files k) refl (none_among (j + 1) gs k) h
  where
    by_owner : (p : Option DefiningFile) → defining_file_in j 0 g.files k ≡ p → (defining_file_among (j + 1) gs k ≡ None → file_of (files_of gs) k ≡ None) → option_or p (defining_file_among (j + 1) gs k) ≡ None → file_of (g.files ++ files_of gs) k ≡ None
    by_owner (Some p) is again e = cc
    by_owner None is again e = file_of-append g.files (files_of gs) k ∙ ap (λ (x : Option File). option_or x (file_of (files_of gs) k)) (no_files j 0 g.files k is) ∙ again e

entry_is : (l : Layout) (owners : List (Option DefiningFile)) (i : ℕ) (x : Option DefiningFile) → HasDefiningFiles l owners → i < length owners → x ≡ get_or owners i x → x ≡ defining_file_among 0 l.groups i
entry_is l owners i x has low read = get_or_read owners i x low read None ∙ has.all i low

-- the file of a symbol by the table
pub owner_there : (l : Layout) (owners : List (Option DefiningFile)) (i : ℕ) (o : DefiningFile) (f : Option File) → HasDefiningFiles l owners → i < length owners → get_or owners i None ≡ Some o → f ≡ file_at l o → f ≡ file_of (files_of l.groups) i
owner_there l owners i o f has low is found = found ∙ among l.groups 0 l.groups i o (λ n. (let z : n ≡ 0 + n = omega arith in ap (slice_get l.groups) z)) (sym (has.all i low) ∙ is)

pub owner_missing : (l : Layout) (owners : List (Option DefiningFile)) (i : ℕ) (x : Option DefiningFile) → HasDefiningFiles l owners → i < length owners → x ≡ get_or owners i x → x ≡ None → None ≡ file_of (files_of l.groups) i
owner_missing l owners i x has low read is = sym (none_among 0 l.groups i (sym (entry_is l owners i x has low read) ∙ is))

-- ---- layouts without merged sections

by_slot : (x : Slot) (s : InputSection) → is_other_slot x ≡ true → strings_by x s ≡ None
by_slot slot.Merge s h = cc
by_slot other s h = refl

no_strings : (fs : List File) → list_all (λ (f : File). list_all is_unmerged f.sections) fs ≡ true → HaveNoStrings fs
no_strings fs h = λ k d m. (let one = All-from_list_all (λ (f : File). list_all is_unmerged f.sections) fs h k d m in λ i s n. by_slot _ _ (All-from_list_all is_unmerged (get_or fs k d).sections one i s n))

all_unmerged : (gs : List Group) → list_all (λ (g : Group). list_all (λ (f : File). list_all is_unmerged f.sections) g.files) gs ≡ true → HaveNoStrings (files_of gs)
all_unmerged [] h = All-nil (λ (f : File). All (λ (s : InputSection). strings_of s ≡ None) f.sections)
all_unmerged (g ∷ gs) h =
    let both = and_parts _ _ h in
    All-append (λ (f : File). All (λ (s : InputSection). strings_of s ≡ None) f.sections) g.files (files_of gs) (no_strings g.files both.0) (all_unmerged gs both.1)

none_by : (b : Bool) (o : Option (List MergedString)) → o ≡ None → (if b then o else None) ≡ None
none_by true o h = h
none_by false o h = refl

no_symbols : (l : Layout) (o : Option ℕ) → length l.symbols ≡ 0 → names_merged l o ≡ false
unfolding merged_strings
no_symbols l None h = refl
no_symbols l (Some i) h =
    let past = slice_get_past l.symbols i (omega (arith, h)) in
    let none = ap (option_and_then (strings_of_symbol (files_of l.groups) i)) past in
    rw (none_by (is_plain_own (flags_at l i)) (option_and_then (strings_of_symbol (files_of l.groups) i) (slice_get l.symbols i)) none) refl

or_true : (a b : Bool) → b ≡ false → (a || not b) ≡ true
or_true true b h = refl
or_true false b h = rw h refl

-- where there are merged sections the files of symbols are looked for
asked : (l : Layout) → are_unmerged l ≡ false → layout_needs_owner_files l ≡ true
asked l h = or_true (is_partial_link l.kind) (are_unmerged l) h

or_left : (a b : Bool) → a ≡ true → (a || b) ≡ true
or_left a b h = rw h refl

-- and in a relocatable object
pub owners_asked : (l : Layout) (owners : List (Option DefiningFile)) (i : ℕ) → HasDefiningFiles l owners → is_partial_link l.kind ≡ true → i < length l.symbols → i < length owners
owners_asked l owners i has partial low = let e = has.count (or_left (is_partial_link l.kind) _ partial) in omega (arith, e, low)

pub nothing_merged : (l : Layout) (owners : List (Option DefiningFile)) (o : Option ℕ) → HasDefiningFiles l owners → length owners ≡ 0 → names_merged l o ≡ false
nothing_merged l owners o has empty =
    elim (cases_Bool (are_unmerged l)) [
      | inl t ↦ none_named l o (all_unmerged l.groups t)
      | inr n ↦ (let e = has.count (asked l n) in no_symbols l o (omega (arith, e, empty)))
    ]

-- ---- strings in order

found_passes : (t : File → Bool) (fs : List File) (i : ℕ) (f : File) → list_all t fs ≡ true → file_of fs i ≡ Some f → t f ≡ true
found_passes t [] i f h e = cc
found_passes t (g ∷ fs) i f h e =
    let both = and_parts (t g) (list_all t fs) h in
    elim (cases_Bool (has_symbol g i)) [
      | inl y ↦ (let k : Some g ≡ Some f = rw y at e in let same : g ≡ f = cc in subst (λ (x : File). t x ≡ true) same both.0)
      | inr n ↦ found_passes t fs i f both.1 (rw n at e)
    ]

all_files : (t : File → Bool) (gs : List Group) → list_all (λ (g : Group). list_all t g.files) gs ≡ true → list_all t (files_of gs) ≡ true
all_files t [] h = refl
all_files t (g ∷ gs) h =
    let both = and_parts _ _ h in
    list_all-append t g.files (files_of gs) both.0 (all_files t gs both.1)
  where
    list_all-append : (t : File → Bool) (fs hs : List File) → list_all t fs ≡ true → list_all t hs ≡ true → list_all t (fs ++ hs) ≡ true
    list_all-append t [] hs a b = b
    list_all-append t (f ∷ fs) hs a b = (let p = and_parts (t f) (list_all t fs) a in rw (p.0, list_all-append t fs hs p.1 b) refl)

by_strings : (x : Slot) (s : InputSection) (ss : List MergedString) → strings_by x s ≡ Some ss → s.strings ≡ ss
by_strings slot.Merge s ss h = cc
by_strings other s ss h = cc

in_section : (o : Option InputSection) (fs : List InputSection) (k : ℕ) (ss : List MergedString) → slice_get fs k ≡ o → list_all section_ascends fs ≡ true → option_and_then strings_of o ≡ Some ss → offsets_ascend 0 ss ≡ true
in_section None fs k ss is h e = cc
in_section (Some s) fs k ss is h e = subst (λ (x : List MergedString). offsets_ascend 0 x ≡ true) (by_strings s.slot s ss e) (holds_at (λ (x : InputSection). section_ascends x ≡ true) fs k s is (All-from_list_all section_ascends fs h))

in_place : (p : Place) (f : File) (ss : List MergedString) → list_all section_ascends f.sections ≡ true → strings_at p f ≡ Some ss → offsets_ascend 0 ss ≡ true
in_place (at.Section k) f ss h e = in_section (slice_get f.sections k) f.sections k ss refl h e
in_place other f ss h e = cc

if_some : (b : Bool) (o : Option (List MergedString)) (ss : List MergedString) → (if b then o else None) ≡ Some ss → o ≡ Some ss
if_some true o ss h = h
if_some false o ss h = cc

in_file : (fs : List File) (i : ℕ) (s : Symbol) (o : Option File) (ss : List MergedString) → list_all (λ (f : File). list_all section_ascends f.sections) fs ≡ true → file_of fs i ≡ o → option_and_then (λ (f : File). strings_in f s) o ≡ Some ss → offsets_ascend 0 ss ≡ true
in_file fs i s None ss h is e = cc
in_file fs i s (Some f) ss h is e = in_place s.place f ss (found_passes (λ (f : File). list_all section_ascends f.sections) fs i f h is) (if_some (is_section_symbol s) (strings_at s.place f) ss e)

of_symbol : (fs : List File) (i : ℕ) (o : Option Symbol) (ss : List MergedString) → list_all (λ (f : File). list_all section_ascends f.sections) fs ≡ true → option_and_then (strings_of_symbol fs i) o ≡ Some ss → offsets_ascend 0 ss ≡ true
of_symbol fs i None ss h e = cc
of_symbol fs i (Some s) ss h e = in_file fs i s (file_of fs i) ss h refl e

-- those of a symbol are in order, where all are
pub merged_ascend : (l : Layout) (i : ℕ) (ss : List MergedString) → merged_strings l i ≡ Some ss → all_ascend l ≡ true → offsets_ascend 0 ss ≡ true
unfolding merged_strings
merged_ascend l i ss h all = of_symbol (files_of l.groups) i (slice_get l.symbols i) ss (all_files (λ (f : File). list_all section_ascends f.sections) l.groups all) (if_some (is_plain_own (flags_at l i)) (option_and_then (strings_of_symbol (files_of l.groups) i) (slice_get l.symbols i)) ss h)

pub its_strings_ascend : (l : Layout) (i : ℕ) (s : InputSection) (o : Option InputSection) (ascend : Bool) → option_map (λ (x : InputSection). x.strings) o ≡ merged_strings l i → o ≡ Some s → (ascend ≡ true → all_ascend l ≡ true) → ascend ≡ true → offsets_ascend 0 s.strings ≡ true
its_strings_ascend l i s o ascend is some told h = merged_ascend l i s.strings (sym is ∙ ap (option_map (λ (x : InputSection). x.strings)) some) (told h)

-- ---- the strings of a symbol

told_by : (l : Layout) (i : ℕ) (s : Symbol) (o : Option File) → is_plain_own (flags_at l i) ≡ true → slice_get l.symbols i ≡ Some s → file_of (files_of l.groups) i ≡ o → option_and_then (λ (f : File). strings_in f s) o ≡ merged_strings l i
unfolding merged_strings
told_by l i s o plain listed is = rw (plain, listed, is) refl

pub merged_is : (l : Layout) (i : ℕ) (s : Symbol) (f : File) (o : Option File) (x : Option (List MergedString)) → is_plain_own (flags_at l i) ≡ true → slice_get l.symbols i ≡ Some s → o ≡ file_of (files_of l.groups) i → o ≡ Some f → x ≡ strings_in f s → x ≡ merged_strings l i
merged_is l i s f o x plain listed is some h = h ∙ told_by l i s (Some f) plain listed (sym is ∙ some)

pub merged_fileless : (l : Layout) (i : ℕ) (s : Symbol) (o : Option File) → is_plain_own (flags_at l i) ≡ true → slice_get l.symbols i ≡ Some s → o ≡ file_of (files_of l.groups) i → o ≡ None → None ≡ merged_strings l i
merged_fileless l i s o plain listed is none = told_by l i s None plain listed (sym is ∙ none)

pub merged_plain : (l : Layout) (i : ℕ) → is_plain_own (flags_at l i) ≡ false → None ≡ merged_strings l i
unfolding merged_strings
merged_plain l i h = rw h refl

none_found : {X Y : Type 0} (f : X → Option Y) (o : Option X) → ((x : X) → f x ≡ None) → option_and_then f o ≡ None
none_found f None h = refl
none_found f (Some x) h = h x

no_strings_in : (s : Symbol) (f : File) → is_section_symbol s ≡ false → strings_in f s ≡ None
no_strings_in s f h = rw h refl

-- a symbol that is no section symbol has no strings
pub merged_other : (l : Layout) (i : ℕ) (s : Symbol) → slice_get l.symbols i ≡ Some s → is_section_symbol s ≡ false → None ≡ merged_strings l i
unfolding merged_strings
merged_other l i s listed other =
    sym (none_by (is_plain_own (flags_at l i)) (option_and_then (strings_of_symbol (files_of l.groups) i) (slice_get l.symbols i))
    (ap (option_and_then (strings_of_symbol (files_of l.groups) i)) listed ∙ none_found (λ (f : File). strings_in f s) (file_of (files_of l.groups) i) (λ f. no_strings_in s f other)))

pub merged_missing : (l : Layout) (i : ℕ) → slice_get l.symbols i ≡ None → None ≡ merged_strings l i
unfolding merged_strings
merged_missing l i h = sym (none_by (is_plain_own (flags_at l i)) (option_and_then (strings_of_symbol (files_of l.groups) i) (slice_get l.symbols i)) (ap (option_and_then (strings_of_symbol (files_of l.groups) i)) h))

pub merged_past : (l : Layout) (owners : List (Option DefiningFile)) (i : ℕ) → HasDefiningFiles l owners → length owners ≤ i → None ≡ merged_strings l i
merged_past l owners i has past =
    elim (cases_Bool (are_unmerged l)) [
      | inl t ↦ sym (none_merged l i (all_unmerged l.groups t))
      | inr n ↦ (let e = has.count (asked l n) in merged_missing l i (slice_get_past l.symbols i (omega (arith, e, past))))
    ]
