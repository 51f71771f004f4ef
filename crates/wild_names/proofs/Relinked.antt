-- A link that takes a relocatable object on gives each entry's symbol the value that the input's relocation asks for.
use Rattle.wild_names.proofs.Common.{◌≡◌, ℕ, zero, suc, ◌+◌, ◌-◌, ◌%◌, ◌^◌, ◌<◌, ◌≤◌, ◌⊎◌, inl, inr, ◌==◌, Bool, true, false, List, [], ◌∷◌, ◌++◌, length, map, refl, sym, ap, ◌∙◌, arith, subst, ◌≢◌, Contains, Option, Some, None, Ok, option_map, option_and_then, if◌then◌else◌, slice_get, append-nil, length-append, length-map, filter-append, slice_get-map, File, Group, InputSection, Symbol, Layout, is_library, is_partial_link, section_of, files_of, base_of, output_section, SymtabName, TableSymbol, file_items, section_symbols, TableFields, NamedEntry, table_attributes, fields_of, table_fields, named_entry, section_entry, table_by, is_own_entry, errors, IsLaidOut, side_table}
use Rattle.std.specs.Prelude.{unwrap_or}
use Rattle.std.specs.List.{flat_map}
use Rattle.std.specs.Option.{option_or}
use Rattle.std.specs.Int.{w64}
use Rattle.std.proofs.lemmas.Int.{of_z-to_z}
use Rattle.wild_words.proofs.Basics.{Contains-from_flat_map}
use Rattle.wild_records.specs.Abi.Section.{shn_abs}
use Rattle.wild_types.specs.Lookups.{canonical, file_of}
use Rattle.wild_needs.specs.declared.table.SymtabName.TheVariants as named
use Rattle.wild_needs.specs.TableSymbols.{is_on_side, side, is_local_symbol, marked_sections, singleton_sections, full_name, item_name}
use Rattle.wild_table_formats.specs.DynamicFields.{undefined_with}
use Rattle.wild_table_formats.specs.TableEntries.{short, undefined_attributes}
use Rattle.wild_table_formats.specs.SectionSymbols.{symbol_section, is_section_type, all_items, front_count, entry_by, entry_index, number_from, section_index, number_of_section, symbol_index, named_index}
use Rattle.wild_layout.specs.SymbolValues.{sum}
use Rattle.wild_layout.specs.Partial.{shift, shift_by}
use Rattle.wild_names.specs.FieldLaws.{TableSymbolsHaveFields, entry_with}
use Rattle.wild_names.specs.Links.{Link, object_symbols, entry_value, IsNumberOf, NoNumber, OfEntry, IsInObjectSection, HasValue, InSection, Absolute, Outside, IsPlain, HasTargetValue, NoSymbol, OfSection, OfSymbol, RelinkingIsFaithful}
use Rattle.wild_names.proofs.PlaceLemmas.{in_front, found_in_second_list, number_in, own_at}
use Rattle.wild_names.proofs.ObjectSymbols.{front, front_local, front_global, length-front, own_side, side_ordered, mapped, entry_at}
use Rattle.wild_names.proofs.OwnSymbols.{own_known}
use Rattle.wild_names.proofs.EntryValues.{in_section, section_low, symbol_in_section, own_place}

-- ---- numbers

-- a number that is told
some_number : (o : Option ℕ) → (unwrap_or o 0 ≡ 0 → ⊥) → o ≡ Some (unwrap_or o 0)
some_number None h = absurd (h refl)
some_number (Some n) h = refl

positive : (n : ℕ) → (n ≡ 0 → ⊥) → 1 ≤ n
positive zero h = absurd (h refl)
positive (suc n) h = omega arith

-- entry n of the object
record IsEntry (l : Layout) (n : ℕ) (e : NamedEntry) : Type 0 where
  some : 1 ≤ n
  there : slice_get (object_symbols l) n ≡ Some e

-- ---- sections

-- the number of an input section's section is that of its symbol
section_listed : (l : Layout) (t : InputSection) (n : ℕ) → is_partial_link l.kind ≡ true → IsInObjectSection l t n → (section_index l t ≡ 0 → ⊥) → (1 ≤ section_index l t) × (slice_get (section_symbols l) (section_index l t - 1) ≡ Some n)
unfolding section_symbols
section_listed l t n partial stands told = by t.singleton refl
  where
    asked : List ℕ
    asked = marked_sections 0 l.sections

    Listed : ℕ → Type 0
    Listed i = (1 ≤ i) × (slice_get (if is_partial_link l.kind then asked ++ singleton_sections l else []) (i - 1) ≡ Some n)

    joined : (i : ℕ) → 1 ≤ i → slice_get (asked ++ singleton_sections l) (i - 1) ≡ Some n → Listed i
    joined i some there = (some, rw partial there)

    by : (o : Option ℕ) → t.singleton ≡ o → Listed (section_index l t)
    by (Some h) e =
        let is : section_index l t ≡ unwrap_or (number_from h (1 + length asked) (singleton_sections l)) 0 = rw e refl in
        let own = stands.alone h e in
        let i = unwrap_or (number_from h (1 + length asked) (singleton_sections l)) 0 in
        let found = number_in h (1 + length asked) i (singleton_sections l) (some_number (number_from h (1 + length asked) (singleton_sections l)) (λ z. told (is ∙ z))) in
        let from = found.from in
        let there = found_in_second_list asked (singleton_sections l) (i - (1 + length asked)) (i - 1) h (omega (arith, from)) found.there in
        subst Listed (sym is) (joined i (omega (arith, from)) (there ∙ ap (λ (k : ℕ). Some k) own))
    by None e =
        let m = section_of l t.part in
        let is : section_index l t ≡ unwrap_or (number_from m 1 asked) 0 = rw e refl in
        let i = unwrap_or (number_from m 1 asked) 0 in
        let found = number_in m 1 i asked (some_number (number_from m 1 asked) (λ z. told (is ∙ z))) in
        let from = found.from in
        let there = in_front asked (singleton_sections l) (i - 1) m found.there in
        subst Listed (sym is) (joined i from (there ∙ ap (λ (k : ℕ). Some k) stands.is))

-- so its entry is that of the section
section_there : (l : Layout) (i n : ℕ) → is_partial_link l.kind ≡ true → IsLaidOut l → 1 ≤ i → slice_get (section_symbols l) (i - 1) ≡ Some n → slice_get (object_symbols l) i ≡ Some (section_entry n)
section_there l zero n partial laid some there = absurd (omega (arith, some))
section_there l (suc i) n partial laid some there =
    let rest = flat_map (own_side l true) (files_of l.groups) in
    let same : i ≡ suc i - 1 = omega arith in
    let listed : slice_get (section_symbols l) i ≡ Some n = subst (λ (k : ℕ). slice_get (section_symbols l) k ≡ Some n) (sym same) there in
    let entry : slice_get (map section_entry (section_symbols l)) i ≡ Some (section_entry n) = slice_get-map section_entry (section_symbols l) i ∙ ap (option_map section_entry) listed in
    let first : slice_get (front l) (suc i) ≡ Some (section_entry n) = entry in
    let local : side_table l true ≡ front l ++ rest = side_ordered l true partial laid ∙ ap (λ (es : List NamedEntry). es ++ rest) (front_local l) in
    let in_side : slice_get (side_table l true) (suc i) ≡ Some (section_entry n) = subst (λ (es : List NamedEntry). slice_get es (suc i) ≡ Some (section_entry n)) (sym local) (in_front (front l) rest (suc i) (section_entry n) first) in
    in_front (side_table l true) (side_table l false) (suc i) (section_entry n) in_side

-- ---- symbols

side_long : (l : Layout) (local : Bool) (fs : List File) → length (flat_map (own_side l local) fs) ≡ length (side local (flat_map (file_items l) fs))
side_long l local [] = refl
side_long l local (f ∷ fs) =
    let rest = flat_map (file_items l) fs in
    let a = length-append (own_side l local f) (flat_map (own_side l local) fs) in
    let b = ap (λ (xs : List NamedEntry). length xs) (mapped l f local (file_items l f)) in
    let c = length-map (side local (file_items l f)) (named_entry l f) in
    let d = ap (λ (xs : List TableSymbol). length xs) (filter-append (is_on_side local) (file_items l f) rest) in
    let e = length-append (side local (file_items l f)) (side local rest) in
    let again = side_long l local fs in
    omega (arith, a, b, c, d, e, again)

-- the own entry of a symbol, with the file that has it
record IsOwnEntry (l : Layout) (i n : ℕ) : Type 0 where
  file : File
  filed : Contains (files_of l.groups) file
  item : TableSymbol
  listed : Contains (file_items l file) item
  own : is_own_entry i item ≡ true
  entry : IsEntry l n (named_entry l file item)

own_entry : (l : Layout) (i n : ℕ) (local : Bool) → is_partial_link l.kind ≡ true → IsLaidOut l → entry_by l i local ≡ Some n → IsOwnEntry l i n
own_entry l i n true partial laid h =
    let found = own_at i (front_count l) n (side true (all_items l)) h in
    let from = found.from in
    let r = entry_at l true (n - front_count l) found.item (files_of l.groups) found.there in
    let e = named_entry l r.file found.item in
    let rest = flat_map (own_side l true) (files_of l.groups) in
    let long = length-front l in
    let local : side_table l true ≡ front l ++ rest = side_ordered l true partial laid ∙ ap (λ (es : List NamedEntry). es ++ rest) (front_local l) in
    let there = found_in_second_list (front l) rest (n - front_count l) n e (omega (arith, from, long)) r.there in
    let in_side = subst (λ (es : List NamedEntry). slice_get es n ≡ Some e) (sym local) there in
    record { file = r.file; filed = r.filed; item = found.item; listed = r.listed; own = found.own; entry = record { some = omega (arith, from); there = in_front (side_table l true) (side_table l false) n e in_side } }
own_entry l i n false partial laid h =
    let start = front_count l + length (side true (all_items l)) in
    let found = own_at i start n (side false (all_items l)) h in
    let from = found.from in
    let r = entry_at l false (n - start) found.item (files_of l.groups) found.there in
    let e = named_entry l r.file found.item in
    let rest = flat_map (own_side l true) (files_of l.groups) in
    let others = flat_map (own_side l false) (files_of l.groups) in
    let long = length-front l in
    let few = side_long l true (files_of l.groups) in
    let both = length-append (front l) rest in
    let local : side_table l true ≡ front l ++ rest = side_ordered l true partial laid ∙ ap (λ (es : List NamedEntry). es ++ rest) (front_local l) in
    let locals = ap (λ (es : List NamedEntry). length es) local in
    let global : side_table l false ≡ others = side_ordered l false partial laid ∙ ap (λ (es : List NamedEntry). es ++ others) (front_global l) in
    let in_side = subst (λ (es : List NamedEntry). slice_get es (n - start) ≡ Some e) (sym global) r.there in
    let there = found_in_second_list (side_table l true) (side_table l false) (n - start) n e (omega (arith, from, long, few, both, locals)) in_side in
    record { file = r.file; filed = r.filed; item = found.item; listed = r.listed; own = found.own; entry = record { some = omega (arith, from); there = there } }

-- ---- values

-- a number's value, and what it has to be
record IsLinkedNumber (k : Link) (l : Layout) (n v : ℕ) : Type 0 where
  told : ℕ
  number : IsNumberOf k l n told
  same : told % 2 ^ 64 ≡ v % 2 ^ 64

entry_told : (k : Link) (l : Layout) (n v : ℕ) (e : NamedEntry) → IsEntry l n e → entry_value k e % 2 ^ 64 ≡ v % 2 ^ 64 → IsLinkedNumber k l n v
entry_told k l n v e h same = record { told = entry_value k e; number = OfEntry e h.some h.there refl; same = same }

fields_told : (l : Layout) (f : File) (x : TableSymbol) (i : ℕ) (s : Symbol) (fields : TableFields) → x.named ≡ named.Itself → x.index ≡ i → x.symbol ≡ s → table_fields l f x ≡ Ok fields → table_by l i f.role s (output_section l (Some f) s.place) ≡ Ok fields
unfolding table_fields
fields_told l f x i s fields itself index symbol told =
    subst (λ (t : Symbol). fields_of l f named.Itself i t ≡ Ok fields) symbol
    (subst (λ (j : ℕ). fields_of l f named.Itself j x.symbol ≡ Ok fields) index
    (subst (λ (m : SymtabName). fields_of l f m x.index x.symbol ≡ Ok fields) itself told))

-- the entry of symbol i, by what its fields are
value_told : (k : Link) (l : Layout) (f : File) (i v : ℕ) (s : Symbol) (x : TableSymbol) (fields : TableFields) → is_partial_link l.kind ≡ true → IsLaidOut l → is_library f.role ≡ false → slice_get l.symbols i ≡ Some s → file_of (files_of l.groups) i ≡ Some f → x.named ≡ named.Itself → x.symbol ≡ s
    → table_by l i f.role s (output_section l (Some f) s.place) ≡ Ok fields → HasValue k l i s v → entry_value k (entry_with x fields) % 2 ^ 64 ≡ v % 2 ^ 64
value_told k l f i v s x fields partial laid plain listed filed itself symbol told (InSection j n t placed there stands own start is) =
    let tells = symbol_in_section l f i j n s t fields partial plain listed filed placed there stands own start told in
    let low : n < 2 ^ 32 = subst (λ (m : ℕ). m < 2 ^ 32) stands.is (section_low l t.part laid) in
    let value = in_section k n (entry_with x fields) stands.some low tells.section tells.long in
    let same = tells.value in
    omega (arith, value, same, is)
value_told k l f i v s x fields partial laid plain listed filed itself symbol told (Absolute placed is) =
    let here : Ok (short (record { section = shn_abs; value = s.value; attributes = table_attributes f.role s })) ≡ Ok fields = rw placed at (sym (own_place l i f.role s (output_section l (Some f) s.place) plain) ∙ told) in
    let made : short (record { section = shn_abs; value = s.value; attributes = table_attributes f.role s }) ≡ fields = cc in
    ap (λ (g : TableFields). entry_value k (entry_with x g) % 2 ^ 64) (sym made) ∙ ap (λ (n : ℕ). n % 2 ^ 64) (sym is)
value_told k l f i v s x fields partial laid plain listed filed itself symbol told (Outside placed is) =
    let here : Ok (short (undefined_with (undefined_attributes l f.role s))) ≡ Ok fields = rw placed at (sym (own_place l i f.role s (output_section l (Some f) s.place) plain) ∙ told) in
    let made : short (undefined_with (undefined_attributes l f.role s)) ≡ fields = cc in
    let name : item_name x ≡ s.name = ap (λ (m : SymtabName). full_name m x.symbol.name) itself ∙ append-nil x.symbol.name ∙ ap (λ (y : Symbol). y.name) symbol in
    ap (λ (g : TableFields). entry_value k (entry_with x g) % 2 ^ 64) (sym made) ∙ ap (λ (bs : List ℕ). k.outside bs % 2 ^ 64) name ∙ ap (λ (n : ℕ). n % 2 ^ 64) (sym is)

-- the own entry of a symbol of the input has its value
symbol_told : (k : Link) (l : Layout) (i n v : ℕ) (s : Symbol) → TableSymbolsHaveFields → errors l ≡ [] → is_partial_link l.kind ≡ true → IsLaidOut l → slice_get l.symbols i ≡ Some s → ((f : File) → file_of (files_of l.groups) i ≡ Some f → is_library f.role ≡ false) → HasValue k l i s v → IsOwnEntry l i n → IsLinkedNumber k l n v
symbol_told k l i n v s law none partial laid listed plain has e =
    let known = own_known l e.file e.item e.listed i e.own in
    let group = Contains-from_flat_map (λ (g : Group). g.files) l.groups e.file e.filed in
    let fields = law l none group.0 e.file e.item group.1 group.2 e.listed in
    let filed = laid.ranges e.file i e.filed known.filed in
    let is : Some e.item.symbol ≡ Some s = sym known.there ∙ listed in
    let symbol : e.item.symbol ≡ s = cc in
    let told = fields_told l e.file e.item i s fields.fields known.itself known.index symbol fields.told in
    let value = value_told k l e.file i v s e.item fields.fields partial laid (plain e.file filed) listed filed known.itself symbol told has in
    entry_told k l n v (named_entry l e.file e.item) e.entry (ap (λ (m : NamedEntry). entry_value k m % 2 ^ 64) fields.entry ∙ value)

-- ---- what relocations tell

-- where nothing is found, the other stands
or_none : (o : Option ℕ) → option_or o None ≡ o
or_none None = refl
or_none (Some n) = refl

-- a symbol that stands for no section has the number of its own entry, and nothing is added for it
plain_index : (l : Layout) (i : ℕ) → IsPlain l i → symbol_index l i ≡ entry_index l i
plain_index l i plain = ap (option_or (entry_index l i)) (by (slice_get l.symbols i) refl) ∙ or_none (entry_index l i)
  where
    by : (o : Option Symbol) → slice_get l.symbols i ≡ o → option_and_then (number_of_section l i) o ≡ None
    by None e = refl
    by (Some s) e = (let p = plain s e in rw p refl)

plain_shift : (l : Layout) (i : ℕ) → IsPlain l i → shift l (Some i) ≡ 0
plain_shift l i plain = by (slice_get l.symbols i) refl
  where
    by : (o : Option Symbol) → slice_get l.symbols i ≡ o → unwrap_or (option_map (shift_by l i) o) 0 ≡ 0
    by None e = refl
    by (Some s) e = (let p = plain s e in rw p refl)

-- a symbol's definition is told by its own entry
named_told : (l : Layout) (i : ℕ) → IsPlain l i → IsPlain l (canonical l i) → (i ≡ canonical l i) ⊎ (entry_index l i ≡ None) → (named_index l (Some i) ≡ 0 → ⊥) → entry_index l (canonical l i) ≡ Some (named_index l (Some i))
named_told l i plain defined own told = by own
  where
    o : Option ℕ
    o = option_or (symbol_index l i) (symbol_index l (canonical l i))

    found : o ≡ Some (named_index l (Some i))
    found = some_number o told

    twice : (x : Option ℕ) → option_or x x ≡ x
    twice None = refl
    twice (Some n) = refl

    by : (i ≡ canonical l i) ⊎ (entry_index l i ≡ None) → entry_index l (canonical l i) ≡ Some (named_index l (Some i))
    by (inl e) =
        let same : symbol_index l i ≡ symbol_index l (canonical l i) = ap (symbol_index l) e in
        let both : o ≡ symbol_index l (canonical l i) = ap (λ (x : Option ℕ). option_or x (symbol_index l (canonical l i))) same ∙ twice (symbol_index l (canonical l i)) in
        sym (plain_index l (canonical l i) defined) ∙ sym both ∙ found
    by (inr e) =
        let none : symbol_index l i ≡ None = plain_index l i plain ∙ e in
        let both : o ≡ symbol_index l (canonical l i) = ap (λ (x : Option ℕ). option_or x (symbol_index l (canonical l i))) none in
        sym (plain_index l (canonical l i) defined) ∙ sym both ∙ found

-- the value that is told, and what the addend counts more
record IsShifted (k : Link) (l : Layout) (symbol : Option ℕ) (v : ℕ) : Type 0 where
  told : ℕ
  number : IsNumberOf k l (named_index l symbol) told
  same : (told + shift l symbol) % 2 ^ 64 ≡ v % 2 ^ 64

-- the laws of the crates below
pub record Below (l : Layout) : Type 0 where
  pub fields : TableSymbolsHaveFields
  pub none : errors l ≡ []
  pub partial : is_partial_link l.kind ≡ true
  pub laid : IsLaidOut l

section_index_is : (l : Layout) (i n : ℕ) (s : Symbol) (t : InputSection) → slice_get l.symbols i ≡ Some s → is_section_type s ≡ true → entry_index l i ≡ None → symbol_section l i ≡ Some t → IsInObjectSection l t n → named_index l (Some i) ≡ section_index l t
section_index_is l i n s t listed kind none there stands =
    let kept = stands.kept in
    let number : symbol_index l i ≡ Some (section_index l t) = ap (λ (o : Option ℕ). option_or o (option_and_then (number_of_section l i) (slice_get l.symbols i))) none ∙ ap (option_and_then (number_of_section l i)) listed ∙ rw (kind, there, kept) refl in
    ap (λ (o : Option ℕ). unwrap_or (option_or o (symbol_index l (canonical l i))) 0) number

shifted : (k : Link) (l : Layout) (symbol : Option ℕ) (v : ℕ) → Below l → (symbol ≢ None → named_index l symbol ≢ 0) → HasTargetValue k l symbol v → IsShifted k l symbol v
shifted k l symbol v h told NoSymbol = record { told = 0; number = NoNumber refl refl; same = refl }
shifted k l symbol v h told (OfSection i n s t listed kind none there stands) =
    let index = section_index_is l i n s t listed kind none there stands in
    let listed_at = section_listed l t n h.partial stands (λ z. told (λ e. cc) (index ∙ z)) in
    let entry = section_there l (section_index l t) n h.partial h.laid listed_at.0 listed_at.1 in
    let low : n < 2 ^ 32 = subst (λ (m : ℕ). m < 2 ^ 32) stands.is (section_low l t.part h.laid) in
    let value = in_section k n (section_entry n) stands.some low refl refl in
    let more : shift l (Some i) ≡ base_of t = rw (listed, kind, there) refl in
    record {
      told = entry_value k (section_entry n);
      number = subst (λ (j : ℕ). IsNumberOf k l j (entry_value k (section_entry n))) (sym index) (OfEntry (section_entry n) listed_at.0 entry refl);
      same = omega (arith, value, more);
    }
shifted k l symbol v h told (OfSymbol i a s listed plain defined own library has) =
    let index = named_told l i plain defined own (told (λ e. cc)) in
    let by : entry_by l (canonical l i) (is_local_symbol s) ≡ Some (named_index l (Some i)) = sym (ap (option_and_then (λ (x : Symbol). entry_by l (canonical l i) (is_local_symbol x))) listed) ∙ index in
    let e = own_entry l (canonical l i) (named_index l (Some i)) (is_local_symbol s) h.partial h.laid by in
    let t = symbol_told k l (canonical l i) (named_index l (Some i)) a s h.fields h.none h.partial h.laid listed library has e in
    let none = plain_shift l i plain in
    let same = t.same in
    record { told = t.told; number = t.number; same = omega (arith, same, none) }

-- ---- relocations

pub relinked : TableSymbolsHaveFields → ((l : Layout) → errors l ≡ [] → IsLaidOut l) → RelinkingIsFaithful
relinked law laid = λ l f t partial none filed n stands r listed told room k v asked.
    let x = shifted k l r.symbol v (record { fields = law; none = none; partial = partial; laid = laid l none }) told asked in
    let same = x.same in
    let whole : named_index l r.symbol % 2 ^ 32 ≡ named_index l r.symbol = omega (arith, room) in
    let addend = of_z-to_z w64 (sum (shift l r.symbol) r.addend) (omega arith) in
    record {
      told = x.told;
      number = subst (λ (j : ℕ). IsNumberOf k l j x.told) (sym whole) x.number;
      same = omega (arith, same, addend);
      place = omega arith;
    }
