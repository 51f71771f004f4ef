-- The listed symbols have the indexes from the first one on, and their names stand where their entries tell.
use Rattle.wild_names.proofs.Common.{◌≡◌, ℕ, zero, suc, ◌+◌, ◌-◌, ◌*◌, ◌^◌, ◌<◌, ◌≤◌, inl, inr, Bool, List, [], ◌∷◌, ◌++◌, length, map, filter, All, Some, slice_get, flat_map, refl, sym, ap, ◌∙◌, arith, subst, add-zero, slice_index_or, cases_Bool, length-append, length-map, All-head, All-tail, HasBytesAt, word, spell, symtab_entry_fields, SymtabEntry, File, DynamicSymbol, Layout, Part, range_of, undefined_symbols, is_undefined_entry, first_listed, files_of, NamedFields, listed, undefined, entry_at, bytes, bytes_of, AreNumbered, HasEntry, table_symbols}
use Rattle.wild_words.proofs.RecordLemmas.{length-spell, number-stands, HasBytesAt-field_at}
use Rattle.wild_records.specs.SymtabEntry.{symtab_entry_at, symtab_entry_size}
use Rattle.wild_needs.specs.DynamicSymbols.{places_where, undefined_in, undefined_entries, dynamic_symbols, listed as indexes_of}
use Rattle.wild_hashes.specs.declared.image.Part.{Part as Found}
use Rattle.wild_hashes.specs.Laws.{names_of}
use Rattle.wild_hashes.specs.Reading.{HasNoZero, IsNamed}
use Rattle.wild_names.specs.Laws.{SymbolsAreThere}
use Rattle.wild_names.proofs.PartBytes.{stands_cut}

-- ---- how many symbols stand in front

length-places : {X : Type 0} (test : X → Bool) (i : ℕ) (xs : List X) → length (places_where test i xs) ≡ length (filter test xs)
length-places test i [] = refl
length-places test i (x ∷ xs) =
    elim (cases_Bool (test x)) [
      | inl t ↦ rw t (ap suc (length-places test (i + 1) xs))
      | inr f ↦ rw f (length-places test (i + 1) xs)
    ]

-- the symbols that other modules define
abbrev pub defined_elsewhere : Layout → List File → List NamedFields
defined_elsewhere l fs = flat_map (λ (f : File). map (undefined f.role) (undefined_symbols l.symbols f)) fs

pub length-elsewhere : (l : Layout) (fs : List File) → length (defined_elsewhere l fs) ≡ length (undefined_entries l.symbols fs)
length-elsewhere l [] = refl
length-elsewhere l (f ∷ fs) =
    let own = map (undefined f.role) (undefined_symbols l.symbols f) in
    let a = length-append own (defined_elsewhere l fs) in
    let b = length-append (undefined_in l.symbols f) (undefined_entries l.symbols fs) in
    let c = length-map (undefined_symbols l.symbols f) (undefined f.role) in
    let d = length-places (is_undefined_entry f.role) f.first_symbol (range_of l.symbols f) in
    let e = length-elsewhere l fs in
    omega (arith, a, b, c, d, e)

few_symbols : (l : Layout) → length (dynamic_symbols l) < 2 ^ 32 - 1 → first_listed l + length l.dynsyms < 2 ^ 32
few_symbols l few =
    let a = length-append (undefined_entries l.symbols (files_of l.groups)) (indexes_of l.dynsyms) in
    let b = length-map l.dynsyms (λ (d : DynamicSymbol). d.symbol) in
    omega (arith, few, a, b)

-- ---- one symbol of the list

-- number k of listed symbols
record IsListed (l : Layout) (ds : List DynamicSymbol) (k : ℕ) : Type 0 where
  symbol : DynamicSymbol
  is : slice_get (map (listed l) ds) k ≡ Some (listed l symbol)
  name : slice_index_or (names_of ds) k [] ≡ symbol.name
  fits : HasNoZero symbol.name

listed_at : (l : Layout) (ds : List DynamicSymbol) (k : ℕ) → k < length ds → All (λ d. HasNoZero d.name) ds → IsListed l ds k
listed_at l [] k lt fit = absurd (omega (arith, lt))
listed_at l (d ∷ ds) zero lt fit = record { symbol = d; is = refl; name = refl; fits = All-head (λ d. HasNoZero d.name) d ds fit }
listed_at l (d ∷ ds) (suc k) lt fit =
    let later = listed_at l ds k (omega (arith, lt)) (All-tail (λ d. HasNoZero d.name) d ds fit) in
    record { symbol = later.symbol; is = later.is; name = later.name; fits = later.fits }

pub slice_get-second_list : {X : Type 0} (xs ys : List X) (k : ℕ) → slice_get (xs ++ ys) (length xs + k) ≡ slice_get ys k
slice_get-second_list [] ys k = (let z : 0 + k ≡ k = omega arith in ap (λ (n : ℕ). slice_get ys n) z)
slice_get-second_list (x ∷ xs) ys k = (let z : suc (length xs) + k ≡ suc (length xs + k) = omega arith in ap (λ (n : ℕ). slice_get (x ∷ (xs ++ ys)) n) z ∙ slice_get-second_list xs ys k)

-- ---- its entry

told_name : (symbols : List ℕ) (at : ℕ) (e : SymtabEntry) → e.name < 2 ^ 32 → HasBytesAt symbols at (spell (symtab_entry_fields e)) → (symtab_entry_at symbols at).name ≡ e.name
unfolding symtab_entry_fields symtab_entry_at
told_name symbols at e small st =
    let field : HasBytesAt symbols (at + 0) (word 4 e.name) = HasBytesAt-field_at symbols at (symtab_entry_fields e) 0 st (omega arith) in
    number-stands symbols at 4 e.name (subst (λ (n : ℕ). HasBytesAt symbols n (word 4 e.name)) (add-zero at) field) small

entry_length : (e : SymtabEntry) → length (spell (symtab_entry_fields e)) ≡ symtab_entry_size
unfolding symtab_entry_fields
entry_length e = length-spell (symtab_entry_fields e)

-- where a look-up finds a table and its strings
pub record HasTables (l : Layout) (table strings : Part) (f g : Found) : Type 0 where
  pub start : f.start ≡ table.offset
  pub room : table.size ≤ f.size
  pub strings_start : g.start ≡ strings.offset
  pub strings_room : strings.size ≤ g.size

named_at : (l : Layout) (table strings : Part) (f g : Found) (i : ℕ) (n : NamedFields) → HasTables l table strings f g → symtab_entry_size * i + symtab_entry_size ≤ table.size → HasEntry l table strings i n → ((k : ℕ) → k < length n.name → slice_index_or n.name k 0 ≡ 0 → ⊥)
    → IsNamed (bytes_of (bytes l) f) (bytes_of (bytes l) g) i n.name
named_at l table strings f g i n found room h whole =
    let e = entry_at h.at n.fields in
    let size = entry_length e in
    let small = h.name.small in
    let same : e.name ≡ h.at = omega (arith, small) in
    let roomy = found.room in
    let cut = stands_cut (bytes l) (spell (symtab_entry_fields e)) f table.offset (symtab_entry_size * i) found.start (omega (arith, room, roomy, size)) h.entry in
    let inside = cut.fits in
    let told = told_name (bytes_of (bytes l) f) (symtab_entry_size * i) e (omega (arith, small, same)) cut ∙ same in
    let text = n.name ++ 0 ∷ [] in
    let long = length-append n.name (0 ∷ []) in
    let within = h.name.within in
    let holds = found.strings_room in
    let there = stands_cut (bytes l) text g strings.offset h.at found.strings_start (omega (arith, within, holds, long)) h.name.stands in
    record {
      inside = omega (arith, inside, size);
      named = subst (λ (at : ℕ). HasBytesAt (bytes_of (bytes l) g) at text) (sym told) there;
      no_zero = whole;
    }

-- ---- all of them

pub are_numbered : (l : Layout) (table strings : Part) (f g : Found) → SymbolsAreThere l table strings → HasTables l table strings f g → length (dynamic_symbols l) < 2 ^ 32 - 1 → All (λ d. HasNoZero d.name) l.dynsyms
    → AreNumbered (bytes_of (bytes l) f) (bytes_of (bytes l) g) (first_listed l) l.dynsyms
are_numbered l table strings f g all found few fit = record {
  not_0 = omega arith;
  few = few_symbols l few;
  named = λ k lt. one k lt (listed_at l l.dynsyms k lt fit);
}
  where
    one : (k : ℕ) → k < length l.dynsyms → IsListed l l.dynsyms k → IsNamed (bytes_of (bytes l) f) (bytes_of (bytes l) g) (first_listed l + k) (slice_index_or (names_of l.dynsyms) k [])
    one k lt d =
        let front = defined_elsewhere l (files_of l.groups) in
        let count = length-elsewhere l (files_of l.groups) in
        let place : length front + k + 1 ≡ first_listed l + k = omega (arith, count) in
        let there : slice_get (table_symbols l) (length front + k) ≡ Some (listed l d.symbol) = slice_get-second_list front (map (listed l) l.dynsyms) k ∙ d.is in
        let entry = subst (λ (i : ℕ). HasEntry l table strings i (listed l d.symbol)) place (all.each (length front + k) (listed l d.symbol) there) in
        let size = all.whole in
        let a = length-append front (map (listed l) l.dynsyms) in
        let b = length-map l.dynsyms (listed l) in
        let named = named_at l table strings f g (first_listed l + k) (listed l d.symbol) found (omega (arith, size, count, a, b, lt)) entry d.fits in
        subst (IsNamed (bytes_of (bytes l) f) (bytes_of (bytes l) g) (first_listed l + k)) (sym d.name) named
