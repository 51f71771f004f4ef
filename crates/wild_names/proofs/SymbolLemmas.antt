-- The entries of the dynamic symbol table, and the names that they tell.
use Rattle.wild_names.proofs.Common.{◌≡◌, ℕ, ◌+◌, ◌^◌, ◌<◌, inl, inr, Bool, true, false, if◌then◌else◌, List, [], ◌∷◌, ◌++◌, length, map, Option, Some, None, flat_map, refl, sym, ap, ◌∙◌, arith, subst, cases_Bool, length-append, flat_map-append, HasBytesAt, HasBytesAt-front, HasBytesAt-after, SymtabEntry, FileRole, File, Group, Symbol, DynamicSymbol, Layout, offset_after_string, next_dynstr, dynstr_prefix_strings, entry_names, file_strings, undefined_symbols, is_prelude, is_epilogue, needs_dynsym, files_of, version_names, string, string_bytes, length-string_bytes, NamedFields, listed, undefined, entry_at, no_fields, group_symbols, table_bytes, IsLaidOut}
use Rattle.wild_types.specs.declared.part.Role.TheVariants as role
use Rattle.wild_needs.specs.DynamicStrings.{listed_names, symbol_names}
use Rattle.wild_table_formats.specs.DynamicEntries.{file_symbols, entries_at, null_entries, offset_after_lead, file_entries, entries_from}
use Rattle.wild_names.proofs.BesideLemmas.{Belong, belong-append}
use Rattle.wild_names.proofs.RunLemmas.{strings_of, gathered, files_belong, groups_belong, strings_are_short}

-- the entry says that of the symbol, and its name stands where the entry tells
pub record Tells (strings : List ℕ) (e : SymtabEntry) (n : NamedFields) : Type 0 where
  pub at : ℕ
  pub is : e ≡ entry_at at n.fields
  pub stands : HasBytesAt strings at (string n.name)

-- the same of an entry of the table: the first one is of no symbol
abbrev pub IsEntryOf : List ℕ → SymtabEntry → Option NamedFields → Type 0
IsEntryOf strings e None = e ≡ entry_at 0 no_fields
IsEntryOf strings e (Some n) = Tells strings e n

abbrev names_of : List NamedFields → List (List ℕ)
names_of ns = map (λ (n : NamedFields). n.name) ns

entries_belong : (whole : List ℕ) → length whole < 2 ^ 32 → (at : ℕ) (ns : List NamedFields) → HasBytesAt whole at (string_bytes (names_of ns)) → Belong (IsEntryOf whole) (entries_at at ns) (map Some ns)
unfolding entries_at
entries_belong whole small at [] s = tt
entries_belong whole small at (n ∷ ns) s =
    let here = HasBytesAt-front whole (string n.name) (string_bytes (names_of ns)) at s in
    let later = HasBytesAt-after whole (string n.name) (string_bytes (names_of ns)) at (length (string n.name)) refl s in
    let long = length-append n.name (0 ∷ []) in
    let ends = here.fits in
    let is : at + length (string n.name) ≡ offset_after_string at n.name = omega arith in
    record {
      first = record { at = at; is = refl; stands = here };
      rest = entries_belong whole small (offset_after_string at n.name) ns (subst (λ (m : ℕ). HasBytesAt whole m (string_bytes (names_of ns))) is later);
    }

-- ---- files

listed_are : (l : Layout) (ds : List DynamicSymbol) → listed_names ds ≡ names_of (map (listed l) ds)
listed_are l [] = refl
listed_are l (d ∷ ds) = ap (λ (ns : List (List ℕ)). d.name ∷ ns) (listed_are l ds)

undefined_are : (r : FileRole) (ss : List Symbol) → symbol_names ss ≡ names_of (map (undefined r) ss)
undefined_are r [] = refl
undefined_are r (s ∷ ss) = ap (λ (ns : List (List ℕ)). s.name ∷ ns) (undefined_are r ss)

names_are : (l : Layout) (f : File) → entry_names l f ≡ names_of (file_symbols l f)
names_are l f =
    elim (cases_Bool (is_epilogue f.role)) [
      | inl t ↦ rw t (listed_are l l.dynsyms)
      | inr n ↦ rw n (undefined_are f.role (undefined_symbols l.symbols f))
    ]

-- a file's strings: those in front, the names of its symbols, and those of its versions
strings_are : (l : Layout) (f : File) → needs_dynsym l.kind ≡ true → strings_of l f ≡ string_bytes (dynstr_prefix_strings l f) ++ (string_bytes (names_of (file_symbols l f)) ++ string_bytes (version_names l f))
unfolding file_strings
strings_are l f needs =
    let behind = entry_names l f ++ version_names l f in
    let P : Bool → Type 0 = λ b. string_bytes (if b then dynstr_prefix_strings l f ++ behind else []) ≡ string_bytes (dynstr_prefix_strings l f) ++ (string_bytes (names_of (file_symbols l f)) ++ string_bytes (version_names l f)) in
    let names = flat_map-append string (entry_names l f) (version_names l f) ∙ ap (λ (ns : List (List ℕ)). string_bytes ns ++ string_bytes (version_names l f)) (names_are l f) in
    subst P (sym needs) (flat_map-append string (dynstr_prefix_strings l f) behind ∙ ap (λ (bs : List ℕ). string_bytes (dynstr_prefix_strings l f) ++ bs) names)

-- the table's first entry is of no symbol
abbrev pub none_of : File → List (Option NamedFields)
none_of f = if is_prelude f.role then None ∷ [] else []

-- what the entries of a file are of
abbrev pub file_items : Layout → File → List (Option NamedFields)
file_items l f = none_of f ++ map Some (file_symbols l f)

null_belongs : (strings : List ℕ) (f : File) → Belong (IsEntryOf strings) (null_entries f) (none_of f)
null_belongs strings f = by (is_prelude f.role)
  where
    by : (b : Bool) → Belong (IsEntryOf strings) (if b then entry_at 0 no_fields ∷ [] else []) (if b then None ∷ [] else [])
    by true = record { first = refl; rest = tt }
    by false = tt

file_belongs : (l : Layout) (whole : List ℕ) → length whole < 2 ^ 32 → needs_dynsym l.kind ≡ true → (at : ℕ) (f : File) → HasBytesAt whole at (strings_of l f) → Belong (IsEntryOf whole) (file_entries l at f) (file_items l f)
file_belongs l whole small needs at f s =
    let cut = subst (λ (bs : List ℕ). HasBytesAt whole at bs) (strings_are l f needs) s in
    let names = string_bytes (names_of (file_symbols l f)) in
    let versions = string_bytes (version_names l f) in
    let later = HasBytesAt-after whole (string_bytes (dynstr_prefix_strings l f)) (names ++ versions) at (length (string_bytes (dynstr_prefix_strings l f))) refl cut in
    let long = length-string_bytes (dynstr_prefix_strings l f) in
    let ends = later.fits in
    let is : at + length (string_bytes (dynstr_prefix_strings l f)) ≡ offset_after_lead l at f = omega arith in
    let rest = entries_belong whole small (offset_after_lead l at f) (file_symbols l f) (subst (λ (n : ℕ). HasBytesAt whole n names) is (HasBytesAt-front whole names versions (at + length (string_bytes (dynstr_prefix_strings l f))) later)) in
    belong-append (IsEntryOf whole) (null_entries f) (entries_at (offset_after_lead l at f) (file_symbols l f)) (none_of f) (map Some (file_symbols l f)) (null_belongs whole f) rest

-- ---- groups

entries_are_gathered : (l : Layout) (at : ℕ) (fs : List File) → gathered (file_entries l) l at fs ≡ entries_from l at fs
entries_are_gathered l at [] = refl
entries_are_gathered l at (f ∷ fs) = ap (λ (es : List SymtabEntry). file_entries l at f ++ es) (entries_are_gathered l (next_dynstr l at f) fs)

symbols_of_group : (l : Layout) (g : Group) → needs_dynsym l.kind ≡ true → gathered (file_entries l) l g.dynstr_start g.files ≡ group_symbols l g
unfolding group_symbols
symbols_of_group l g needs =
    let P : Bool → Type 0 = λ b. entries_from l g.dynstr_start g.files ≡ (if b then entries_from l g.dynstr_start g.files else []) in
    entries_are_gathered l g.dynstr_start g.files ∙ subst P (sym needs) refl

-- each entry of the table is of its item
pub symbols_belong : (l : Layout) → IsLaidOut l → needs_dynsym l.kind ≡ true → Belong (IsEntryOf (table_bytes l role.Dynstr)) (flat_map (group_symbols l) l.groups) (flat_map (file_items l) (files_of l.groups))
symbols_belong l laid needs =
    let whole = table_bytes l role.Dynstr in
    let small = strings_are_short l laid in
    groups_belong (IsEntryOf whole) (group_symbols l) (file_items l) l laid needs (λ g s.
    subst (λ (es : List SymtabEntry). Belong (IsEntryOf whole) es (flat_map (file_items l) g.files)) (symbols_of_group l g needs) (files_belong (IsEntryOf whole) (file_entries l) (file_items l) l whole small (file_belongs l whole small needs) g.dynstr_start g.files s))
