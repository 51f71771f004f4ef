-- How many local symbols the table of all symbols has: as many as its part has room for, and fewer than 2^32.
use Rattle.wild_names.proofs.Common.{IsLaidOut, has_symtab, is_partial_link, All-flat_map, cases_Bool, All, Option, Some, None, is_some, option_to_list, if◌then◌else◌, ◌&&◌, placed_files_same, placed_files, placed_file, ◌≡◌, ℕ, suc, ◌+◌, ◌*◌, ◌/◌, ◌%◌, ◌^◌, ◌<◌, ◌≤◌, inl, inr, Bool, not, true, false, get_or, ◌++◌, List, [], ◌∷◌, length, map, filter, flat_map, refl, sym, ap, ◌∙◌, arith, subst, length-append, length-map, All-contains, All-nil, All-cons, All-head, All-tail, All-append, All-map, spell, FieldsAreRead, HasBytesAt, nil_if, Part, File, Group, Layout, is_prelude, total, share, group_share, file_items, section_symbols, symbol_bytes, NamedEntry, is_side, group_table, null_entry, null_entries, section_entry, named_entry, file_table, length-symbol_bytes, file_content, content, bytes, fields_of_entry, side_symbols}
use Rattle.std.proofs.lemmas.List.Filters.{length-filter_both}
use Rattle.wild_records.specs.SectionHeader.{section_header_fields}
use Rattle.wild_types.specs.declared.part.Role.TheVariants as role
use Rattle.wild_needs.specs.DynamicStrings.{text_room}
use Rattle.wild_needs.specs.TableSymbols.{table_strings}
use Rattle.wild_table_formats.specs.TableEntries.{table_entries}
use Rattle.wild_table_formats.specs.TableLaws.{LengthsOfSides, NamesOfGroups, names_of}
use Rattle.wild_table_formats.specs.Headers.{null_header, local_symbols}
use Rattle.wild_table_formats.specs.HeaderLaws.{SectionHeadersAreRead}
use Rattle.wild_names.specs.FieldLaws.{LocalSymbolsAreCounted}
use Rattle.wild_names.proofs.ImageLemmas.{none_joined}
use Rattle.wild_names.proofs.InfoLemmas.{section_is, size_is, offset_is, elsewhere, locals_told, info_of, header_at, header_in_image, info_read}

-- ---- their room

no_file_bytes : (l : Layout) (f : File) → file_content l role.SymtabLocal f ≡ []
no_file_bytes l f = rw (nil_if (is_prelude f.role)) refl

group_bytes_are : (l : Layout) (g : Group) → content l role.SymtabLocal g ≡ symbol_bytes (table_entries l true g)
group_bytes_are l g = rw (none_joined (file_content l role.SymtabLocal) (placed_files l g) (no_file_bytes l)) refl

as_many_entries : LengthsOfSides → (l : Layout) (g : Group) → length (table_entries l true g) ≡ length (filter (is_side true) (group_table l g))
unfolding table_entries
as_many_entries sides l g = sides true g.strtab_start (group_table l g)

-- the local symbols of a group
abbrev locals : Layout → Group → List NamedEntry
locals l g = filter (is_side true) (group_table l g)

group_room : LengthsOfSides → (l : Layout) (g : Group) → length (content l role.SymtabLocal g) ≡ 24 * length (map fields_of_entry (locals l g))
group_room sides l g =
    let a = ap (λ (bs : List ℕ). length bs) (group_bytes_are l g) in
    let b = length-symbol_bytes (table_entries l true g) in
    let c = as_many_entries sides l g in
    let d = length-map (locals l g) fields_of_entry in
    omega (arith, a, b, c, d)

all_room : LengthsOfSides → (l : Layout) (gs : List Group) → length (flat_map (content l role.SymtabLocal) gs) ≡ 24 * length (flat_map (λ (g : Group). map fields_of_entry (locals l g)) gs)
all_room sides l [] = refl
all_room sides l (g ∷ gs) =
    let a = length-append (content l role.SymtabLocal g) (flat_map (content l role.SymtabLocal) gs) in
    let b = length-append (map fields_of_entry (locals l g)) (flat_map (λ (x : Group). map fields_of_entry (locals l x)) gs) in
    let c = group_room sides l g in
    let d = all_room sides l gs in
    omega (arith, a, b, c, d)

-- ---- each has a string

few_strings : (ss : List (List ℕ)) → length ss ≤ total text_room ss
few_strings [] = omega arith
few_strings (s ∷ ss) = let a = few_strings ss in omega (arith, a)

few_of_files : (l : Layout) (fs : List File) → length (flat_map (table_strings l) fs) ≤ total (share l role.Strtab) fs
few_of_files l [] = omega arith
few_of_files l (f ∷ fs) =
    let a = length-append (table_strings l f) (flat_map (table_strings l) fs) in
    let b = few_strings (table_strings l f) in
    let c = few_of_files l fs in
    omega (arith, a, b, c)

strings_of_placed : (l : Layout) (at : ℕ) (f : File) → table_strings l (placed_file l at f) ≡ table_strings l f
unfolding table_strings file_items
strings_of_placed l at f = refl

abbrev HasName : NamedEntry → Type 0
HasName n = is_some n.name ≡ true

-- as many names as entries that have one
named_each : (ns : List NamedEntry) → All HasName ns → length (names_of ns) ≡ length ns
named_each [] h = refl
named_each (n ∷ ns) h = by n.name (All-head HasName n ns h) (named_each ns (All-tail HasName n ns h))
  where
    by : (o : Option (List ℕ)) → is_some o ≡ true → length (names_of ns) ≡ length ns → length (option_to_list o ++ names_of ns) ≡ length (n ∷ ns)
    by None h again = cc
    by (Some x) h again = ap suc again

no_sections : (l : Layout) → is_partial_link l.kind ≡ false → section_symbols l ≡ []
unfolding section_symbols
no_sections l whole = rw whole refl

-- outside relocatable objects each has
file_named : (l : Layout) (f : File) → is_partial_link l.kind ≡ false → All HasName (file_table l f)
file_named l f whole =
    All-append HasName (null_entries l f) (map (named_entry l f) (file_items l f)) (front (has_symtab l && is_prelude f.role) (section_symbols l) (no_sections l whole))
    (All-map HasName (named_entry l f) (file_items l f) (λ k d h. refl))
  where
    front : (b : Bool) (ks : List ℕ) → ks ≡ [] → All HasName (if b then null_entry ∷ map section_entry ks else [])
    front true [] e = All-cons HasName null_entry [] refl (All-nil HasName)
    front true (k ∷ ks) e = cc
    front false ks e = All-nil HasName

group_named : (l : Layout) (g : Group) → is_partial_link l.kind ≡ false → All HasName (group_table l g)
unfolding group_table
group_named l g whole = All-flat_map HasName (file_table l) g.files (λ k d h. file_named l (get_or g.files k d) whole)

few_of_group : NamesOfGroups → (l : Layout) (g : Group) → is_partial_link l.kind ≡ false → length (map fields_of_entry (locals l g)) ≤ group_share l role.Strtab g
few_of_group names l g whole =
    let a = length-map (locals l g) fields_of_entry in
    let b = length-filter_both (is_side true) (λ (n : NamedEntry). not (is_side true n)) (λ _. refl) (group_table l g) in
    let c = named_each (group_table l g) (group_named l g whole) in
    let d = ap (λ (ss : List (List ℕ)). length ss) (names l g) in
    let e = few_of_files l (placed_files l g) in
    let same = ap (λ (ss : List (List ℕ)). length ss) (placed_files_same (table_strings l) l g (strings_of_placed l)) in
    omega (arith, a, b, c, d, e, same)

few_of_groups : NamesOfGroups → (l : Layout) (gs : List Group) → is_partial_link l.kind ≡ false → length (flat_map (λ (g : Group). map fields_of_entry (locals l g)) gs) ≤ total (group_share l role.Strtab) gs
few_of_groups names l [] whole = omega arith
few_of_groups names l (g ∷ gs) whole =
    let a = length-append (map fields_of_entry (locals l g)) (flat_map (λ (x : Group). map fields_of_entry (locals l x)) gs) in
    let b = few_of_group names l g whole in
    let c = few_of_groups names l gs whole in
    omega (arith, a, b, c)

-- ---- they are counted

count_told : (l : Layout) (n size info : ℕ) → size ≡ 24 * n → n < 2 ^ 32 → info ≡ size / 24 % 2 ^ 32 → info ≡ n
count_told l n size info whole low told = omega (arith, whole, low, told)

-- where a relocatable object has few, so has each output
few_locals : NamesOfGroups → (l : Layout) → IsLaidOut l → (is_partial_link l.kind ≡ true → length (side_symbols l true) < 2 ^ 32) → length (side_symbols l true) < 2 ^ 32
few_locals names l laid few =
    elim (cases_Bool (is_partial_link l.kind)) [
      | inl t ↦ few t
      | inr f ↦ (let a = few_of_groups names l l.groups f in let short = laid.table_strings in omega (arith, a, short))
    ]

pub locals_are_counted : LengthsOfSides → NamesOfGroups → SectionHeadersAreRead → FieldsAreRead → LocalSymbolsAreCounted
locals_are_counted sides names headers read l laid limit table part found there own =
    let lies = (laid.roles role.SymtabLocal (λ e. absurd (omega arith))).there table found in
    let whole : table.size ≡ 24 * length (side_symbols l true) = sym lies.size ∙ all_room sides l l.groups in
    let few = few_locals names l laid limit in
    let low = All-contains (λ (p : Part). p.section < length l.sections) l.parts table laid.named lies.listed in
    let told = info_of l l.sections table.section (null_header l) own.some low in
    let counted = locals_told l table.section told.0 (elsewhere role.Dynsym l.parts table.section own.some own.symbols) (elsewhere role.RelaPlt l.parts table.section own.some own.stubs) (section_is role.SymtabLocal l.parts table found) in
    let size : local_symbols l ≡ table.size / 24 = ap (λ (n : ℕ). n / 24) (size_is role.SymtabLocal l.parts table found) in
    let info : (header_at l table.section).info ≡ length (side_symbols l true) = count_told l (length (side_symbols l true)) table.size (header_at l table.section).info whole few (told.1 ∙ counted ∙ ap (λ (n : ℕ). n % 2 ^ 32) size) in
    let here = subst (λ (n : ℕ). HasBytesAt (bytes l) (n + 64 * table.section) (spell (section_header_fields (header_at l table.section)))) (offset_is role.SectionHeaders l.parts part there) (header_in_image headers l laid table.section low) in
    info_read read (bytes l) (part.offset + 64 * table.section) (header_at l table.section) here (omega (arith, info, few)) ∙ info
