-- Where a layout has no faults each symbol of the table of all symbols has its fields.
use Rattle.wild_placement.specs.PlacedSections.{frames_at}
use Rattle.wild_names.proofs.Common.{◌≡◌, ℕ, ◌++◌, [], All, None, Result, Ok, Err, refl, ap, All-contains, Fault, File, Group, Layout, TableSymbol, file_items, TableFields, table_fields, table_fields_or_null, flat_map_from, group_errors}
use Rattle.wild_words.proofs.Basics.{All-from_nothing}
use Rattle.wild_layout.specs.Faults.{at_file, exported_errors, symtab_entry_fault, table_error, table_errors, files_errors}
use Rattle.wild_layout.proofs.FaultLemmas.{first_empty, rest_empty, All-from_none, no_fault, no_group_errors}
use Rattle.wild_names.specs.FieldLaws.{HasTableFields, TableSymbolsHaveFields, entry_with}

-- ---- lists of faults

-- the last faults of a group are those of the symbols of the tables
of_tables : (l : Layout) (i : ℕ) (g : Group) → group_errors l i g ≡ [] → flat_map_from (exported_errors l i) 0 g.files ++ flat_map_from (table_errors l i) 0 g.files ≡ []
unfolding group_errors
of_tables l i g h = rest_empty (files_errors l i (frames_at l g) 0 g.files) (flat_map_from (exported_errors l i) 0 g.files ++ flat_map_from (table_errors l i) 0 g.files) h

pub none_of_listed : (l : Layout) (i : ℕ) (g : Group) → group_errors l i g ≡ [] → flat_map_from (exported_errors l i) 0 g.files ≡ []
none_of_listed l i g h = first_empty (flat_map_from (exported_errors l i) 0 g.files) (flat_map_from (table_errors l i) 0 g.files) (of_tables l i g h)

none_of_table : (l : Layout) (i : ℕ) (g : Group) → group_errors l i g ≡ [] → flat_map_from (table_errors l i) 0 g.files ≡ []
none_of_table l i g h = rest_empty (flat_map_from (exported_errors l i) 0 g.files) (flat_map_from (table_errors l i) 0 g.files) (of_tables l i g h)

-- ---- the table of all symbols

table_told : (l : Layout) (f : File) (x : TableSymbol) (r : Result TableFields Fault) → table_fields l f x ≡ r → symtab_entry_fault r ≡ None → HasTableFields l f x
table_told l f x (Ok fields) is none = record { fields = fields; told = is; entry = ap (λ (r : Result TableFields Fault). entry_with x (table_fields_or_null r)) is }
table_told l f x (Err e) is none = cc

-- each symbol that the file has in the table
abbrev FileHasFields : Layout → File → Type 0
FileHasFields l f = All (HasTableFields l f) (file_items l f)

table_of_file : (l : Layout) (i k : ℕ) (f : File) → table_errors l i k f ≡ [] → FileHasFields l f
unfolding table_errors
table_of_file l i k f h =
    All-from_nothing (HasTableFields l f) (table_error l (at_file i k) f) (file_items l f) (λ x e. table_told l f x (table_fields l f x) refl (no_fault (at_file i k) (symtab_entry_fault (table_fields l f x)) e)) h

-- so it is in each file of a group
abbrev GroupHasFields : Layout → Group → Type 0
GroupHasFields l g = All (FileHasFields l) g.files

table_of_group : (l : Layout) (i : ℕ) (g : Group) → group_errors l i g ≡ [] → GroupHasFields l g
table_of_group l i g h = All-from_none (FileHasFields l) (table_errors l i) 0 g.files (table_of_file l i) (none_of_table l i g h)

pub table_has_fields : TableSymbolsHaveFields
table_has_fields l none g f x in_groups in_files in_items =
    let groups = All-from_none (GroupHasFields l) (group_errors l) 0 l.groups (table_of_group l) (no_group_errors l none) in
    let files = All-contains (GroupHasFields l) l.groups g groups in_groups in
    let items = All-contains (FileHasFields l) g.files f files in_files in
    All-contains (HasTableFields l f) (file_items l f) x items in_items
