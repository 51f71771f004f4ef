-- The versions that the output defines: the last file has their table, and their names stand behind those of its symbols.
use Rattle.wild_names.proofs.Common.{placed_files, placed_file, placed_files_same, ◌≡◌, ℕ, ◌≤◌, true, false, List, [], ◌∷◌, ◌++◌, length, Option, Some, None, flat_map, refl, sym, ap, ◌∙◌, arith, subst, append-nil, get_or_from_slice_get, slice_get_within, HasBytesAt, flat_map-same, flat_map-flat_map, nil_if, File, Group, Layout, string_start, is_prelude, is_epilogue, needs_dynsym, files_of, string, name_at, definition_offsets, file_content, content, IsLaidOut, TablesStand, table_bytes, bytes}
use Rattle.wild_types.specs.declared.part.Role.TheVariants as role
use Rattle.wild_types.specs.declared.layout.VersionDefinition.{VersionDefinition}
use Rattle.wild_types.proofs.FileLemmas.{last_role}
use Rattle.wild_needs.specs.Versions.{size_with, definitions_size}
use Rattle.wild_table_formats.specs.VersionDefinitions.{version_name, definition_table}
use Rattle.wild_names.specs.VersionNames.{DefinitionsAreNamed}
use Rattle.wild_table_formats.specs.VersionLaws.{LengthsOfDefinitions, DefinitionsAreRead}
use Rattle.wild_table_formats.specs.VersionNames.{file_definitions}
use Rattle.wild_layout.proofs.LayoutLemmas.{definitions_fit}
use Rattle.wild_names.specs.VersionLaws.{DefinitionsAreThere, DefinitionsAreWritten}
use Rattle.wild_names.proofs.ImageLemmas.{named, none_joined}
use Rattle.wild_names.proofs.RunLemmas.{strings_are_short}
use Rattle.wild_names.proofs.VersionOffsets.{names_small}
use Rattle.wild_names.proofs.ListOrder.{InOrder, all_in_order}
use Rattle.wild_names.proofs.VersionStarts.{LastStands, last_stands}

-- ---- the table

-- the names of the versions stand at the same offsets, whichever file is the last
same_offsets : (l : Layout) (e f : File) → is_epilogue e.role ≡ true → is_epilogue f.role ≡ true → definition_offsets l f ≡ definition_offsets l e
unfolding definition_offsets
same_offsets l e f h k =
    let a = last_role e.role h in
    let b = last_role f.role k in
    rw (a, b) refl

-- the table of the last file
abbrev table_of : Layout → File → List ℕ
table_of l e = definition_table (definition_offsets l e) l.options.soname l.verdefs

-- no other file has one
abbrev nothing : File → List ℕ
nothing f = []

no_definitions : (l : Layout) (f : File) → needs_dynsym l.kind ≡ true → is_epilogue f.role ≡ false → file_definitions l f ≡ []
unfolding file_definitions
no_definitions l f needs e = rw (needs, e) refl

last_definitions : (l : Layout) (e f : File) → needs_dynsym l.kind ≡ true → is_epilogue e.role ≡ true → is_epilogue f.role ≡ true → file_definitions l f ≡ table_of l e
unfolding file_definitions
last_definitions l e f needs h k =
    let same = ap (λ (names : List ℕ). definition_table names l.options.soname l.verdefs) (same_offsets l e f h k) in
    rw (needs, k) same

-- the last file alone gives some
in_order : (l : Layout) (e : File) → needs_dynsym l.kind ≡ true → is_epilogue e.role ≡ true → InOrder ℕ
in_order l e needs h = record {
  items = file_definitions l;
  own = nothing;
  front = [];
  behind = table_of l e;
  first = λ f p n. no_definitions l f needs n;
  middle = λ f p n. no_definitions l f needs n;
  last = λ f p k. last_definitions l e f needs h k;
}

file_gives : (l : Layout) (f : File) → file_content l role.GnuVersionD f ≡ file_definitions l f
file_gives l f = rw (nil_if (is_prelude f.role)) (append-nil (file_definitions l f))

definitions_of_placed : (l : Layout) (at : ℕ) (f : File) → file_definitions l (placed_file l at f) ≡ file_definitions l f
unfolding file_definitions definition_offsets
definitions_of_placed l at f = refl

group_gives : (l : Layout) (g : Group) → content l role.GnuVersionD g ≡ flat_map (file_definitions l) g.files
group_gives l g = append-nil (flat_map (file_content l role.GnuVersionD) (placed_files l g)) ∙ flat_map-same (file_content l role.GnuVersionD) (file_definitions l) (placed_files l g) (file_gives l) ∙ placed_files_same (file_definitions l) l g (definitions_of_placed l)

definitions_given : (l : Layout) (e : File) → IsLaidOut l → needs_dynsym l.kind ≡ true → is_epilogue e.role ≡ true → table_bytes l role.GnuVersionD ≡ table_of l e
unfolding in_order
definitions_given l e laid needs h =
    let all = all_in_order (in_order l e needs h) l.groups laid.some_group laid.files in
    let none = none_joined nothing (files_of l.groups) (λ f. refl) in
    flat_map-same (content l role.GnuVersionD) (λ (g : Group). flat_map (file_definitions l) g.files) l.groups (group_gives l)
    ∙ sym (flat_map-flat_map (file_definitions l) (λ (g : Group). g.files) l.groups)
    ∙ all
    ∙ ap (λ (bs : List ℕ). bs ++ table_of l e) none

-- ---- numbers

some_bytes : (ds : List VersionDefinition) → 1 ≤ length ds → 1 ≤ definitions_size ds
some_bytes [] h = absurd (omega arith)
some_bytes (d ∷ ds) h = (let own = some_with d.parent in omega arith)
  where
    some_with : (p : Option ℕ) → 1 ≤ size_with p
    some_with None = omega arith
    some_with (Some p) = omega arith

-- ---- the image

pub definitions_stand : TablesStand → LengthsOfDefinitions → DefinitionsAreRead → DefinitionsAreNamed → DefinitionsAreWritten
definitions_stand stand lengths read names_stand l laid needs table strings found with_strings written text_written = by (last_stands l laid needs)
  where
    by : LastStands l (table_bytes l role.Dynstr) (string_start l) → DefinitionsAreThere l table strings
    by e =
        let short = strings_are_short l laid in
        let hold = laid.versions.definitions table found in
        let some = hold.some in
        let names = definition_offsets l e.file in
        let given = definitions_given l e.file laid needs e.last in
        let size = ((laid.roles role.GnuVersionD (λ z. absurd (omega arith))).there table found).size in
        let long = lengths names l.options.soname l.verdefs in
        let total = ap (λ (bs : List ℕ). length bs) given in
        let least = some_bytes l.verdefs some in
        let there = stand l laid role.GnuVersionD (λ z. absurd (omega arith)) table found written (omega arith) in
        let here = subst (λ (bs : List ℕ). HasBytesAt (bytes l) table.offset bs) given there in
        record {
          names = names;
          some = some;
          whole = omega arith;
          found = λ n enough. read (bytes l) names l.options.soname l.verdefs table.offset n (names_small l e.file) (definitions_fit l laid) some enough here;
          parents = hold.parents;
          named = λ k d h.
              let low = slice_get_within l.verdefs k d h in
              let stands = names_stand l e.file (table_bytes l role.Dynstr) needs e.last (record { small = short; stand = e.stands }) k d low in
              let own = subst (λ (x : VersionDefinition). HasBytesAt (table_bytes l role.Dynstr) (name_at names k) (string (version_name l.options.soname k x.name))) (get_or_from_slice_get l.verdefs k d d h) stands in
              named stand l laid role.Dynstr (λ z. absurd (omega arith)) short strings with_strings text_written (name_at names k) (version_name l.options.soname k d.name) own;
        }
