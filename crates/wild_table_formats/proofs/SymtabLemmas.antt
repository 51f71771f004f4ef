-- Laws of the entries of `.symtab`: how many there are, and their names.
use Rattle.std.proofs.Common.{◌≡◌, ℕ, ◌+◌, ◌*◌, ◌&&◌, Bool, true, false, cond, if◌then◌else◌, List, [], ◌∷◌, ◌++◌, length, map, refl, sym, ap, ◌∙◌, arith, subst}
use Rattle.std.specs.List.{filter, flat_map}
use Rattle.std.proofs.lemmas.List.{length-append, length-map}
use Rattle.std.proofs.lemmas.List.Elements.{filter-append}
use Rattle.std.proofs.lemmas.Grind.{flat_map-append}
use Rattle.std.specs.Prelude.{option_to_list}
use Rattle.wild_words.specs.Words.{word}
use Rattle.wild_words.proofs.WordLemmas.{length-word}
use Rattle.wild_types.specs.declared.file.File.{File}
use Rattle.wild_types.specs.declared.file.Group.{Group}
use Rattle.wild_types.specs.declared.layout.Layout.{Layout}
use Rattle.wild_types.specs.FileRoles.{is_prelude}
use Rattle.wild_types.specs.Lists.{total}
use Rattle.wild_needs.specs.TableSymbols.{TableSymbol, file_items, item_name, is_on_side, side, section_symbols, null_count, table_strings}
use Rattle.wild_types.specs.Lookups.{has_symtab}
use Rattle.wild_table_formats.specs.Strings.{string_bytes}
use Rattle.wild_table_formats.specs.DynamicEntries.{entry_at}
use Rattle.wild_table_formats.specs.TableEntries.{NamedEntry, named_entry, null_entry, section_entry, null_entries, name_at, offset_after_name, is_side, file_table, group_table, side_entries, table_entries, long_indexes, index_bytes}
use Rattle.wild_table_formats.specs.TableLaws.{side_count, LengthsOfSides, SidesOfFiles, SidesOfGroups, LengthsOfIndexes, IndexesHave4Bytes, names_of, NamesOfFiles, NamesOfGroups, LengthsOfTexts}
use Rattle.wild_table_formats.proofs.StringLemmas.{length-string_bytes}

-- ---- counts

-- one item more in two lists, by the same test
same_length : {X Y : Type 0} (b : Bool) (x : X) (y : Y) (xs : List X) (ys : List Y) → length xs ≡ length ys → length (cond b (x ∷ xs) xs) ≡ length (cond b (y ∷ ys) ys)
same_length true x y xs ys e = omega (arith, e)
same_length false x y xs ys e = e

one_before : {X Y : Type 0} (b : Bool) (x : X) (y : Y) (xs : List X) (ys : List Y) → length xs ≡ length ys → length ((if b then x ∷ [] else []) ++ xs) ≡ length (cond b (y ∷ ys) ys)
one_before true x y xs ys e = omega (arith, e)
one_before false x y xs ys e = e

pub length-side_entries : LengthsOfSides
unfolding side_entries
length-side_entries local at [] = refl
length-side_entries local at (n ∷ ns) =
    one_before (is_side local n) (entry_at (name_at at n.name) n.fields.fields) n (side_entries local (offset_after_name at n.name) ns) (filter (is_side local) ns) (length-side_entries local (offset_after_name at n.name) ns)

pub length-long_indexes : LengthsOfIndexes
length-long_indexes local ns = length-map (filter (is_side local) ns) (λ (n : NamedEntry). n.fields.long)

pub length-index_bytes : IndexesHave4Bytes
length-index_bytes [] = refl
length-index_bytes (n ∷ ns) =
    let a = length-append (word 4 n) (index_bytes ns) in
    let b = length-word 4 n in
    let c = length-index_bytes ns in
    omega (arith, a, b, c)

-- the symbols of sections are local
sections_side : (ks : List ℕ) → length (filter (is_side true) (map section_entry ks)) ≡ length ks
sections_side [] = refl
sections_side (k ∷ ks) =
    let rest = sections_side ks in
    omega (arith, rest)

no_sections : (ks : List ℕ) → length (filter (is_side false) (map section_entry ks)) ≡ 0
no_sections [] = refl
no_sections (k ∷ ks) = no_sections ks

null_side : (local b : Bool) (ks : List ℕ) → length (filter (is_side local) (if b then null_entry ∷ map section_entry ks else [])) ≡ (if local then (if b then 1 + length ks else 0) else 0)
null_side true true ks =
    let rest = sections_side ks in
    omega (arith, rest)
null_side true false ks = refl
null_side false true ks = no_sections ks
null_side false false ks = refl

items_side : (local : Bool) (l : Layout) (f : File) (xs : List TableSymbol) → length (filter (is_side local) (map (named_entry l f) xs)) ≡ length (filter (is_on_side local) xs)
items_side local l f [] = refl
items_side true l f (x ∷ xs) = same_length (is_on_side true x) (named_entry l f x) x (filter (is_side true) (map (named_entry l f) xs)) (filter (is_on_side true) xs) (items_side true l f xs)
items_side false l f (x ∷ xs) = same_length (is_on_side false x) (named_entry l f x) x (filter (is_side false) (map (named_entry l f) xs)) (filter (is_on_side false) xs) (items_side false l f xs)

file_side : (local : Bool) (l : Layout) (f : File)
    → length (filter (is_side local) (file_table l f)) ≡ (if local then null_count l f else 0) + length (side local (file_items l f))
file_side local l f =
    let e = ap length (filter-append (is_side local) (null_entries l f) (map (named_entry l f) (file_items l f))) in
    let a = length-append (filter (is_side local) (null_entries l f)) (filter (is_side local) (map (named_entry l f) (file_items l f))) in
    let b = null_side local (has_symtab l && is_prelude f.role) (section_symbols l) in
    let c = items_side local l f (file_items l f) in
    omega (arith, e, a, b, c)

pub length-file_side : SidesOfFiles
length-file_side true l f = file_side true l f
length-file_side false l f = let e = file_side false l f in omega (arith, e)

sides_files : (local : Bool) (l : Layout) (fs : List File) → length (filter (is_side local) (flat_map (file_table l) fs)) ≡ total (side_count local l) fs
sides_files local l [] = refl
sides_files local l (f ∷ fs) =
    let e = ap length (filter-append (is_side local) (file_table l f) (flat_map (file_table l) fs)) in
    let a = length-append (filter (is_side local) (file_table l f)) (filter (is_side local) (flat_map (file_table l) fs)) in
    let b = length-file_side local l f in
    let c = sides_files local l fs in
    omega (arith, e, a, b, c)

pub length-table_entries : SidesOfGroups
unfolding table_entries group_table
length-table_entries local l g = length-side_entries local g.strtab_start (flat_map (file_table l) g.files) ∙ sides_files local l g.files

-- ---- names

names-append : (ns ms : List NamedEntry) → names_of (ns ++ ms) ≡ names_of ns ++ names_of ms
names-append ns ms = flat_map-append (λ (n : NamedEntry). option_to_list n.name) ns ms

item_names : (l : Layout) (f : File) (xs : List TableSymbol) → names_of (map (named_entry l f) xs) ≡ map item_name xs
item_names l f [] = refl
item_names l f (x ∷ xs) = ap (λ (ns : List (List ℕ)). item_name x ∷ ns) (item_names l f xs)

-- the symbols of sections have no names
section_names : (ks : List ℕ) → names_of (map section_entry ks) ≡ []
section_names [] = refl
section_names (k ∷ ks) = section_names ks

null_names : (b : Bool) (ks : List ℕ) → names_of (if b then null_entry ∷ map section_entry ks else []) ≡ (if b then [] ∷ [] else [])
null_names true ks = ap (λ (ns : List (List ℕ)). [] ∷ ns) (section_names ks)
null_names false ks = refl

pub names_of-file : NamesOfFiles
unfolding table_strings
names_of-file l f =
    let b = has_symtab l && is_prelude f.role in
    names-append (null_entries l f) (map (named_entry l f) (file_items l f))
    ∙ ap (λ (ns : List (List ℕ)). ns ++ names_of (map (named_entry l f) (file_items l f))) (null_names b (section_symbols l))
    ∙ ap (λ (ns : List (List ℕ)). (if b then [] ∷ [] else []) ++ ns) (item_names l f (file_items l f))

names_files : (l : Layout) (fs : List File) → names_of (flat_map (file_table l) fs) ≡ flat_map (table_strings l) fs
names_files l [] = refl
names_files l (f ∷ fs) =
    names-append (file_table l f) (flat_map (file_table l) fs)
    ∙ ap (λ (ns : List (List ℕ)). ns ++ names_of (flat_map (file_table l) fs)) (names_of-file l f)
    ∙ ap (λ (ns : List (List ℕ)). table_strings l f ++ ns) (names_files l fs)

pub names_of-group : NamesOfGroups
unfolding group_table
names_of-group l g = names_files l g.files

pub length-texts : LengthsOfTexts
length-texts l f = length-string_bytes (table_strings l f)
