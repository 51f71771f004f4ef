-- The tables of files and groups are as long as their room.
use Rattle.std.proofs.Common.{◌≡◌, ℕ, ◌+◌, ◌*◌, Bool, true, false, ◌&&◌, if◌then◌else◌, List, [], ◌∷◌, length, map, refl, sym, ap, ◌∙◌, arith}
use Rattle.std.specs.Prelude.{Option, Some, None}
use Rattle.std.proofs.lemmas.List.{length-append, length-map}
use Rattle.wild_words.proofs.Basics.{length-if, length-if_both}
use Rattle.wild_types.specs.declared.file.File.{File}
use Rattle.wild_types.specs.declared.file.VersionNeeds.{VersionNeeds}
use Rattle.wild_types.specs.declared.layout.Layout.{Layout}
use Rattle.wild_types.specs.declared.layout.DynamicSymbol.{DynamicSymbol}
use Rattle.wild_types.specs.declared.symbol.Symbol.{Symbol}
use Rattle.wild_needs.specs.DynamicStrings.{next_dynstr, undefined_symbols, listed_names, symbol_names, entry_names}
use Rattle.wild_types.specs.FileRoles.{is_prelude, is_epilogue}
use Rattle.wild_types.specs.Kinds.{needs_dynsym}
use Rattle.wild_types.specs.Lists.{total}
use Rattle.wild_needs.specs.Versions.{definitions_size, room_of, needs_of}
use Rattle.wild_table_formats.specs.SymbolVersions.{version_of, exported_version, null_versions, entry_versions, file_versions}
use Rattle.wild_table_formats.specs.VersionDefinitions.{definition_table}
use Rattle.wild_table_formats.specs.VersionNames.{offset_u32, offset_after_entry_names, symbol_versions, definition_offsets, file_definitions, group_needs, need_at, need_of, needs_from}
use Rattle.wild_table_formats.specs.VersionLaws.{LengthsOfSymbolVersions, LengthsOfFileDefinitions, LengthsOfGroupNeeds}
use Rattle.wild_table_formats.proofs.VersionLengths.{length-version_bytes, length-definition_table, length-need_bytes}

pub either_beside : {X Y : Type 0} (b : Bool) (xs ys : List X) (us vs : List Y) → length xs ≡ length us → length ys ≡ length vs → length (if b then xs else ys) ≡ length (if b then us else vs)
either_beside true xs ys us vs e f = e
either_beside false xs ys us vs e f = f

entries_counted : (l : Layout) (f : File) → length (entry_versions l f) ≡ length (entry_names l f)
entries_counted l f =
    either_beside (is_epilogue f.role) (map exported_version l.dynsyms) (map (version_of f.role) (undefined_symbols l.symbols f)) (listed_names l.dynsyms) (symbol_names (undefined_symbols l.symbols f))
    (length-map l.dynsyms exported_version ∙ sym (length-map l.dynsyms (λ (d : DynamicSymbol). d.name)))
    (length-map (undefined_symbols l.symbols f) (version_of f.role) ∙ sym (length-map (undefined_symbols l.symbols f) (λ (s : Symbol). s.name)))

versions_counted : (l : Layout) (f : File) → length (file_versions l f) ≡ (if is_prelude f.role then 1 else 0) + length (entry_names l f)
versions_counted l f =
    let a = length-append (null_versions f) (entry_versions l f) in
    let n : length (null_versions f) ≡ (if is_prelude f.role then 1 else 0) = length-if (is_prelude f.role) (0 ∷ []) 1 refl in
    let e = entries_counted l f in
    omega (arith, a, n, e)

pub length-symbol_versions : LengthsOfSymbolVersions
length-symbol_versions l f =
    length-version_bytes (symbol_versions l f) ∙ ap (λ (n : ℕ). 2 * n) (length-if_both l.options.versions (needs_dynsym l.kind) (file_versions l f) _ (versions_counted l f))

pub length-file_definitions : LengthsOfFileDefinitions
unfolding file_definitions
length-file_definitions l f =
    length-if (needs_dynsym l.kind && is_epilogue f.role) (definition_table (definition_offsets l f) l.options.soname l.verdefs) (definitions_size l.verdefs) (length-definition_table (definition_offsets l f) l.options.soname l.verdefs)

length-need_at : (at : ℕ) (library : List ℕ) (n : Option VersionNeeds) → length (need_at at library n) ≡ room_of n
length-need_at at library None = refl
length-need_at at library (Some n) = length-need_bytes (offset_u32 at) _ n

length-needs_from : (l : Layout) (at : ℕ) (fs : List File) → length (needs_from l at fs) ≡ total (λ (f : File). room_of (needs_of f)) fs
length-needs_from l at [] = refl
length-needs_from l at (f ∷ fs) =
    let a = length-append (need_of l at f) (needs_from l (next_dynstr l at f) fs) in
    let n = length-need_at (offset_after_entry_names l at f) f.lib_name (needs_of f) in
    let r = length-needs_from l (next_dynstr l at f) fs in
    omega (arith, a, n, r)

total_if : {X : Type 0} (b : Bool) (f : X → ℕ) (xs : List X) → (if b then total f xs else 0) ≡ total (λ x. if b then f x else 0) xs
total_if true f xs = refl
total_if false f [] = refl
total_if false f (x ∷ xs) = let e = total_if false f xs in omega (arith, e)

pub length-group_needs : LengthsOfGroupNeeds
unfolding group_needs
length-group_needs l g =
    length-if (needs_dynsym l.kind) (needs_from l g.dynstr_start g.files) _ (length-needs_from l g.dynstr_start g.files)
    ∙ total_if (needs_dynsym l.kind) (λ (f : File). room_of (needs_of f)) g.files
