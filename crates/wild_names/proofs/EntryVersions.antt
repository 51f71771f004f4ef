-- A version for each entry of the dynamic symbol table.
use Rattle.wild_names.proofs.Common.{◌≡◌, ℕ, Bool, true, false, if◌then◌else◌, List, [], ◌∷◌, length, map, refl, sym, ◌∙◌, arith, length-append, length-map, SymtabEntry, File, Layout, next_dynstr, undefined_symbols, is_prelude, is_epilogue, needs_dynsym, listed, undefined, no_fields, entry_at, group_symbols, version_of, exported_version}
use Rattle.std.specs.List.{flat_map}
use Rattle.wild_table_formats.specs.DynamicEntries.{entries_at, null_entries, file_symbols, offset_after_lead, file_entries, entries_from}
use Rattle.wild_table_formats.specs.SymbolVersions.{null_versions, entry_versions, file_versions, group_versions}
use Rattle.wild_names.specs.VersionNames.{EachEntryHasAVersion}
use Rattle.wild_table_formats.proofs.VersionRooms.{either_beside}
use Rattle.wild_table_formats.proofs.EntryLengths.{length-entries_at}

null_beside : (b : Bool) (e : SymtabEntry) (v : ℕ) → length (if b then e ∷ [] else []) ≡ length (if b then v ∷ [] else [])
null_beside true e v = refl
null_beside false e v = refl

symbols_beside : (l : Layout) (f : File) → length (file_symbols l f) ≡ length (entry_versions l f)
symbols_beside l f =
    either_beside (is_epilogue f.role) (map (listed l) l.dynsyms) (map (undefined f.role) (undefined_symbols l.symbols f)) (map exported_version l.dynsyms) (map (version_of f.role) (undefined_symbols l.symbols f))
    (length-map l.dynsyms (listed l) ∙ sym (length-map l.dynsyms exported_version))
    (length-map (undefined_symbols l.symbols f) (undefined f.role) ∙ sym (length-map (undefined_symbols l.symbols f) (version_of f.role)))

file_beside : (l : Layout) (at : ℕ) (f : File) → length (file_entries l at f) ≡ length (file_versions l f)
file_beside l at f =
    let a = length-append (null_entries f) (entries_at (offset_after_lead l at f) (file_symbols l f)) in
    let b = length-append (null_versions f) (entry_versions l f) in
    let n = null_beside (is_prelude f.role) (entry_at 0 no_fields) 0 in
    let e = length-entries_at (file_symbols l f) (offset_after_lead l at f) in
    let s = symbols_beside l f in
    omega (arith, a, b, n, e, s)

files_beside : (l : Layout) (fs : List File) (at : ℕ) → length (entries_from l at fs) ≡ length (flat_map (file_versions l) fs)
files_beside l [] at = refl
files_beside l (f ∷ fs) at =
    let a = length-append (file_entries l at f) (entries_from l (next_dynstr l at f) fs) in
    let b = length-append (file_versions l f) (flat_map (file_versions l) fs) in
    let e = file_beside l at f in
    let r = files_beside l fs (next_dynstr l at f) in
    omega (arith, a, b, e, r)

pub versions_beside : EachEntryHasAVersion
unfolding group_symbols group_versions
versions_beside l g = either_beside (needs_dynsym l.kind) (entries_from l g.dynstr_start g.files) [] (flat_map (file_versions l) g.files) [] (files_beside l g.files g.dynstr_start) refl
