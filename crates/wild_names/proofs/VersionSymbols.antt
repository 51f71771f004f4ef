-- The table of the versions of dynamic symbols: that of the null one, those of each file, and those of the list.
use Rattle.wild_names.proofs.Common.{placed_files, placed_files_same, ◌≡◌, ℕ, true, List, [], ◌∷◌, map, flat_map, refl, sym, ap, ◌∙◌, append-nil, flat_map-same, flat_map-flat_map, nil_if, File, Group, Layout, undefined_symbols, is_prelude, is_epilogue, needs_dynsym, files_of, version_of, exported_version, file_content, content, IsLaidOut, table_bytes}
use Rattle.wild_types.specs.declared.part.Role.TheVariants as role
use Rattle.wild_table_formats.specs.VersionNames.{symbol_versions}
use Rattle.wild_table_formats.specs.SymbolVersions.{spelled, version_bytes, file_versions}
use Rattle.wild_names.specs.VersionLaws.{table_versions}
use Rattle.wild_names.proofs.ListOrder.{InOrder, all_in_order, last_defines_none}

-- ---- one file

-- the versions of a file's symbols that other modules define
abbrev pub own : Layout → File → List ℕ
own l f = map (version_of f.role) (undefined_symbols l.symbols f)

-- those of the null symbol and of all others
abbrev pub all_versions : Layout → List ℕ
all_versions l = 0 ∷ table_versions l

-- the last file has none of its own
last_has_none : (l : Layout) (f : File) → is_epilogue f.role ≡ true → own l f ≡ []
last_has_none l f h = ap (map (version_of f.role)) (last_defines_none l.symbols f h)

-- the first file has that of the null symbol, and the last one those of the list
in_order : Layout → InOrder ℕ
in_order l = record {
  items = file_versions l;
  own = own l;
  front = 0 ∷ [];
  behind = map exported_version l.dynsyms;
  first = λ f p e. rw (p, e) refl;
  middle = λ f p e. rw (p, e) refl;
  last = λ f p e. (let c = last_has_none l f e in rw (p, e, c) refl);
}

versions_in_order : (l : Layout) → IsLaidOut l → flat_map (file_versions l) (files_of l.groups) ≡ all_versions l
unfolding in_order
versions_in_order l laid = all_in_order (in_order l) l.groups laid.some_group laid.files

-- ---- their bytes

file_gives : (l : Layout) (f : File) → needs_dynsym l.kind ≡ true → l.options.versions ≡ true → file_content l role.GnuVersion f ≡ version_bytes (file_versions l f)
file_gives l f needs asked =
    let own_bytes : file_content l role.GnuVersion f ≡ version_bytes (symbol_versions l f) = rw (nil_if (is_prelude f.role)) (append-nil (version_bytes (symbol_versions l f))) in
    let all : symbol_versions l f ≡ file_versions l f = rw (asked, needs) refl in
    own_bytes ∙ ap version_bytes all

group_gives : (l : Layout) (g : Group) → needs_dynsym l.kind ≡ true → l.options.versions ≡ true → content l role.GnuVersion g ≡ version_bytes (flat_map (file_versions l) g.files)
group_gives l g needs asked =
    append-nil (flat_map (file_content l role.GnuVersion) (placed_files l g))
    ∙ flat_map-same (file_content l role.GnuVersion) (λ (f : File). version_bytes (file_versions l f)) (placed_files l g) (λ f. file_gives l f needs asked)
    ∙ placed_files_same (λ (f : File). version_bytes (file_versions l f)) l g (λ at f. refl)
    ∙ sym (flat_map-flat_map spelled (file_versions l) g.files)

pub version_table : (l : Layout) → IsLaidOut l → needs_dynsym l.kind ≡ true → l.options.versions ≡ true → table_bytes l role.GnuVersion ≡ version_bytes (all_versions l)
version_table l laid needs asked =
    let of = λ (g : Group). flat_map (file_versions l) g.files in
    flat_map-same (content l role.GnuVersion) (λ (g : Group). version_bytes (of g)) l.groups (λ g. group_gives l g needs asked)
    ∙ sym (flat_map-flat_map spelled of l.groups)
    ∙ ap version_bytes (sym (flat_map-flat_map (file_versions l) (λ (g : Group). g.files) l.groups) ∙ versions_in_order l laid)
