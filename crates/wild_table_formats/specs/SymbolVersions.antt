-- The versions of dynamic symbols (LSB, "Symbol Version Table"): a number for each entry of .dynsym.
--   version_of role s     the version of a symbol in an entry of a file with that role
--   file_versions l f     the versions of the entries of a file
--   group_versions l g    the versions of the entries of a group
--   version_bytes vs      the bytes of versions
use Rattle.std.specs.Prelude.{ℕ, if◌then◌else◌, List, [], ◌∷◌, ◌++◌, map}
use Rattle.std.specs.List.{flat_map}
use Rattle.wild_words.specs.Record.{spell}
use Rattle.wild_records.specs.Abi.Version.{ver_ndx_local, ver_ndx_global}
use Rattle.wild_records.specs.Versyms.{versym_fields}
use Rattle.wild_types.specs.declared.file.FileRole.{FileRole}
use Rattle.wild_types.specs.declared.file.File.{File}
use Rattle.wild_types.specs.declared.file.Group.{Group}
use Rattle.wild_types.specs.declared.layout.DynamicSymbol.{DynamicSymbol}
use Rattle.wild_types.specs.declared.layout.Layout.{Layout}
use Rattle.wild_types.specs.declared.symbol.Symbol.{Symbol}
use Rattle.wild_needs.specs.DynamicStrings.{undefined_symbols}
use Rattle.wild_types.specs.FileRoles.{is_prelude, is_epilogue, is_library}
use Rattle.wild_types.specs.Kinds.{needs_dynsym}

-- the bytes of a version
abbrev pub spelled : ℕ → List ℕ
spelled v = spell (versym_fields (record { version = v }))

-- the bytes of versions
abbrev pub version_bytes : List ℕ → List ℕ
version_bytes vs = flat_map spelled vs

-- a library's symbol has the version that is needed of the library; an object's has VER_NDX_GLOBAL
abbrev pub version_of : FileRole → Symbol → ℕ
version_of role s = if is_library role then s.version else ver_ndx_global

-- an exported symbol has the version of the list of dynamic symbols
abbrev pub exported_version : DynamicSymbol → ℕ
exported_version d = d.version

-- symbol 0 has version VER_NDX_LOCAL; it belongs to the first file
abbrev pub null_versions : File → List ℕ
null_versions f = if is_prelude f.role then ver_ndx_local ∷ [] else []

-- the versions of the entries of a file; the exported symbols belong to the last file
abbrev pub entry_versions : Layout → File → List ℕ
entry_versions l f = if is_epilogue f.role then map exported_version l.dynsyms else map (version_of f.role) (undefined_symbols l.symbols f)

abbrev pub file_versions : Layout → File → List ℕ
file_versions l f = null_versions f ++ entry_versions l f

-- the versions of the entries of a group
unfoldable pub group_versions : Layout → Group → List ℕ
group_versions l g = if needs_dynsym l.kind then flat_map (file_versions l) g.files else []
