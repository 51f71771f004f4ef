-- Which JSON values encode symbol versions (LSB, "Symbol Versioning"). Other members are unknown.
use Rattle.std.specs.Prelude.{ℕ, List, [], ◌∷◌, codes, Result, Ok, None, false}
use Rattle.serde_json.specs.Data.{Data}
use Rattle.wild_types.specs.declared.file.NeededVersion.{NeededVersion}
use Rattle.wild_types.specs.declared.file.VersionNeeds.{VersionNeeds}
use Rattle.wild_types.specs.declared.layout.VersionDefinition.{VersionDefinition}
use Rattle.wild_text.specs.Reads.{◌>>=◌}
use Rattle.wild_text.specs.Values.{u64_in, u16_in, bool_in, hex_in, list_in, nullable}
use Rattle.wild_text.specs.Members.{field, an_object, known_only}

-- a version that the output defines, with the place of its parent
unfoldable pub version_definition_in : Data → Result VersionDefinition (List ℕ)
version_definition_in d = do
  whole ← an_object d
  name ← field (codes "name") hex_in [] d
  parent ← field (codes "parent") (nullable u64_in) None d
  all_known ← known_only (codes "name" ∷ codes "parent" ∷ []) d
  Ok (record { name = name; parent = parent })

-- a version needed from a library, with the index that symbols use for it
unfoldable pub needed_version_in : Data → Result NeededVersion (List ℕ)
needed_version_in d = do
  whole ← an_object d
  name ← field (codes "name") hex_in [] d
  index ← field (codes "index") u16_in 0 d
  all_known ← known_only (codes "name" ∷ codes "index" ∷ []) d
  Ok (record { name = name; index = index })

-- the versions needed from a library, and whether this is the last library with versions
unfoldable pub version_needs_in : Data → Result VersionNeeds (List ℕ)
version_needs_in d = do
  whole ← an_object d
  final ← field (codes "last") bool_in false d
  versions ← field (codes "versions") (list_in needed_version_in) [] d
  all_known ← known_only (codes "last" ∷ codes "versions" ∷ []) d
  Ok (record { last = final; versions = versions })
