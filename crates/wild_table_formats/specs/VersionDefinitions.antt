-- The versions that the output defines (LSB, "Version Definitions"). The first of them is that of the output itself.
--   verdef_of soname i last d          the record of version i
--   verdauxes_of names d i             the records of its names: its own, then its parent's
--   definition_table names soname ds   the bytes of all versions
use Rattle.std.specs.Prelude.{ℕ, ◌+◌, ◌==◌, Bool, if◌then◌else◌, List, [], ◌∷◌, ◌++◌, Option, Some, None}
use Rattle.std.specs.List.{flat_map}
use Rattle.wild_words.specs.Record.{spell}
use Rattle.wild_records.specs.Abi.Version.{ver_def_current, ver_flg_base}
use Rattle.wild_records.specs.Hashes.{sysv_hash}
use Rattle.wild_records.specs.Verdefs.{verdef_size, verdaux_size, verdef_fields, verdaux_fields}
use Rattle.wild_records.specs.declared.verdefs.Verdef.{Verdef}
use Rattle.wild_records.specs.declared.verdefs.Verdaux.{Verdaux}
use Rattle.wild_types.specs.declared.layout.VersionDefinition.{VersionDefinition}
use Rattle.wild_needs.specs.Versions.{definition_size}
use Rattle.wild_table_formats.specs.VersionChain.{chain, next_of, name_at}

-- the number of names of a version (LSB, vd_cnt)
abbrev pub names_of : Option ℕ → ℕ
names_of None = 1
names_of (Some p) = 2

-- the name of version i: for version 0 the soname, if there is one (LSB, VER_FLG_BASE)
abbrev pub version_name : Option (List ℕ) → ℕ → List ℕ → List ℕ
version_name None i name = name
version_name (Some soname) i name = if i == 0 then soname else name

-- the record of version i
abbrev pub verdef_of : Option (List ℕ) → ℕ → Bool → VersionDefinition → Verdef
verdef_of soname i last d = record {
  version = ver_def_current;
  flags = if i == 0 then ver_flg_base else 0;
  index = i + 1;
  count = names_of d.parent;
  hash = sysv_hash (version_name soname i d.name);
  aux = verdef_size;
  next = next_of last (definition_size d);
}

-- its own name, and after it its parent's if it has a parent
abbrev pub verdauxes_with : List ℕ → ℕ → Option ℕ → List Verdaux
verdauxes_with names i None = record { name = name_at names i; next = 0 } ∷ []
verdauxes_with names i (Some p) = record { name = name_at names i; next = verdaux_size } ∷ record { name = name_at names p; next = 0 } ∷ []

abbrev pub verdauxes_of : List ℕ → ℕ → VersionDefinition → List Verdaux
verdauxes_of names i d = verdauxes_with names i d.parent

-- the bytes of the records of names
abbrev pub verdaux_bytes : List Verdaux → List ℕ
verdaux_bytes xs = flat_map (λ (x : Verdaux). spell (verdaux_fields x)) xs

-- the bytes of a version and of its names
abbrev pub definition_bytes : List ℕ → Option (List ℕ) → ℕ → Bool → VersionDefinition → List ℕ
definition_bytes names soname i last d = spell (verdef_fields (verdef_of soname i last d)) ++ verdaux_bytes (verdauxes_of names i d)

-- the bytes of all versions; names are the offsets of their names in .dynstr
abbrev pub definition_table : List ℕ → Option (List ℕ) → List VersionDefinition → List ℕ
definition_table names soname ds = chain (definition_bytes names soname) 0 ds
