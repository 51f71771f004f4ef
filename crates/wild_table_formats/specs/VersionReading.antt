-- What a reader of the tables finds (LSB, "Symbol Versioning").
--   names_from whole n at         n names of a version, the first record at offset at
--   definitions_from whole n at   at most n versions that are defined, the first record at offset at
--   needed_from whole n at        n versions that are needed of a library
--   needs_from whole n at         at most n libraries
-- The reader adds the distance in each record to find the next one, and ends where that distance is 0.
use Rattle.std.specs.Prelude.{ℕ, zero, suc, ◌+◌, ◌==◌, if◌then◌else◌, List, [], ◌∷◌}
use Rattle.wild_records.specs.Verdefs.{verdef_at, verdaux_at}
use Rattle.wild_records.specs.Verneeds.{verneed_at, vernaux_at}
use Rattle.wild_records.specs.declared.verdefs.Verdef.{Verdef}
use Rattle.wild_records.specs.declared.verneeds.Vernaux.{Vernaux}

-- ---- definitions

-- a version that is defined: its flags, its index, the hash of its name, and the offsets of its names in the string table
pub record FoundDefinition : Type 0 where
  pub flags : ℕ
  pub index : ℕ
  pub hash : ℕ
  pub names : List ℕ

-- a name and the following ones
unfoldable pub names_from : List ℕ → ℕ → ℕ → List ℕ
names_from whole zero at = []
names_from whole (suc n) at =
    (verdaux_at whole at).name ∷ (if (verdaux_at whole at).next == 0 then [] else names_from whole n (at + (verdaux_at whole at).next))

abbrev pub defined : Verdef → List ℕ → FoundDefinition
defined d names = record { flags = d.flags; index = d.index; hash = d.hash; names = names }

abbrev pub defined_at : List ℕ → ℕ → FoundDefinition
defined_at whole at = defined (verdef_at whole at) (names_from whole (verdef_at whole at).count (at + (verdef_at whole at).aux))

-- a version and the following ones
unfoldable pub definitions_from : List ℕ → ℕ → ℕ → List FoundDefinition
definitions_from whole zero at = []
definitions_from whole (suc n) at =
    defined_at whole at ∷ (if (verdef_at whole at).next == 0 then [] else definitions_from whole n (at + (verdef_at whole at).next))

-- ---- needs

-- a version that is needed: the hash of its name, its flags, its index, and the offset of its name in the string table
pub record FoundNeed : Type 0 where
  pub hash : ℕ
  pub flags : ℕ
  pub index : ℕ
  pub name : ℕ

-- a library: the offset of its name, and the versions that are needed of it
pub record Library : Type 0 where
  pub file : ℕ
  pub versions : List FoundNeed

abbrev pub needed : Vernaux → FoundNeed
needed v = record { hash = v.hash; flags = v.flags; index = v.index; name = v.name }

-- a version and the following ones
unfoldable pub needed_from : List ℕ → ℕ → ℕ → List FoundNeed
needed_from whole zero at = []
needed_from whole (suc n) at =
    needed (vernaux_at whole at) ∷ (if (vernaux_at whole at).next == 0 then [] else needed_from whole n (at + (vernaux_at whole at).next))

abbrev pub library_at : List ℕ → ℕ → Library
library_at whole at = record { file = (verneed_at whole at).file; versions = needed_from whole (verneed_at whole at).count (at + (verneed_at whole at).aux) }

-- a library and the following ones
unfoldable pub needs_from : List ℕ → ℕ → ℕ → List Library
needs_from whole zero at = []
needs_from whole (suc n) at =
    library_at whole at ∷ (if (verneed_at whole at).next == 0 then [] else needs_from whole n (at + (verneed_at whole at).next))
