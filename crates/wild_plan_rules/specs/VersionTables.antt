-- Versions: how many there are, the parents of those that the output defines, and which library's are the last (LSB, "Symbol
-- Versioning").
--   parent_is_there l d    the version's parent is in the list
--   definition_astray l    the first version whose parent does not fit
--   mark_astray n i gs     the first group with a library that is wrongly marked, or wrongly not marked, as the last; n is the
--                          number of libraries with versions from there on
--   versions_agree l       there is a part for the versions of symbols exactly if the option requires it
use Rattle.std.specs.Prelude.{ℕ, ◌+◌, ◌-◌, ◌==◌, Bool, true, ◌&&◌, if◌then◌else◌, nat_lt, List, [], ◌∷◌, length, Option, Some, None, is_some}
use Rattle.std.specs.List.{filter, list_any}
use Rattle.wild_types.specs.declared.part.Role.TheVariants as role
use Rattle.wild_types.specs.declared.file.VersionNeeds.{VersionNeeds}
use Rattle.wild_types.specs.declared.file.File.{File}
use Rattle.wild_types.specs.declared.file.Group.{Group}
use Rattle.wild_types.specs.declared.layout.VersionDefinition.{VersionDefinition}
use Rattle.wild_types.specs.declared.layout.Layout.{Layout}
use Rattle.wild_types.specs.FilePlaces.{bool_eq}
use Rattle.wild_types.specs.Lists.{through}
use Rattle.wild_types.specs.Parts.{has_role}
use Rattle.wild_needs.specs.Versions.{needs_of, has_needs}

-- ---- versions that the output defines

abbrev pub is_below : ℕ → Option ℕ → Bool
is_below n None = true
is_below n (Some p) = nat_lt p n

-- the version's parent is in the list
abbrev pub parent_is_there : Layout → VersionDefinition → Bool
parent_is_there l d = is_below (length l.verdefs) d.parent

-- the first version is the output's own name and has no parent; a later version's parent, if any, comes before it and is not the
-- first
abbrev pub parent_fits : ℕ → Option ℕ → Bool
parent_fits i None = true
parent_fits i (Some p) = nat_lt 0 p && nat_lt p i

-- the first, from number i on, whose parent does not fit
abbrev pub parent_astray : ℕ → List VersionDefinition → Option ℕ
parent_astray i [] = None
parent_astray i (d ∷ ds) = if parent_fits i d.parent then parent_astray (i + 1) ds else Some i

-- place 0 if there is none, else the first whose parent does not fit
abbrev pub some_definition : List VersionDefinition → Option ℕ
some_definition [] = Some 0
some_definition (d ∷ ds) = parent_astray 0 (d ∷ ds)

-- the same if there is a part for versions
abbrev pub definition_astray : Layout → Option ℕ
definition_astray l = if list_any (has_role role.GnuVersionD) l.parts then some_definition l.verdefs else None

-- ---- the last library with versions

-- if this many libraries with versions remain, only the last is marked
abbrev pub mark_fits : ℕ → VersionNeeds → Bool
mark_fits left n = bool_eq n.last (left == 1)

abbrev pub mark_by : ℕ → Option VersionNeeds → Option ℕ
mark_by left None = Some left
mark_by left (Some n) = if mark_fits left n then Some (left - 1) else None

-- how many remain after a file; none if its mark does not fit
abbrev pub mark_step : ℕ → File → Option ℕ
mark_step left f = mark_by left (needs_of f)

abbrev pub needs_in : Group → ℕ
needs_in g = length (filter has_needs g.files)

-- the first group with a mark that does not fit
abbrev pub mark_astray : ℕ → ℕ → List Group → Option ℕ
mark_astray left i [] = None
mark_astray left i (g ∷ gs) = if is_some (through mark_step left g.files) then mark_astray (left - needs_in g) (i + 1) gs else Some i

-- ---- the option

abbrev pub versions_agree : Layout → Bool
versions_agree l = bool_eq l.options.versions (list_any (has_role role.GnuVersion) l.parts)
