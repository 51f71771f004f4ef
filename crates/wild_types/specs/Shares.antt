-- A group's share of the part of a role.
--   part_of l r               the index of the part of that role; the number of parts if there is none
--   share_of l group r        the group's share of it
--   insufficient part group has needed, excessive ..   the group's share of the part is smaller, or larger, than the bytes that it has to hold
use Rattle.std.specs.Prelude.{ℕ, ◌+◌, if◌then◌else◌, List, [], ◌∷◌, Option, Some, None, slice_get}
use Rattle.wild_types.specs.declared.part.Part.{Part}
use Rattle.wild_types.specs.declared.part.Role.{Role}
use Rattle.wild_types.specs.declared.fault.Error.{Error}
use Rattle.wild_types.specs.declared.fault.Fault.TheVariants as faults
use Rattle.wild_types.specs.declared.file.Group.{Group}
use Rattle.wild_types.specs.declared.layout.Layout.{Layout}
use Rattle.wild_types.specs.FilePlaces.{given}
use Rattle.wild_types.specs.Faults.{nowhere}
use Rattle.wild_types.specs.Parts.{has_role}

-- the index of the first part of a role; the number of parts if there is none
abbrev pub part_of_role : Role → ℕ → List Part → ℕ
part_of_role r i [] = i
part_of_role r i (p ∷ ps) = if has_role r p then i else part_of_role r (i + 1) ps

-- the index of the part of the role
abbrev pub part_of : Layout → Role → ℕ
part_of l r = part_of_role r 0 l.parts

abbrev pub given_by : ℕ → Option Group → ℕ
given_by part None = 0
given_by part (Some g) = given part g

-- the group's share of the part of a role
abbrev pub share_of : Layout → ℕ → Role → ℕ
share_of l group r = given_by (part_of l r) (slice_get l.groups group)

-- the share is smaller than the bytes that it has to hold
abbrev pub insufficient : ℕ → ℕ → ℕ → ℕ → Error
insufficient part group has needed = record { fault = faults.InsufficientAllocation part group has needed; at = nowhere }

-- the share is larger than the bytes that it has to hold
abbrev pub excessive : ℕ → ℕ → ℕ → ℕ → Error
excessive part group has needed = record { fault = faults.ExcessiveAllocation part group has needed; at = nowhere }
