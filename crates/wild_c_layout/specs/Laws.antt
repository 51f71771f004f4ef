-- Properties of the layouts and faults that structs represent.
use Rattle.std.specs.Prelude.{◌≡◌, ℕ, ◌<◌, Option, Some, None}
use Rattle.wild_types.specs.Lookups.{image_size}
use Rattle.wild_types.specs.Parts.{role_place}
use Rattle.wild_types.specs.ResolvedFlags.{HaveTheirFlags}
use Rattle.wild_types.specs.declared.fault.At.{At}
use Rattle.wild_types.specs.declared.fault.Error.{Error}
use Rattle.wild_types.specs.declared.fault.Fault.TheVariants.{OutOfMemory}
use Rattle.wild_types.specs.declared.part.Role.{Role}
use Rattle.wild_c_layout.specs.Codes.{role_of}
use Rattle.wild_c_layout.specs.ErrorOf.{error_of}
use Rattle.wild_c_layout.specs.FaultOf.{fault_of}
use Rattle.wild_c_layout.specs.LayoutOf.{layout_of, frame_of}
use Rattle.wild_c_layout.specs.Values.{absent}
use Rattle.wild_c_layout.specs.declared.layout.CLayout.{CLayout}

-- options, parts and sections determine the size of the image
abbrev pub FramesHaveTheSize : Type 0
FramesHaveTheSize = (c : CLayout) → image_size (frame_of c) ≡ image_size (layout_of c)

-- each resolution has its symbol's flags
abbrev pub ResolutionsHaveTheirFlags : Type 0
ResolutionsHaveTheirFlags = (c : CLayout) → HaveTheirFlags (layout_of c)

-- the number of each role is its index in the list of roles
abbrev pub RolesHaveTheirIndexes : Type 0
RolesHaveTheirIndexes = (r : Role) → role_of (role_place r) ≡ r

-- a number that is there is below the one that says that there is none
abbrev pub IsBelowAbsent : Option ℕ → Type 0
IsBelowAbsent None = Unit {0}
IsBelowAbsent (Some n) = n < absent

-- the numbers of a place are below the one that says that there is none
pub record HasNumbers (at : At) : Type 0 where
  pub group : IsBelowAbsent at.group
  pub file : IsBelowAbsent at.file
  pub section : IsBelowAbsent at.section
  pub offset : IsBelowAbsent at.offset

-- the struct of a fault says that fault
abbrev pub StructsKeepFaults : Type 0
StructsKeepFaults = (e : Error) → HasNumbers e.at → (e.fault ≡ OutOfMemory → ⊥) → error_of (fault_of e) ≡ Some e
