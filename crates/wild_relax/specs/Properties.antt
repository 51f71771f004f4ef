-- Joining the program properties of inputs (x86-64 psABI, "Program Property"; aaelf64, "Program Property").
--   classes m            ranges of property types, each with its class
--   property_class m t   the class of a type; none if it is in no range
use Rattle.std.specs.Prelude.{ℕ, ◌&&◌, Option, Some, None, if◌then◌else◌, List, [], ◌∷◌, nat_le}
use Rattle.wild_types.specs.declared.kind.Machine.{Machine}
use Rattle.wild_types.specs.declared.kind.Machine.TheVariants as machine
use Rattle.wild_relax.specs.declared.property.PropertyClass.{PropertyClass}
use Rattle.wild_relax.specs.declared.property.PropertyClass.TheVariants as class

-- the types from a first to a last one
pub record Range : Type 0 where
  pub first : ℕ
  pub last : ℕ
  pub class : PropertyClass

abbrev pub classes : Machine → List Range
classes machine.X86_64 =
    record { first = 0xb0000000; last = 0xb0007fff; class = class.And }
    ∷ record { first = 0xb0008000; last = 0xb000ffff; class = class.Or }
    ∷ record { first = 0xc0000002; last = 0xc0007fff; class = class.And }
    ∷ record { first = 0xc0008000; last = 0xc000ffff; class = class.Or }
    ∷ record { first = 0xc0010000; last = 0xc0017fff; class = class.AndOr }
    ∷ []
classes machine.AArch64 = record { first = 0xc0000000; last = 0xc0000000; class = class.And } ∷ []

abbrev pub class_in : List Range → ℕ → Option PropertyClass
class_in [] t = None
class_in (r ∷ rs) t = if nat_le r.first t && nat_le t r.last then Some r.class else class_in rs t

-- the class of a type; none if it is in no range
unfoldable pub property_class : Machine → ℕ → Option PropertyClass
property_class m t = class_in (classes m) t
