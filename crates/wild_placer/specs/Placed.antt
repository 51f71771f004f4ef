-- Memories of layouts that are placed side by side.
--   Placements            the next number, and each live placement with its memory
--   IsLive p n m          placement n is live and has that memory
--   HasByte m a           memory has a byte at an address; IsFree p a  no live placement has one
--   IsByte p a b          a live placement has the byte b there
--   IsFirstTaken p m a    the first byte of a memory that a live placement has
--   AreApart p            no two live placements have a byte at one address
--   IsAdded p m n q       n is the next number, and q has the memory in addition, under that number
--   IsPlacedAs .., PlaceFails ..  the answers of `place`
use Rattle.std.specs.Prelude.{◌≡◌, ℕ, ◌+◌, ◌-◌, ◌^◌, ◌<◌, ◌==◌, if◌then◌else◌, List, [], ◌∷◌, ◌++◌, Some, None, IsSome, Ok, Err}
use Rattle.wild_types.specs.declared.layout.Layout.{Layout}
use Rattle.wild_loader.specs.declared.memory.Memory.{Memory}
use Rattle.wild_loader.specs.declared.world.World.{World}
use Rattle.wild_loader.specs.Changes.{first_value}
use Rattle.wild_loader.specs.Memory.{byte_in}
use Rattle.wild_placer.specs.declared.fault.PlaceFault.{PlaceFault}
use Rattle.wild_placer.specs.declared.fault.PlaceFault.TheVariants as faults
use Rattle.wild_placer.specs.Place.{layout_memory}

-- the next number, and each live placement with its memory, in the order of their numbers
pub record Placements : Type 0 where
  pub next : ℕ
  pub live : List (ℕ × Memory)

-- the pairs without the first one of a number
abbrev pub without : ℕ → List (ℕ × Memory) → List (ℕ × Memory)
without n [] = []
without n (p ∷ ps) = if p.0 == n then ps else p ∷ without n ps

-- placement n is live and has that memory
abbrev pub IsLive : Placements → ℕ → Memory → Type 0
IsLive p n m = first_value p.live n ≡ Some m

-- memory has a byte at an address
abbrev pub HasByte : Memory → ℕ → Type 0
HasByte m a = IsSome (byte_in m a)

-- no live placement has a byte there
abbrev pub IsFree : Placements → ℕ → Type 0
IsFree p a = (n : ℕ) (m : Memory) → IsLive p n m → byte_in m a ≡ None

-- a live placement has the byte b there
pub record IsByte (p : Placements) (a b : ℕ) : Type 0 where
  pub number : ℕ
  pub memory : Memory
  pub live : IsLive p number memory
  pub byte : byte_in memory a ≡ Some b

-- the first byte of a memory that a live placement has
pub record IsFirstTaken (p : Placements) (m : Memory) (a : ℕ) : Type 0 where
  pub own : HasByte m a
  pub byte : ℕ
  pub taken : IsByte p a byte
  pub first : (b : ℕ) → b < a → HasByte m b → IsFree p b

-- no two live placements have a byte at one address
abbrev pub AreApart : Placements → Type 0
AreApart p = (a n k : ℕ) (m q : Memory) → IsLive p n m → IsLive p k q → HasByte m a → HasByte q a → n ≡ k

-- ---- a memory is added

-- n is the next number, and q has the memory in addition, under that number
pub record IsAdded (p : Placements) (m : Memory) (n : ℕ) (q : Placements) : Type 0 where
  pub number : n ≡ p.next
  pub few : n < 2 ^ 32 - 1
  pub free : (a : ℕ) → HasByte m a → IsFree p a
  pub after : q ≡ record { next = p.next + 1; live = p.live ++ (p.next, m) ∷ [] }

-- why a memory is not added
abbrev pub AddFails : PlaceFault → Placements → Memory → Type 0
AddFails faults.OutOfMemory p m = Unit {0}
AddFails (faults.Taken a) p m = IsFirstTaken p m a
AddFails fault p m = ⊥

-- ---- a layout is placed

-- the layout's memory in a world is added
pub record IsPlacedAs (p : Placements) (l : Layout) (w : World) (n : ℕ) (q : Placements) : Type 0 where
  pub memory : Memory
  pub is : layout_memory l w ≡ Ok memory
  pub added : IsAdded p memory n q

-- a memory that cannot be added
pub record IsNotAdded (fault : PlaceFault) (p : Placements) (l : Layout) (w : World) : Type 0 where
  pub memory : Memory
  pub is : layout_memory l w ≡ Ok memory
  pub fails : AddFails fault p memory

-- why a layout is not placed, unless memory runs out: there are too many placements; or the layout has no memory in that world;
-- or a live placement has one of its bytes
abbrev pub PlaceFails : PlaceFault → Placements → Layout → World → Type 0
PlaceFails faults.OutOfMemory p l w = Unit {0}
PlaceFails faults.Full p l w = p.next ≡ 2 ^ 32 - 1
PlaceFails (faults.Taken a) p l w = IsNotAdded (faults.Taken a) p l w
PlaceFails (faults.NoSuch n) p l w = ⊥
PlaceFails fault p l w = layout_memory l w ≡ Err fault
