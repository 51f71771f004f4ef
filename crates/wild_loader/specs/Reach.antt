-- Where execution continues.
--   jump_target e          where execution continues after an effect; none if it is no jump
--   Reaches m a v     execution that starts at a reaches v
use Rattle.std.specs.Prelude.{◌≡◌, ℕ, zero, suc, ◌⊎◌, Option, Some, None}
use Rattle.wild_loader.specs.declared.memory.Memory.{Memory}
use Rattle.wild_loader.specs.declared.effect.Effect.{Effect}
use Rattle.wild_loader.specs.declared.effect.Value.{Value}
use Rattle.wild_loader.specs.declared.effect.Value.TheVariants as values
use Rattle.wild_loader.specs.declared.instruction.Deed.{Deed}
use Rattle.wild_loader.specs.declared.instruction.Deed.TheVariants.{Jump}
use Rattle.wild_loader.specs.Effect.{step}

abbrev pub goal_of : Deed → Value → Option ℕ
goal_of Jump (values.Number b) = Some b
goal_of other v = None

-- where execution continues after an effect
abbrev pub jump_target : Effect → Option ℕ
jump_target e = goal_of e.deed e.value

-- one jump leads from a to b
pub record JumpsTo (m : Memory) (a b : ℕ) : Type 0 where
  pub effect : Effect
  pub known : step m a ≡ Some effect
  pub jump : jump_target effect ≡ Some b

-- at most n jumps lead from a to v
abbrev pub ReachesWithin : ℕ → Memory → ℕ → ℕ → Type 0
ReachesWithin zero m a v = a ≡ v
ReachesWithin (suc n) m a v = (a ≡ v) ⊎ ((b : ℕ) × JumpsTo m a b × ReachesWithin n m b v)

-- execution that starts at a reaches v: a is v, or a stub, possibly after a thunk, leads to it (x86-64 psABI, "Procedure Linkage
-- Table")
abbrev pub Reaches : Memory → ℕ → ℕ → Type 0
Reaches m a v = ReachesWithin 2 m a v
