-- The groups of `workers.rt`, and the symbols of `frames.rt`.
use Rattle.std.specs.Prelude.{ℕ, zero, suc, ◌==◌, if◌then◌else◌, Option, Some, None}
use Rattle.wild_frames.specs.declared.frames.Target.{Target}
use Rattle.wild_frames.specs.declared.frames.Target.TheVariants as target

-- the relocations that the three groups read
abbrev pub relocations_of_group : ℕ → ℕ
relocations_of_group zero = 2
relocations_of_group (suc zero) = 0
relocations_of_group (suc (suc n)) = 5

-- what the symbol of a relocation of frames is
abbrev pub symbol_target : Option ℕ → Target
symbol_target None = target.NoSection
symbol_target (Some n) = if n == 0 then target.Discarded else target.Loaded
