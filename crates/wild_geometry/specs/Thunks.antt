-- Thunks in memory: the result of loading an image, from which branches through them are proved.
--   HasThunk l w m t   memory has a thunk, which reaches its target
--   HasThunks l w m    it has each thunk of each block
use Rattle.std.specs.Prelude.{◌≡◌, ℕ, ◌+◌, true, List, Ok, Contains}
use Rattle.wild_types.specs.declared.layout.Thunk.{Thunk}
use Rattle.wild_types.specs.declared.layout.Layout.{Layout}
use Rattle.wild_relax.specs.ThunkAArch64.{thunk_aarch64}
use Rattle.wild_layout.specs.Thunks.{thunk_target}
use Rattle.wild_loader.specs.declared.memory.Memory.{Memory}
use Rattle.wild_loader.specs.declared.world.World.{World}
use Rattle.wild_loader.specs.Memory.{Holds}

-- the thunk has a target, reaches it, and is at its address plus the base
pub record HasThunk (l : Layout) (w : World) (m : Memory) (t : Thunk) : Type 0 where
  pub target : ℕ
  pub known : thunk_target l t ≡ Ok target
  pub reaches : (thunk_aarch64 t.address target).reaches ≡ true
  pub stands : Holds m (w.base + t.address) (thunk_aarch64 t.address target).bytes

-- each thunk
abbrev pub HasThunks : Layout → World → Memory → Type 0
HasThunks l w m = (b : List Thunk) (t : Thunk) → Contains l.thunk_blocks b → Contains b t → HasThunk l w m t
