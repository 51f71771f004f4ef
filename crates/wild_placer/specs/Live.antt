-- Live placements and the runs that are listed for them.
--   byte_in_memory memory a      the byte at an address of a memory, if there is one
--   HoldsRun memory a r          the memory has the listed run, which begins at the address
--   ArePlaced next memories runs the runs are those of the live memories, whose numbers are below the next one
use Rattle.std.specs.Prelude.{◌≡◌, ℕ, ◌+◌, ◌<◌, ◌≤◌, length, Option, Some, None, slice_get}
use Rattle.wild_loader.specs.declared.memory.Memory.{Memory}
use Rattle.wild_loader.specs.declared.memory.Run.{Run}
use Rattle.wild_loader.specs.Memory.{byte_in}
use Rattle.wild_placer.specs.declared.index.LoadedRun.{LoadedRun}
use Rattle.wild_placer.specs.Index.{Runs, AreSeparate}
use Rattle.wild_placer.specs.Listed.{entry_of}

-- the live memory with a number
abbrev pub Memories : Type 0
Memories = ℕ → Option Memory

-- the byte at an address of a memory, if there is one
abbrev pub byte_in_memory : Option Memory → ℕ → Option ℕ
byte_in_memory None a = None
byte_in_memory (Some m) a = byte_in m a

abbrev pub IsRun : Option Run → ℕ → LoadedRun → Type 0
IsRun None a listed = ⊥
IsRun (Some r) a listed = (r.start ≡ a) × (listed.end ≡ a + length r.bytes)

-- the memory has the listed run, which begins at the address
abbrev pub HoldsRun : Option Memory → ℕ → LoadedRun → Type 0
HoldsRun None a listed = ⊥
HoldsRun (Some m) a listed = IsRun (slice_get m.runs listed.index) a listed

-- numbers are below the next one, and the listed runs are the runs with bytes of the live memories; no two share a byte
pub record ArePlaced (next : ℕ) (memories : Memories) (runs : Runs) : Type 0 where
  pub numbers : (n : ℕ) (m : Memory) → memories n ≡ Some m → n < next
  pub listed : (n i : ℕ) (m : Memory) (r : Run) → memories n ≡ Some m → slice_get m.runs i ≡ Some r → 1 ≤ length r.bytes → runs r.start ≡ Some (entry_of n i r)
  pub held : (a : ℕ) (r : LoadedRun) → runs a ≡ Some r → HoldsRun (memories r.number) a r
  pub separate : AreSeparate runs
