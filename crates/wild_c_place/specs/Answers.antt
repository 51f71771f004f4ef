-- What `wild_place` answers.
--   memory_bytes m        the bytes of the loaded segments, one after another
--   place_status c w n    the status of writing them into n bytes
--   HasMemory r out       those bytes are the ones of the memory that was made
--   SaysFault f r         the struct says the first fault of the layout
--   SaysLoadFault f r     the struct says why the image is not loaded
--   IsSoundMemory ..      those bytes are the ones of a memory in which each reference of a kept item holds
use Rattle.std.specs.Prelude.{◌≡◌, ℕ, ◌==◌, Bool, true, false, ◌⊎◌, if◌then◌else◌, List, length, Result, Ok, Err}
use Rattle.std.specs.List.{flat_map}
use Rattle.wild_types.specs.declared.layout.Layout.{Layout}
use Rattle.wild_loader.specs.declared.memory.Memory.{Memory}
use Rattle.wild_loader.specs.declared.memory.Run.{Run}
use Rattle.wild_loader.specs.declared.world.World.{World}
use Rattle.wild_placer.specs.Laws.{IsPlacedSoundly}
use Rattle.wild_placer.specs.Place.{layout_memory}
use Rattle.wild_placer.specs.declared.fault.PlaceFault.{PlaceFault}
use Rattle.wild_placer.specs.declared.fault.PlaceFault.TheVariants as faults
use Rattle.wild_c_layout.specs.FaultOf.{fault_of}
use Rattle.wild_c_layout.specs.LayoutOf.{is_layout, layout_of}
use Rattle.wild_c_layout.specs.declared.fault.CFault.{CFault}
use Rattle.wild_c_layout.specs.declared.layout.CLayout.{CLayout}
use Rattle.wild_c_place.specs.LoadFaultOf.{load_fault_of}
use Rattle.wild_c_place.specs.WorldOf.{world_of}
use Rattle.wild_c_place.specs.declared.load_fault.CLoadFault.{CLoadFault}
use Rattle.wild_c_place.specs.declared.world.CWorld.{CWorld}

-- the memory was written
abbrev pub written : ℕ
written = 0

-- the layout has a fault
abbrev pub refused : ℕ
refused = 1

-- the structs represent no layout
abbrev pub no_layout : ℕ
no_layout = 3

-- out of memory
abbrev pub no_memory : ℕ
no_memory = 6

-- the size of the buffer is not that of the memory
abbrev pub wrong_size : ℕ
wrong_size = 8

-- the loader does not load the image
abbrev pub not_placed : ℕ
not_placed = 10

-- the status, or out of memory
abbrev pub IsAnswer : ℕ → ℕ → Type 0
IsAnswer result s = (result ≡ s) ⊎ (result ≡ no_memory)

abbrev pub run_bytes : Run → List ℕ
run_bytes r = r.bytes

-- the bytes of the loaded segments
abbrev pub memory_bytes : Memory → List ℕ
memory_bytes m = flat_map run_bytes m.runs

-- the status of a layout's memory, or of why there is none, for a buffer of n bytes
abbrev pub memory_status : Result Memory PlaceFault → ℕ → ℕ
memory_status (Ok m) n = if n == length (memory_bytes m) then written else wrong_size
memory_status (Err (faults.Write e)) n = refused
memory_status (Err (faults.Load f)) n = not_placed
memory_status (Err other) n = no_memory

-- the status for structs that represent a layout, which has that status, or none
abbrev pub struct_status : Bool → ℕ → ℕ
struct_status false s = no_layout
struct_status true s = s

-- the memory of the layout in the world, or the first fault
abbrev pub struct_memory : CLayout → CWorld → Result Memory PlaceFault
struct_memory c w = layout_memory (layout_of c) (world_of w)

-- the status of writing the memory into n bytes
abbrev pub place_status : CLayout → CWorld → ℕ → ℕ
place_status c w n = struct_status (is_layout c) (memory_status (struct_memory c w) n)

-- the bytes are those of the memory that was made
abbrev pub HasMemory : Result Memory PlaceFault → List ℕ → Type 0
HasMemory (Ok m) out = out ≡ memory_bytes m
HasMemory (Err fault) out = ⊥

-- the struct says the first fault of the layout
abbrev pub SaysFault : CFault → Result Memory PlaceFault → Type 0
SaysFault f (Err (faults.Write e)) = f ≡ fault_of e
SaysFault f other = ⊥

-- the struct says why the image is not loaded
abbrev pub SaysLoadFault : CLoadFault → Result Memory PlaceFault → Type 0
SaysLoadFault f (Err (faults.Load g)) = f ≡ load_fault_of g
SaysLoadFault f other = ⊥

-- The bytes are those of a memory of the layout. There each reference of a kept item holds, and every other byte is as it should be.
pub record IsSoundMemory (l : Layout) (w : World) (out : List ℕ) : Type 0 where
  pub memory : Memory
  pub shown : out ≡ memory_bytes memory
  pub sound : IsPlacedSoundly l w memory
