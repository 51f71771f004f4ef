-- Statements about the definition of steps: the effects of known runs of words in memory of an AArch64 image.
--   StubsAreRead, MarkedStubsAreRead, ThunksAreRead   a stub is a jump to the address in its slot, a thunk a jump to its target
--   RunsAreMeant                                      the effect at an address is the meaning of the words there
--   JumpsReach                                        code that jumps reaches its target, on either machine
use Rattle.std.specs.Prelude.{◌≡◌, ℕ, ◌+◌, ◌%◌, ◌^◌, ◌≤◌, List, length, Some}
use Rattle.std.specs.List.{flat_map}
use Rattle.wild_words.specs.Words.{word}
use Rattle.wild_aarch64.specs.Machine.{page}
use Rattle.wild_aarch64.specs.Row.{Within}
use Rattle.wild_aarch64.specs.Stub.{stub, marked_stub, thunk, HasSlot, IsLocatedAt}
use Rattle.wild_loader.specs.declared.memory.Machine.TheVariants as machines
use Rattle.wild_loader.specs.declared.memory.Memory.{Memory}
use Rattle.wild_loader.specs.declared.effect.Effect.{Effect}
use Rattle.wild_loader.specs.declared.effect.Value.TheVariants as values
use Rattle.wild_loader.specs.declared.instruction.Operand.TheVariants.{Offset}
use Rattle.wild_loader.specs.declared.instruction.Deed.TheVariants.{Jump}
use Rattle.wild_loader.specs.Memory.{number_in, Holds}
use Rattle.wild_loader.specs.Changes.{first_value}
use Rattle.wild_loader.specs.Instruction.{Reader}
use Rattle.wild_loader.specs.InstructionAArch64.{effect_aarch64}
use Rattle.wild_loader.specs.Effect.{step, step_aarch64}
use Rattle.wild_loader.specs.Reach.{Reaches, jump_target}
use Rattle.wild_loader.specs.StepLaws.{ReadsMemory, effect_read_by}

-- the bytes of words of code
abbrev pub bytes_of_words : List ℕ → List ℕ
bytes_of_words ws = flat_map (word 4) ws

-- code of n bytes that jumps to an address
abbrev pub jumps : ℕ → ℕ → Effect
jumps size v = record { length = size; width = 64; deed = Jump; value = values.Number v }

-- at every page-aligned base a stub is a jump to the address in its slot
abbrev pub StubsAreRead : Type 0
StubsAreRead = (m : Memory) (base p g v : ℕ) → m.machine ≡ machines.AArch64 → HasSlot p g → IsLocatedAt base p g → Holds m (base + p) (bytes_of_words (stub p g)) → number_in m (base + g) 8 ≡ Some v
    → step m (base + p) ≡ Some (jumps 16 v)

-- the same after a landing pad
abbrev pub MarkedStubsAreRead : Type 0
MarkedStubsAreRead = (m : Memory) (base p g v : ℕ) → m.machine ≡ machines.AArch64 → HasSlot (p + 4) g → IsLocatedAt base p g → Holds m (base + p) (bytes_of_words (marked_stub p g)) → number_in m (base + g) 8 ≡ Some v
    → step m (base + p) ≡ Some (jumps 16 v)

-- a thunk is a jump to its target, which is computed modulo 2^64
abbrev pub ThunksAreRead : Type 0
ThunksAreRead = (m : Memory) (base p t : ℕ) → m.machine ≡ machines.AArch64 → Within (2 ^ 32) (page p) (page t) → base % 4096 ≡ 0 → base + p + 12 ≤ 2 ^ 64 → Holds m (base + p) (bytes_of_words (thunk p t))
    → step m (base + p) ≡ Some (jumps 12 ((base + t) % 2 ^ 64))

-- a descriptor reads as the offset that was noted for it
abbrev pub ReadsDescriptors : Memory → Reader → Type 0
ReadsDescriptors m read = (a : ℕ) → read (Offset a) ≡ first_value m.descriptors a

-- an effect at an address is the meaning of the bytes there, as many as its length says
pub record IsRun (m : Memory) (a : ℕ) (e : Effect) : Type 0 where
  pub bytes : List ℕ
  pub held : Holds m a bytes
  pub long : length bytes ≡ e.length
  pub means : (read : Reader) → ReadsMemory m read → ReadsDescriptors m read → effect_aarch64 read a bytes ≡ effect_read_by read e

-- every effect at an address has this property
abbrev pub RunsAreMeant : Type 0
RunsAreMeant = (m : Memory) (a : ℕ) (e : Effect) → step_aarch64 m a ≡ Some e → IsRun m a e

-- code that jumps to an address reaches it
abbrev pub JumpsReach : Type 0
JumpsReach = (m : Memory) (a v : ℕ) (e : Effect) → step m a ≡ Some e → jump_target e ≡ Some v → Reaches m a v
