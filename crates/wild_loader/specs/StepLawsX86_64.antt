-- Statements about the definition of steps: the effects of known instructions in memory of an x86-64 image.
--   CallsAreRead, JumpsAreRead          to an address; CallsAreNear: the converse, from effect to bytes
--   SlotCallsAreRead, SlotJumpsAreRead  to the address in a word
--   StubsAreRead                        a stub is a jump to the address in its slot
--   StepsAreMeant                       the effect at an address is the meaning of the bytes there; StepsAreLongest: no longer
--                                       template matches there
use Rattle.std.specs.Prelude.{◌≡◌, ℕ, ◌+◌, ◌-◌, ◌%◌, ◌^◌, ◌<◌, ◌≤◌, ◌⊎◌, List, [], ◌∷◌, ◌++◌, length, true, Some, Contains}
use Rattle.wild_words.specs.Words.{word, number}
use Rattle.wild_loader.specs.declared.memory.Machine.TheVariants as machines
use Rattle.wild_loader.specs.declared.memory.Memory.{Memory}
use Rattle.wild_loader.specs.declared.effect.Value.TheVariants as values
use Rattle.wild_loader.specs.Memory.{byte_in, number_in, Holds}
use Rattle.wild_loader.specs.declared.effect.Effect as running
use Rattle.wild_loader.specs.declared.instruction.Deed.TheVariants.{Call, Jump}
use Rattle.wild_loader.specs.Instruction.{Template, Reader, matches_cells, signed_32}
use Rattle.wild_loader.specs.InstructionX86_64.{templates_x86_64, effect_x86_64}
use Rattle.wild_loader.specs.Effect.{step, step_x86_64}
use Rattle.wild_loader.specs.StepLaws.{ReadsMemory, effect_read_by}

-- `e8 rel32` in memory of an x86-64 image is a call
abbrev pub CallsAreRead : Type 0
CallsAreRead = (m : Memory) (a : ℕ) (field : List ℕ) → m.machine ≡ machines.X86_64 → length field ≡ 4 → Holds m a (0xe8 ∷ field)
    → step m a ≡ Some (record { length = 5; width = 64; deed = Call; value = values.Number ((a + 5 + signed_32 (number field)) % 2 ^ 64) })

-- the same, if the field is the four low bytes of a value
abbrev pub CallsOfValuesAreRead : Type 0
CallsOfValuesAreRead = (m : Memory) (a v : ℕ) → m.machine ≡ machines.X86_64 → Holds m a (0xe8 ∷ word 4 v)
    → step m a ≡ Some (record { length = 5; width = 64; deed = Call; value = values.Number ((a + 5 + signed_32 (v % 2 ^ 32)) % 2 ^ 64) })

-- conversely, a call of five bytes is `e8 rel32`
abbrev pub CallsAreNear : Type 0
CallsAreNear = (m : Memory) (a target : ℕ) → m.machine ≡ machines.X86_64 → step m a ≡ Some (record { length = 5; width = 64; deed = Call; value = values.Number target })
    → (byte_in m a ≡ Some 0xe8) × (displacement : ℕ) × (number_in m (a + 1) 4 ≡ Some displacement) × ((a + 5 + signed_32 displacement) % 2 ^ 64 ≡ target)

-- `e9 rel32` is a jump
abbrev pub JumpsAreRead : Type 0
JumpsAreRead = (m : Memory) (a : ℕ) (field : List ℕ) → m.machine ≡ machines.X86_64 → length field ≡ 4 → Holds m a (0xe9 ∷ field)
    → step m a ≡ Some (record { length = 5; width = 64; deed = Jump; value = values.Number ((a + 5 + signed_32 (number field)) % 2 ^ 64) })

-- `ff 15 disp32` is a call to the address in the word that the displacement names
abbrev pub SlotCallsAreRead : Type 0
SlotCallsAreRead = (m : Memory) (a v : ℕ) (field : List ℕ) → m.machine ≡ machines.X86_64 → length field ≡ 4 → Holds m a (0xff ∷ 0x15 ∷ field)
    → number_in m ((a + 6 + signed_32 (number field)) % 2 ^ 64) 8 ≡ Some v
    → step m a ≡ Some (record { length = 6; width = 64; deed = Call; value = values.Number v })

-- `ff 25 disp32` is a jump to that address
abbrev pub SlotJumpsAreRead : Type 0
SlotJumpsAreRead = (m : Memory) (a v : ℕ) (field : List ℕ) → m.machine ≡ machines.X86_64 → length field ≡ 4 → Holds m a (0xff ∷ 0x25 ∷ field)
    → number_in m ((a + 6 + signed_32 (number field)) % 2 ^ 64) 8 ≡ Some v
    → step m a ≡ Some (record { length = 6; width = 64; deed = Jump; value = values.Number v })

-- the bytes of a stub with a displacement (x86-64 psABI, "Procedure Linkage Table")
abbrev pub stub_bytes : List ℕ → List ℕ
stub_bytes field = 0xf3 ∷ 0x0f ∷ 0x1e ∷ 0xfa ∷ 0xf2 ∷ 0xff ∷ 0x25 ∷ (field ++ (0x0f ∷ 0x1f ∷ 0x44 ∷ 0x00 ∷ 0x00 ∷ []))

-- a stub is a jump to the address in its slot; the displacement is the distance from the stub's eleventh byte to the slot
abbrev pub StubsAreRead : Type 0
StubsAreRead = (m : Memory) (a v : ℕ) (field : List ℕ) → m.machine ≡ machines.X86_64 → length field ≡ 4 → Holds m a (stub_bytes field)
    → number_in m ((a + 11 + signed_32 (number field)) % 2 ^ 64) 8 ≡ Some v
    → step m a ≡ Some (record { length = 16; width = 64; deed = Jump; value = values.Number v })

-- a signed number of 32 bits, modulo 2^64
abbrev pub IsSigned32 : ℕ → Type 0
IsSigned32 d = (d < 2 ^ 31) ⊎ ((2 ^ 64 - 2 ^ 31 ≤ d) × (d < 2 ^ 64))

-- the same, if the displacement is a value that fits in four bytes
abbrev pub StubsOfValuesAreRead : Type 0
StubsOfValuesAreRead = (m : Memory) (a displacement v : ℕ) → m.machine ≡ machines.X86_64 → IsSigned32 displacement → Holds m a (stub_bytes (word 4 displacement))
    → number_in m ((a + 11 + displacement) % 2 ^ 64) 8 ≡ Some v
    → step m a ≡ Some (record { length = 16; width = 64; deed = Jump; value = values.Number v })

-- ---- any code

-- an effect at an address is the meaning of the bytes there, as many as its length says
pub record HasMeaning (m : Memory) (a : ℕ) (e : running.Effect) : Type 0 where
  pub bytes : List ℕ
  pub held : Holds m a bytes
  pub long : length bytes ≡ e.length
  pub means : (read : Reader) → ReadsMemory m read → effect_x86_64 read a bytes ≡ effect_read_by read e

-- every effect at an address has this property
abbrev pub StepsAreMeant : Type 0
StepsAreMeant = (m : Memory) (a : ℕ) (e : running.Effect) → step_x86_64 m a ≡ Some e → HasMeaning m a e

-- no template that matches the bytes there is longer
abbrev pub StepsAreLongest : Type 0
StepsAreLongest = (m : Memory) (a : ℕ) (e : running.Effect) (t : Template) (bs : List ℕ) → step_x86_64 m a ≡ Some e → Contains templates_x86_64 t → Holds m a bs → matches_cells t.cells bs ≡ true → length t.cells ≤ e.length
