-- The code that is written has the effect that is required.
use Rattle.std.specs.Prelude.{◌≡◌, ℕ, ◌+◌, ◌%◌, ◌^◌, ◌<◌, true, Some}
use Rattle.wild_loader.specs.Instruction.{jump_through}
use Rattle.wild_loader.specs.InstructionX86_64.{meaning_x86_64}
use Rattle.wild_slot.specs.Stub.{stub_x86_64}

-- a stub that reaches its slot jumps to the address in that slot, at any base
abbrev pub StubsJump : Type 0
StubsJump = (base slot stub : ℕ) → slot < 2 ^ 64 → stub < 2 ^ 64 → (stub_x86_64 slot stub).reaches ≡ true
    → meaning_x86_64 (base + stub) (stub_x86_64 slot stub).bytes ≡ Some (jump_through ((base + slot) % 2 ^ 64))
