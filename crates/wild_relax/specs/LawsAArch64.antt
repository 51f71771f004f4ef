-- The code that is written for AArch64 has the effect that is required.
--   StubsOfAArch64Jump   a stub jumps to the address in its slot
--   ThunksReach          a thunk jumps to its target
use Rattle.std.specs.Prelude.{◌≡◌, ℕ, ◌+◌, ◌%◌, ◌^◌, ◌≤◌, Bool, true, Some}
use Rattle.wild_aarch64.specs.Machine.{meaning, jump_to, jump_through}
use Rattle.wild_aarch64.specs.Effect.{words_of}
use Rattle.wild_aarch64.specs.Stub.{IsLocatedAt}
use Rattle.wild_slot.specs.StubAArch64.{stub_aarch64}
use Rattle.wild_relax.specs.ThunkAArch64.{thunk_aarch64}

-- a stub that reaches its slot, a multiple of 8, jumps to the address in the slot, at every base that is a multiple of the page
-- size
abbrev pub StubsOfAArch64Jump : Type 0
StubsOfAArch64Jump = (base slot stub : ℕ) (bti : Bool) → (stub_aarch64 slot stub bti).reaches ≡ true → slot % 8 ≡ 0 → IsLocatedAt base stub slot
    → meaning (base + stub) (words_of (stub_aarch64 slot stub bti).bytes) ≡ Some (jump_through (base + slot))

-- a thunk that reaches its target jumps there, at every such base; the target is computed modulo 2^64
abbrev pub ThunksReach : Type 0
ThunksReach = (base thunk target : ℕ) → (thunk_aarch64 thunk target).reaches ≡ true → base % 4096 ≡ 0 → base + thunk + 12 ≤ 2 ^ 64
    → meaning (base + thunk) (words_of (thunk_aarch64 thunk target).bytes) ≡ Some (jump_to ((base + target) % 2 ^ 64))
