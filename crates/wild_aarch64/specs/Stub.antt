-- The words of stubs and thunks, and their targets.
--   stub p g, marked_stub p g   the stub at p that jumps to the address in the GOT entry at g; the same with a landing pad
--   thunk p t                   the thunk at p that jumps to t
--   StubsJump, ThunksReach      they do so at every load base
--   StubsAreSteps, ..           each is one step
use Rattle.std.specs.Prelude.{◌≡◌, ℕ, ◌+◌, ◌-◌, ◌/◌, ◌%◌, ◌^◌, ◌<◌, ◌≤◌, List, [], ◌∷◌, ◌++◌, Some}
use Rattle.wild_aarch64.specs.Immediate.{Imm12, Imm21, word_with_immediate}
use Rattle.wild_aarch64.specs.Machine.{page, meaning, jump_to, jump_through}
use Rattle.wild_aarch64.specs.Template.{step_of, sized_step}
use Rattle.wild_aarch64.specs.Row.{distance, Within}

-- `adrp x16; ldr x17, [x16]; br x17`, for a GOT entry k bytes after the start of the first word's page
abbrev pub jump_to_slot : ℕ → List ℕ
jump_to_slot k = word_with_immediate Imm21 (k / 4096) 0x90000010 ∷ word_with_immediate Imm12 (k % 4096 / 8) 0xf9400211 ∷ 0xd61f0220 ∷ []

-- the same, followed by `nop`
abbrev pub stub : ℕ → ℕ → List ℕ
stub p g = jump_to_slot (g - page p) ++ (0xd503201f ∷ [])

-- the same after `bti c`, without `nop`
abbrev pub marked_stub : ℕ → ℕ → List ℕ
marked_stub p g = 0xd503245f ∷ jump_to_slot (g - page (p + 4))

-- `adrp x16; add x16, x16; br x16`
abbrev pub thunk : ℕ → ℕ → List ℕ
thunk p t = word_with_immediate Imm21 (distance (page p) (page t) / 4096 % 2 ^ 21) 0x90000010 ∷ word_with_immediate Imm12 (t % 4096) 0x91000210 ∷ 0xd61f0200 ∷ []

-- the address of the GOT entry is a multiple of 8, and less than 2^32 after the start of the code's page
pub record HasSlot (p g : ℕ) : Type 0 where
  pub from : page p ≤ g
  pub near : g < page p + 2 ^ 32
  pub aligned : g % 8 ≡ 0

-- the load base is a multiple of the page size; there, three words of code at p end at 2^64 at the latest, and g is below 2^64
pub record IsLocatedAt (base p g : ℕ) : Type 0 where
  pub pages : base % 4096 ≡ 0
  pub code : base + p + 12 ≤ 2 ^ 64
  pub top : base + g < 2 ^ 64

abbrev pub StubsJump : Type 0
StubsJump = (base p g : ℕ) → HasSlot p g → IsLocatedAt base p g → meaning (base + p) (stub p g) ≡ Some (jump_through (base + g))

abbrev pub MarkedStubsJump : Type 0
MarkedStubsJump = (base p g : ℕ) → HasSlot (p + 4) g → IsLocatedAt base p g → meaning (base + p) (marked_stub p g) ≡ Some (jump_through (base + g))

-- the distance from a thunk's page to its target's page is at least -2^32 and less than 2^32; the target is modulo 2^64
abbrev pub ThunksReach : Type 0
ThunksReach = (base p t : ℕ) → Within (2 ^ 32) (page p) (page t) → base % 4096 ≡ 0 → base + p + 12 ≤ 2 ^ 64 → meaning (base + p) (thunk p t) ≡ Some (jump_to ((base + t) % 2 ^ 64))

-- each is one step, whatever words come after
abbrev pub StubsAreSteps : Type 0
StubsAreSteps = (base p g : ℕ) (rest : List ℕ) → HasSlot p g → IsLocatedAt base p g → step_of (base + p) (stub p g ++ rest) ≡ Some (sized_step 4 (jump_through (base + g)))

abbrev pub MarkedStubsAreSteps : Type 0
MarkedStubsAreSteps = (base p g : ℕ) (rest : List ℕ) → HasSlot (p + 4) g → IsLocatedAt base p g → step_of (base + p) (marked_stub p g ++ rest) ≡ Some (sized_step 4 (jump_through (base + g)))

abbrev pub ThunksAreSteps : Type 0
ThunksAreSteps = (base p t : ℕ) (rest : List ℕ) → Within (2 ^ 32) (page p) (page t) → base % 4096 ≡ 0 → base + p + 12 ≤ 2 ^ 64
    → step_of (base + p) (thunk p t ++ rest) ≡ Some (sized_step 3 (jump_to ((base + t) % 2 ^ 64)))
