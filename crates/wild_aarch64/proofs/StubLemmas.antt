-- Stubs jump to the words in their slots, thunks to their targets.
use Rattle.std.proofs.Common.{◌≡◌, ℕ, ◌+◌, ◌-◌, ◌*◌, ◌/◌, ◌%◌, ◌^◌, ◌≤◌, List, [], ◌++◌, Some, ap, ◌∙◌, arith}
use Rattle.wild_aarch64.specs.Slice.{signed}
use Rattle.wild_aarch64.specs.Machine.{sum_64, page, meaning, jump_to, jump_through}
use Rattle.wild_aarch64.specs.Template.{step_of, sized_step}
use Rattle.wild_aarch64.specs.Row.{distance, Within}
use Rattle.wild_aarch64.specs.Stub.{stub, marked_stub, thunk, HasSlot, IsLocatedAt, StubsJump, MarkedStubsJump, ThunksReach, StubsAreSteps, MarkedStubsAreSteps, ThunksAreSteps}
use Rattle.wild_aarch64.proofs.NumberLemmas.{near_pages, page_goes, low_goes, slot_ahead}
use Rattle.wild_aarch64.proofs.WrittenLemmas.{adrp_word, ldr_word, add_word}
use Rattle.wild_aarch64.proofs.RunLemmas.{stub_runs, marked_stub_runs, thunk_runs}

stub_does : (base p g : ℕ) (rest : List ℕ) → HasSlot p g → IsLocatedAt base p g
    → (meaning (base + p) (stub p g) ≡ Some (jump_through (base + g))) × (step_of (base + p) (stub p g ++ rest) ≡ Some (sized_step 4 (jump_through (base + g))))
stub_does base p g rest h s =
    let x = (g - page p) / 4096 in
    let y = (g - page p) % 4096 / 8 in
    let code = s.code in
    stub_runs (base + p) _ _ (signed 33 (x % 2 ^ 21 * 4096)) (y % 2 ^ 12 * 8) (base + g) rest (adrp_word 16 x (omega arith)) (ldr_word 17 16 y (omega arith) (omega arith))
    (slot_ahead base p g s.pages h.from h.near h.aligned (omega arith) s.top)

marked_stub_does : (base p g : ℕ) (rest : List ℕ) → HasSlot (p + 4) g → IsLocatedAt base p g
    → (meaning (base + p) (marked_stub p g) ≡ Some (jump_through (base + g))) × (step_of (base + p) (marked_stub p g ++ rest) ≡ Some (sized_step 4 (jump_through (base + g))))
marked_stub_does base p g rest h s =
    let x = (g - page (p + 4)) / 4096 in
    let y = (g - page (p + 4)) % 4096 / 8 in
    let code = s.code in
    let at : base + p + 4 ≡ base + (p + 4) = omega arith in
    marked_stub_runs (base + p) _ _ (signed 33 (x % 2 ^ 21 * 4096)) (y % 2 ^ 12 * 8) (base + g) rest (adrp_word 16 x (omega arith)) (ldr_word 17 16 y (omega arith) (omega arith))
    (rw at (slot_ahead base (p + 4) g s.pages h.from h.near h.aligned (omega arith) s.top))

thunk_does : (base p t : ℕ) (rest : List ℕ) → Within (2 ^ 32) (page p) (page t) → base % 4096 ≡ 0 → base + p + 12 ≤ 2 ^ 64
    → (meaning (base + p) (thunk p t) ≡ Some (jump_to ((base + t) % 2 ^ 64))) × (step_of (base + p) (thunk p t ++ rest) ≡ Some (sized_step 3 (jump_to ((base + t) % 2 ^ 64))))
thunk_does base p t rest w pages code =
    let x = distance (page p) (page t) / 4096 % 2 ^ 21 in
    let y = t % 4096 in
    let goes = page_goes base p t pages (near_pages p t (omega (arith, code)) w) in
    let one : sum_64 (page (base + p)) (signed 33 (x % 2 ^ 21 * 4096)) ≡ (base + page t) % 2 ^ 64 = ap (λ (i : ℕ). sum_64 (page (base + p)) (signed 33 (i * 4096))) (omega arith) ∙ goes in
    thunk_runs (base + p) _ _ (signed 33 (x % 2 ^ 21 * 4096)) (y % 2 ^ 12) ((base + t) % 2 ^ 64) rest (adrp_word 16 x (omega arith)) (add_word 16 16 y (omega arith) (omega arith))
    (ap (λ (i : ℕ). sum_64 i (y % 2 ^ 12)) one ∙ low_goes base t)

pub stubs_jump : StubsJump
stubs_jump base p g h s = (stub_does base p g [] h s).0

pub marked_stubs_jump : MarkedStubsJump
marked_stubs_jump base p g h s = (marked_stub_does base p g [] h s).0

pub thunks_reach : ThunksReach
thunks_reach base p t w pages code = (thunk_does base p t [] w pages code).0

pub stubs_are_steps : StubsAreSteps
stubs_are_steps base p g rest h s = (stub_does base p g rest h s).1

pub marked_stubs_are_steps : MarkedStubsAreSteps
marked_stubs_are_steps base p g rest h s = (marked_stub_does base p g rest h s).1

pub thunks_are_steps : ThunksAreSteps
thunks_are_steps base p t rest w pages code = (thunk_does base p t rest w pages code).1
