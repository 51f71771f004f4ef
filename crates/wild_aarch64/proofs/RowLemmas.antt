-- Each row keeps the effect.
use Rattle.std.proofs.Common.{◌≡◌, ℕ, ◌+◌, ◌*◌, ◌/◌, ◌%◌, ◌^◌, ◌<◌, Some, sym, ap, subst, ◌∙◌, arith}
use Rattle.wild_aarch64.proofs.ListLemmas.{for_each}
use Rattle.wild_aarch64.specs.declared.operand.Operand.TheVariants.{Number}
use Rattle.wild_aarch64.specs.Slice.{bits, signed}
use Rattle.wild_aarch64.specs.Immediate.{Imm16, Imm21, insert_bits, word_with_immediate}
use Rattle.wild_aarch64.specs.Machine.{sum_64, page}
use Rattle.wild_aarch64.specs.Row.{rows, call_to_offset, call_to_slot, slot_to_offset, address_to_near, distance, IsNear}
use Rattle.wild_aarch64.specs.Laws.{RowKeeps, RowsKeep, RowIsStep, RowsAreSteps}
use Rattle.wild_aarch64.proofs.NumberLemmas.{page_goes, slot_goes, near_goes, halves}
use Rattle.wild_aarch64.proofs.WrittenLemmas.{adrp_word, adr_word, movz_word, movk_word, ldr_word}
use Rattle.wild_aarch64.proofs.RunLemmas.{demands_call, demands_slot, demands_address, halves_run, halves_run_behind, load_runs_behind, near_runs_behind, offset_steps_behind, load_steps_behind, halves_step, near_steps_behind}

call_to_offset_keeps : RowKeeps call_to_offset
call_to_offset_keeps r ws reader numbers base a x v low high old t =
    let i = x % 2 ^ 32 / 2 ^ 16 in
    let k = x % 2 ^ 16 in
    let reads : reader (Number (i % 2 ^ 16 * 2 ^ 16 / 2 ^ 16 * 2 ^ 16 + k % 2 ^ 16)) ≡ Some v = ap (λ (n : ℕ). reader (Number n)) (halves x t.0) ∙ (numbers x ∙ ap (λ (n : ℕ). Some n) (sym t.1)) in
    halves_run_behind reader (base + a) _ _ (i % 2 ^ 16) (k % 2 ^ 16) v (movz_word 0 i (omega arith)) (movk_word 0 k (omega arith)) reads ∙ sym (demands_call r v (base + a) ws low high old)

call_to_slot_keeps : RowKeeps call_to_slot
call_to_slot_keeps r ws reader numbers base a x v low high old t =
    let place : base + (a + 4 + 4) ≡ base + a + 4 + 4 = omega arith in
    let at : a + 8 ≡ a + 4 + 4 = omega arith in
    let near : IsNear (2 ^ 32) (page (a + 4 + 4)) (page x) = subst (λ (i : ℕ). IsNear (2 ^ 32) (page i) (page x)) at t.1 in
    let goes = page_goes base (a + 4 + 4) x t.0.pages near in
    let i = distance (page (a + 4 + 4)) (page x) % 2 ^ 33 / 2 ^ 12 in
    let j = signed 33 (i % 2 ^ 21 * 4096) in
    let k = x % 2 ^ 12 / 2 ^ 3 in
    let first : sum_64 (page (base + a + 4 + 4)) j ≡ (base + page x) % 2 ^ 64 = ap (λ (n : ℕ). sum_64 (page n) j) (sym place) ∙ goes in
    load_runs_behind reader (base + a) _ _ j (k % 2 ^ 12 * 8) ((base + x) % 2 ^ 64) v (adrp_word 0 i (omega arith)) (ldr_word 0 0 k (omega arith) (omega arith))
    (ap (λ (n : ℕ). sum_64 n (k % 2 ^ 12 * 8)) first ∙ slot_goes base x t.0.aligned) t.0.slot
    ∙ sym (demands_call r v (base + a) ws low high old)

slot_to_offset_keeps : RowKeeps slot_to_offset
slot_to_offset_keeps r ws reader numbers base a x v low high old t =
    let i = x % 2 ^ 32 / 2 ^ 16 in
    let k = x % 2 ^ 16 in
    let reads : reader (Number (i % 2 ^ 16 * 2 ^ 16 / 2 ^ 16 * 2 ^ 16 + k % 2 ^ 16)) ≡ Some v = ap (λ (n : ℕ). reader (Number n)) (halves x t.0) ∙ (numbers x ∙ ap (λ (n : ℕ). Some n) (sym t.1)) in
    halves_run reader r (base + a) _ _ (i % 2 ^ 16) (k % 2 ^ 16) v high (movz_word r i (omega arith)) (movk_word r k (omega arith)) reads ∙ sym (demands_slot r v (base + a) ws high old)

address_to_near_keeps : RowKeeps address_to_near
address_to_near_keeps r ws reader numbers base a x v low high old t =
    let place : base + (a + 4) ≡ base + a + 4 = omega arith in
    let j = signed 21 (distance (a + 4) x % 2 ^ 21 % 2 ^ 21) in
    let to = (base + x) % 2 ^ 64 in
    near_runs_behind reader r (base + a) _ j to v high (adr_word r (distance (a + 4) x % 2 ^ 21) (omega arith)) (ap (λ (i : ℕ). sum_64 i j) (sym place) ∙ near_goes base (a + 4) x t.1) (numbers to ∙ ap (λ (i : ℕ). Some i) (sym t.0))
    ∙ sym (demands_address r v (base + a) ws high old)

pub rows_keep : RowsKeep
rows_keep row c = for_each RowKeeps rows (call_to_offset_keeps, (call_to_slot_keeps, (slot_to_offset_keeps, (address_to_near_keeps, tt)))) row c

-- ---- each is one step

movk_sets : (r x : ℕ) → r < 32 → bits 0 5 (word_with_immediate Imm16 x (0xf2800000 + r)) ≡ r
unfolding insert_bits
movk_sets r x h = omega arith

adr_sets : (r x : ℕ) → r < 32 → bits 0 5 (word_with_immediate Imm21 x (0x10000000 + r)) ≡ r
unfolding insert_bits
adr_sets r x h = omega arith

call_to_offset_steps : RowIsStep call_to_offset
call_to_offset_steps r b a x rest low high =
    let i = x % 2 ^ 32 / 2 ^ 16 in
    let k = x % 2 ^ 16 in
    offset_steps_behind b _ _ (i % 2 ^ 16) (k % 2 ^ 16) rest (movz_word 0 i (omega arith)) (movk_word 0 k (omega arith))

call_to_slot_steps : RowIsStep call_to_slot
call_to_slot_steps r b a x rest low high =
    let i = distance (page (a + 4 + 4)) (page x) % 2 ^ 33 / 2 ^ 12 in
    let k = x % 2 ^ 12 / 2 ^ 3 in
    load_steps_behind b _ _ (signed 33 (i % 2 ^ 21 * 4096)) (k % 2 ^ 12 * 8) rest (adrp_word 0 i (omega arith)) (ldr_word 0 0 k (omega arith) (omega arith))

slot_to_offset_steps : RowIsStep slot_to_offset
slot_to_offset_steps r b a x rest low high =
    let i = x % 2 ^ 32 / 2 ^ 16 in
    let k = x % 2 ^ 16 in
    halves_step r b _ _ (i % 2 ^ 16) (k % 2 ^ 16) rest high (movz_word r i (omega arith)) (movk_word r k (omega arith)) (movk_sets r k (omega arith))

address_to_near_steps : RowIsStep address_to_near
address_to_near_steps r b a x rest low high =
    let i = distance (a + 4) x % 2 ^ 21 in
    near_steps_behind r b _ (signed 21 (i % 2 ^ 21)) rest high (adr_word r i (omega arith)) (adr_sets r i (omega arith))

pub rows_are_steps : RowsAreSteps
rows_are_steps row c = for_each RowIsStep rows (call_to_offset_steps, (call_to_slot_steps, (slot_to_offset_steps, (address_to_near_steps, tt)))) row c
