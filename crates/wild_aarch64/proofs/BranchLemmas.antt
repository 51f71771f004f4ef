-- Branches go where their words demand.
use Rattle.std.proofs.Common.{ℕ, ◌+◌, ◌*◌, ◌%◌, ◌^◌, List, [], ◌∷◌, Some, sym, ap, ◌∙◌, arith}
use Rattle.wild_aarch64.proofs.ListLemmas.{for_each}
use Rattle.wild_aarch64.specs.declared.code.Code.TheVariants.{BranchIf}
use Rattle.wild_aarch64.specs.Slice.{Fixed, is, Form, form, signed}
use Rattle.wild_aarch64.specs.Forms.{branch, call}
use Rattle.wild_aarch64.specs.Immediate.{bits_outside, Imm14, Imm19, Imm26}
use Rattle.wild_aarch64.specs.Row.{branches, branch_bits, distance}
use Rattle.wild_aarch64.specs.Laws.{FieldIsWritten, BranchKeeps, BranchesKeep}
use Rattle.wild_aarch64.proofs.NumberLemmas.{branch_goes, condition_goes, test_goes}
use Rattle.wild_aarch64.proofs.FieldLemmas.{form_is_read, b_field, bl_field, b_cond_field, cbz_32_field, cbz_64_field, tbz_low_field, tbz_high_field}
use Rattle.wild_aarch64.proofs.RunLemmas.{demands_b, demands_bl, demands_condition, b_runs, bl_runs, condition_runs}

b_keeps : BranchKeeps branch
b_keeps w reader numbers base a x v s t =
    let goes = branch_goes base a x t.near t.start t.goal in
    let to = (base + x) % 2 ^ 64 in
    let reads = numbers to ∙ ap (λ (i : ℕ). Some i) (sym t.placed) in
    b_runs reader (base + a) _ _ to v (b_field w (branch_bits Imm26 (distance a x)) s) goes reads ∙ sym (demands_b v (base + a) w _ (form_is_read branch b_field w s))

bl_keeps : BranchKeeps call
bl_keeps w reader numbers base a x v s t =
    let goes = branch_goes base a x t.near t.start t.goal in
    let to = (base + x) % 2 ^ 64 in
    let reads = numbers to ∙ ap (λ (i : ℕ). Some i) (sym t.placed) in
    bl_runs reader (base + a) _ _ to v (bl_field w (branch_bits Imm26 (distance a x)) s) goes reads ∙ sym (demands_bl v (base + a) w _ (form_is_read call bl_field w s))

-- conditional branches of 19 and of 14 bits
abbrev far : List Fixed → Form
far fixed = form fixed Imm19 (λ w i. BranchIf (bits_outside Imm19 w) (signed 21 (i * 4)))

abbrev near : List Fixed → Form
near fixed = form fixed Imm14 (λ w i. BranchIf (bits_outside Imm14 w) (signed 16 (i * 4)))

far_keeps : (fixed : List Fixed) → FieldIsWritten (far fixed) → BranchKeeps (far fixed)
far_keeps fixed h w reader numbers base a x v s t =
    let goes = condition_goes base a x t.near t.start t.goal in
    let to = (base + x) % 2 ^ 64 in
    let reads = numbers to ∙ ap (λ (i : ℕ). Some i) (sym t.placed) in
    condition_runs reader (base + a) _ (bits_outside Imm19 w) _ to v (h w (branch_bits Imm19 (distance a x)) s) goes reads
    ∙ sym (demands_condition v (base + a) w (bits_outside Imm19 w) _ (form_is_read (far fixed) h w s))

near_keeps : (fixed : List Fixed) → FieldIsWritten (near fixed) → BranchKeeps (near fixed)
near_keeps fixed h w reader numbers base a x v s t =
    let goes = test_goes base a x t.near t.start t.goal in
    let to = (base + x) % 2 ^ 64 in
    let reads = numbers to ∙ ap (λ (i : ℕ). Some i) (sym t.placed) in
    condition_runs reader (base + a) _ (bits_outside Imm14 w) _ to v (h w (branch_bits Imm14 (distance a x)) s) goes reads
    ∙ sym (demands_condition v (base + a) w (bits_outside Imm14 w) _ (form_is_read (near fixed) h w s))

pub branches_keep : BranchesKeep
branches_keep f c =
    let b_cond = far_keeps (is 26 3 5 ∷ is 26 6 21 ∷ is 24 2 0 ∷ is 4 1 0 ∷ []) b_cond_field in
    let cbz_32 = far_keeps (is 26 3 5 ∷ is 26 6 13 ∷ is 25 1 0 ∷ []) cbz_32_field in
    let cbz_64 = far_keeps (is 26 3 5 ∷ is 26 6 45 ∷ is 25 1 0 ∷ []) cbz_64_field in
    let tbz_low = near_keeps (is 26 3 5 ∷ is 26 6 13 ∷ is 25 1 1 ∷ []) tbz_low_field in
    let tbz_high = near_keeps (is 26 3 5 ∷ is 26 6 45 ∷ is 25 1 1 ∷ []) tbz_high_field in
    for_each BranchKeeps branches (b_keeps, (bl_keeps, (b_cond, (cbz_32, (cbz_64, (tbz_low, (tbz_high, tt))))))) f c
