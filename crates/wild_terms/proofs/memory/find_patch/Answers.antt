use Rattle.std.proofs.Common.{◌-◌, leb, sym, ◌∙◌, arith, rules}
use Rattle.std.proofs.lemmas.List.Sorted.{IsPartitionPoint-from_clause, IsPartitionedBy-leb}
use Rattle.wild_terms.specs.declared.load.TermPatch.{TermPatch}
use Rattle.wild_terms.proofs.PatchLemmas.{rising, covering_at, covering_no, no_patch}
use Rattle.wild_terms.proofs.memory.find_patch.Goals as goal

pub returns-then-after-eq0 : goal.returns-then-after-eq0
returns-then-after-eq0 c =
    let parted = IsPartitionPoint-from_clause (λ (p : TermPatch). leb p.place c.args.address) _ _ c.partition_point-after.ensures.partitioned (IsPartitionedBy-leb (λ (p : TermPatch). p.place) _ c.args.address (rising _ c.requires)) (λ a r q k. search rules) in
    let none = c.if-after-eq0.true in
    sym (covering_no c.args.patches.now c.args.address c.partition_point-after.result no_patch c.requires c.partition_point-after.ensures.bound parted (λ some. absurd (omega (arith, some, none))))

pub returns-then-is_covered : goal.returns-then-is_covered
returns-then-is_covered c =
    let few = c.partition_point-after.ensures.bound in
    let some = c.if-after-eq0.false in
    sym (covering_at c.args.patches.now (c.partition_point-after.result - 1) c.args.address _ c.requires (omega (arith, few, some)) (sym c.is_covered.ensures ∙ c.if-is_covered.true))

pub returns-else-is_covered : goal.returns-else-is_covered
returns-else-is_covered c =
    let few = c.partition_point-after.ensures.bound in
    let parted = IsPartitionPoint-from_clause (λ (p : TermPatch). leb p.place c.args.address) _ _ c.partition_point-after.ensures.partitioned (IsPartitionedBy-leb (λ (p : TermPatch). p.place) _ c.args.address (rising _ c.requires)) (λ a r q k. search rules) in
    sym (covering_no c.args.patches.now c.args.address c.partition_point-after.result _ c.requires few parted (λ some. sym c.is_covered.ensures ∙ c.if-is_covered.false))
