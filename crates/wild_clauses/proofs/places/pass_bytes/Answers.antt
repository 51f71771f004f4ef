use Rattle.std.proofs.Common.{◌-◌, inl, inr, arith}
use Rattle.wild_plan_rules.proofs.BlockLemmas.{at_part_in, at_part_out}
use Rattle.wild_clauses.proofs.places.pass_bytes.Goals as goal
use Rattle.wild_clauses.proofs.places.pass_bytes.Goals.{then-section-cursors-via-then-section-cursors, then-section-cursors-via-else-section-cursors+then-from-behind}

pub returns-then-section-cursors : goal.returns-then-section-cursors
returns-then-section-cursors c =
    let s = c.args.section.now in
    let out = at_part_out c.args.part (s.part - c.args.part) c.args.ends.now c.args.cursors.now s c.requires (omega arith) (omega arith) in
    elim c.then-section-cursors.branch [
      | then-section-cursors-via-then-section-cursors w ↦ out (inl (omega arith))
      | then-section-cursors-via-else-section-cursors+then-from-behind w ↦ out (inr (omega arith))
    ]

pub returns : goal.returns
returns c =
    let s = c.args.section.now in
    at_part_in c.args.part (s.part - c.args.part) c.args.ends.now c.args.cursors.now s c.requires (omega arith) (omega arith) (omega arith) (omega arith)
