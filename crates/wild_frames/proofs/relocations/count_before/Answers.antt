use Rattle.std.proofs.Common.{◌≤◌, subst}
use Rattle.wild_types.specs.declared.input.InputRelocation.{InputRelocation}
use Rattle.wild_frames.proofs.RelocationLemmas.{cut_at}
use Rattle.wild_frames.proofs.relocations.count_before.Goals as goal

pub returns-then-relocation-end-clause-own : goal.returns-then-relocation-end-clause-own
returns-then-relocation-end-clause-own c =
    let above = subst (λ (r : InputRelocation). c.args.end ≤ r.offset) c.index-rest-i.is c.if-relocation-end.true in
    (cut_at c.args.end c.loop-i.i c.args.rest.now c.index-rest-i.result c.requires c.loop-i-test.true above c.loop-i.invariant).own

pub returns-then-relocation-end-clause-later : goal.returns-then-relocation-end-clause-later
returns-then-relocation-end-clause-later c =
    let above = subst (λ (r : InputRelocation). c.args.end ≤ r.offset) c.index-rest-i.is c.if-relocation-end.true in
    (cut_at c.args.end c.loop-i.i c.args.rest.now c.index-rest-i.result c.requires c.loop-i-test.true above c.loop-i.invariant).behind
