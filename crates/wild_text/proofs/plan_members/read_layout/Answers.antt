use Rattle.std.proofs.Common.{refl}
use Rattle.wild_text.proofs.PlanMemberLemmas.{plan_read}
use Rattle.wild_text.proofs.plan_members.read_layout.Goals as goal

pub returns : goal.returns
returns c =
    let opens = rw c.in_ok-reader.ensures.ok at (c.if-not-open_object.ensures.open refl) in
    let all = c.in-Ok.ensures in
    plan_read c.args.text.now c.open_object.new.reader c.read_object.new.reader all.0 c.in-Ok.members c.in_ok-layout.layout opens all.1 all.2 (c.if-not-is_end.ensures refl) c.in_ok-layout.ensures
