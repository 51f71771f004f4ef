use Rattle.wild_debug.proofs.FaultLemmas.{passed_none, passed_bytes, failed_bytes}
use Rattle.wild_debug.proofs.apply.answer.Goals as goal

pub returns-in-Ok-clause-faults : goal.returns-in-Ok-clause-faults
returns-in-Ok-clause-faults g c =
    let l = c.args.step.now.resolved.now.layout.now in
    let s = c.args.step.now.section.now in
    passed_none l c.args.place.group c.args.place.file c.args.place.section s c.args.origins.now s.bytes c.args._out.now (rw c.in-Ok.is at c.requires.came)

pub returns-in-Ok-clause-bytes : goal.returns-in-Ok-clause-bytes
returns-in-Ok-clause-bytes g c = passed_bytes c.args.step.now.resolved.now.layout.now c.args.step.now.section.now c.args._out.now (rw c.in-Ok.is at c.requires.came)

pub returns-in-Err-clause-bytes : goal.returns-in-Err-clause-bytes
returns-in-Err-clause-bytes g c =
    let l = c.args.step.now.resolved.now.layout.now in
    let s = c.args.step.now.section.now in
    failed_bytes l c.args.place.group c.args.place.file c.args.place.section s c.args.origins.now s.bytes _ c.first_fault.result _ c.requires.origins (rw c.in-Err.is at c.requires.came) c.first_fault.ensures
