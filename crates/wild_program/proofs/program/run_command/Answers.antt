use Rattle.wild_program.proofs.Common.{refl, usage}
use Rattle.wild_program.proofs.program.run_command.Goals as goal

pub returns-in-None-clause-ok : goal.returns-in-None-clause-ok
returns-in-None-clause-ok g c =
    let none = rw c.in-None.is at c.in_ok-command_of.ensures in
    record { answer = usage; due = (none, record { left = refl; faults = refl }); told_as = c.write_answer.ensures; fits = tt }
