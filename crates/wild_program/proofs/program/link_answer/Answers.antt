use Rattle.wild_program.proofs.program.link_answer.Goals as goal

pub returns : goal.returns
returns g c = c.in_ok-answer.ensures c.args.bytes.items (rw c.as_slice.ensures.value at c.in_ok-plan.ensures)
