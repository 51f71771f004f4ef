use Rattle.wild_program.proofs.relink.request_answer.Given as goal

abbrev pub ghosts-machine_answer : goal.ghosts-machine_answer
ghosts-machine_answer g a = record { name = a.blank.name; parts = a.blank.parts }

abbrev pub ghosts-machine_answer-2 : goal.ghosts-machine_answer-2
ghosts-machine_answer-2 g a = record { name = a.blank.name; parts = a.blank.parts }
