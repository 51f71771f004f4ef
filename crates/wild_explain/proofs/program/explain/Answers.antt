use Rattle.std.proofs.Common.{refl}
use Rattle.wild_program.specs.Exit as exit
use Rattle.wild_program.specs.Program.{usage}
use Rattle.wild_explain.specs.Explain.{usage_text}
use Rattle.wild_explain.proofs.program.explain.Goals as goal

pub returns-in-None-clause-answer : goal.returns-in-None-clause-answer
returns-in-None-clause-answer g c = record {
  answer = usage;
  code = exit.usage;
  words_said = usage_text;
  due = (c.in-None.ensures, record { left = refl; faults = refl }, refl, refl);
  told_as = c.write_answer.ensures;
}
