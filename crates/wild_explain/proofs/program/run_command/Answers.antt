use Rattle.std.proofs.Common.{refl}
use Rattle.std.specs.Prelude.{string_bytes}
use Rattle.wild_program.specs.Exit as exit
use Rattle.wild_program.specs.Program.{read_fault, too_long, of_plan, text}
use Rattle.wild_explain.proofs.program.run_command.Goals as goal

pub returns-clause-ok : goal.returns-clause-ok
returns-clause-ok g c =
    let meant = c.in_ok-code.ensures in
    let read = c.in-Ok.ensures.read in
    record {
      answer = of_plan meant.meaning;
      code = c.in_ok-code.code;
      words_said = string_bytes c.in_ok-code.answer;
      due = (c.args.command, c.requires, (c.in-Ok.bytes.items, record { taken = read.0; ended = read.1; short = read.2 }, rw c.deref.ensures.value at meant.means), meant.told_is);
      told_as = rw (← c.as_bytes.ensures.value) c.write_answer-2.ensures;
    }

pub returns-in-Err-IoFailure-clause-ok : goal.returns-in-Err-IoFailure-clause-ok
returns-in-Err-IoFailure-clause-ok g c =
    let rose = c.read_whole.ensures.failed (rw c.in-Err-IoFailure.field-0-is at c.in-Err-IoFailure.is) in
    record {
      answer = read_fault;
      code = exit.read_fault;
      words_said = text read_fault;
      due = ((c.args.command, c.requires), rose, refl, refl);
      told_as = c.write_answer.ensures;
    }

pub returns-in-Err-TooLong-clause-ok : goal.returns-in-Err-TooLong-clause-ok
returns-in-Err-TooLong-clause-ok g c =
    let long = c.read_whole.ensures.too_long (rw c.in-Err-TooLong.field-0-is at c.in-Err-TooLong.is) in
    record {
      answer = too_long;
      code = exit.too_long;
      words_said = text too_long;
      due = ((c.args.command, c.requires), long, refl, refl);
      told_as = c.write_answer-in-Err-TooLong.ensures;
    }
