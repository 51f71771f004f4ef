use Rattle.wild_program.proofs.Common.{read_fault, too_long}
use Rattle.wild_program.proofs.AnswerLemmas.{is_reading, right_answer}
use Rattle.wild_program.proofs.program.answer_command.Goals as goal

pub returns-clause-ok : goal.returns-clause-ok
returns-clause-ok g c =
    let meant = c.in_ok-code.ensures in
    record {
      answer = meant.answer;
      due = right_answer c.args.words.now _ c.args.command c.in-Ok.bytes.items meant.answer c.requires c.in-Ok.ensures.read meant.meant;
      told_as = rw (← meant.status_is, ← meant.text_is, ← c.deref.ensures.value) c.write_answer-2.ensures;
      fits = meant.fits;
    }

pub returns-in-Err-IoFailure-clause-ok : goal.returns-in-Err-IoFailure-clause-ok
returns-in-Err-IoFailure-clause-ok g c =
    let failed = c.read_input.ensures.failed (rw c.in-Err-IoFailure.field-0-is at c.in-Err-IoFailure.is) in
    record { answer = read_fault; due = (is_reading c.args.words.now c.args.command c.requires failed.0, failed.1); told_as = c.write_answer.ensures; fits = tt }

pub returns-in-Err-TooLong-clause-ok : goal.returns-in-Err-TooLong-clause-ok
returns-in-Err-TooLong-clause-ok g c =
    let long = c.read_input.ensures.too_long (rw c.in-Err-TooLong.field-0-is at c.in-Err-TooLong.is) in
    record { answer = too_long; due = (is_reading c.args.words.now c.args.command c.requires long.0, long.1); told_as = c.write_answer-in-Err-TooLong.ensures; fits = tt }
