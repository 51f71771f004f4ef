use Rattle.wild_text.specs.Plan.{layout_in}
use Rattle.wild_program.proofs.FaultTexts.{no_plan_for}
use Rattle.wild_program.proofs.input.layout_of.Goals as goal

pub returns-in_ok-text-in-Err : goal.returns-in_ok-text-in-Err
returns-in_ok-text-in-Err c = no_plan_for layout_in c.args.bytes.now c.in-Err.fault c.in_ok-text-in-Err.text.items c.in-Err.ensures c.in_ok-text-in-Err.ensures
