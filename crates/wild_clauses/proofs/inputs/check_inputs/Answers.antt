use Rattle.std.proofs.Common.{sym, ap, ◌∙◌}
use Rattle.wild_types.specs.Lists.{first_failing}
use Rattle.wild_plan_rules.specs.ClauseTests.{fails}
use Rattle.wild_plan_rules.specs.Contents.{names_sorted}
use Rattle.wild_clauses.proofs.PassedLemmas.{inputs_pass}
use Rattle.wild_clauses.proofs.inputs.check_inputs.Goals as goal

pub returns-then-parts_fit : goal.returns-then-parts_fit
returns-then-parts_fit c =
    let l = c.args.layout.now in
    let placed = ap (fails 8) (sym c.misplaced_place.ensures) ∙ sym c.fails.ensures ∙ c.in_ok-fails.was in
    let once = ap (fails 8) (sym c.sorted_named_once.ensures) ∙ sym c.fails-2.ensures ∙ c.in_ok-fails-2.was in
    let named = ap (fails 8) (ap (first_failing (names_sorted l) 0) (sym c.as_slice.ensures) ∙ sym c.first_failing.ensures.is) ∙ sym c.fails-3.ensures ∙ c.in_ok-fails-3.was in
    let passed = sym c.requires.tests_pass ∙ c.if-tests_pass.true in
    sym (inputs_pass l placed once named passed (sym c.parts_fit.ensures ∙ c.if-parts_fit.true))
