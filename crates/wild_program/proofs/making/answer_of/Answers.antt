use Rattle.wild_program.proofs.Common.{ap, ◌∙◌, List, ℕ, IfOk-weaker, bytes}
use Rattle.wild_layout.specs.Image.{counts}
use Rattle.wild_sample_layouts.specs.PlanOfGroups.{plan_of_groups}
use Rattle.wild_program.specs.Program.{summary_text}
use Rattle.wild_program.proofs.making.answer_of.Goals as goal

pub returns-in-Ok : goal.returns-in-Ok
returns-in-Ok g c =
    let image = c.as_slice.ensures ∙ c.in-Ok.ensures.image ∙ ap bytes c.requires.layout in
    let all = c.as_slice-in-Ok.ensures ∙ c.in-Ok.ensures.counts ∙ ap counts c.requires.layout in
    IfOk-weaker c.summary.result _ _ (λ v h. h ∙ ap (λ (xs : List ℕ). summary_text c.args.groups xs c.as_slice-in-Ok.result.now) image ∙ ap (λ (ns : List ℕ). summary_text c.args.groups (bytes (plan_of_groups c.args.groups)) ns) all) c.summary.ensures
