use Rattle.std.proofs.Common.{◌∙◌, string_bytes}
use Rattle.std.proofs.lemmas.Result.{IfOk-weaker}
use Rattle.wild_layout.specs.Faults.{errors}
use Rattle.wild_explain.proofs.LineLemmas.{linked_as, refused_as}
use Rattle.wild_explain.proofs.answer.explain_layout.Goals as goal

pub returns-in_ok-text-in-Ok : goal.returns-in_ok-text-in-Ok
returns-in_ok-text-in-Ok g c =
    linked_as c.args.layout.now (errors c.args.layout.now) c.as_slice.result.now (string_bytes c.in_ok-text-in-Ok.text) c.in-Ok.ensures.faults (c.as_slice.ensures ∙ c.in-Ok.ensures.image) c.in_ok-text-in-Ok.ensures

pub returns-in-Err : goal.returns-in-Err
returns-in-Err g c = IfOk-weaker c.refusal_of.result _ _ (λ a h. refused_as c.args.layout.now c.in-Err.error (errors c.args.layout.now) a.0 (string_bytes a.1) c.in-Err.ensures.faults h) c.refusal_of.ensures
