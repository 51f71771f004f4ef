use Rattle.std.proofs.Common.{◌≡◌, refl, subst, List, ℕ}
use Rattle.std.specs.Prelude.{string_bytes}
use Rattle.wild_text.specs.Answer.{no_plan_text}
use Rattle.wild_text.specs.Means.{no_json, no_plan, plan}
use Rattle.wild_explain.specs.Explain.{Begins}
use Rattle.wild_explain.proofs.answer.plan_answer.Goals as goal

pub returns-in-Err-NoJson : goal.returns-in-Err-NoJson
returns-in-Err-NoJson g c = record {
  meaning = no_json;
  means = rw c.in-Err-NoJson.field-0-is at c.in-Err-NoJson.ensures;
  told_is = (refl, c.in_ok-text-in-Err-NoJson.ensures);
}

pub returns-in-Err-At : goal.returns-in-Err-At
returns-in-Err-At g c =
    let same : c.as_str-in-Err-At.result.now ≡ string_bytes c.in-Err-At.path = rw c.in-Err-At.path-is at c.as_str-in-Err-At.ensures.value in
    record {
      meaning = no_plan (string_bytes c.in-Err-At.path);
      means = rw c.in-Err-At.field-0-is at c.in-Err-At.ensures;
      told_is = (refl, subst (λ (p : List ℕ). Begins (no_plan_text p) (string_bytes c.in_ok-text-in-Err-At.text)) same c.in_ok-text-in-Err-At.ensures);
    }

pub returns : goal.returns
returns g c = record {
  meaning = plan c.in-Ok.layout;
  means = c.in-Ok.ensures;
  told_is = c.in_ok-answer.ensures;
}
