use Rattle.std.proofs.Common.{sym, ◌∙◌}
use Rattle.std.proofs.lemmas.Result.{IfOk-weaker}
use Rattle.wild_text.proofs.NameLemmas.{shown_text, shown_control, shown_hex}
use Rattle.wild_text.proofs.warning.name_text.Goals as goal

pub returns-in-Ok : goal.returns-in-Ok
returns-in-Ok c = IfOk-weaker c.from_str.result _ _ (λ s h. h ∙ c.in-Ok.ensures.cases.0 ∙ sym (shown_text c.args.name.now (sym c.has_control.ensures ∙ c.if-has_control.false) c.in-Ok.ensures.cases.1)) c.from_str.ensures.ok

pub returns-in-Err : goal.returns-in-Err
returns-in-Err c = IfOk-weaker c.encode-in-Err.result _ _ (λ s h. h ∙ sym (shown_hex c.args.name.now (sym c.has_control.ensures ∙ c.if-has_control.false) c.in-Err.ensures.cases.0)) c.encode-in-Err.ensures

pub returns-then-has_control : goal.returns-then-has_control
returns-then-has_control c = IfOk-weaker c.encode.result _ _ (λ s h. h ∙ sym (shown_control c.args.name.now (sym c.has_control.ensures ∙ c.if-has_control.true))) c.encode.ensures
