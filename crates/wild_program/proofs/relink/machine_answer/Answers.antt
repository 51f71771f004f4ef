use Rattle.wild_program.proofs.Common.{IfOk-weaker, changed_layout, errors, answer}
use Rattle.wild_program.proofs.ChangeLemmas.{plan_refused, change_said, refused_fits, said_fits, on_value}
use Rattle.wild_program.proofs.relink.machine_answer.Goals as goal

pub returns-in-Err-clause-text : goal.returns-in-Err-clause-text
returns-in-Err-clause-text g c =
    IfOk-weaker c.refusal_of.result _ _ (λ a h. plan_refused c.in-Err.error (errors c.args.request.plan) (answer c.args.request.plan c.args.request.change) (changed_layout c.args.request.plan c.args.request.change) a.0 a.1.items c.in-Err.ensures.faults h) c.refusal_of.ensures

pub returns-in-Err-clause-fits : goal.returns-in-Err-clause-fits
returns-in-Err-clause-fits g c =
    on_value c.refusal_of.result _ _ (λ a h. refused_fits c.in-Err.error c.args.request a.0 a.1.items c.in-Err.ensures.faults h) c.refusal_of.ensures

pub returns-clause-text : goal.returns-clause-text
returns-clause-text g c =
    let answered = rw c.in-Ok.ensures.layout at c.relink-result.ensures.answered in
    let made = rw c.in-Ok.ensures.layout at c.relink-result.ensures.changed in
    IfOk-weaker c.change_answer.result _ _ (λ a h. change_said (errors c.args.request.plan) (answer c.args.request.plan c.args.request.change) c.relink-result.result c.relink-result.new.linked.layout (changed_layout c.args.request.plan c.args.request.change) a.0 a.1.items c.in-Ok.ensures.faults answered made h) c.change_answer.ensures

pub returns-clause-fits : goal.returns-clause-fits
returns-clause-fits g c =
    let answered = rw c.in-Ok.ensures.layout at c.relink-result.ensures.answered in
    let made = rw c.in-Ok.ensures.layout at c.relink-result.ensures.changed in
    let fits = rw c.layout.ensures.value at c.numbers_fit.ensures in
    on_value c.change_answer.result _ _ (λ a h. said_fits c.args.request c.relink-result.result c.relink-result.new.linked.layout a.0 a.1.items answered made fits h) c.change_answer.ensures
