use Rattle.std.proofs.Common.{◌∙◌, ap, sym}
use Rattle.std.specs.Prelude.{Option, Ok}
use Rattle.wild_relax.specs.declared.row.Row.{Row}
use Rattle.wild_types.specs.Item.{item_now}
use Rattle.wild_sections.proofs.DecisionLemmas.{read_at, decided_with}
use Rattle.wild_sections.proofs.decide.decide.Goals as goal

pub returns-in-Ok-None : goal.returns-in-Ok-None
returns-in-Ok-None g c =
    let s = item_now c.args.item.now in
    let listed = read_at s.relocations c.args.index _ c.requires.index c.index-relocations-index.is in
    c.decided.ensures ∙ sym (decided_with c.args.resolved.now.layout.now s c.args.index _ _ (sym c.if-is_partner.ensures) listed (sym c.in-Ok-None.ensures ∙ ap (λ (o : Option Row). Ok o) c.in-Ok-None.field-0-is))

pub returns-in-Ok-Some : goal.returns-in-Ok-Some
returns-in-Ok-Some g c =
    let s = item_now c.args.item.now in
    let listed = read_at s.relocations c.args.index _ c.requires.index c.index-relocations-index.is in
    c.rewritten_decision.ensures ∙ sym (decided_with c.args.resolved.now.layout.now s c.args.index _ _ (sym c.if-is_partner.ensures) listed (sym c.in-Ok-Some.ensures ∙ ap (λ (o : Option Row). Ok o) c.in-Ok-Some.field-0-is))

pub returns-in-Err : goal.returns-in-Err
returns-in-Err g c =
    let s = item_now c.args.item.now in
    let listed = read_at s.relocations c.args.index _ c.requires.index c.index-relocations-index.is in
    c.refused_sequence.ensures ∙ sym (decided_with c.args.resolved.now.layout.now s c.args.index _ _ (sym c.if-is_partner.ensures) listed (sym c.in-Err.ensures))
