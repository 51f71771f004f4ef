use Rattle.std.proofs.Common.{◌∙◌, sym}
use Rattle.wild_layout.proofs.QuestionLemmas.{none_before}
use Rattle.wild_types.specs.Item.{item_now}
use Rattle.wild_sections.proofs.choice.is_partner.Goals as goal

pub returns-else-may_be_partner : goal.returns-else-may_be_partner
returns-else-may_be_partner g c =
    let before = sym c.if-may_be_partner.ensures in
    c.if-may_be_partner.false ∙ sym (none_before c.args.resolved.now.layout.now (item_now c.args.item.now) c.args.index before)
