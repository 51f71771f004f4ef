use Rattle.std.proofs.Common.{◌∙◌, refl, sym}
use Rattle.wild_types.specs.Item.{item_now}
use Rattle.wild_sections.proofs.DecisionLemmas.{common_keeps}
use Rattle.wild_sections.proofs.pc32.pc32_value.Goals as goal

pub returns-then-not-partner-clause-is : goal.returns-then-not-partner-clause-is
returns-then-not-partner-clause-is g c = λ value e.
    let before = sym c.requires.partner ∙ c.if-not-partner.true in
    common_keeps c.args.resolved.now.layout.now (item_now c.args.item.now) c.args.index _ c.requires.listed c.if-relocation-eq-PC32.true before ∙ c.value_of_pc32.ensures value e

pub returns-then-not-partner-clause-alone : goal.returns-then-not-partner-clause-alone
returns-then-not-partner-clause-alone g c = λ value e. rw c.if-relocation-eq-PC32.true refl
