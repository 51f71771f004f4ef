use Rattle.wild_types.specs.Item.{item_now}
use Rattle.wild_sections.proofs.DecisionLemmas.{read_at}
use Rattle.wild_sections.proofs.InstructionLemmas.{decision_lies}
use Rattle.wild_sections.proofs.section.write_decided.Goals as goal

pub write_ascending_decision-requires : goal.write_ascending_decision-requires
write_ascending_decision-requires g c =
    let s = item_now c.args.item.now in
    let listed = read_at s.relocations c.args.index _ c.requires.index c.index-relocations-index.is in
    record { lies = decision_lies c.args.resolved.now.layout.now s c.args.index _ _ c.in_ok-decision.decision listed c.requires.whole c.requires.lies c.in_ok-decision.ensures.decision }

pub returns-clause-next : goal.returns-clause-next
returns-clause-next g c =
    let s = item_now c.args.item.now in
    record {
      relocation = c.index-relocations-index.result;
      listed = read_at s.relocations c.args.index _ c.requires.index c.index-relocations-index.is;
      decision = c.in_ok-decision.decision;
      is = c.in_ok-decision.ensures.decision;
      reached = c.write_ascending_decision.ensures.field_end;
      written = c.write_ascending_decision.ensures.written;
    }
