use Rattle.std.specs.Prelude.{option_to_list}
use Rattle.wild_types.specs.declared.input.InputSection.{InputSection}
use Rattle.wild_words.proofs.RunLemmas.{listed_next}
use Rattle.wild_symbols.proofs.section_walk.give_file_singletons.Goals as goal

pub loop-section-preserved : goal.loop-section-preserved
loop-section-preserved g c =
    listed_next (λ (s : InputSection). option_to_list s.singleton) c.as_slice-section-items.result.now c.loop-section.section-index c.section-item.result c.loop-section-test.true c.section-item.is c.loop-section.invariant c.in_ok-give_singleton.ensures
