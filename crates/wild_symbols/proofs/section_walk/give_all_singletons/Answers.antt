use Rattle.std.specs.List.{flat_map}
use Rattle.wild_types.specs.declared.file.Group.{Group}
use Rattle.wild_words.proofs.RunLemmas.{listed_next}
use Rattle.wild_symbols.specs.SectionWalk.{singletons_in}
use Rattle.wild_symbols.proofs.section_walk.give_all_singletons.Goals as goal

pub loop-group-preserved : goal.loop-group-preserved
loop-group-preserved g c =
    listed_next (λ (x : Group). flat_map singletons_in x.files) c.as_slice-group-items.result.now c.loop-group.group-index c.group-item.result c.loop-group-test.true c.group-item.is c.loop-group.invariant c.in_ok-give_group_singletons.ensures
