use Rattle.wild_c_layout.specs.LayoutOf.{layout_of}
use Rattle.wild_c_place.specs.WorldOf.{world_of}
use Rattle.wild_c_place.proofs.HeadlineLemmas.{sound_memory}
use Rattle.wild_c_place.proofs.wild_place.Goals as goal

pub returns-clause-headline : goal.returns-clause-headline
returns-clause-headline c = λ is.
    sound_memory (layout_of c.args.layout.now) c.in-Ok.decoded (world_of c.args.world.now) c.in-Ok-decode.place c.write_memory.new.out
    c.placements_are_sound.ensures c.numbers_fit.ensures (c.resolutions_have_their_flags.ensures c.args.layout.now) c.in-Ok.ensures c.in-Ok-decode.ensures
    (c.write_memory.ensures.memory is)
