use Rattle.wild_image.proofs.Common.{◌<◌, length, arith}
use Rattle.wild_image.proofs.FrontLemmas.{front_part}
use Rattle.wild_image.proofs.OwnedLemmas.{part_taken}
use Rattle.wild_image.proofs.split_by_part.add_some.Goals as goal

pub returns : goal.returns
returns c =
    let inside = front_part c.args.layout.now c.args.part c.args.own.now c.requires.lies in
    let room = c.requires.room in
    let low : c.args.part < length c.args.parts.now = omega (arith, inside, room) in
    part_taken c.args.part c.args.own.now c.args.parts.now c.index-parts-part.result _ low c.in_ok-extend.ensures
