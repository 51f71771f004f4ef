use Rattle.std.proofs.Common.{refl}
use Rattle.wild_types.specs.Item.{item_now}
use Rattle.wild_sections.proofs.TargetLemmas.{near_decided}
use Rattle.wild_sections.proofs.pc32.value_to_target.Goals as goal

pub returns : goal.returns
returns g c = λ value e.
    near_decided c.args.resolved.now.layout.now (item_now c.args.item.now) c.args.relocation.now c.in_ok-relocation.field-0 c.in_ok-target.target value c.requires.number c.in_ok-relocation.was (c.in_ok-target.ensures c.in_ok-target.target refl) (c.near_distance.ensures.is value e) (c.near_distance.ensures.fits value e)
