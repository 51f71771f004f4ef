use Rattle.std.proofs.Common.{refl}
use Rattle.wild_types.specs.Item.{item_now}
use Rattle.wild_sections.proofs.CallLemmas.{call_decided}
use Rattle.wild_sections.proofs.calls.value_of_call.Goals as goal

pub returns : goal.returns
returns g c = λ value e.
    call_decided c.args.resolved.now.layout.now (item_now c.args.item.now) c.args.index c.args.relocation.now c.in_ok-symbol.symbol c.in_ok-target.target value c.requires.listed c.requires.number c.requires.alone (c.in_ok-symbol.ensures c.in_ok-symbol.symbol refl) (c.in_ok-target.ensures c.in_ok-target.target refl) (c.near_distance.ensures.is value e) (c.near_distance.ensures.fits value e)
