use Rattle.std.proofs.Common.{◌∙◌, arith}
use Rattle.wild_contents.proofs.NoteLemmas.{room_more, room_within, room_sum, property_more}
use Rattle.wild_contents.proofs.notes.put_properties.Goals as goal

pub put_property-requires : goal.put_property-requires
put_property-requires c = room_within c.args.properties.now c.loop-property.property-index c.loop-property.at _ _ c.loop-property-test.true c.loop-property.invariant.at c.loop-property.invariant.size

pub overflow_add-at : goal.overflow_add-at
overflow_add-at c =
    let p = room_sum c.args.properties.now c.loop-property.property-index c.loop-property.at _ _ _ c.loop-property-test.true c.loop-property.invariant.at c.requires c.property_size-at.ensures in
    omega (arith, p)

pub loop-property-preserved : goal.loop-property-preserved
loop-property-preserved c =
    let m = room_more c.args.properties.now c.loop-property.property-index _ _ c.loop-property-test.true c.property_size-at.ensures in
    let at = c.loop-property.invariant.at in
    record {
      at = omega (arith, m, at);
      size = c.put_property.auto.out ∙ c.loop-property.invariant.size;
      bytes = property_more c.args.properties.now c.loop-property.property-index c.loop-property.at _ _ _ c.loop-property.out c.put_property.new.out c.loop-property-test.true c.property_size-at.ensures c.loop-property.invariant.bytes c.put_property.ensures;
    }
