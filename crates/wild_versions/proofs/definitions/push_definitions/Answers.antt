use Rattle.std.proofs.Common.{◌+◌, refl, ap, arith}
use Rattle.wild_table_formats.specs.VersionRoom.{BufferContent}
use Rattle.wild_table_formats.proofs.VersionChains.{definition_more, definition_end, definition_room}
use Rattle.wild_versions.proofs.definitions.push_definitions.Goals as goal

pub loop-i-preserved : goal.loop-i-preserved
loop-i-preserved c = record {
  rest = rw c.push_definition.ensures.added (definition_more c.args.names.now c.args.soname.now c.args.definitions.now c.loop-i.i (c.loop-i.i + 1) c.index-definitions-i.result _ c.loop-i.table _ (omega (arith, c.loop-i-test.true)) c.index-definitions-i.is refl refl c.loop-i.invariant.rest);
  room = let r = ap (λ (t : BufferContent). t.room) c.push_definition.ensures.added in rw r (definition_room c.args.definitions.now c.loop-i.i c.index-definitions-i.result _ _ _ (omega (arith, c.loop-i-test.true)) c.index-definitions-i.is c.push_definition.ensures.used c.loop-i.invariant.room);
}

pub returns : goal.returns
returns c = definition_end c.args.names.now c.args.soname.now c.args.definitions.now c.loop-i.i c.loop-i.table _ (omega (arith, c.loop-i-test.false)) c.loop-i.invariant.rest
