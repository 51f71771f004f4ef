use Rattle.std.proofs.Common.{◌+◌, refl, ap, arith}
use Rattle.std.proofs.lemmas.List.{length-drop}
use Rattle.wild_table_formats.specs.VersionRoom.{BufferContent}
use Rattle.wild_table_formats.proofs.VersionChains.{needed_more, needed_end}
use Rattle.wild_versions.proofs.needs.push_versions.Goals as goal

pub loop-i-preserved : goal.loop-i-preserved
loop-i-preserved c = record {
  rest = rw (c.push_vernaux.ensures.added, c.vernaux_of.ensures) (needed_more c.args.names.now c.args.versions.now c.loop-i.i (c.loop-i.i + 1) c.index-versions-i.result _ c.loop-i.table _ (omega (arith, c.loop-i-test.true)) c.index-versions-i.is refl refl c.loop-i.invariant.rest);
  room =
      let r = ap (λ (t : BufferContent). t.room) c.push_vernaux.ensures.added in
      let u = c.push_vernaux.ensures.used in
      let h = c.loop-i.invariant.room in
      let a = length-drop c.loop-i.i c.args.versions.now in
      let b = length-drop (c.loop-i.i + 1) c.args.versions.now in
      let t = c.loop-i-test.true in
      omega (arith, r, u, h, a, b, t);
}

pub returns : goal.returns
returns c = needed_end c.args.names.now c.args.versions.now c.loop-i.i c.loop-i.table _ (omega (arith, c.loop-i-test.false)) c.loop-i.invariant.rest
