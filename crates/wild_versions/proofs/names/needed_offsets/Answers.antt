use Rattle.std.proofs.Common.{arith}
use Rattle.wild_types.specs.declared.file.NeededVersion.{NeededVersion}
use Rattle.wild_versions.proofs.NameLemmas.{offsets_step, offsets_done}
use Rattle.wild_versions.proofs.names.needed_offsets.Goals as goal

pub loop-version-preserved : goal.loop-version-preserved
loop-version-preserved c =
    let l = c.loop-version in
    offsets_step (λ (x : NeededVersion). x.name) c.args.versions.now l.version-index c.version-item.result l.at _ l.names.items _ _ c.loop-version-test.true c.version-item.is c.in_ok-at.ensures.next c.in_ok-at.ensures.added l.invariant

pub returns : goal.returns
returns c = offsets_done (λ (x : NeededVersion). x.name) c.args.versions.now c.loop-version.version-index c.loop-version.at _ _ (omega (arith, c.loop-version-test.false)) c.loop-version.invariant
