use Rattle.std.proofs.Common.{arith}
use Rattle.wild_types.specs.declared.layout.VersionDefinition.{VersionDefinition}
use Rattle.wild_versions.proofs.NameLemmas.{offsets_step, offsets_done}
use Rattle.wild_versions.proofs.names.add_defined.Goals as goal

pub loop-definition-preserved : goal.loop-definition-preserved
loop-definition-preserved c =
    let l = c.loop-definition in
    offsets_step (λ (x : VersionDefinition). x.name) c.args.definitions.now l.definition-index c.definition-item.result l.at _ l.names.items _ _ c.loop-definition-test.true c.definition-item.is c.in_ok-at.ensures.next c.in_ok-at.ensures.added l.invariant

pub returns : goal.returns
returns c = offsets_done (λ (x : VersionDefinition). x.name) c.args.definitions.now c.loop-definition.definition-index c.loop-definition.at _ _ (omega (arith, c.loop-definition-test.false)) c.loop-definition.invariant
