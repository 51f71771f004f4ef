use Rattle.std.proofs.Common.{length, ◌∙◌, ap, refl}
use Rattle.std.specs.Prelude.{Ok}
use Rattle.wild_layout.specs.declared.decision.Decision.{Decision}
use Rattle.wild_debug.proofs.FieldLemmas.{field_lies_at, step_field, step_nothing, not_field}
use Rattle.wild_debug.proofs.pass.write_decided.Goals as goal

pub write_sized-requires : goal.write_sized-requires
write_sized-requires g c =
    let is = c.requires.decided ∙ ap (λ (d : Decision). Ok d) c.in-Field.is in
    record { lies = field_lies_at c.args._step.now.resolved.now.layout.now c.args._step.now.section.now c.args.relocation.now c.in-Field.size c.in-Field.value c.args.base (length c.args.out.now) is c.requires.lies }

pub returns-in-Field-clause-written : goal.returns-in-Field-clause-written
returns-in-Field-clause-written g c =
    let is = c.requires.decided ∙ ap (λ (d : Decision). Ok d) c.in-Field.is in
    step_field c.args._step.now.resolved.now.layout.now c.args._step.now.section.now c.args.relocation.now c.in-Field.size c.in-Field.value c.args.base c.args.out.now _ is c.write_sized.ensures

pub returns-in_default : goal.returns-in_default
returns-in_default g c = record {
  written = step_nothing c.args._step.now.resolved.now.layout.now c.args._step.now.section.now c.args.relocation.now c.args.decision c.args.base c.args.out.now _ c.requires.decided (not_field c.args.decision c.in_default.not-Field) c.requires.lies refl;
  long = refl;
}
