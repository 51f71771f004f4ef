use Rattle.std.proofs.Common.{sym, ◌∙◌}
use Rattle.wild_layout.specs.Debug.{debug_decided}
use Rattle.wild_debug.proofs.FieldLemmas.{decided_keeps}
use Rattle.wild_debug.proofs.step.DebugStepStep.write.Goals as goal

pub write_field-requires : goal.write_field-requires
write_field-requires g c =
    let l = c.args.self.now.resolved.now.layout.now in
    let s = c.args.self.now.section.now in
    let r = c.args.relocation.now in
    let is = sym {b = debug_decided l s r} c.decided.ensures in
    record { wide = decided_keeps l s r c.in-Ok.decision c.args.field.now c.requires (is ∙ c.in-Ok.is) }
