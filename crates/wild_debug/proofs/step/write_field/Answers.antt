use Rattle.std.proofs.Common.{◌≡◌, length, arith, subst}
use Rattle.wild_layout.specs.declared.decision.Decision.{Decision}
use Rattle.wild_layout.specs.Debug.{debug_field}
use Rattle.wild_debug.proofs.FieldLemmas.{field_wide}
use Rattle.wild_debug.proofs.step.write_field.Goals as goal

pub write-requires : goal.write-requires
write-requires c =
    let kept = subst (λ (d : Decision). length (debug_field d c.args.room.now) ≡ length c.args.room.now) c.in-Field.is c.requires.wide in
    let wide = field_wide c.in-Field.size c.in-Field.value (length c.args.room.now) c.args.room.now kept in
    record { room = omega (arith, wide) }
