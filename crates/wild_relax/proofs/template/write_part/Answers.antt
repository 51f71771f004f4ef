use Rattle.std.proofs.Common.{◌≡◌, ◌+◌, ◌-◌, length, ap, ◌∙◌, arith}
use Rattle.wild_reloc.specs.declared.info.RelocationKindInfo.{RelocationKindInfo}
use Rattle.wild_relax.specs.Pattern.{field_of}
use Rattle.wild_relax.specs.RewriteX86_64.{rewrite_of}
use Rattle.wild_relax.specs.LinkedPattern.{pattern_of, with_field}
use Rattle.wild_relax.proofs.TemplateLemmas.{room_after, written_is, length-template}
use Rattle.wild_relax.proofs.template.write_part.Goals as goal

pub write_at-requires : goal.write_at-requires
write_at-requires c =
    let f = c.pattern_field.ensures in
    let b = c.back.ensures in
    let s = c.saturating_sub-start.ensures in
    let start : c.saturating_sub-start.result ≡ field_of (pattern_of c.args.row) - (rewrite_of c.args.row).back = omega (arith, f, b, s) in
    let room = room_after c.args.row c.saturating_sub-start.result c.field.result c.args.part.now c.write.new.bytes c.requires.fits c.requires.whole (record { first = start; then = c.field.ensures }) c.write.ensures in
    rw c.row_written.ensures (record { room = room })

pub returns-clause-template : goal.returns-clause-template
returns-clause-template c =
    let f = c.pattern_field.ensures in
    let b = c.back.ensures in
    let s = c.saturating_sub-start.ensures in
    let start : c.saturating_sub-start.result ≡ field_of (pattern_of c.args.row) - (rewrite_of c.args.row).back = omega (arith, f, b, s) in
    written_is c.args.row c.args.value c.saturating_sub-start.result c.field.result c.args.part.now c.write.new.bytes c.write_at.new.out (record { first = start; then = c.field.ensures }) c.write.ensures
    (c.write_at.ensures ∙ ap (λ (i : RelocationKindInfo). with_field i (c.saturating_sub-start.result + c.field.result) c.args.value c.write.new.bytes) c.row_written.ensures)

pub returns-clause-long : goal.returns-clause-long
returns-clause-long c =
    let f = c.pattern_field.ensures in
    let b = c.back.ensures in
    let s = c.saturating_sub-start.ensures in
    let start : c.saturating_sub-start.result ≡ field_of (pattern_of c.args.row) - (rewrite_of c.args.row).back = omega (arith, f, b, s) in
    let is = written_is c.args.row c.args.value c.saturating_sub-start.result c.field.result c.args.part.now c.write.new.bytes c.write_at.new.out (record { first = start; then = c.field.ensures }) c.write.ensures
    (c.write_at.ensures ∙ ap (λ (i : RelocationKindInfo). with_field i (c.saturating_sub-start.result + c.field.result) c.args.value c.write.new.bytes) c.row_written.ensures) in
    ap length is ∙ length-template c.args.row c.args.value c.args.part.now c.requires.fits c.requires.whole
