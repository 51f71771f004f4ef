use Rattle.std.proofs.Common.{◌+◌, ◌*◌, ◌≤◌, length, take, ap, ◌∙◌, arith}
use Rattle.wild_sections.proofs.PartialLemmas.{flags_put, member_more, length-members}
use Rattle.wild_sections.proofs.partial.write_group_section.Goals as goal

pub loop-i-init : goal.loop-i-init
loop-i-init c = flags_put c.flags_of-flags.result.now c.args.out.now c.put.new.out c.as_slice-member-items.result.now c.put.ensures

pub put_member-requires : goal.put_member-requires
put_member-requires c =
    let n = length-members c.args.section.now c.flags_of-flags.result.now (c.flags_of-flags.ensures ∙ ap (take 4) c.as_slice.ensures) in
    let m = ap length c.as_slice-member-items.ensures in
    omega (arith, n, m, c.loop-i.auto.out, c.put.auto.out, c.requires, c.loop-i-test.true)

pub loop-i-preserved : goal.loop-i-preserved
loop-i-preserved c =
    let flags = c.flags_of-flags.result.now in
    let n = length-members c.args.section.now flags (c.flags_of-flags.ensures ∙ ap (take 4) c.as_slice.ensures) in
    let m = ap length c.as_slice-member-items.ensures in
    let fits : length flags + 4 * c.loop-i.i ≤ length c.loop-i.out = omega (arith, n, m, c.loop-i.auto.out, c.put.auto.out, c.requires, c.loop-i-test.true) in
    member_more flags c.as_slice-member-items.result.now c.loop-i.i c.member-item.result c.loop-i.out c.put_member.new.out c.loop-i-test.true c.member-item.is fits c.loop-i.invariant c.put_member.ensures
