use Rattle.wild_image.proofs.Common.{◌≡◌, true, rules, is_filled}
use Rattle.wild_image.proofs.buffer.add_unread.Goals as goal

pub add_rela_or_group-requires-clause-long : goal.add_rela_or_group-requires-clause-long
add_rela_or_group-requires-clause-long g c =
    let filled : is_filled c.args.resolved.now.layout.now c.args.placed_input.now.section ≡ true = search rules in
    rw c.section-section.ensures (c.args.file.now, c.requires.lies.long filled c.args.file.now)
