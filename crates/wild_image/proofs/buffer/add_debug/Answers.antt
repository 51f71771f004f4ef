use Rattle.wild_image.proofs.RelaOrGroupLemmas.{debug_added}
use Rattle.wild_image.proofs.buffer.add_debug.Goals as goal

pub returns-clause-bytes : goal.returns-clause-bytes
returns-clause-bytes g c =
    debug_added c.args.resolved.now.layout.now c.args.placed_input.now.section c.add_debug.result c.args.bytes.now c.add_debug.new.self c.requires.debug c.requires.whole c.requires.written c.requires.lies (rw c.section.ensures at c.add_debug.ensures.bytes)
