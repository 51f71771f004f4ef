use Rattle.std.proofs.Common.{◌∙◌}
use Rattle.wild_contents.proofs.NoteLemmas.{note_put}
use Rattle.wild_contents.proofs.notes.put_note.Goals as goal

pub returns : goal.returns
returns c = note_put c.args.kind c.args.descriptor.now c.put_front.new.out c.put.new.out (c.put_front.auto.out ∙ c.requires) c.put_front.ensures c.put.ensures
