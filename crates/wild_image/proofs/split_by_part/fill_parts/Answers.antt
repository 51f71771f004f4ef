use Rattle.wild_image.proofs.Common.{length, ap, ◌∙◌}
use Rattle.std.proofs.lemmas.List.{length-map}
use Rattle.wild_image.proofs.OwnedLemmas.{parts_are}
use Rattle.wild_image.proofs.split_by_part.fill_parts.Goals as goal

pub split_files-requires-clause-room : goal.split_files-requires-clause-room
split_files-requires-clause-room c = ap length c.requires.tables ∙ length-map c.args.layout.now.parts _

pub returns : goal.returns
returns c = parts_are c.args.layout.now c.args.group.now c.args.parts.now c.split_files.new.parts c.requires.tables c.split_files.auto.parts c.in_ok-split_files.ensures.owned
