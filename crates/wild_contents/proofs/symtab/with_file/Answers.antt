use Rattle.wild_contents.proofs.WalkLemmas.{file_walked}
use Rattle.wild_contents.proofs.symtab.with_file.Goals as goal

pub returns : goal.returns
returns g c = rw (c.into_parts.ensures.bytes, c.into_parts.ensures.at) (file_walked c.args.resolved.now.layout.now c.args.file.now c.args.part c.args.bytes c.args.at _ _ c.in_ok-add_null.ensures.walks c.in_ok-add_null.ensures.kept c.in_ok-give_table.ensures)
