use Rattle.wild_relax.proofs.TemplateLemmas.{part_is}
use Rattle.wild_relax.proofs.row.Row.write_template.Goals as goal

pub returns : goal.returns
returns c = part_is c.args.self c.args.value c.args.start c.pattern_size-size.result c.args.room.now c.write_part.new.part c.pattern_size-size.ensures c.write_part.ensures.long c.write_part.ensures.template
