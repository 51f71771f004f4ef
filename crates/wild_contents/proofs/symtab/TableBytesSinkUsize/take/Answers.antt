use Rattle.wild_contents.proofs.WalkLemmas.{section_ran}
use Rattle.wild_contents.proofs.symtab.TableBytesSinkUsize.take.Goals as goal

pub returns : goal.returns
returns g c = section_ran c.args.self.now c.add_section.new.self c.args.header c.add_section.result c.add_section.ensures
