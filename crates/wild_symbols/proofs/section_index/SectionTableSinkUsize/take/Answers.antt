use Rattle.wild_symbols.proofs.NumberLemmas.{section_numbered_by}
use Rattle.wild_symbols.proofs.section_index.SectionTableSinkUsize.take.Goals as goal

pub returns : goal.returns
returns c = section_numbered_by c.args.self.now c.note.new.self c.step.new.self c.args.header c.step.result c.note.ensures.noted c.note.ensures.count c.note.ensures.next c.step.ensures.numbers c.step.ensures.next (λ e. tt)
