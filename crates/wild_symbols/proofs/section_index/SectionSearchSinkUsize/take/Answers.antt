use Rattle.std.proofs.Common.{◌∙◌}
use Rattle.wild_symbols.proofs.NumberLemmas.{section_sought_by}
use Rattle.wild_symbols.proofs.section_index.SectionSearchSinkUsize.take.Goals as goal

pub returns : goal.returns
returns c = section_sought_by c.args.self.now c.step.new.self c.args.header c.step.result (c.step.ensures.found ∙ c.found_with-found.ensures) c.step.ensures.next c.step.ensures.header (λ e. tt)
