use Rattle.wild_contents.proofs.WalkLemmas.{prelude_kept}
use Rattle.wild_contents.proofs.symtab.TableBytes.add_null.Goals as goal

pub returns-in_ok-give_section_symbols-clause-kept : goal.returns-in_ok-give_section_symbols-clause-kept
returns-in_ok-give_section_symbols-clause-kept g c = prelude_kept c.args.self.now c.add_zeros.new.self c.give_section_symbols.new.sink _ c.in_ok-add_zeros.ensures c.in_ok-give_section_symbols.ensures
