use Rattle.wild_bound.proofs.SelfBindingLemmas.{visible_bound, first_bound}
use Rattle.wild_bound.proofs.exported_symbols_are_bound.Goals as goal

pub returns-clause-visible : goal.returns-clause-visible
returns-clause-visible c = visible_bound c.dynamic_symbols_are_read.ensures

pub returns-clause-first : goal.returns-clause-first
returns-clause-first c = first_bound (record { laid = c.layouts_are_laid_out.ensures; read = c.dynamic_symbols_are_read.ensures; gnu = c.gnu_look_up_finds_the_first.ensures.written; sysv = c.sysv_look_up_finds_the_first.ensures.written; ascend = c.neighbours_ascend.ensures })
