use Rattle.wild_bound.proofs.SymbolCounts.{counted}
use Rattle.wild_bound.proofs.indexes_are_in_range.Goals as goal

pub returns : goal.returns
returns c = counted (record { laid = c.layouts_are_laid_out.ensures; read = c.dynamic_symbols_are_read.ensures; header = c.gnu_hash_header_is_read.ensures; ascend = c.neighbours_ascend.ensures })
