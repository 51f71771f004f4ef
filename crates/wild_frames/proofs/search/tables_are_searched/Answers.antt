use Rattle.wild_frames.proofs.TableLemmas.{in_order, fde_found}
use Rattle.wild_frames.proofs.search.tables_are_searched.Goals as goal

pub returns-clause-order : goal.returns-clause-order
returns-clause-order c = in_order c.eh_frame_hdr_entry_is_read.ensures

pub returns-clause-found : goal.returns-clause-found
returns-clause-found c = fde_found c.eh_frame_hdr_entry_is_read.ensures
