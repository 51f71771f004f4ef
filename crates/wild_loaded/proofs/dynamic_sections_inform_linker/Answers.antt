use Rattle.wild_loaded.proofs.DynamicInformation.{linker_told}
use Rattle.wild_loaded.proofs.FileHeader.{headers_read}
use Rattle.wild_loaded.proofs.Loads.{has_headers, loadable_at_zero}
use Rattle.wild_loaded.proofs.dynamic_sections_inform_linker.Goals as goal

pub returns : goal.returns
returns c = λ l keeps k needs numbers laid slots. linker_told l 0 (record {
  dynamic = c.dynamic_entry_is_read.ensures;
  relas = c.rela_is_read.ensures;
  words = c.relr_is_read.ensures;
  needed = c.dynamic_sections_are_read.ensures.needed;
  found = c.dynamic_sections_are_read.ensures.found;
  stand = c.dynamic_sections_are_there.ensures;
  tables = c.tables_are_found.ensures.found;
}) keeps needs numbers laid slots (loadable_at_zero l k laid) (headers_read c.file_header_is_read.ensures c.program_header_is_read.ensures l (has_headers l k numbers laid))
