use Rattle.wild_names.proofs.tables_are_read.Goals as goal

pub returns-clause-images : goal.returns-clause-images
returns-clause-images c = record {
  laid = c.layouts_are_laid_out.ensures;
  stand = c.tables_are_placed.ensures;
  headers = c.headers_are_present.ensures.stand;
  sections = c.dynamic_sections_are_there.ensures;
  needed = c.dynamic_sections_are_read.ensures.needed;
  found = c.dynamic_sections_are_read.ensures.found;
  records = record { headers = c.file_header_is_read.ensures; programs = c.program_header_is_read.ensures; dynamics = c.dynamic_entry_is_read.ensures };
}

pub returns-clause-names : goal.returns-clause-names
returns-clause-names c = record { there = c.dynamic_symbols_are_in_table.ensures.there; stand = c.dynamic_symbols_are_in_table.ensures.stand }
