use Rattle.wild_loaded.proofs.DynamicSections.{entries_found}
use Rattle.wild_loaded.proofs.dynamic_sections_are_there.Goals as goal

pub returns : goal.returns
returns c = entries_found (record {
  stand = c.tables_are_placed.ensures;
  needed = c.dynamic_sections_are_read.ensures.needed;
  lengths = c.dynamic_sections_are_read.ensures.records;
  records = c.dynamic_sections_are_read.ensures.stand;
  fit = c.dynamic_sections_are_read.ensures.fit;
  found = c.dynamic_sections_are_read.ensures.found;
})
