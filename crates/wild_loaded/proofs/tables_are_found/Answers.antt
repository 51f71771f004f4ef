use Rattle.wild_loaded.proofs.DynamicSections.{tables_found}
use Rattle.wild_loaded.proofs.StaticTables.{sections_found}
use Rattle.wild_loaded.proofs.tables_are_found.Goals as goal

pub returns-clause-found : goal.returns-clause-found
returns-clause-found c = tables_found (record {
  section = record {
    stand = c.tables_are_placed.ensures;
    needed = c.dynamic_sections_are_read.ensures.needed;
    lengths = c.dynamic_sections_are_read.ensures.records;
    records = c.dynamic_sections_are_read.ensures.stand;
    fit = c.dynamic_sections_are_read.ensures.fit;
    found = c.dynamic_sections_are_read.ensures.found;
  };
  named = c.dynamic_sections_are_read.ensures.named;
  words = c.words_fit.ensures;
  pair = c.pair_is_placed.ensures;
})

pub returns-clause-sections : goal.returns-clause-sections
returns-clause-sections c = sections_found c.tables_are_placed.ensures c.entries_are_read.ensures.lengths c.entries_are_read.ensures.read c.pair_is_placed.ensures c.fixed_outputs_move_nothing.ensures
