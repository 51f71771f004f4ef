use Rattle.wild_image.proofs.Common.{◌∙◌}
use Rattle.wild_image.proofs.AppendLemmas.{begins_all}
use Rattle.wild_image.proofs.split_by_part.split_by_part.Goals as goal

pub split_tables-requires-clause-own : goal.split_tables-requires-clause-own
split_tables-requires-clause-own c = begins_all _ _ (c.as_slice.ensures ∙ c.requires.tables)

pub fill_parts-requires-clause-tables : goal.fill_parts-requires-clause-tables
fill_parts-requires-clause-tables c = c.deref_mut.ensures.value ∙ c.in_ok-split_tables.ensures

pub fill_parts-requires-clause-own : goal.fill_parts-requires-clause-own
fill_parts-requires-clause-own c = begins_all _ _ (c.as_slice-2.ensures ∙ c.requires.files)
