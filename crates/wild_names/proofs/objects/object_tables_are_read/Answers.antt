use Rattle.wild_names.proofs.objects.object_tables_are_read.Goals as goal
use Rattle.wild_names.proofs.ObjectTables.{object_tables_stand}

pub returns : goal.returns
returns c = object_tables_stand c.owners_are_known.ensures c.layouts_are_laid_out.ensures
