use Rattle.wild_names.proofs.Common.{laid_out}
use Rattle.wild_names.proofs.objects.relinking_is_faithful.Goals as goal
use Rattle.wild_names.proofs.Relinked.{relinked}

pub returns : goal.returns
returns c = relinked c.symbols_have_fields.ensures.table (laid_out c.layouts_are_laid_out.ensures)
