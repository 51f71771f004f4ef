use Rattle.wild_image.proofs.OutputLemmas.{FieldsFit-IsLaidOut}
use Rattle.wild_image.proofs.output.write_laid_out.Goals as goal

pub new-resolved-requires-clause-fits : goal.new-resolved-requires-clause-fits
new-resolved-requires-clause-fits g c = FieldsFit-IsLaidOut c.args.layout.now c.requires.laid_out
