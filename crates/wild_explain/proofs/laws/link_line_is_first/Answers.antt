use Rattle.wild_explain.proofs.LineLemmas.{begun}
use Rattle.wild_explain.proofs.laws.link_line_is_first.Goals as goal

pub returns : goal.returns
returns c = begun
