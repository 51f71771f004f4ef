use Rattle.std.proofs.Common.{◌∙◌}
use Rattle.wild_needs.specs.TableSymbols.{item}
use Rattle.wild_contents.proofs.WalkLemmas.{side_is}
use Rattle.wild_contents.proofs.symtab.is_side.Goals as goal

pub returns : goal.returns
returns c = λ l f i. c.is_on_side.ensures i ∙ side_is c.args.local l f (item c.args.named i c.args.symbol.now)
