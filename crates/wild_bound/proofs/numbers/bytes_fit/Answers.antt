use Rattle.wild_bound.proofs.Common.{ℕ, ◌<◌, subst}
use Rattle.std.proofs.lemmas.List.{get_or_default}
use Rattle.wild_bound.proofs.numbers.bytes_fit.Goals as goal

pub returns : goal.returns
returns c = λ k d low. subst (λ (b : ℕ). b < 256) (get_or_default c.args.bytes.now k 0 d low) (c.type_inv.bytes k).fits
