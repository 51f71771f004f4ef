use Rattle.std.proofs.Common.{◌≡◌, ◌+◌, ◌-◌, ◌/◌, arith, inl, inr}
use Rattle.wild_relr.proofs.WriterLemmas.{block_counted, no_block}
use Rattle.wild_relr.proofs.words.block_words.Goals as goal
use Rattle.wild_relr.proofs.words.block_words.Goals.{then-slots-eq0, else-slots-eq0}

pub returns-then-base-eq0-clause-is : goal.returns-then-base-eq0-clause-is
returns-then-base-eq0-clause-is c = no_block _ _ (inl c.if-base-eq0.true)

pub returns-then-n-eq0-clause-is : goal.returns-then-n-eq0-clause-is
returns-then-n-eq0-clause-is c = no_block _ _ (inr c.if-n-eq0.true)

pub returns-clause-is : goal.returns-clause-is
returns-clause-is c =
    let r : (c.args.n - 1) / 63 + c.if-slots-eq0.rest ≡ (c.args.n - 1 + 62) / 63 = elim c.if-slots-eq0.branch [ then-slots-eq0 w ↦ omega arith | else-slots-eq0 w ↦ omega arith ] in
    block_counted _ _ _ (omega arith) (omega arith) r

pub returns-clause-counted : goal.returns-clause-counted
returns-clause-counted c =
    let r : (c.args.n - 1) / 63 + c.if-slots-eq0.rest ≡ (c.args.n - 1 + 62) / 63 = elim c.if-slots-eq0.branch [ then-slots-eq0 w ↦ omega arith | else-slots-eq0 w ↦ omega arith ] in
    λ h. omega arith
