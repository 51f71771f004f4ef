use Rattle.std.proofs.Common.{[], ◌∷◌, ◌++◌, sym, ap, ◌∙◌}
use Rattle.std.proofs.lemmas.List.{append-nil}
use Rattle.wild_needs.specs.SlotShares.{block_of}
use Rattle.wild_needs.proofs.SlotBlockLemmas.{placed, unplaced}
use Rattle.wild_needs.proofs.slot_shares.with_symbol.Goals as goal

pub returns-then-is_in_relr_got : goal.returns-then-is_in_relr_got
returns-then-is_in_relr_got c =
    let places = placed c.args.layout.now c.args.symbol.now (sym c.is_in_relr_got.ensures ∙ c.if-is_in_relr_got.true) in
    λ ps e. c.with.ensures ps e ∙ ap (λ at. block_of (ps ++ at ∷ [])) c.slots_address.ensures ∙ ap (λ qs. block_of (ps ++ qs)) (sym places)

pub returns-else-is_in_relr_got : goal.returns-else-is_in_relr_got
returns-else-is_in_relr_got c =
    let places = unplaced c.args.layout.now c.args.symbol.now (sym c.is_in_relr_got.ensures ∙ c.if-is_in_relr_got.false) in
    λ ps e. e ∙ ap block_of (sym (append-nil ps)) ∙ ap (λ qs. block_of (ps ++ qs)) (sym places)
