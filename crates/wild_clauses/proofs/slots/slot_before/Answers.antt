use Rattle.std.proofs.Common.{Some, None, sym, ap, ◌∙◌}
use Rattle.wild_types.specs.Lists.{first_failing}
use Rattle.wild_types.specs.SymbolSlots.{lacks_slots}
use Rattle.wild_plan_rules.proofs.SlotPlaceLemmas.{slot_found}
use Rattle.wild_clauses.proofs.slots.slot_before.Goals as goal

pub returns-in_err-found : goal.returns-in_err-found
returns-in_err-found c =
    let is = c.first_failing.ensures.is ∙ ap (first_failing lacks_slots 0) c.symbols_from-symbols.ensures.are in
    c.from_residual.ensures ∙ slot_found c.args.layout.now.symbols c.args.from c.args.to _ None (sym (c.in_err-found.was) ∙ is) c.saturating_sub.ensures

pub returns : goal.returns
returns c =
    let is = c.first_failing.ensures.is ∙ ap (first_failing lacks_slots 0) c.symbols_from-symbols.ensures.are in
    slot_found c.args.layout.now.symbols c.args.from c.args.to _ (Some c.in_ok-found.found) (sym (c.in_ok-found.was) ∙ is) c.saturating_sub.ensures
