use Rattle.std.proofs.Common.{◌≡◌, ◌+◌, ◌-◌, ℕ, List, [], ◌∷◌, Some, None, refl, sym, ap, ◌∙◌}
use Rattle.wild_types.specs.FilePlaces.{given}
use Rattle.wild_types.specs.Lists.{through}
use Rattle.wild_plan_rules.specs.MisplacedSections.{group_or, own_all_placed, entry_group}
use Rattle.wild_clauses.proofs.places.owner_in_part.Goals as goal

pub returns-then-not-pass_own : goal.returns-then-not-pass_own
returns-then-not-pass_own c =
    let said = rw (c.if-not-pass_own.true, c.saturating_sub.ensures, c.given.ensures, c.as_slice.ensures) at c.pass_own.ensures in
    rw said refl

pub returns : goal.returns
returns c =
    let said = rw (c.if-not-pass_own.false, c.saturating_sub.ensures, c.given.ensures, c.as_slice.ensures) at c.pass_own.ensures in
    rw (said, c.entry_group.ensures, c.as_slice-2.ensures) refl
