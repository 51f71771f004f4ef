use Rattle.std.proofs.Common.{drop, sym, ap, ◌∙◌}
use Rattle.wild_plan_rules.specs.MisplacedSections.{owner_in_parts}
use Rattle.wild_clauses.proofs.OrderedLemmas.{owner-found}
use Rattle.wild_clauses.proofs.RoomLemmas.{part_ends_low}
use Rattle.wild_clauses.proofs.places.owner_in_parts.Goals as goal

pub owner_in_part-requires : goal.owner_in_part-requires
owner_in_part-requires c =
    record { low = part_ends_low c.args.layout.now c.as_slice-part-items.result.now c.loop-k.k c.part-item.result c.as_slice-part-items.ensures c.requires.sizes c.loop-k-test.true c.part-item.is }

pub returns-in-Some : goal.returns-in-Some
returns-in-Some c =
    let said = sym c.owner_in_part.ensures ∙ c.in-Some.is in
    let found = owner-found c.args.layout.now c.args.i c.args.group.now c.loop-k.k c.as_slice-part-items.result.now c.part-item.result c.in-Some.owner c.loop-k-test.true c.part-item.is said in
    sym found ∙ ap (λ ps. owner_in_parts c.args.layout.now c.args.i c.args.group.now c.loop-k.k ps) (ap (drop c.loop-k.k) c.as_slice-part-items.ensures) ∙ c.loop-k.invariant
