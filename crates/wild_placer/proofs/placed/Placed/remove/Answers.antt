use Rattle.wild_placer.proofs.Common.{◌≡◌, ℕ, List, ◌∙◌, sym, ap, subst, None, IsSome, Memory, Placements}
use Rattle.wild_loader.specs.Changes.{first_value}
use Rattle.wild_placer.specs.Placed.{without}
use Rattle.wild_placer.proofs.PlacedLemmas.{none_of}
use Rattle.wild_placer.proofs.placed.Placed.remove.Goals as goal

pub invariant_of-self : goal.invariant_of-self
invariant_of-self c = c.remove_memory.ensures.placed c.self.inside.next c.self.invariant

pub invariant_of-self-2 : goal.invariant_of-self-2
invariant_of-self-2 c = c.remove_memory.ensures.placed c.self.inside.next c.self.invariant

pub returns-clause-live : goal.returns-clause-live
returns-clause-live c =
    let P : Placements → Type 0 = λ p. IsSome (first_value p.live c.args.number) in
    subst P c.self.view_is (sym c.remove_memory.ensures.found ∙ c.if-not-remove_memory.false)

pub returns-clause-removed : goal.returns-clause-removed
returns-clause-removed c =
    let after : Placements = record { next = c.self.inside.next; live = c.remove_memory.new.live.entries } in
    let P : Placements → Type 0 = λ p. after ≡ record { next = p.next; live = without c.args.number p.live } in
    let with_live : List (ℕ × Memory) → Placements = λ es. record { next = c.self.inside.next; live = es } in
    subst P c.self.view_is (ap with_live c.remove_memory.ensures.live)

pub returns-then-not-remove_memory-clause-none : goal.returns-then-not-remove_memory-clause-none
returns-then-not-remove_memory-clause-none c =
    let P : Placements → Type 0 = λ p. first_value p.live c.args.number ≡ None in
    subst P c.self.view_is (none_of (first_value c.self.inside.live.entries c.args.number) (sym c.remove_memory.ensures.found ∙ c.if-not-remove_memory.true))

pub returns-then-not-remove_memory-clause-kept : goal.returns-then-not-remove_memory-clause-kept
returns-then-not-remove_memory-clause-kept c =
    let with_live : List (ℕ × Memory) → Placements = λ es. record { next = c.self.inside.next; live = es } in
    ap with_live (c.remove_memory.ensures.kept c.if-not-remove_memory.true) ∙ c.self.view_is
