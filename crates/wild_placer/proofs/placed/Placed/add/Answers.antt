use Rattle.wild_placer.proofs.Common.{ℕ, ◌+◌, ◌-◌, ◌^◌, ◌<◌, List, ◌∙◌, sym, ap, subst, refl, Memory, Placements, AddFails}
use Rattle.wild_placer.specs.Placed.{IsAdded}
use Rattle.wild_placer.proofs.placed.Placed.add.Goals as goal

pub returns-in-Ok-clause-added : goal.returns-in-Ok-clause-added
returns-in-Ok-clause-added c =
    let with_live : List (ℕ × Memory) → Placements = λ es. record { next = c.self.inside.next + 1; live = es } in
    let few : Placements → Type 0 = λ p. p.next < 2 ^ 32 - 1 in
    let P : Placements → Type 0 = λ p. IsAdded p c.args.memory c.self.inside.next (with_live c.add_memory.new.live.entries) in
    subst P c.self.view_is (record { number = refl; few = subst few (sym c.self.view_is) c.requires.few; free = c.in-Ok.ensures.free; after = ap with_live c.in-Ok.ensures.live })

pub returns-in-Err-clause-fault : goal.returns-in-Err-clause-fault
returns-in-Err-clause-fault c =
    let P : Placements → Type 0 = λ p. AddFails c.in-Err.fault p c.args.memory in
    subst P c.self.view_is c.in-Err.ensures.fault

pub returns-in-Err-clause-kept : goal.returns-in-Err-clause-kept
returns-in-Err-clause-kept c =
    let with_live : List (ℕ × Memory) → Placements = λ es. record { next = c.self.inside.next; live = es } in
    ap with_live c.in-Err.ensures.kept ∙ c.self.view_is
