-- The core after each worker has ended.
use Rattle.std.specs.Prelude.{◌≡◌, ℕ, ◌+◌, ◌<◌, ◌≤◌, true, List, [], ◌∷◌, ◌++◌, All, length, slice_index}
use Rattle.wild_crew.specs.declared.hand.Hand.{Hand}
use Rattle.wild_crew.specs.declared.hand.Shape.{Shape}
use Rattle.wild_crew.specs.declared.steps.Core.{Core}
use Rattle.wild_crew.specs.declared.steps.Step.{Step}
use Rattle.wild_crew.specs.Sums.{total, between, counted, late_claims, rises_from, EachOnce}
use Rattle.wild_crew.specs.Runs.{empty_core, run, are_permitted}
use Rattle.wild_crew.specs.TableCore.{Shows, Holds}

-- only the last claim is no group
abbrev pub EndsPast : ℕ → List ℕ → Type 0
EndsPast groups claims = (ran : List ℕ) × (last : ℕ) × (claims ≡ ran ++ last ∷ []) × (groups ≤ last) × (late_claims groups ran ≡ 0)

-- the count of section k in the groups below n
abbrev pub sum_of : (ℕ → List (ℕ × ℕ)) → ℕ → ℕ → ℕ
sum_of counts_of n k = between (λ g. counted k (counts_of g)) 0 n

-- there is a total for each section, the count of that section in the groups
abbrev pub AreTotals : (ℕ → List (ℕ × ℕ)) → ℕ → ℕ → List ℕ → Type 0
AreTotals counts_of groups sections totals = (length totals ≡ sections) × ((k : ℕ) → k < sections → slice_index totals k ≡ sum_of counts_of groups k)

-- The core at the end
pub record AtEnd (shape : Shape) (totals : List ℕ) (core : Core) : Type 0 where
  pub next : core.next ≡ shape.groups + shape.workers
  -- each number below next was claimed once, so each group was
  pub once : EachOnce core.next core.claims
  pub rising : All (λ c. rises_from 0 c ≡ true) core.claims
  -- each worker's last claim is no group, its others are
  pub ends : (length core.claims ≡ shape.workers) × All (EndsPast shape.groups) core.claims
  pub sums : (length core.counts ≡ shape.workers) × ((k : ℕ) → k < shape.sections → total (counted k) core.counts ≡ slice_index totals k)
  pub sections : core.sections ≡ shape.sections
  -- some list of permitted steps gives this core
  pub steps : (xs : List Step) × are_permitted (empty_core shape.workers shape.sections) xs × (core ≡ run (empty_core shape.workers shape.sections) xs)
  -- words and views that satisfy the invariant have this core, and the words are next and the totals
  pub shown : (views : List (List Hand)) × Holds shape (core.next ∷ totals) views × Shows shape (core.next ∷ totals) views core

-- the shape with these numbers of workers, groups and sections
abbrev pub shape_of : ℕ → ℕ → ℕ → Shape
shape_of workers groups sections = record { workers = workers; groups = groups; sections = sections }
