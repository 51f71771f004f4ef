-- The core of the running table: the words and the views, as plain data.
--   IsShown core hand               a hand has the lists that the core has for its workers
--   Shows shape words views core    the words and the views have this core
--   CoreIsReachable shape words views        they have a core that some list of steps gives
--   Holds shape words views         the invariant of the table
--   IsCoreStep, IsShownSplit, IsShownJoin   the effect of a step of the table on its core
use Rattle.std.specs.Prelude.{◌≡◌, ℕ, suc, ◌+◌, ◌%◌, ◌^◌, ◌<◌, List, [], ◌∷◌, ◌++◌, All, length, slice_get, slice_index, slice_set, Some}
use mathlib.Core.Option.{some}
use lib.ListN.{get_elem?}
use Rattle.wild_crew.specs.declared.hand.Hand.{Hand}
use Rattle.wild_crew.specs.declared.hand.Shape.{Shape}
use Rattle.wild_crew.specs.declared.steps.Core.{Core}
use Rattle.wild_crew.specs.declared.steps.Step.{Step}
use Rattle.wild_crew.specs.declared.steps.Step.TheVariants.{Claim, Count}
use Rattle.wild_crew.specs.Sums.{total, counted}
use Rattle.wild_crew.specs.Crew.{Keeps}
use Rattle.wild_crew.specs.Runs.{empty_core, after, run}

-- a hand's lists are those of its first worker; its other workers have no entries yet
pub record IsShown (core : Core) (h : Hand) : Type 0 where
  pub claims : slice_get core.claims h.from ≡ Some h.claims
  pub counts : slice_get core.counts h.from ≡ Some h.counts
  pub others : (w : ℕ) → h.from < w → w < h.from + h.count → (slice_get core.claims w ≡ Some []) × (slice_get core.counts w ≡ Some [])

-- word 0 is next, each hand has its workers' lists, and each other word is the count of its section, modulo 2^64
pub record Shows (shape : Shape) (words : List ℕ) (views : List (List Hand)) (core : Core) : Type 0 where
  pub next : slice_index words 0 ≡ core.next
  pub lists : All (All (IsShown core)) views
  pub sums : (k : ℕ) → k < shape.sections → slice_index words (suc k) ≡ total (counted k) core.counts % 2 ^ 64
  pub workers : (length core.claims ≡ shape.workers) × (length core.counts ≡ shape.workers)
  pub sections : core.sections ≡ shape.sections

-- the worker and the section exist
abbrev pub InRange : ℕ → ℕ → Step → Type 0
InRange workers sections (Claim w) = w < workers
InRange workers sections (Count w k n) = (w < workers) × (k < sections)

-- the core of the words and views is one that steps of these workers and sections give
pub record CoreIsReachable (shape : Shape) (words : List ℕ) (views : List (List Hand)) : Type 0 where
  pub steps : List Step
  pub ranged : All (InRange shape.workers shape.sections) steps
  pub shows : Shows shape words views (run (empty_core shape.workers shape.sections) steps)

-- The invariant of the table
abbrev pub Holds : Shape → List ℕ → List (List Hand) → Type 0
Holds shape words views = Keeps shape words views × CoreIsReachable shape words views

-- if the seat has its view and word i is m: once the word is n and the seat has its new view, the core is that after this step
abbrev pub IsCoreStep : Shape → ℕ → List Hand → ℕ → ℕ → ℕ → List Hand → Step → Type 0
IsCoreStep shape id before i m n now step = (words : List ℕ) (views : List (List Hand)) (core : Core) → Keeps shape words views → Shows shape words views core → get_elem? views id ≡ some before → slice_index words i ≡ m
    → Shows shape (slice_set words i n) (slice_set views id now) (after core step)

-- the core is unchanged when the seat's view is split in two
abbrev pub IsShownSplit : Shape → ℕ → List Hand → List Hand → List Hand → Type 0
IsShownSplit shape id before left right = (words : List ℕ) (views : List (List Hand)) (core : Core) → Keeps shape words views → Shows shape words views core → get_elem? views id ≡ some before
    → Shows shape words (slice_set views id left ++ right ∷ []) core

-- the core is unchanged when the seat takes over what another has, and the other's view becomes empty
abbrev pub IsShownJoin : Shape → ℕ → List Hand → ℕ → List Hand → List Hand → Type 0
IsShownJoin shape id before other its now = (words : List ℕ) (views : List (List Hand)) (core : Core) → Keeps shape words views → Shows shape words views core → get_elem? views id ≡ some before → ¬ (other ≡ id)
    → get_elem? (slice_set views id now) other ≡ some its → Shows shape words (slice_set (slice_set views id now) other []) core
