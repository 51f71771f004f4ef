-- Runs of a sink, which takes items one after another.
--   SinkRun goes refuses a xs r b        offered the items xs, the sink goes from state a to b with result r; after the first refused item
--                                    no more are offered
--   RestOfWalk goes refuses a all b rest   in state b of a walk over all from state a, rest is still to be offered
--   numbered_items f i ys                  the items that f gives for each y and its number, counted from i
use Rattle.std.specs.Prelude.{ℕ, ◌+◌, List, [], ◌∷◌, ◌++◌, Result, Ok, Err}

pub data SinkRun {S X E : Type 0} (goes : S → X → S → Type 0) (refuses : S → X → E → S → Type 0) : S → List X → Result (Unit {0}) E → S → Type 0 where
  none : {a : S} → SinkRun goes refuses a [] (Ok tt) a
  more : {a b c : S} {x : X} {xs : List X} {r : Result (Unit {0}) E} → goes a x b → SinkRun goes refuses b xs r c → SinkRun goes refuses a (x ∷ xs) r c
  stop : {a b : S} {x : X} {xs : List X} {e : E} → refuses a x e b → SinkRun goes refuses a (x ∷ xs) (Err e) b

-- in state at of a walk over all, rest is still to be offered: a run over rest from there completes the walk
pub record RestOfWalk {S X E : Type 0} (goes : S → X → S → Type 0) (refuses : S → X → E → S → Type 0) (from : S) (all : List X) (at : S) (rest : List X) : Type 0 where
  pub on : (r : Result (Unit {0}) E) (to : S) → SinkRun goes refuses at rest r to → SinkRun goes refuses from all r to

-- the items that f gives for each y and its number, counted from i
abbrev pub numbered_items : {X Y : Type 0} → (ℕ → Y → List X) → ℕ → List Y → List X
numbered_items f i [] = []
numbered_items f i (y ∷ ys) = f i y ++ numbered_items f (i + 1) ys
