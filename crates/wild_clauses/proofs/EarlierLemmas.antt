-- The earlier of two places: of two searches through one list, that which ends first.
use Rattle.std.proofs.Common.{◌≡◌, ℕ, ◌+◌, ◌≤◌, ap, refl, arith, min}
use Rattle.std.specs.Prelude.{Option, Some, None}
use Rattle.wild_plan_rules.specs.MisplacedSections.{earlier}

-- the place is not before i
abbrev pub AtLeast : ℕ → Option ℕ → Type 0
AtLeast i None = Unit {0}
AtLeast i (Some j) = i ≤ j

pub at_least_less : (i : ℕ) (o : Option ℕ) → AtLeast (i + 1) o → AtLeast i o
at_least_less i None h = tt
at_least_less i (Some j) h = omega arith

pub earlier-first : (i : ℕ) (o : Option ℕ) → AtLeast i o → earlier (Some i) o ≡ Some i
earlier-first i None h = refl
earlier-first i (Some j) h = let e : min i j ≡ i = omega arith in ap Some e

pub earlier-second : (i : ℕ) (o : Option ℕ) → AtLeast i o → earlier o (Some i) ≡ Some i
earlier-second i None h = refl
earlier-second i (Some j) h = let e : min j i ≡ i = omega arith in ap Some e

pub earlier_none : (a : Option ℕ) → earlier a None ≡ a
earlier_none None = refl
earlier_none (Some i) = refl

pub earlier-assoc : (a b c : Option ℕ) → earlier (earlier a b) c ≡ earlier a (earlier b c)
earlier-assoc None b c = refl
earlier-assoc (Some i) None c = refl
earlier-assoc (Some i) (Some j) None = refl
earlier-assoc (Some i) (Some j) (Some k) = let e : min (min i j) k ≡ min i (min j k) = omega arith in ap Some e
