-- One group further in the walk over what groups begin at.
use Rattle.std.proofs.Common.{◌≡◌, ℕ, inl, inr, [], suc, ◌+◌, ◌<◌, true, List, ◌∷◌, length, drop, get_or, refl, sym, ap, ◌∙◌, subst, arith, drop-cons}
use Rattle.std.specs.Prelude.{Option}
use Rattle.std.proofs.lemmas.Bool.{cases_Bool}
use Rattle.wild_plan_rules.specs.declared.group_starts.Starts.{Starts}
use Rattle.wild_types.specs.declared.file.Group.{Group}
use Rattle.wild_types.specs.Lists.{first_failing}
use Rattle.wild_plan_rules.specs.GroupStarts.{no_starts, no_start_places, starts_after_group, begins_at, start_astray}

-- where a group's shares begin as they should, the first group astray is one behind it
pub start_more : (places : Starts (Option ℕ)) (from next : Starts ℕ) (i : ℕ) (gs : List Group) (g : Group) → i < length gs → g ≡ get_or gs i g → begins_at from g ≡ true → next ≡ starts_after_group places from g → start_astray places next (i + 1) (drop (i + 1) gs) ≡ start_astray places from i (drop i gs)
start_more places from next i gs g lt is ok behind =
    let more : suc i ≡ i + 1 = omega arith in
    let cut : drop i gs ≡ get_or gs i g ∷ drop (i + 1) gs = subst (λ (n : ℕ). drop i gs ≡ get_or gs i g ∷ drop n gs) more (drop-cons gs i g lt) in
    let cut' : drop i gs ≡ g ∷ drop (i + 1) gs = subst (λ (x : Group). drop i gs ≡ x ∷ drop (i + 1) gs) (sym is) cut in
    rw (cut', ok, behind) refl

from_front : (i : ℕ) (gs : List Group) → start_astray no_start_places no_starts i gs ≡ first_failing (begins_at no_starts) i gs
from_front i [] = refl
from_front i (g ∷ gs) =
    elim (cases_Bool (begins_at no_starts g)) [
      | inl t ↦ rw t (from_front (i + 1) gs)
      | inr f ↦ rw f refl
    ]

-- where there is none of the parts all shares begin at 0
pub none_begins : (places : Starts (Option ℕ)) (gs : List Group) → places ≡ no_start_places → start_astray places no_starts 0 gs ≡ first_failing (begins_at no_starts) 0 gs
none_begins places gs e = ap (λ (p : Starts (Option ℕ)). start_astray p no_starts 0 gs) e ∙ from_front 0 gs
