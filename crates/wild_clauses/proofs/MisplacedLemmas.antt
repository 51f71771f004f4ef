-- The first group with an input section out of its place, part by part.
use Rattle.std.proofs.Common.{true, false, ◌≡◌, ℕ, ◌+◌, ◌≤◌, inl, inr, List, [], ◌∷◌, ◌++◌, ◌-◌, refl, sym, ap, ◌∙◌, arith, drop, length, get_or, ◌<◌}
use Rattle.std.specs.Prelude.{Option, Some, None}
use Rattle.std.proofs.lemmas.Bool.{cases_Bool}
use Rattle.std.proofs.lemmas.List.{drop_all, drop_more, length-map, length-drop, length-take-le, map-append}
use Rattle.std.proofs.lemmas.List.Folds.{drop_split}
use Rattle.std.specs.List.{slice_range}
use Rattle.wild_types.specs.declared.part.Part.{Part}
use Rattle.wild_types.specs.declared.file.Group.{Group}
use Rattle.wild_types.specs.declared.layout.Layout.{Layout}
use Rattle.wild_types.specs.FilePlaces.{given}
use Rattle.wild_plan_rules.specs.Contents.{addresses, ends_of, part_placed, parts_placed, section_misplaced}
use Rattle.wild_plan_rules.specs.MisplacedSections.{earlier, part_misplaced, misplaced}
use Rattle.wild_clauses.proofs.EarlierLemmas.{AtLeast, at_least_less, earlier-first, earlier-second, earlier_none, earlier-assoc}

pub misplaced-all : (l : Layout) (starts : List ℕ) (i : ℕ) (gs : List Group) → section_misplaced l starts i gs ≡ misplaced l 0 starts i gs
misplaced-all l starts i [] = refl
misplaced-all l starts i (g ∷ gs) = rw (misplaced-all l (ends_of g 0 starts) (i + 1) gs)

part-at_least : (l : Layout) (part start i : ℕ) (gs : List Group) → AtLeast i (part_misplaced l part start i gs)
part-at_least l part start i [] = tt
part-at_least l part start i (g ∷ gs) =
    elim (cases_Bool (part_placed l part start (start + given part g) g)) [
      | inl t ↦ rw t (at_least_less i _ (part-at_least l part (start + given part g) (i + 1) gs))
      | inr f ↦ rw f (omega arith)
    ]

misplaced-at_least : (l : Layout) (part : ℕ) (starts : List ℕ) (i : ℕ) (gs : List Group) → AtLeast i (misplaced l part starts i gs)
misplaced-at_least l part starts i [] = tt
misplaced-at_least l part starts i (g ∷ gs) =
    elim (cases_Bool (parts_placed l g part starts)) [
      | inl t ↦ rw t (at_least_less i _ (misplaced-at_least l part (ends_of g part starts) (i + 1) gs))
      | inr f ↦ rw f (omega arith)
    ]

pub misplaced-none : (l : Layout) (part i : ℕ) (gs : List Group) → misplaced l part [] i gs ≡ None
misplaced-none l part i [] = refl
misplaced-none l part i (g ∷ gs) = misplaced-none l part (i + 1) gs

pub misplaced-one : (l : Layout) (part start : ℕ) (starts : List ℕ) (i : ℕ) (gs : List Group) → misplaced l part (start ∷ starts) i gs ≡ earlier (part_misplaced l part start i gs) (misplaced l (part + 1) starts i gs)
misplaced-one l part start starts i [] = refl
misplaced-one l part start starts i (g ∷ gs) =
    let again = misplaced-one l part (start + given part g) (ends_of g (part + 1) starts) (i + 1) gs in
    let here = part_placed l part start (start + given part g) g in
    let later = parts_placed l g (part + 1) starts in
    elim (cases_Bool here) [
      | inl t ↦ elim (cases_Bool later) [
        | inl u ↦ rw (t, u) again
        | inr v ↦ rw (t, v) (sym (earlier-second i _ (at_least_less i _ (part-at_least l part (start + given part g) (i + 1) gs))))
      ]
      | inr f ↦ rw f (sym (earlier-first i _ (misplaced-at_least l (part + 1) starts i (g ∷ gs))))
    ]

-- the first group is out of its place
pub misplaced-here : (l : Layout) (part i : ℕ) (starts : List ℕ) (gs : List Group) (g : Group) → i < length gs → g ≡ get_or gs i g → parts_placed l g part starts ≡ false → misplaced l part starts i (drop i gs) ≡ Some i
misplaced-here l part i starts gs g lt e f = rw (drop_more gs i g lt, ← e, f)

-- the first group is in its place
pub misplaced-next : (l : Layout) (part i : ℕ) (starts : List ℕ) (gs : List Group) (g : Group) → i < length gs → g ≡ get_or gs i g → parts_placed l g part starts ≡ true → misplaced l part starts i (drop i gs) ≡ misplaced l part (ends_of g part starts) (i + 1) (drop (i + 1) gs)
misplaced-next l part i starts gs g lt e t = rw (drop_more gs i g lt, ← e, t)

pub misplaced-append : (l : Layout) (part : ℕ) (a b : List ℕ) (gs : List Group) → misplaced l part (a ++ b) 0 gs ≡ earlier (misplaced l part a 0 gs) (misplaced l (part + length a) b 0 gs)
misplaced-append l part [] b gs = let e : part + 0 ≡ part = omega arith in rw (misplaced-none l part 0 gs, e)
misplaced-append l part (s ∷ a) b gs =
    let e : part + length (s ∷ a) ≡ part + 1 + length a = omega arith in
    rw (misplaced-one l part s (a ++ b) 0 gs, misplaced-one l part s a 0 gs, misplaced-append l (part + 1) a b gs, e)
    (sym (earlier-assoc (part_misplaced l part s 0 gs) (misplaced l (part + 1) a 0 gs) (misplaced l (part + 1 + length a) b 0 gs)))

-- one block of parts more
pub block-next : (l : Layout) (ps : List Part) (part end : ℕ) (gs : List Group) (first : Option ℕ) → part ≤ end → end ≤ length ps → earlier (earlier first (misplaced l part (addresses (slice_range ps part end)) 0 gs)) (misplaced l end (addresses (drop end ps)) 0 gs) ≡ earlier first (misplaced l part (addresses (drop part ps)) 0 gs)
block-next l ps part end gs first le fits =
    let block = addresses (slice_range ps part end) in
    let later = addresses (drop end ps) in
    let split : addresses (drop part ps) ≡ block ++ later = ap addresses (drop_split ps part end le) ∙ map-append (λ (p : Part). p.address) (slice_range ps part end) (drop end ps) in
    let room : end - part ≤ length (drop part ps) = rw length-drop (omega arith) in
    let long : length block ≡ end - part = rw (length-map, length-take-le) in
    let next : part + length block ≡ end = omega arith in
    let both = rw next at (misplaced-append l part block later gs) in
    let e : misplaced l part (addresses (drop part ps)) 0 gs ≡ earlier (misplaced l part block 0 gs) (misplaced l end later 0 gs) = ap (λ (xs : List ℕ). misplaced l part xs 0 gs) split ∙ both in
    earlier-assoc first (misplaced l part block 0 gs) (misplaced l end later 0 gs) ∙ ap (earlier first) (sym e)

pub parts-done : (l : Layout) (ps : List Part) (part : ℕ) (gs : List Group) (first : Option ℕ) → length ps ≤ part → earlier first (misplaced l part (addresses (drop part ps)) 0 gs) ≡ first
parts-done l ps part gs first h = rw (drop_all part ps h, misplaced-none l part 0 gs) (earlier_none first)
