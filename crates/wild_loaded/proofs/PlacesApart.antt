-- Places of eight bytes in kept sections lie beside each other in memory.
use Rattle.wild_loaded.proofs.Common.{IsLoadable, all_sections, ◌≡◌, ℕ, ◌+◌, ◌<◌, ◌≤◌, ◌⊎◌, inl, inr, List, length, get_or, sym, ap, ◌∙◌, arith, subst, All, AllPairs, Contains, flat_map, cases_lt, get_or_default, not_empty, All-flat_map, AllPairs-flat_map, InputSection, Layout, KeepsAll, IsLaidOut, IsStored}
use Rattle.wild_loaded.proofs.SectionsDisjoint.{AreAside, sections_aside}
use Rattle.wild_words.proofs.ListLemmas.{at_places}
use Rattle.wild_loaded.proofs.Fillings.{Filling, Misses, DoNotOverlap}
use Rattle.wild_loaded.proofs.LoadedRanges.{LiesIn, fillings_disjoint, misses_across, disjoint_ranges_flip}
use Rattle.wild_loaded.proofs.SectionsApart.{range_of_section, stored_section_is_carried}

-- places in sections that are stored, beside each other in each
pub record HavePlaces (l : Layout) (of : InputSection → List Filling) : Type 0 where
  pub stored : All (λ (s : InputSection). 1 ≤ length (of s) → IsStored l s) (all_sections l)
  pub within : All (λ (s : InputSection). All (LiesIn (range_of_section l s)) (of s)) (all_sections l)
  pub beside : All (λ (s : InputSection). AllPairs DoNotOverlap (of s)) (all_sections l)

across_back : (l : Layout) (s t : InputSection) → AreAside l s t → AreAside l t s
across_back l s t a = λ x y. disjoint_ranges_flip (range_of_section l s) (range_of_section l t) (a y x)

-- ---- all sections

-- all places, in the order of the sections
abbrev pub all_places : Layout → (InputSection → List Filling) → List Filling
all_places l of = flat_map of (all_sections l)

-- all places lie beside each other
pub places_beside : (l : Layout) (of : InputSection → List Filling) → IsLoadable l.kind → KeepsAll l → IsLaidOut l → HavePlaces l of → AllPairs DoNotOverlap (flat_map of (all_sections l))
places_beside l of kind keeps laid h =
    let apart = sections_aside l keeps laid in
    AllPairs-flat_map DoNotOverlap of (all_sections l) h.beside
    (λ i j d lt m. (λ k e n p f q.
    both (get_or (all_sections l) i d) (get_or (all_sections l) j d) (get_or (of (get_or (all_sections l) i d)) k e) (get_or (of (get_or (all_sections l) j d)) p f)
    (h.stored i d (omega (arith, lt, m)) (not_empty _ k n))
    (h.stored j d m (not_empty _ p q))
    (apart i j d lt m)
    (h.within i d (omega (arith, lt, m)) k e n)
    (h.within j d m p f q)))
  where
    both : (s t : InputSection) (a b : Filling) → IsStored l s → IsStored l t → AreAside l s t → LiesIn (range_of_section l s) a → LiesIn (range_of_section l t) b → DoNotOverlap a b
    both s t a b x y across la lb = fillings_disjoint l (range_of_section l s) (range_of_section l t) a b kind laid (stored_section_is_carried l s x) (stored_section_is_carried l t y) (across x y) la lb

-- a byte outside the places of its own section is outside all places
pub misses_all : (l : Layout) (of : InputSection → List Filling) (s : InputSection) (k : ℕ) → IsLoadable l.kind → KeepsAll l → IsLaidOut l → HavePlaces l of → Contains (all_sections l) s → IsStored l s → k < s.size → All (Misses (s.address + k)) (of s) → All (Misses (s.address + k)) (flat_map of (all_sections l))
misses_all l of s k kind keeps laid h c stored below own =
    All-flat_map (Misses (s.address + k)) of (all_sections l)
    (λ j d m. elim (same_place j c.0) [
      | inl e ↦ (let here : get_or (all_sections l) j d ≡ s = get_or_default (all_sections l) j d s m ∙ ap (λ (i : ℕ). get_or (all_sections l) i s) e ∙ c.2 in subst (λ (t : InputSection). All (Misses (s.address + k)) (of t)) (sym here) own)
      | inr other ↦ there l of s k kind keeps laid h c stored below j d m other
    ])
  where
    same_place : (i j : ℕ) → (i ≡ j) ⊎ (i ≡ j → ⊥)
    same_place i j =
        elim (cases_lt i j) [
          | inl lt ↦ inr (λ e. omega (arith, e, lt))
          | inr ge ↦ elim (cases_lt j i) [
            | inl lt ↦ inr (λ e. omega (arith, e, lt))
            | inr le ↦ inl (omega (arith, ge, le))
          ]
        ]

    there : (l : Layout) (of : InputSection → List Filling) (s : InputSection) (k : ℕ) → IsLoadable l.kind → KeepsAll l → IsLaidOut l → HavePlaces l of → (c : Contains (all_sections l) s) → IsStored l s → k < s.size → (j : ℕ) (d : InputSection) → j < length (all_sections l) → (j ≡ c.0 → ⊥) → All (Misses (s.address + k)) (of (get_or (all_sections l) j d))
    there l of s k kind keeps laid h c stored below j d m other =
        let pair = at_places (AreAside l) (all_sections l) (across_back l) (sections_aside l keeps laid) c.0 j d (λ e. other (sym e)) c.1 m in
        let here : get_or (all_sections l) c.0 d ≡ s = get_or_default (all_sections l) c.0 d s c.1 ∙ c.2 in
        let across = subst (λ (t : InputSection). AreAside l t (get_or (all_sections l) j d)) here pair in
        λ p f q. (let other = h.stored j d m (not_empty _ p q) in misses_across l (range_of_section l s) (range_of_section l (get_or (all_sections l) j d)) k (get_or (of (get_or (all_sections l) j d)) p f) kind laid (stored_section_is_carried l s stored) (stored_section_is_carried l (get_or (all_sections l) j d) other) (across stored other) below (h.within j d m p f q))
