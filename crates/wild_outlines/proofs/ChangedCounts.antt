-- The numbers of relocations read for each section, after a change.
use Rattle.wild_outlines.proofs.Common.{◌≡◌, ℕ, zero, suc, ◌+◌, ◌-◌, ◌<◌, true, false, List, map, length, Option, Some, None, refl, sym, subst, ◌∙◌, arith, inl, inr, ◌==◌, ◌&&◌, not, slice_get, range_with_len, cases_Bool, and_parts, InputSection, Section, File, Group, Layout, is_partial_link, total, Change, found_section, with_item, changed_section, changed_layout}
use Rattle.std.proofs.lemmas.Bool.{eqb-true, eq-eqb}
use Rattle.wild_types.specs.declared.part.Role.TheVariants as role
use Rattle.wild_types.specs.HeaderOnly.{is_omitted}
use Rattle.wild_types.specs.Lookups.{is_counted, section_of, section_of_part, header_only}
use Rattle.wild_types.specs.Parts.{part_with}
use Rattle.wild_layout.specs.Image.{counted, count_of, counts}
use Rattle.wild_outlines.specs.ChangedLaws.{changed_counts}
use Rattle.wild_outlines.proofs.ListLemmas.{map-same, total-same}
use Rattle.wild_outlines.proofs.ChangedItems.{FoundSection, FoundSection-from_found, sum_replaced}

-- ---- numbers of which one is replaced

rest_same : (f g : ℕ → ℕ) (k : ℕ) → ((i : ℕ) → (i ≡ k → ⊥) → g i ≡ f i) → (a n : ℕ) → k < a → map g (range_with_len a n) ≡ map f (range_with_len a n)
rest_same f g k other a zero low = refl
rest_same f g k other a (suc n) low = rw (other a (λ e. absurd (omega (arith, e, low))), rest_same f g k other (a + 1) n (omega (arith, low))) refl

one_replaced : (f g v : ℕ → ℕ) (k : ℕ) → g k ≡ v (f k) → ((i : ℕ) → (i ≡ k → ⊥) → g i ≡ f i) → (a n j : ℕ) → k ≡ a + j → map g (range_with_len a n) ≡ with_item v j (map f (range_with_len a n))
one_replaced f g v k here other a zero j is = refl
one_replaced f g v k here other a (suc n) zero is =
    let e : k ≡ a = omega (arith, is) in
    let first : g a ≡ v (f a) = subst (λ (m : ℕ). g m ≡ v (f m)) e here in
    rw (first, rest_same f g k other (a + 1) n (omega (arith, e))) refl
one_replaced f g v k here other a (suc n) (suc j) is =
    rw (other a (λ e. absurd (omega (arith, e, is))), one_replaced f g v k here other (a + 1) n j (omega (arith, is))) refl

-- ---- counts

-- a change alters none header
counted-changed : (l : Layout) (c : Change) (k : ℕ) (s : InputSection) → counted (changed_layout l c) k s ≡ counted l k s
counted-changed l c k s = rw (header (section_of_part (part_with role.EhFrame l.parts)), header (section_of l s.part)) refl
  where
    by : (o : Option Section) → header_only (changed_layout l c) o ≡ header_only l o
    by None = refl
    by (Some x) = refl

    header : (i : ℕ) → header_only (changed_layout l c) (slice_get l.sections i) ≡ header_only l (slice_get l.sections i)
    header i = by (slice_get l.sections i)

abbrev sum_of : (InputSection → ℕ) → List Group → ℕ
sum_of n gs = total (λ (g : Group). total (λ (f : File). total n f.sections) g.files) gs

sum_same : (m n : InputSection → ℕ) → ((s : InputSection) → m s ≡ n s) → (gs : List Group) → sum_of m gs ≡ sum_of n gs
sum_same m n h gs =
    total-same (λ (g : Group). total (λ (f : File). total m f.sections) g.files) (λ (g : Group). total (λ (f : File). total n f.sections) g.files) gs
    (λ g. total-same (λ (f : File). total m f.sections) (λ (f : File). total n f.sections) g.files (λ f. total-same m n f.sections h))

-- the count of a section
count-changed : (l : Layout) (c : Change) (s : InputSection) → FoundSection l c s → is_partial_link l.kind ≡ false → (k : ℕ) → count_of (changed_layout l c) k + counted l k s ≡ count_of l k + counted l k (changed_section c s)
count-changed l c s p link k =
    let after = changed_layout l c in
    let same = sum_same (counted (changed_layout l c) k) (counted l k) (counted-changed l c k) (changed_layout l c).groups in
    let one = sum_replaced (counted l k) l c s p in
    rw (link, same) one

count_partial : (l : Layout) (k : ℕ) → is_partial_link l.kind ≡ true → count_of l k ≡ 0
count_partial l k h = rw h refl

-- nothing is counted of such a section
not_counted : (l : Layout) (c : Change) (s : InputSection) → (is_counted s && not (is_omitted l s)) ≡ false → (k : ℕ) → counted l k s ≡ counted l k (changed_section c s)
not_counted l c s h k = rw h refl

pub counts-changed : (l : Layout) (c : Change) (s : InputSection) → found_section l c ≡ Some s → counts (changed_layout l c) ≡ changed_counts l c s
unfolding counts
counts-changed l c s found =
    let after = changed_layout l c in
    let n = length l.sections in
    elim (cases_Bool (is_partial_link l.kind)) [
      | inl t ↦ rw t (map-same (count_of after) (count_of l) (range_with_len 0 n) (λ k. count_partial after k t ∙ sym (count_partial l k t)))
      | inr link ↦
          elim (cases_Bool (is_counted s && not (is_omitted l s))) [
            | inl t ↦ rw (link, t) (one_replaced (count_of l) (count_of after) (λ m. m + length c.relocations - length s.relocations) (section_of l s.part) (here link t) (others link) 0 n (section_of l s.part) (omega arith))
            | inr f ↦ rw (link, f) (map-same (count_of after) (count_of l) (range_with_len 0 n) (λ k. unchanged link f k))
          ]
    ]
  where
    p : FoundSection l c s
    p = FoundSection-from_found l c s found

    counted_here : (is_counted s && not (is_omitted l s)) ≡ true → counted l (section_of l s.part) s ≡ length s.relocations
    counted_here h = rw (h, eq-eqb (section_of l s.part) (section_of l s.part) refl) refl

    counted_new : (is_counted s && not (is_omitted l s)) ≡ true → counted l (section_of l s.part) (changed_section c s) ≡ length c.relocations
    counted_new h = rw (h, eq-eqb (section_of l s.part) (section_of l s.part) refl) refl

    here : is_partial_link l.kind ≡ false → (is_counted s && not (is_omitted l s)) ≡ true → count_of (changed_layout l c) (section_of l s.part) ≡ count_of l (section_of l s.part) + length c.relocations - length s.relocations
    here link h =
        let e = count-changed l c s p link (section_of l s.part) in
        let old = counted_here h in
        let new = counted_new h in
        omega (arith, e, old, new)

    unchanged : is_partial_link l.kind ≡ false → (is_counted s && not (is_omitted l s)) ≡ false → (k : ℕ) → count_of (changed_layout l c) k ≡ count_of l k
    unchanged link none k =
        let e = count-changed l c s p link k in
        let same = not_counted l c s none k in
        omega (arith, e, same)

    others : is_partial_link l.kind ≡ false → (k : ℕ) → (k ≡ section_of l s.part → ⊥) → count_of (changed_layout l c) k ≡ count_of l k
    others link k other =
        let e = count-changed l c s p link k in
        let old = elsewhere s k other in
        let new = elsewhere (changed_section c s) k other in
        omega (arith, e, old, new)
      where
        elsewhere : (t : InputSection) (k : ℕ) → (k ≡ section_of l t.part → ⊥) → counted l k t ≡ 0
        elsewhere t k other =
            elim (cases_Bool ((is_counted t && not (is_omitted l t)) && section_of l t.part == k)) [
              | inl e ↦ absurd (other (sym (eqb-true _ _ (and_parts (is_counted t && not (is_omitted l t)) (section_of l t.part == k) e).1)))
              | inr f ↦ rw f refl
            ]
