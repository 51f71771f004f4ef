-- A number among the words of slots: no entry fills a byte of it, or it is the second word of a descriptor.
use Rattle.wild_loaded.proofs.Common.{◌≡◌, ℕ, zero, suc, ◌+◌, ◌<◌, ◌≤◌, ◌⊎◌, inl, inr, Bool, true, false, List, [], ◌∷◌, ◌++◌, length, get_or, refl, sym, ap, ◌∙◌, arith, subst, Option, Some, None, All, Contains, option_to_list, All-nil, All-cons, All-append, All-contains, Contains-append_right, SlotEntry, SlotWord, Number, Address, InRelrGot, General, Plt, Layout, is_packed, next, Contains-flat_map, Ascend, place_in, entry_in, filled_width}
use Rattle.wild_slot.specs.declared.slot_parts.WordPart.TheVariants as words
use Rattle.wild_loaded.proofs.SlotSites.{SlotSite, of_site}
use Rattle.wild_loaded.proofs.Fillings.{Filling}
use Rattle.wild_loaded.proofs.SlotFillings.{address_filling, slot_filling, made_of}
use Rattle.wild_loaded.proofs.SlotsSpaced.{IsNarrow, IsNumber, SitesSpaced}
use Rattle.wild_loaded.proofs.SlotsKnown.{width_most, two_widths, filled_places, number_none, number_own, behind_place, second_there, tail_ascend, got_places}

-- a filling has no byte of the word at a place
abbrev pub IsClear : ℕ → Filling → Type 0
IsClear a f = (f.entry.offset + f.width ≤ a) ⊎ (a + 8 ≤ f.entry.offset)

-- the word is the second that an entry fills
pub record IsSecond (xs : List SlotSite) (a : ℕ) : Type 0 where
  pub first : SlotSite
  pub listed : Contains xs first
  pub entry : SlotEntry
  pub is : entry_in first.word ≡ Some entry
  pub wide : filled_width entry ≡ 16
  pub place : a ≡ first.at + 8

abbrev pub IsKept : Layout → List SlotSite → SlotSite → Type 0
IsKept l xs y = IsNumber y.word → All (IsClear y.at) (made_of (slot_filling l) xs) ⊎ IsSecond xs y.at

-- ---- one site more

-- the filling of a site with a word that is all that its entry fills ends behind that
narrow_end : (l : Layout) (at a : ℕ) (d : SlotWord) → IsNarrow d → at + 8 ≤ a → All (IsClear a) (option_to_list (slot_filling l at d))
narrow_end l at a (Number n) narrow le = All-nil (IsClear a)
narrow_end l at a (InRelrGot v) narrow le = All-nil (IsClear a)
narrow_end l at a (Address v) narrow le = by_test (is_packed l.options.relr at)
  where
    by_test : (b : Bool) → All (IsClear a) (address_filling l at v b ∷ [])
    by_test true = All-cons (IsClear a) (address_filling l at v true) [] (inl (omega (arith, le))) (All-nil (IsClear a))
    by_test false = All-cons (IsClear a) (address_filling l at v false) [] (inl (omega (arith, le))) (All-nil (IsClear a))
narrow_end l at a (General e) narrow le = All-cons (IsClear a) _ [] (inl (omega (arith, le, narrow))) (All-nil (IsClear a))
narrow_end l at a (Plt e) narrow le = All-cons (IsClear a) _ [] (inl (omega (arith, le, narrow))) (All-nil (IsClear a))

-- that of any ends two words behind
wide_end : (l : Layout) (at a : ℕ) (d : SlotWord) → at + 16 ≤ a → All (IsClear a) (option_to_list (slot_filling l at d))
wide_end l at a (Number n) le = All-nil (IsClear a)
wide_end l at a (InRelrGot v) le = All-nil (IsClear a)
wide_end l at a (Address v) le = narrow_end l at a (Address v) tt (omega (arith, le))
wide_end l at a (General e) le = All-cons (IsClear a) _ [] (let most = width_most e in inl (omega (arith, le, most))) (All-nil (IsClear a))
wide_end l at a (Plt e) le = All-cons (IsClear a) _ [] (let most = width_most e in inl (omega (arith, le, most))) (All-nil (IsClear a))

-- the word behind one is clear of what that one has filled, or the second of two
next_end : (l : Layout) (x : SlotSite) (xs : List SlotSite) (a : ℕ) → a ≡ x.at + 8 → All (IsClear a) (of_site (slot_filling l) x) ⊎ IsSecond (x ∷ xs) a
next_end l x xs a is = by_word x.word refl
  where
    second : (e : SlotEntry) → entry_in x.word ≡ Some e → filled_width e ≡ 16 → IsSecond (x ∷ xs) a
    second e entry wide = record { first = x; listed = (0, omega arith, refl); entry = e; is = entry; wide = wide; place = is }

    narrow : (d : SlotWord) → x.word ≡ d → IsNarrow d → All (IsClear a) (of_site (slot_filling l) x)
    narrow d e n = narrow_end l x.at a x.word (subst IsNarrow (sym e) n) (omega (arith, is))

    by_word : (d : SlotWord) → x.word ≡ d → All (IsClear a) (of_site (slot_filling l) x) ⊎ IsSecond (x ∷ xs) a
    by_word (Number n) e = inl (narrow (Number n) e tt)
    by_word (Address v) e = inl (narrow (Address v) e tt)
    by_word (InRelrGot v) e = inl (narrow (InRelrGot v) e tt)
    by_word (General s) e = elim (two_widths s) [ inl n ↦ inl (narrow (General s) e n) | inr both ↦ inr (second s (ap entry_in e) both) ]
    by_word (Plt s) e = elim (two_widths s) [ inl n ↦ inl (narrow (Plt s) e n) | inr both ↦ inr (second s (ap entry_in e) both) ]

-- what is kept of the rest is kept of all, where the filling ahead is clear of it
one_more : (l : Layout) (x : SlotSite) (xs : List SlotSite) (y : SlotSite) → (IsNumber y.word → All (IsClear y.at) (of_site (slot_filling l) x) ⊎ IsSecond (x ∷ xs) y.at) → IsKept l xs y → IsKept l (x ∷ xs) y
one_more l x xs y here rest = λ num. both (here num) (rest num)
  where
    later : IsSecond xs y.at → IsSecond (x ∷ xs) y.at
    later h = record { first = h.first; listed = Contains-append_right (x ∷ []) xs h.first h.listed; entry = h.entry; is = h.is; wide = h.wide; place = h.place }

    both : All (IsClear y.at) (of_site (slot_filling l) x) ⊎ IsSecond (x ∷ xs) y.at → All (IsClear y.at) (made_of (slot_filling l) xs) ⊎ IsSecond xs y.at → All (IsClear y.at) (made_of (slot_filling l) (x ∷ xs)) ⊎ IsSecond (x ∷ xs) y.at
    both (inr s) b = inr s
    both (inl a) (inr s) = inr (later s)
    both (inl a) (inl b) = inl (All-append (IsClear y.at) (of_site (slot_filling l) x) (made_of (slot_filling l) xs) a b)

-- a number ahead of other words
ahead : (l : Layout) (low high : ℕ) (x : SlotSite) (xs : List SlotSite) → Ascend 8 low high (got_places (x ∷ xs)) → IsKept l (x ∷ xs) x
ahead l low high x xs h = λ num. inl (
    let places = subst (λ (o : Option ℕ). Ascend 8 low high (option_to_list o ++ got_places xs)) (number_own x.at x.word num) h in
    let behind = filled_places l (λ (q : ℕ). x.at + 8 ≤ q) xs (behind_place low high x.at (got_places xs) places) in
    All-append (IsClear x.at) (of_site (slot_filling l) x) (made_of (slot_filling l) xs) (none num) (λ k d lt. inr (behind k d lt)))
  where
    none : IsNumber x.word → All (IsClear x.at) (of_site (slot_filling l) x)
    none num = subst (λ (o : Option Filling). All (IsClear x.at) (option_to_list o)) (sym (number_none l x.at x.word num)) (All-nil (IsClear x.at))

-- a word has its place in the table, or nothing there is filled for it
placed : (l : Layout) (at : ℕ) (d : SlotWord) → (place_in words.Got at d ≡ Some at) ⊎ (slot_filling l at d ≡ None)
placed l at (InRelrGot a) = inr refl
placed l at (Number n) = inl refl
placed l at (Address a) = inl refl
placed l at (General e) = inl refl
placed l at (Plt e) = inl refl

-- a number among words has its place among theirs
place_listed : (xs : List SlotSite) (y : SlotSite) → Contains xs y → IsNumber y.word → Contains (got_places xs) y.at
place_listed xs y c num = Contains-flat_map (of_site (place_in words.Got)) xs y y.at c (subst (λ (o : Option ℕ). Contains (option_to_list o) y.at) (sym (number_own y.at y.word num)) (0, omega arith, refl))

-- each word behind one stands 8 bytes behind or more
later : (low high at : ℕ) (xs : List SlotSite) (y : SlotSite) → Ascend 8 low high (at ∷ got_places xs) → Contains xs y → IsNumber y.word → at + 8 ≤ y.at
later low high at xs y h c num = All-contains (λ (q : ℕ). at + 8 ≤ q) (got_places xs) y.at (behind_place low high at (got_places xs) h) (place_listed xs y c num)

-- the filling ahead of a number
ahead_of : (l : Layout) (low high : ℕ) (x z : SlotSite) (zs : List SlotSite) (y : SlotSite) → (IsNarrow x.word ⊎ (IsNumber z.word × (z.at ≡ next x.at))) → Ascend 8 low high (got_places (x ∷ z ∷ zs)) → Contains (z ∷ zs) y → ((y.at ≡ z.at) ⊎ Contains zs y) → IsNumber y.word → All (IsClear y.at) (of_site (slot_filling l) x) ⊎ IsSecond (x ∷ z ∷ zs) y.at
ahead_of l low high x z zs y spaced h c where_is num = by_place (placed l x.at x.word)
  where
    by_place : (place_in words.Got x.at x.word ≡ Some x.at) ⊎ (slot_filling l x.at x.word ≡ None) → All (IsClear y.at) (of_site (slot_filling l) x) ⊎ IsSecond (x ∷ z ∷ zs) y.at
    by_place (inr none) = inl (subst (λ (o : Option Filling). All (IsClear y.at) (option_to_list o)) (sym none) (All-nil (IsClear y.at)))
    by_place (inl own) =
        let places = subst (λ (o : Option ℕ). Ascend 8 low high (option_to_list o ++ got_places (z ∷ zs))) own h in
        by_spaced places spaced where_is
      where
        by_spaced : Ascend 8 low high (x.at ∷ got_places (z ∷ zs)) → (IsNarrow x.word ⊎ (IsNumber z.word × (z.at ≡ next x.at))) → ((y.at ≡ z.at) ⊎ Contains zs y) → All (IsClear y.at) (of_site (slot_filling l) x) ⊎ IsSecond (x ∷ z ∷ zs) y.at
        by_spaced places (inl narrow) w = inl (narrow_end l x.at y.at x.word narrow (later low high x.at (z ∷ zs) y places c num))
        by_spaced places (inr n) (inl here) = next_end l x (z ∷ zs) y.at (here ∙ second_there l low high x.at z zs n.0 n.1 places)
        by_spaced places (inr n) (inr there) =
            let is = second_there l low high x.at z zs n.0 n.1 places in
            let rest = tail_ascend low high x (z ∷ zs) h in
            let own = subst (λ (o : Option ℕ). Ascend 8 low high (option_to_list o ++ got_places zs)) (number_own z.at z.word n.0) rest in
            let le = later low high z.at zs y own there num in
            inl (wide_end l x.at y.at x.word (omega (arith, is, le)))

-- each number is kept
pub all_kept : (l : Layout) (low high : ℕ) (xs : List SlotSite) (y : SlotSite) → SitesSpaced xs → Ascend 8 low high (got_places xs) → Contains xs y → IsKept l xs y
all_kept l low high [] y spaced h c = absurd (omega (arith, c.1))
all_kept l low high (x ∷ []) y spaced h c = only x [] c.0 c.1 c.2 h
  where
    only : (x : SlotSite) (xs : List SlotSite) (k : ℕ) → k < 1 → get_or (x ∷ []) k y ≡ y → Ascend 8 low high (got_places (x ∷ [])) → IsKept l (x ∷ []) y
    only x xs zero m e h = subst (λ (z : SlotSite). IsKept l (x ∷ []) z) e (ahead l low high x [] h)
    only x xs (suc k) m e h = absurd (omega (arith, m))
all_kept l low high (x ∷ z ∷ zs) y spaced h c = by_number c.0 c.1 c.2 (λ k m e. all_kept l low high (z ∷ zs) y spaced.1 (tail_ascend low high x (z ∷ zs) h) (k, m, e))
  where
    where_is : (k : ℕ) → k < length (z ∷ zs) → get_or (z ∷ zs) k y ≡ y → (y.at ≡ z.at) ⊎ Contains zs y
    where_is zero m e = inl (ap (λ (s : SlotSite). s.at) (sym e))
    where_is (suc k) m e = inr (k, omega (arith, m), e)

    by_number : (k : ℕ) → k < length (x ∷ z ∷ zs) → get_or (x ∷ z ∷ zs) k y ≡ y → ((k : ℕ) → k < length (z ∷ zs) → get_or (z ∷ zs) k y ≡ y → IsKept l (z ∷ zs) y) → IsKept l (x ∷ z ∷ zs) y
    by_number zero m e again = subst (λ (s : SlotSite). IsKept l (x ∷ z ∷ zs) s) e (ahead l low high x (z ∷ zs) h)
    by_number (suc k) m e again = one_more l x (z ∷ zs) y (λ num. ahead_of l low high x z zs y spaced.0 h (k, omega (arith, m), e) (where_is k (omega (arith, m)) e) num) (again k (omega (arith, m)) e)
