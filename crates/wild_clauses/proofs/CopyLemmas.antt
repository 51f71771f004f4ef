-- Copies, one after another: marks in windows tell the first group that copies a symbol again.
use Rattle.std.proofs.Common.{◌≡◌, ℕ, ◌+◌, ◌-◌, ◌*◌, ◌/◌, ◌<◌, ◌≤◌, inl, inr, Bool, true, false, not, List, [], ◌∷◌, ◌++◌, length, drop, get_or, replicate, max, refl, sym, ap, ◌∙◌, subst, arith, append_assoc}
use Rattle.std.specs.Prelude.{Option, Some, None, option_and_then, ◌&&◌, ◌||◌, ◌==◌, nat_lt, nat_le, slice_set}
use Rattle.std.specs.List.{list_all, list_any, flat_map}
use Rattle.std.proofs.lemmas.Bool.{cases_Bool, and_parts, and_from, and_left, and_right, and_cases, eqb-true, eqb-false, leb-true, ne_eqb, eq-eqb, lt-ltb, le-ltb, le-leb, lt-leb, ltb-true, ltb-false, leb-false}
use Rattle.std.proofs.lemmas.List.{append-nil, drop_more, get_or-set_same, get_or-set_other, get_or-replicate, length-replicate, length-set}
use Rattle.std.proofs.lemmas.List.Folds.{list_all-append, list_any-append}
use Rattle.wild_types.specs.declared.file.Group.{Group}
use Rattle.wild_types.specs.declared.layout.Layout.{Layout}
use Rattle.wild_types.specs.FileSymbols.{copied_definitions, are_distinct_from, first_double_copy}
use Rattle.wild_types.specs.Lists.{through}
use Rattle.wild_clauses.specs.Copies.{windows_of, with_mark, first_marked, lies_between, new_between, repeated_copy_between}
use Rattle.wild_plan_rules.specs.Indexes.{or_place}
use Rattle.wild_plan_rules.specs.MisplacedSections.{earlier}
use Rattle.wild_clauses.proofs.EarlierLemmas.{AtLeast, at_least_less, earlier-first, earlier-second}
use Rattle.wild_clauses.proofs.OrderedLemmas.{through_append}

-- ---- marks

-- n marks tell which of the numbers from start on are among the earlier ones
record Tells (start n : ℕ) (marks : List Bool) (earlier : List ℕ) : Type 0 where
  long : length marks ≡ n
  told : (k : ℕ) → k < n → get_or marks k false ≡ list_any (λ d. d == start + k) earlier

-- marks that were set for more numbers, where none was there
abbrev Marks : ℕ → ℕ → List ℕ → List ℕ → Option (List Bool) → Type 0
Marks start n e more None = new_between start (start + n) e more ≡ false
Marks start n e more (Some marks) = (new_between start (start + n) e more ≡ true) × Tells start n marks (e ++ more)

any_other : (d n : ℕ) (e : List ℕ) → (d ≡ n → ⊥) → list_any (λ c. c == n) (e ++ d ∷ []) ≡ list_any (λ c. c == n) e
any_other d n e other = rw (list_any-append (λ c. c == n) e (d ∷ []), ne_eqb d n other) (or_false (list_any (λ c. c == n) e))
  where
    or_false : (b : Bool) → (b || false) ≡ b
    or_false true = refl
    or_false false = refl

any_same : (d n : ℕ) (e : List ℕ) → d ≡ n → list_any (λ c. c == n) (e ++ d ∷ []) ≡ true
any_same d n e same = rw (list_any-append (λ c. c == n) e (d ∷ []), eq-eqb d n same) (or_true (list_any (λ c. c == n) e))
  where
    or_true : (b : Bool) → (b || true) ≡ true
    or_true true = refl
    or_true false = refl

lies_in : (a b d : ℕ) → a ≤ d → d < b → lies_between a b d ≡ true
lies_in a b d from to = rw (le-leb a d from, lt-ltb d b to) refl

lies_before : (a b d : ℕ) → d < a → lies_between a b d ≡ false
lies_before a b d h = rw (lt-leb a d h) refl

lies_behind : (a b d : ℕ) → a ≤ d → b ≤ d → lies_between a b d ≡ false
lies_behind a b d from h = rw (le-leb a d from, le-ltb d b h) refl

-- a number outside the window leaves the marks
tells_other : (start n : ℕ) (marks : List Bool) (e : List ℕ) (d : ℕ) → ((k : ℕ) → k < n → d ≡ start + k → ⊥) → Tells start n marks e → Tells start n marks (e ++ d ∷ [])
tells_other start n marks e d other t = record {
  long = t.long;
  told = λ k lt. t.told k lt ∙ sym (any_other d (start + k) e (other k lt));
}

-- one in the window sets its mark
tells_set : (start n : ℕ) (marks : List Bool) (e : List ℕ) (d : ℕ) → start ≤ d → d - start < n → Tells start n marks e → Tells start n (slice_set marks (d - start) true) (e ++ d ∷ [])
tells_set start n marks e d from to t = record { long = length-set marks (d - start) true ∙ t.long; told = told }
  where
    told : (k : ℕ) → k < n → get_or (slice_set marks (d - start) true) k false ≡ list_any (λ c. c == start + k) (e ++ d ∷ [])
    told k lt =
        elim (cases_Bool (k == d - start)) [
          | inl same ↦
              (let here : k ≡ d - start = eqb-true k (d - start) same in
              let is : d ≡ start + k = omega (arith, here, from) in
              let room : d - start < length marks = omega (arith, to, t.long) in
              rw (any_same d (start + k) e is, here) (get_or-set_same marks (d - start) true false room))
          | inr differs ↦
              (let there = eqb-false k (d - start) differs in
              rw (get_or-set_other marks (d - start) k true false there, any_other d (start + k) e (λ is. there (omega (arith, is))))
              (t.told k lt))
        ]

mark_one : (start n : ℕ) (marks : List Bool) (e : List ℕ) (d : ℕ) → Tells start n marks e → Marks start n e (d ∷ []) (with_mark start marks d)
mark_one start n marks e d t =
    elim (cases_Bool (nat_lt d start)) [
      | inl before ↦
          (let lt = ltb-true d start before in
          rw (before, lies_before start (start + n) d lt)
          (refl, tells_other start n marks e d (λ k h is. omega (arith, lt, is)) t))
      | inr from ↦ elim (cases_Bool (nat_le (length marks) (d - start))) [
        | inl behind ↦
            (let le = leb-true (length marks) (d - start) behind in
            let at_least = ltb-false d start from in
            let long = t.long in
            let past : start + n ≤ d = omega (arith, le, at_least, long) in
            rw (from, behind, lies_behind start (start + n) d at_least past)
            (refl, tells_other start n marks e d (λ k h is. omega (arith, past, is, h)) t))
        | inr within ↦
            (let lt = leb-false (length marks) (d - start) within in
            let at_least = ltb-false d start from in
            let long = t.long in
            let in_window : d - start < n = omega (arith, lt, long) in
            let to : d < start + n = omega (arith, in_window, at_least) in
            let number : start + (d - start) ≡ d = omega (arith, at_least) in
            let told : get_or marks (d - start) false ≡ list_any (λ c. c == d) e = t.told (d - start) in_window ∙ ap (λ (m : ℕ). list_any (λ c. c == m) e) number in
            elim (cases_Bool (get_or marks (d - start) false)) [
              | inl again ↦ rw (from, within, again, lies_in start (start + n) d at_least to, sym told ∙ again) refl
              | inr free ↦
                  rw (from, within, free, lies_in start (start + n) d at_least to, sym told ∙ free)
                  (refl, tells_set start n marks e d at_least in_window t)
            ])
      ]
    ]

mark_all : (start n : ℕ) (marks : List Bool) (e xs : List ℕ) → Tells start n marks e → Marks start n e xs (through (with_mark start) marks xs)
mark_all start n marks e [] t = (refl, subst (Tells start n marks) (sym (append-nil e)) t)
mark_all start n marks e (x ∷ xs) t = step (with_mark start marks x) (λ next u. mark_all start n next (e ++ x ∷ []) xs u) (mark_one start n marks e x t)
  where
    more : (o : Option (List Bool)) → new_between start (start + n) e (x ∷ []) ≡ true → Marks start n (e ++ x ∷ []) xs o → Marks start n e (x ∷ xs) o
    more None first h = and_right _ _ h
    more (Some next) first h = (and_from _ _ (and_parts _ true first).0 h.0, subst (Tells start n next) (append_assoc e (x ∷ []) xs) h.1)

    step : (o : Option (List Bool)) → ((next : List Bool) → Tells start n next (e ++ x ∷ []) → Marks start n (e ++ x ∷ []) xs (through (with_mark start) next xs)) → Marks start n e (x ∷ []) o → Marks start n e (x ∷ xs) (option_and_then (λ t. through (with_mark start) t xs) o)
    step None again h =
        elim (and_cases _ true h) [
          | inl again ↦ and_left _ _ again
          | inr wrong ↦ cc
        ]
    step (Some next) again h = more (through (with_mark start) next xs) h.0 (again next h.1)

marks_tell : (l : Layout) (start n : ℕ) (marks : List Bool) (e : List ℕ) (i : ℕ) (gs : List Group) → Tells start n marks e → first_marked l start marks i gs ≡ repeated_copy_between l start (start + n) e i gs
marks_tell l start n marks e i [] t = refl
marks_tell l start n marks e i (g ∷ gs) t = by (through (with_mark start) marks (copied_definitions l g)) (λ next u. marks_tell l start n next (e ++ copied_definitions l g) (i + 1) gs u) (mark_all start n marks e (copied_definitions l g) t)
  where
    by : (o : Option (List Bool)) → ((next : List Bool) → Tells start n next (e ++ copied_definitions l g) → first_marked l start next (i + 1) gs ≡ repeated_copy_between l start (start + n) (e ++ copied_definitions l g) (i + 1) gs) → Marks start n e (copied_definitions l g) o → or_place i o (λ next. first_marked l start next (i + 1) gs) ≡ repeated_copy_between l start (start + n) e i (g ∷ gs)
    by None again h = rw h refl
    by (Some next) again h = rw h.0 (again next h.1)

none_marked : (start n : ℕ) → Tells start n (replicate n false) []
none_marked start n = record { long = length-replicate n false; told = λ k lt. get_or-replicate n k false false lt }

-- a walk with marks that were not set
pub window_again : (l : Layout) (start n : ℕ) (gs : List Group) → first_marked l start (replicate n false) 0 gs ≡ repeated_copy_between l start (start + n) [] 0 gs
window_again l start n gs = marks_tell l start n (replicate n false) [] 0 gs (none_marked start n)

-- ---- the items of a list

pub walk_out : {X : Type 0} (f : X → List ℕ) (start : ℕ) (marks : List Bool) (xs : List X) (i : ℕ) (x : X) → i < length xs → x ≡ get_or xs i x → through (with_mark start) marks (f x) ≡ None → through (with_mark start) marks (flat_map f (drop i xs)) ≡ None
walk_out f start marks xs i x lt is h = rw (drop_more xs i x lt, ← is, through_append (with_mark start) marks (f x) (flat_map f (drop (i + 1) xs)), h) refl

pub walk_on : {X : Type 0} (f : X → List ℕ) (start : ℕ) (marks next : List Bool) (xs : List X) (i : ℕ) (x : X) → i < length xs → x ≡ get_or xs i x → through (with_mark start) marks (f x) ≡ Some next → through (with_mark start) marks (flat_map f (drop i xs)) ≡ through (with_mark start) next (flat_map f (drop (i + 1) xs))
walk_on f start marks next xs i x lt is h = rw (drop_more xs i x lt, ← is, through_append (with_mark start) marks (f x) (flat_map f (drop (i + 1) xs)), h) refl

pub group_out : (l : Layout) (start : ℕ) (marks : List Bool) (gs : List Group) (i : ℕ) (g : Group) → i < length gs → g ≡ get_or gs i g → through (with_mark start) marks (copied_definitions l g) ≡ None → first_marked l start marks i (drop i gs) ≡ Some i
group_out l start marks gs i g lt is h = rw (drop_more gs i g lt, ← is, h) refl

pub group_on : (l : Layout) (start : ℕ) (marks next : List Bool) (gs : List Group) (i : ℕ) (g : Group) → i < length gs → g ≡ get_or gs i g → through (with_mark start) marks (copied_definitions l g) ≡ Some next → first_marked l start marks i (drop i gs) ≡ first_marked l start next (i + 1) (drop (i + 1) gs)
group_on l start marks next gs i g lt is h = rw (drop_more gs i g lt, ← is, h) refl

-- ---- windows side by side

both_new : (p q r x y : Bool) → (not ((p || q) && r) && (x && y)) ≡ ((not (p && r) && x) && (not (q && r) && y))
both_new true q true x y = refl
both_new false true true true y = refl
both_new false true true false y = refl
both_new false false true x y = refl
both_new true true false x y = refl
both_new true false false x y = refl
both_new false true false x y = refl
both_new false false false x y = refl

lies_split : (a b c d : ℕ) → a ≤ b → b ≤ c → lies_between a c d ≡ (lies_between a b d || lies_between b c d)
lies_split a b c d ab bc =
    elim (cases_Bool (nat_le a d)) [
      | inl from ↦ elim (cases_Bool (nat_lt d b)) [
        | inl to ↦ (let lt = ltb-true d b to in rw (from, to, lt-ltb d c (omega (arith, lt, bc))) refl)
        | inr behind ↦ (let le = ltb-false d b behind in rw (from, behind, le-leb b d le) refl)
      ]
      | inr before ↦ (let lt = leb-false a d before in rw (before, lt-leb b d (omega (arith, lt, ab))) refl)
    ]

new_split : (a b c : ℕ) (e xs : List ℕ) → a ≤ b → b ≤ c → new_between a c e xs ≡ (new_between a b e xs && new_between b c e xs)
new_split a b c e [] ab bc = refl
new_split a b c e (x ∷ xs) ab bc =
    rw (lies_split a b c x ab bc, new_split a b c (e ++ x ∷ []) xs ab bc)
    (both_new (lies_between a b x) (lies_between b c x) (list_any (λ d. d == x) e) (new_between a b (e ++ x ∷ []) xs) (new_between b c (e ++ x ∷ []) xs))

again-at_least : (l : Layout) (a b : ℕ) (e : List ℕ) (i : ℕ) (gs : List Group) → AtLeast i (repeated_copy_between l a b e i gs)
again-at_least l a b e i [] = tt
again-at_least l a b e i (g ∷ gs) =
    elim (cases_Bool (new_between a b e (copied_definitions l g))) [
      | inl t ↦ rw t (at_least_less i _ (again-at_least l a b (e ++ copied_definitions l g) (i + 1) gs))
      | inr f ↦ rw f (omega arith)
    ]

again_split : (l : Layout) (a b c : ℕ) (e : List ℕ) (i : ℕ) (gs : List Group) → a ≤ b → b ≤ c → repeated_copy_between l a c e i gs ≡ earlier (repeated_copy_between l a b e i gs) (repeated_copy_between l b c e i gs)
again_split l a b c e i [] ab bc = refl
again_split l a b c e i (g ∷ gs) ab bc =
    let both = new_split a b c e (copied_definitions l g) ab bc in
    let later = again_split l a b c (e ++ copied_definitions l g) (i + 1) gs ab bc in
    elim (cases_Bool (new_between a b e (copied_definitions l g))) [
      | inl t ↦ elim (cases_Bool (new_between b c e (copied_definitions l g))) [
        | inl u ↦ rw (both, t, u) later
        | inr v ↦ rw (both, t, v) (sym (earlier-second i _ (at_least_less i _ (again-at_least l a b (e ++ copied_definitions l g) (i + 1) gs))))
      ]
      | inr f ↦ rw (both, f) (sym (earlier-first i _ (again-at_least l b c e i (g ∷ gs))))
    ]

none_lies : (e xs : List ℕ) → new_between 0 0 e xs ≡ true
none_lies e [] = refl
none_lies e (x ∷ xs) = rw (lies_behind 0 0 x (omega arith) (omega arith)) (none_lies (e ++ x ∷ []) xs)

none_again : (l : Layout) (e : List ℕ) (i : ℕ) (gs : List Group) → repeated_copy_between l 0 0 e i gs ≡ None
none_again l e i [] = refl
none_again l e i (g ∷ gs) = rw (none_lies e (copied_definitions l g)) (none_again l (e ++ copied_definitions l g) (i + 1) gs)

-- no window was gone through
pub no_window : (l : Layout) (gs : List Group) → repeated_copy_between l 0 0 [] 0 gs ≡ None
no_window l gs = none_again l [] 0 gs

-- one window more
pub next_window : (l : Layout) (gs : List Group) (w : ℕ) → earlier (repeated_copy_between l 0 (w * 65536) [] 0 gs) (repeated_copy_between l (w * 65536) (w * 65536 + 65536) [] 0 gs) ≡ repeated_copy_between l 0 ((w + 1) * 65536) [] 0 gs
next_window l gs w =
    let e : (w + 1) * 65536 ≡ w * 65536 + 65536 = omega arith in
    rw e (sym (again_split l 0 (w * 65536) (w * 65536 + 65536) [] 0 gs (omega arith) (omega arith)))

-- ---- all windows

new_below : (b : ℕ) (e xs : List ℕ) → list_all (λ d. nat_lt d b) xs ≡ true → are_distinct_from e xs ≡ new_between 0 b e xs
new_below b e [] h = refl
new_below b e (x ∷ xs) h =
    let w = and_parts (nat_lt x b) (list_all (λ d. nat_lt d b) xs) h in
    rw (lies_in 0 b x (omega arith) (ltb-true x b w.0), new_below b (e ++ x ∷ []) xs w.1) refl

again_below : (l : Layout) (b : ℕ) (e : List ℕ) (i : ℕ) (gs : List Group) → list_all (λ d. nat_lt d b) (flat_map (copied_definitions l) gs) ≡ true → first_double_copy l e i gs ≡ repeated_copy_between l 0 b e i gs
again_below l b e i [] h = refl
again_below l b e i (g ∷ gs) h =
    let w = and_parts _ _ (sym (list_all-append (λ d. nat_lt d b) (copied_definitions l g) (flat_map (copied_definitions l) gs)) ∙ h) in
    rw (new_below b e (copied_definitions l g) w.0, again_below l b (e ++ copied_definitions l g) (i + 1) gs w.1) refl

windows_grow : (n : ℕ) (xs : List ℕ) → n ≤ windows_of n xs
windows_grow n [] = omega arith
windows_grow n (x ∷ xs) = let h = windows_grow (max n (x / 65536 + 1)) xs in omega (arith, h)

windows_hold : (n : ℕ) (xs : List ℕ) (b : ℕ) → windows_of n xs * 65536 ≤ b → list_all (λ d. nat_lt d b) xs ≡ true
windows_hold n [] b le = refl
windows_hold n (x ∷ xs) b le =
    let h = windows_grow (max n (x / 65536 + 1)) xs in
    rw (lt-ltb x b (omega (arith, h, le))) (windows_hold (max n (x / 65536 + 1)) xs b le)

-- all windows were gone through
pub all_windows : (l : Layout) (gs : List Group) (w : ℕ) → w ≡ windows_of 0 (flat_map (copied_definitions l) gs) → repeated_copy_between l 0 (w * 65536) [] 0 gs ≡ first_double_copy l [] 0 gs
all_windows l gs w is = sym (again_below l (w * 65536) [] 0 gs (windows_hold 0 (flat_map (copied_definitions l) gs) (w * 65536) (omega (arith, is))))
