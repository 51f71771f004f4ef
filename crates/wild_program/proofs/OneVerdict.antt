-- An image has one verdict.
use Rattle.wild_program.proofs.Common.{◌≡◌, ℕ, suc, ◌+◌, ◌<◌, ◌≤◌, List, [], ◌∷◌, length, Bool, true, false, Result, Ok, Err, Option, refl, sym, ap, subst, ◌∙◌, inl, inr, arith, ◌⊎◌, All, AllPairs, nat_lt, if◌then◌else◌, Layout, Memory, LoadFault, Verdict}
use Rattle.std.specs.List.{sum_by}
use Rattle.std.specs.List.Sorted.{IsPermutation, IsNonDecreasing}
use Rattle.std.proofs.lemmas.Bool.Decides.{nat_tests}
use Rattle.std.proofs.lemmas.List.Elements.{All-nil, All-cons, All-head, All-tail, All-weaker}
use Rattle.std.proofs.lemmas.List.Sorted.{All-permutation, IsPermutation-sym, sum_by-IsPermutation}
use Rattle.std.proofs.lemmas.List.Sums.{sum_by-cons}
use Rattle.wild_words.proofs.ListLemmas.{AllPairs-head, AllPairs-tail}
use Rattle.wild_types.specs.Kinds.{is_partial_link}
use Rattle.wild_loader.specs.declared.fault.LoadFault.TheVariants as faults
use Rattle.wild_terms.specs.declared.outline.KnownAnswer.{KnownAnswer}
use Rattle.wild_terms.specs.declared.outline.Outline.{Outline}
use Rattle.wild_terms.specs.declared.outline.TermChange.{TermChange}
use Rattle.wild_terms.specs.declared.outline.TermChange.TheVariants as changes
use Rattle.wild_terms.specs.declared.load.TermPatch.{TermPatch}
use Rattle.wild_terms.specs.Symbolic.{Symbolic, width_of, IsSorted, terms_of}
use Rattle.wild_checker.specs.Outline.{IsOutlineOf}
use Rattle.wild_checker.specs.Verdict.{by_segment, IsSegmentVerdict, IsRefusal, IsReadVerdict, IsVerdict, IsAnswer}

same_cons : {X : Type 0} (x y : X) (xs ys : List X) → x ≡ y → xs ≡ ys → x ∷ xs ≡ y ∷ ys
same_cons x y xs ys a b = rw (a, b) refl

-- ---- ascending numbers in another order

-- 1 below a number, else 0
abbrev below : ℕ → ℕ → ℕ
below n x = if nat_lt x n then 1 else 0

none_below : (n : ℕ) (xs : List ℕ) → All (λ x. n ≤ x) xs → sum_by (below n) xs ≡ 0
none_below n [] a = refl
none_below n (x ∷ xs) a =
    let rest = none_below n xs (All-tail (λ y. n ≤ y) x xs a) in
    let low = All-head (λ y. n ≤ y) x xs a in
    let whole = sum_by-cons (below n) x xs in
    whole ∙ zero_sum (below n x) (sum_by (below n) xs) (above n x low) rest
  where
    above : (n x : ℕ) → n ≤ x → below n x ≡ 0
    above n x h = grind (arith, nat_tests)

    zero_sum : (a b : ℕ) → a ≡ 0 → b ≡ 0 → a + b ≡ 0
    zero_sum a b h k = omega (arith, h, k)

-- the first of ascending numbers is at most that of a list with equal sums
first_le : (x y : ℕ) (xs ys : List ℕ) → All (λ z. y ≤ z) ys → ((f : ℕ → ℕ) → sum_by f (x ∷ xs) ≡ sum_by f (y ∷ ys)) → y ≤ x
first_le x y xs ys a sums = low x y (sum_by (below y) xs) (sym (sum_by-cons (below y) x xs) ∙ sums (below y) ∙ none_below y (y ∷ ys) (All-cons (λ z. y ≤ z) y ys (omega arith) a))
  where
    low : (x y b : ℕ) → below y x + b ≡ 0 → y ≤ x
    low x y b h = grind (arith, nat_tests)

numbers_head : (x : ℕ) (xs : List ℕ) → IsNonDecreasing (x ∷ xs) → All (λ y. x ≤ y) xs
numbers_head x xs up = λ k d l. up 0 (suc k) d (omega arith) (omega arith)

numbers_tail : (x : ℕ) (xs : List ℕ) → IsNonDecreasing (x ∷ xs) → IsNonDecreasing xs
numbers_tail x xs up = λ i j d l m. up (suc i) (suc j) d (omega arith) (omega arith)

same_numbers : (xs ys : List ℕ) → IsNonDecreasing xs → IsNonDecreasing ys → ((f : ℕ → ℕ) → sum_by f xs ≡ sum_by f ys) → xs ≡ ys
same_numbers [] [] a b sums = refl
same_numbers [] (y ∷ ys) a b sums = let e = sums (λ z. 1) ∙ sum_by-cons (λ z. 1) y ys in absurd (omega (arith, e))
same_numbers (x ∷ xs) [] a b sums = let e = sym (sums (λ z. 1)) ∙ sum_by-cons (λ z. 1) x xs in absurd (omega (arith, e))
same_numbers (x ∷ xs) (y ∷ ys) a b sums =
    let low = first_le x y xs ys (numbers_head y ys b) sums in
    let high = first_le y x ys xs (numbers_head x xs a) (λ f. sym (sums f)) in
    let first : x ≡ y = omega (arith, low, high) in
    same_cons x y xs ys first (same_numbers xs ys (numbers_tail x xs a) (numbers_tail y ys b)
    (λ f. rest (f x) (f y) (sum_by f xs) (sum_by f ys) (ap f first) (sym (sum_by-cons f x xs) ∙ sums f ∙ sum_by-cons f y ys)))
  where
    rest : (a b s t : ℕ) → a ≡ b → a + s ≡ b + t → s ≡ t
    rest a b s t h k = omega (arith, h, k)

same_order : (xs ys zs : List ℕ) → IsPermutation xs ys → IsPermutation xs zs → IsNonDecreasing ys → IsNonDecreasing zs → ys ≡ zs
same_order xs ys zs a b up on = same_numbers ys zs up on (λ f. sum_by-IsPermutation f xs ys a ∙ sym (sum_by-IsPermutation f xs zs b))

-- ---- an outline of a layout is one

same_outline : (m n : Bool) (p q : Option ℕ) (s t : List KnownAnswer) (r u : List ℕ) → m ≡ n → p ≡ q → s ≡ t → r ≡ u
    → ◌≡◌ {A = Outline} (record { movable = m; program = p; symbols = s; resolvers = r }) (record { movable = n; program = q; symbols = t; resolvers = u })
same_outline m n p q s t r u a b c d = rw (a, b, c, d) refl

one_outline : (l : Layout) (o p : Outline) → IsOutlineOf l o → IsOutlineOf l p → o ≡ p
one_outline l o p a b = same_outline o.movable p.movable o.program p.program o.symbols p.symbols o.resolvers p.resolvers
    (a.movable ∙ sym b.movable)
    (a.program ∙ sym b.program)
    (a.symbols ∙ sym b.symbols)
    (same_order _ o.resolvers p.resolvers a.resolvers b.resolvers a.ascend b.ascend)

-- ---- the changes in their order are one list

-- a change has a byte
has_width : (c : TermChange) → 1 ≤ width_of c
has_width (changes.Word t) = omega arith
has_width (changes.Half t) = omega arith
has_width (changes.Descriptor t) = omega arith

-- one change ends at or before the place of the other
abbrev EndsBefore : TermPatch → TermPatch → Type 0
EndsBefore p q = p.place + width_of p.change ≤ q.place

ends_before : (p q : TermPatch) → EndsBefore p q → p.place < q.place
ends_before p q h = let w = has_width p.change in omega (arith, h, w)

after_all : (p : TermPatch) (ps : List TermPatch) → AllPairs EndsBefore (p ∷ ps) → All (λ q. p.place < q.place) ps
after_all p ps up = All-weaker (EndsBefore p) (λ q. p.place < q.place) (ends_before p) ps (AllPairs-head EndsBefore p ps up)

-- the first place is the least
first_place : (p q : TermPatch) (ps qs : List TermPatch) → AllPairs EndsBefore (p ∷ ps) → (All (λ x. p.place ≤ x.place) (p ∷ ps) → All (λ x. p.place ≤ x.place) (q ∷ qs)) → p.place ≤ q.place
first_place p q ps qs up to =
    let P : TermPatch → Type 0 = λ x. p.place ≤ x.place in
    All-head P q qs (to (All-cons P p ps (omega arith) (All-weaker (λ (x : TermPatch). p.place < x.place) P (λ x h. omega (arith, h)) ps (after_all p ps up))))

-- a change at the first place is the first change
first_patch : (p q : TermPatch) (ps qs : List TermPatch) → AllPairs EndsBefore (q ∷ qs) → (All (λ x. x.place ≡ q.place → x ≡ q) (q ∷ qs) → All (λ x. x.place ≡ q.place → x ≡ q) (p ∷ ps)) → p.place ≡ q.place → p ≡ q
first_patch p q ps qs up from same =
    let P : TermPatch → Type 0 = λ x. x.place ≡ q.place → x ≡ q in
    let later = All-weaker (λ (x : TermPatch). q.place < x.place) P (λ x h e. absurd (omega (arith, h, e))) qs (after_all q qs up) in
    All-head P p ps (from (All-cons P q qs (λ e. refl) later)) same

-- what holds of the later changes of one list holds of those of the other
later_all : (P : TermPatch → Type 0) (p q : TermPatch) (ps qs : List TermPatch) → AllPairs EndsBefore (q ∷ qs) → p.place ≡ q.place → (All (λ x. P x ⊎ (x.place ≡ p.place)) (p ∷ ps) → All (λ x. P x ⊎ (x.place ≡ p.place)) (q ∷ qs)) → All P ps → All P qs
later_all P p q ps qs up same to all =
    let Q : TermPatch → Type 0 = λ x. P x ⊎ (x.place ≡ p.place) in
    let both = All-tail Q q qs (to (All-cons Q p ps (inr refl) (All-weaker P Q (λ x h. inl h) ps all))) in
    let later = after_all q qs up in
    λ k d l. only P p.place q.place _ (both k d l) same (later k d l)
  where
    only : (P : TermPatch → Type 0) (a b : ℕ) (x : TermPatch) → P x ⊎ (x.place ≡ a) → a ≡ b → b < x.place → P x
    only P a b x (inl h) e n = h
    only P a b x (inr h) e n = absurd (omega (arith, h, e, n))

same_patches : (ps qs : List TermPatch) → AllPairs EndsBefore ps → AllPairs EndsBefore qs → ((P : TermPatch → Type 0) → All P ps → All P qs) → ((P : TermPatch → Type 0) → All P qs → All P ps) → ps ≡ qs
same_patches [] [] a b to from = refl
same_patches [] (q ∷ qs) a b to from = absurd (All-head (λ x. ⊥) q qs (to (λ x. ⊥) (All-nil (λ x. ⊥))))
same_patches (p ∷ ps) [] a b to from = absurd (All-head (λ x. ⊥) p ps (from (λ x. ⊥) (All-nil (λ x. ⊥))))
same_patches (p ∷ ps) (q ∷ qs) a b to from =
    let low = first_place p q ps qs a (to (λ x. p.place ≤ x.place)) in
    let high = first_place q p qs ps b (from (λ x. q.place ≤ x.place)) in
    let place : p.place ≡ q.place = omega (arith, low, high) in
    let first = first_patch p q ps qs b (from (λ x. x.place ≡ q.place → x ≡ q)) place in
    same_cons p q ps qs first (same_patches ps qs (AllPairs-tail EndsBefore p ps a) (AllPairs-tail EndsBefore q qs b)
    (λ P. later_all P p q ps qs b place (to (λ x. P x ⊎ (x.place ≡ p.place))))
    (λ P. later_all P q p qs ps a (sym place) (from (λ x. P x ⊎ (x.place ≡ q.place)))))

same_symbolic : (m n : Memory) (ps qs : List TermPatch) → m ≡ n → ps ≡ qs → ◌≡◌ {A = Symbolic} (record { memory = m; patches = ps }) (record { memory = n; patches = qs })
same_symbolic m n ps qs a b = rw (a, b) refl

one_order : (s t u : Symbolic) → IsSorted s t → IsSorted s u → t ≡ u
one_order s t u a b = same_symbolic t.memory u.memory t.patches u.patches (a.memory ∙ sym b.memory) (same_patches t.patches u.patches a.ascend.each b.ascend.each
    (λ P h. All-permutation P s.patches u.patches b.patches (All-permutation P t.patches s.patches (IsPermutation-sym s.patches t.patches a.patches) h))
    (λ P h. All-permutation P s.patches t.patches a.patches (All-permutation P u.patches s.patches (IsPermutation-sym s.patches u.patches b.patches) h)))

-- ---- the verdict

ok_same : {A E : Type 0} (x y : A) (r : Result A E) → r ≡ Ok x → r ≡ Ok y → x ≡ y
ok_same {A} {E} x y r a b = let e : Ok x ≡ Ok y = sym a ∙ b in cc

by_segments : (l : Layout) (o : Outline) (image : List ℕ) (t : Symbolic) (v w : Verdict) → IsSegmentVerdict l o image t v → IsSegmentVerdict l o image t w → v ≡ w
by_segments l o image t v w a b = a.said ∙ ap (by_segment l o t) (ok_same a.doubt b.doubt _ a.is b.is) ∙ sym b.said

refused_alike : (fault : LoadFault) (v w : Verdict) → IsRefusal fault v → IsRefusal fault w → v ≡ w
refused_alike faults.OutOfMemory v w a b = absurd a
refused_alike faults.NotElf v w a b = a ∙ sym b
refused_alike (faults.Cut offset) v w a b = a ∙ sym b
refused_alike (faults.NoTable tag) v w a b = a ∙ sym b
refused_alike (faults.UnknownDynamic number) v w a b = a ∙ sym b
refused_alike (faults.UnknownSymbol index) v w a b = a ∙ sym b
refused_alike (faults.NoAnswer value) v w a b = a ∙ sym b
refused_alike (faults.Unloaded address) v w a b = a ∙ sym b
refused_alike (faults.Wraps address) v w a b = a ∙ sym b
refused_alike (faults.Overlap address) v w a b = a ∙ sym b

read_alike : (l : Layout) (o : Outline) (image : List ℕ) (r : Result Symbolic LoadFault) (v w : Verdict) → IsReadVerdict l o image r v → IsReadVerdict l o image r w → v ≡ w
read_alike l o image (Err fault) v w a b = refused_alike fault v w a b
read_alike l o image (Ok s) v w a b =
    by_segments l o image a.sorted v w a.verdict (subst (λ (t : Symbolic). IsSegmentVerdict l o image t w) (one_order s b.sorted a.sorted b.order a.order) b.verdict)

verdict_alike : (partial : Bool) (l : Layout) (image : List ℕ) (v w : Verdict) → IsVerdict partial l image v → IsVerdict partial l image w → v ≡ w
verdict_alike true l image v w a b = a ∙ sym b
verdict_alike false l image v w a b =
    let own = subst (λ (o : Outline). IsReadVerdict l o image (terms_of o image) w) (one_outline l b.outline a.outline b.is a.is) b.said in
    read_alike l a.outline image (terms_of a.outline image) v w a.said own

-- an image has one verdict
pub one_verdict : (l : Layout) (image : List ℕ) (v w : Verdict) → IsAnswer l image v → IsAnswer l image w → v ≡ w
one_verdict l image v w a b = verdict_alike (is_partial_link l.kind) l image v w a b
