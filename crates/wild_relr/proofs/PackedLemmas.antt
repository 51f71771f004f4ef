-- Laws of runs of places, and of runs with blocks between them.
use Rattle.std.proofs.Common.{◌≡◌, ◌≢◌, ℕ, zero, suc, ◌+◌, ◌%◌, ◌<◌, ◌⊎◌, inl, inr, List, [], ◌∷◌, ◌++◌, refl, sym, ap, ◌∙◌, arith, length, get_or}
use Rattle.std.specs.Prelude.{IsPermutation, All, AllPairs, Contains, ◌==◌}
use Rattle.std.proofs.lemmas.List.Sorted.{IsPermutation-refl, IsPermutation-sym, IsPermutation-trans, IsPermutation-append_right, IsPermutation-middle, IsPermutation-append_left, IsPermutation-append_comm, Contains-permutation}
use Rattle.std.proofs.lemmas.List.Elements.{All-nil, All-cons, All-head, All-tail, All-contains, All-push, Contains-get_or, Contains-append_left, Contains-append_right, Contains-append_cases}
use Rattle.std.proofs.lemmas.List.Kept.{AllPairs-cons}
use Rattle.std.proofs.lemmas.List.{append_assoc, append-nil, length_push}
use Rattle.std.proofs.lemmas.Bool.{cases_Bool, eqb-true, eqb-false}
use Rattle.wild_words.proofs.ListLemmas.{All-append-left}
use Rattle.wild_relr.specs.Places.{places_from, places}
use Rattle.wild_relr.specs.declared.run.Run.{Run}
use Rattle.wild_relr.specs.declared.run.Run.TheVariants.{Closed, Address}
use Rattle.wild_relr.specs.declared.run.Choice.{Choice}
use Rattle.wild_relr.specs.declared.run.Choice.TheVariants.{Joins, Adds}
use Rattle.wild_relr.specs.Encoding.{choice, State, with_last_bit, with_bit, apply_choice, after, Follows}
use Rattle.wild_relr.specs.RunWords.{by_choice, packed_on, packed, block, Piece, Places, Block, words_of_piece, words_of, after_places, after_pieces, AreNew, AreRising, after_relr_slot, after_run, new_words, run_after, counted, places_of_piece, places_of_pieces, IsEven}
use Rattle.wild_relr.proofs.PackingLemmas.{with_last_bit-push, Records-after, Follows-after}
use Rattle.wild_relr.proofs.BlockLemmas.{places-block, block-no_base}

-- ---- a run

step_packed : (c : Choice) (r : Run) (front : List ℕ) (w : ℕ) (ps : List ℕ) → ((r : Run) (front : List ℕ) (w : ℕ) → (after_places (record { run = r; words = front ++ w ∷ [] }) ps).words ≡ front ++ packed_on r (w ∷ []) ps)
    → (after_places (apply_choice c (record { run = r; words = front ++ w ∷ [] })) ps).words ≡ front ++ by_choice c (λ i. packed_on r (with_last_bit i (w ∷ [])) ps) (λ v q. (w ∷ []) ++ packed_on q (v ∷ []) ps)
unfolding with_last_bit
step_packed (Joins i) r front w ps again = rw (with_last_bit-push i front w) (again r front (with_bit i w))
step_packed (Adds v q) r front w ps again = again q (front ++ w ∷ []) v ∙ append_assoc front (w ∷ []) (packed_on q (v ∷ []) ps)

afters_on : (ps : List ℕ) (r : Run) (front : List ℕ) (w : ℕ) → (after_places (record { run = r; words = front ++ w ∷ [] }) ps).words ≡ front ++ packed_on r (w ∷ []) ps
unfolding after_places packed_on
afters_on [] r front w = refl
afters_on (p ∷ ps) r front w = step_packed (choice r p) r front w ps (λ r front w. afters_on ps r front w)

pub after_places-packed : (ps : List ℕ) (ws : List ℕ) → (after_places (record { run = Closed; words = ws }) ps).words ≡ ws ++ packed ps
unfolding after_places packed_on packed choice
after_places-packed [] ws = sym (append-nil ws)
after_places-packed (p ∷ ps) ws = afters_on ps (Address p) ws p

pub after_pieces-words : (xs : List Piece) (ws : List ℕ) → (after_pieces (record { run = Closed; words = ws }) xs).words ≡ ws ++ words_of xs
unfolding after_pieces
after_pieces-words [] ws = sym (append-nil ws)
after_pieces-words (Places ps ∷ xs) ws =
    ap (λ (vs : List ℕ). (after_pieces (record { run = Closed; words = vs }) xs).words) (after_places-packed ps ws)
    ∙ after_pieces-words xs (ws ++ packed ps)
    ∙ append_assoc ws (packed ps) (words_of xs)
after_pieces-words (Block base n ∷ xs) ws = after_pieces-words xs (ws ++ block base n) ∙ append_assoc ws (block base n) (words_of xs)

-- ---- whole runs

one_of : (x y : ℕ) (xs : List ℕ) → Contains (x ∷ xs) y → (x ≡ y) ⊎ Contains xs y
one_of x y xs (zero, l, e) = inl e
one_of x y xs (suc k, l, e) = inr (k, (omega arith), e)

pub after_places-recorded : (ps : List ℕ) (s : State) → Follows s → AreNew s.words ps → IsPermutation (ps ++ places s.words) (places (after_places s ps).words)
unfolding after_places
after_places-recorded [] s f h = IsPermutation-refl _
after_places-recorded (p ∷ ps) s f h =
    let even : p % 2 ≡ 0 = All-head (λ q. q % 2 ≡ 0) p ps h.even in
    let fresh : Contains (places s.words) p → ⊥ = All-head (λ q. Contains (places s.words) q → ⊥) p ps h.new in
    let r = Records-after s p f even fresh in
    let again : AreNew (after s p).words ps = record {
      even = All-tail (λ q. q % 2 ≡ 0) p ps h.even;
      new = λ k d l e. elim (one_of p _ (places s.words) (Contains-permutation _ _ _ (IsPermutation-sym _ _ r.each) e)) [
        | inl same ↦ h.apart 0 (suc k) d (omega arith) (omega arith) same
        | inr old ↦ h.new (suc k) d (omega arith) old
      ];
      apart = λ i j d l m. h.apart (suc i) (suc j) d (omega arith) (omega arith);
    } in
    let rest = after_places-recorded ps (after s p) (Follows-after s p f even) again in
    IsPermutation-trans _ _ _ (IsPermutation-sym _ _ (IsPermutation-middle ps p (places s.words)))
    (IsPermutation-trans _ _ _ (IsPermutation-append_right ps (p ∷ places s.words) (places (after s p).words) r.each) rest)

-- ---- counting

pub length-with_last_bit : (i : ℕ) (ws : List ℕ) → length (with_last_bit i ws) ≡ length ws
unfolding with_last_bit
length-with_last_bit i [] = refl
length-with_last_bit i (w ∷ []) = refl
length-with_last_bit i (w ∷ v ∷ ws) = ap suc (length-with_last_bit i (v ∷ ws))

length-apply_choice : (c : Choice) (s : State) → length (apply_choice c s).words ≡ length s.words + new_words c
length-apply_choice (Joins i) s = let e = length-with_last_bit i s.words in omega arith
length-apply_choice (Adds w r) s = length_push s.words w

run-apply_choice : (c : Choice) (s : State) → (apply_choice c s).run ≡ run_after c s.run
run-apply_choice (Joins i) s = refl
run-apply_choice (Adds w r) s = refl

pub length-after_places : (ps : List ℕ) (s : State) → length (after_places s ps).words ≡ length s.words + counted s.run ps
unfolding after_places counted
length-after_places [] s = omega arith
length-after_places (p ∷ ps) s =
    let here = length-apply_choice (choice s.run p) s in
    let rest = length-after_places ps (after s p) in
    let same = ap (λ (r : Run). counted r ps) (run-apply_choice (choice s.run p) s) in
    omega (arith, here, rest, same)

pub length-packed : (ps : List ℕ) → length (packed ps) ≡ counted Closed ps
length-packed ps =
    let e = ap length (after_places-packed ps []) in
    let f = length-after_places ps (record { run = Closed; words = [] }) in
    sym e ∙ f ∙ (let z : 0 + counted Closed ps ≡ counted Closed ps = omega arith in z)

-- ---- runs and blocks

-- two of a list that is joined of two
apart_right : (xs ys : List ℕ) → AllPairs (λ p q. p ≢ q) (xs ++ ys) → AllPairs (λ p q. p ≢ q) ys
apart_right [] ys h = h
apart_right (x ∷ xs) ys h = apart_right xs ys (λ i j d l m. h (suc i) (suc j) d (omega arith) (omega arith))

apart_left : (xs ys : List ℕ) → AllPairs (λ p q. p ≢ q) (xs ++ ys) → AllPairs (λ p q. p ≢ q) xs
apart_left [] ys h = λ i j d l m. absurd (omega arith)
apart_left (x ∷ xs) ys h =
    let first : All (λ q. x ≢ q) (xs ++ ys) = λ k d m. h 0 (suc k) d (omega arith) (omega arith) in
    AllPairs-cons (λ p q. p ≢ q) x xs (All-append-left (λ q. x ≢ q) xs ys first) (apart_left xs ys (λ i j d l m. h (suc i) (suc j) d (omega arith) (omega arith)))

apart_across : (xs ys : List ℕ) (q : ℕ) → AllPairs (λ p q. p ≢ q) (xs ++ ys) → Contains xs q → Contains ys q → ⊥
apart_across [] ys q h a b = absurd (omega (arith, a.1))
apart_across (x ∷ xs) ys q h a b =
    let first : All (λ q. x ≢ q) (xs ++ ys) = λ k d m. h 0 (suc k) d (omega arith) (omega arith) in
    elim (one_of x q xs a) [
      | inl same ↦ All-contains (λ q. x ≢ q) (xs ++ ys) q first (Contains-append_right xs ys q b) same
      | inr more ↦ apart_across xs ys q (λ i j d l m. h (suc i) (suc j) d (omega arith) (omega arith)) more b
    ]

piece-recorded : (x : Piece) (ws : List ℕ) → IsEven x → ((q : ℕ) → Contains (places ws) q → Contains (places_of_piece x) q → ⊥) → AllPairs (λ p q. p ≢ q) (places_of_piece x) → IsPermutation (places ws ++ places_of_piece x) (places (ws ++ words_of_piece x))
piece-recorded (Places ps) ws h fresh a =
    let new : AreNew ws ps = record { even = h; new = λ k d l c. fresh _ c (Contains-get_or ps k d l); apart = a } in
    let e = after_places-packed ps ws in
    let r = after_places-recorded ps (record { run = Closed; words = ws }) tt new in
    IsPermutation-trans _ _ _ (IsPermutation-append_comm (places ws) ps) (rw e at r)
piece-recorded (Block base n) ws h fresh a =
    elim (cases_Bool (base == 0)) [
      | inl t ↦
          (let z = eqb-true base 0 t in
          let none : block base n ≡ [] = rw z (block-no_base n) in
          rw (t, none) (let e = append-nil ws in let f = append-nil (places ws) in rw (e, f) (IsPermutation-refl _)))
      | inr f ↦ rw f (let e = places-block ws base n h (eqb-false base 0 f) in rw e (IsPermutation-refl _))
    ]

pieces_on : (xs : List Piece) (ws : List ℕ) → All IsEven xs → ((q : ℕ) → Contains (places ws) q → Contains (places_of_pieces xs) q → ⊥) → AllPairs (λ p q. p ≢ q) (places_of_pieces xs) → IsPermutation (places ws ++ places_of_pieces xs) (places (ws ++ words_of xs))
pieces_on [] ws h fresh a = let e = append-nil ws in let f = append-nil (places ws) in rw (e, f) (IsPermutation-refl _)
pieces_on (x ∷ xs) ws h fresh a =
    let one = piece-recorded x ws (All-head IsEven x xs h) (λ q c d. fresh q c (Contains-append_left (places_of_piece x) (places_of_pieces xs) q d)) (apart_left (places_of_piece x) (places_of_pieces xs) a) in
    let rest = pieces_on xs (ws ++ words_of_piece x) (All-tail IsEven x xs h)
    (λ q c d. elim (Contains-append_cases (places ws) (places_of_piece x) q (Contains-permutation _ _ q (IsPermutation-sym _ _ one) c)) [
      | inl old ↦ fresh q old (Contains-append_right (places_of_piece x) (places_of_pieces xs) q d)
      | inr here ↦ apart_across (places_of_piece x) (places_of_pieces xs) q a here d
    ])
    (apart_right (places_of_piece x) (places_of_pieces xs) a) in
    let e = append_assoc (places ws) (places_of_piece x) (places_of_pieces xs) in
    let f = append_assoc ws (words_of_piece x) (words_of xs) in
    rw (← e, ← f) (IsPermutation-trans _ _ _ (IsPermutation-append_left (places_of_pieces xs) _ _ one) rest)

pub pieces-recorded : (xs : List Piece) → All IsEven xs → AllPairs (λ p q. p ≢ q) (places_of_pieces xs) → IsPermutation (places_of_pieces xs) (places (words_of xs))
unfolding places_from
pieces-recorded xs h a = pieces_on xs [] h (λ q c d. absurd (omega (arith, c.1))) a

pub flat-packed : (s : State) (p : ℕ) → after_relr_slot s p ≡ after_run s (p ∷ [])
unfolding packed packed_on choice
flat-packed s p = refl

-- ---- places that rise

pub after_places-rising : (ps : List ℕ) (s : State) → Follows s → AreRising s.words ps → places (after_places s ps).words ≡ places s.words ++ ps
unfolding after_places
after_places-rising [] s f h = sym (append-nil (places s.words))
after_places-rising (p ∷ ps) s f h =
    let even : p % 2 ≡ 0 = All-head (λ q. q % 2 ≡ 0) p ps h.even in
    let below : All (λ q. q < p) (places s.words) = All-head (λ p. All (λ q. q < p) (places s.words)) p ps h.above in
    let fresh : Contains (places s.words) p → ⊥ = λ c. not_below p (All-contains (λ q. q < p) (places s.words) p below c) in
    let e = (Records-after s p f even fresh).last below in
    let again : AreRising (after s p).words ps = record {
      even = All-tail (λ q. q % 2 ≡ 0) p ps h.even;
      above = rw e (λ k d l. All-push (λ q. q < get_or ps k d) (places s.words) p (h.above (suc k) d (omega arith)) (h.rising 0 (suc k) d (omega arith) (omega arith)));
      rising = λ i j d l m. h.rising (suc i) (suc j) d (omega arith) (omega arith);
    } in
    after_places-rising ps (after s p) (Follows-after s p f even) again ∙ ap (λ (r : List ℕ). r ++ ps) e ∙ append_assoc (places s.words) (p ∷ []) ps
  where
    not_below : (p : ℕ) → p < p → ⊥
    not_below p h = absurd (omega arith)
