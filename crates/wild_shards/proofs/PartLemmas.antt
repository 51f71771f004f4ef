-- Relocations applied in parts of the bytes.
use Rattle.std.proofs.Common.{◌≡◌, ℕ, suc, ◌+◌, ◌-◌, ◌<◌, ◌≤◌, ◌⊎◌, inl, inr, List, [], ◌∷◌, ◌++◌, length, take, drop, slice_range, get_or, refl, sym, ap, ◌∙◌, arith, subst}
use Rattle.std.specs.Prelude.{All, Result, Ok, Err, IfOk}
use Rattle.std.proofs.lemmas.List.{append_assoc, take-append-le, drop-append-le, length-drop}
use Rattle.std.proofs.Math.Seq.{take-append-add, drop-append-add}
use borrow.Rule.Slice.PartMut.{put_mid}
use Rattle.wild_words.specs.Words.{place}
use Rattle.wild_words.proofs.WordLemmas.{place_put_mid}
use Rattle.wild_words.proofs.Basics.{length-range}
use Rattle.wild_words.proofs.OverlayLemmas.{length-place, place-below, place-above}
use Rattle.wild_types.specs.declared.input.InputRelocation.{InputRelocation}
use Rattle.wild_types.specs.declared.fault.Error.{Error}
use Rattle.wild_shards.specs.InOrder.{Rule, width, field_at, in_order, apply_step, then_apply, ResultIs, FieldWithin, KeepsLength, OthersStay, first_of}

-- a part in the front of the bytes
place-front : (a : ℕ) (ps xs ys : List ℕ) → a + length ps ≤ length xs → place a ps (xs ++ ys) ≡ place a ps xs ++ ys
unfolding place
place-front a ps xs ys h =
    let t = take-append-le a xs ys (omega arith) in
    let d = drop-append-le (a + length ps) xs ys h in
    rw (t, d) (sym (append_assoc (take a xs) (ps ++ drop (a + length ps) xs) ys ∙ ap (λ (zs : List ℕ). take a xs ++ zs) (append_assoc ps (drop (a + length ps) xs) ys)))

-- a part in the back of the bytes
place-back : (b : ℕ) (ps xs ys : List ℕ) → place (length xs + b) ps (xs ++ ys) ≡ xs ++ place b ps ys
unfolding place
place-back b ps xs ys =
    let t = take-append-add xs ys b in
    let e : length xs + b + length ps ≡ length xs + (b + length ps) = omega arith in
    let d = drop-append-add xs ys (b + length ps) in
    rw (e, t, d, append_assoc) refl

-- bytes that are read in the front
range-front : (a n : ℕ) (xs ys : List ℕ) → a + n ≤ length xs → slice_range (xs ++ ys) a (a + n) ≡ slice_range xs a (a + n)
range-front a n xs ys h =
    rw (drop-append-le a xs ys (omega (arith, h))) (take-append-le _ _ ys (omega (arith, h, length-drop a xs)))

-- and in the back
range-back : (b n : ℕ) (xs ys : List ℕ) → slice_range (xs ++ ys) (length xs + b) (length xs + b + n) ≡ slice_range ys b (b + n)
range-back b n xs ys =
    let e : length xs + b + n - (length xs + b) ≡ n = omega arith in
    let f : b + n - b ≡ n = omega arith in
    rw (e, f, drop-append-add xs ys b) refl

-- where a field's bytes have been decided
put-front : (a n : ℕ) (xs ys : List ℕ) (d : Result (List ℕ) Error) → a + n ≤ length xs → IfOk d (λ zs. length zs ≡ n)
    → then_apply d (λ zs. Ok (place a zs (xs ++ ys))) ≡ then_apply (then_apply d (λ zs. Ok (place a zs xs))) (λ ws. Ok (ws ++ ys))
put-front a n xs ys (Err e) h k = refl
put-front a n xs ys (Ok zs) h k = ap (λ (ws : List ℕ). Ok ws) (place-front a zs xs ys (omega (arith, h, k)))

put-back : (b : ℕ) (xs ys : List ℕ) (d : Result (List ℕ) Error)
    → then_apply d (λ zs. Ok (place (length xs + b) zs (xs ++ ys))) ≡ then_apply (then_apply d (λ zs. Ok (place b zs ys))) (λ ws. Ok (xs ++ ws))
put-back b xs ys (Err e) = refl
put-back b xs ys (Ok zs) = ap (λ (ws : List ℕ). Ok ws) (place-back b zs xs ys)

put-length : (a n : ℕ) (xs : List ℕ) (d : Result (List ℕ) Error) → a + n ≤ length xs → IfOk d (λ zs. length zs ≡ n) → IfOk (then_apply d (λ zs. Ok (place a zs xs))) (λ ws. length ws ≡ length xs)
put-length a n xs (Err e) h k = tt
put-length a n xs (Ok zs) h k = length-place a xs zs (omega (arith, h, k))

-- the bytes of a field keep their number
field-length : (rule : Rule) (at : ℕ) (r : InputRelocation) (xs : List ℕ) → KeepsLength rule → at + width rule r ≤ length xs → IfOk (rule.written r (field_at rule at r xs)) (λ zs. length zs ≡ width rule r)
field-length rule at r xs keeps h =
    let e = length-range xs at (width rule r) h in
    subst (λ (n : ℕ). IfOk (rule.written r (field_at rule at r xs)) (λ zs. length zs ≡ n)) e (keeps r (field_at rule at r xs) e)

-- one relocation
step-front : (rule : Rule) (base : ℕ) (r : InputRelocation) (xs ys : List ℕ) → KeepsLength rule → FieldWithin rule base (base + length xs) r
    → apply_step rule base r (xs ++ ys) ≡ then_apply (apply_step rule base r xs) (λ ws. Ok (ws ++ ys))
step-front rule base r xs ys keeps h =
    let l = h.0 in
    let m = h.1 in
    let a : ℕ = r.offset - base in
    let in_front : a + width rule r ≤ length xs = omega (arith, l, m) in
    ap (λ (zs : List ℕ). then_apply (rule.written r zs) (λ (ws : List ℕ). Ok (place a ws (xs ++ ys)))) (range-front a (width rule r) xs ys in_front)
    ∙ put-front a (width rule r) xs ys (rule.written r (field_at rule a r xs)) in_front (field-length rule a r xs keeps in_front)

step-back : (rule : Rule) (base up : ℕ) (r : InputRelocation) (xs ys : List ℕ) → up ≡ base + length xs → up ≤ r.offset
    → apply_step rule base r (xs ++ ys) ≡ then_apply (apply_step rule up r ys) (λ ws. Ok (xs ++ ws))
step-back rule base up r xs ys e l =
    let b : ℕ = r.offset - up in
    let k : r.offset - base ≡ length xs + b = omega (arith, e, l) in
    ap (λ (a : ℕ). then_apply (rule.written r (field_at rule a r (xs ++ ys))) (λ (ws : List ℕ). Ok (place a ws (xs ++ ys)))) k
    ∙ (ap (λ (zs : List ℕ). then_apply (rule.written r zs) (λ (ws : List ℕ). Ok (place (length xs + b) ws (xs ++ ys)))) (range-back b (width rule r) xs ys)
    ∙ put-back b xs ys (rule.written r (field_at rule b r ys)))

step-length : (rule : Rule) (base : ℕ) (r : InputRelocation) (xs : List ℕ) → KeepsLength rule → FieldWithin rule base (base + length xs) r → IfOk (apply_step rule base r xs) (λ ws. length ws ≡ length xs)
step-length rule base r xs keeps h =
    let l = h.0 in
    let m = h.1 in
    let a : ℕ = r.offset - base in
    let inside : a + width rule r ≤ length xs = omega (arith, l, m) in
    put-length a (width rule r) xs (rule.written r (field_at rule a r xs)) inside (field-length rule a r xs keeps inside)

-- relocations in two lists, one after the other
on-append : (rule : Rule) (base : ℕ) (rs ss : List InputRelocation) (o : Result (List ℕ) Error)
    → ((zs : List ℕ) → in_order rule base (rs ++ ss) zs ≡ then_apply (in_order rule base rs zs) (in_order rule base ss))
    → then_apply o (in_order rule base (rs ++ ss)) ≡ then_apply (then_apply o (in_order rule base rs)) (in_order rule base ss)
on-append rule base rs ss (Ok zs) rest = rest zs
on-append rule base rs ss (Err e) rest = refl

in_order-append : (rule : Rule) (base : ℕ) (rs ss : List InputRelocation) (xs : List ℕ) → in_order rule base (rs ++ ss) xs ≡ then_apply (in_order rule base rs xs) (in_order rule base ss)
in_order-append rule base [] ss xs = refl
in_order-append rule base (r ∷ rs) ss xs = on-append rule base rs ss (apply_step rule base r xs) (λ zs. in_order-append rule base rs ss zs)

-- the first of several and the rest: `wrap` puts bytes that stay beside those that are written
on-wrap : (rule : Rule) (base up n : ℕ) (rs : List InputRelocation) (wrap : List ℕ → List ℕ) (o : Result (List ℕ) Error) → IfOk o (λ zs. length zs ≡ n)
    → ((zs : List ℕ) → length zs ≡ n → in_order rule base rs (wrap zs) ≡ then_apply (in_order rule up rs zs) (λ ws. Ok (wrap ws)))
    → then_apply (then_apply o (λ ws. Ok (wrap ws))) (in_order rule base rs) ≡ then_apply (then_apply o (in_order rule up rs)) (λ ws. Ok (wrap ws))
on-wrap rule base up n rs wrap (Err e) k rest = refl
on-wrap rule base up n rs wrap (Ok zs) k rest = rest zs k

later : (rule : Rule) (a e f : ℕ) (r : InputRelocation) (rs : List InputRelocation) → f ≡ e → All (FieldWithin rule a e) (r ∷ rs) → All (FieldWithin rule a f) rs
later rule a e f r rs k h = rw k (λ i d l. h (suc i) d (omega arith))

-- the bytes behind those that are written stay
in_order-front : (rule : Rule) (base : ℕ) (rs : List InputRelocation) (xs ys : List ℕ) → KeepsLength rule → All (FieldWithin rule base (base + length xs)) rs
    → in_order rule base rs (xs ++ ys) ≡ then_apply (in_order rule base rs xs) (λ zs. Ok (zs ++ ys))
in_order-front rule base [] xs ys keeps h = refl
in_order-front rule base (r ∷ rs) xs ys keeps h =
    let one = h 0 r (omega arith) in
    ap (λ (o : Result (List ℕ) Error). then_apply o (in_order rule base rs)) (step-front rule base r xs ys keeps one)
    ∙ on-wrap rule base base (length xs) rs (λ zs. zs ++ ys) (apply_step rule base r xs) (step-length rule base r xs keeps one)
    (λ zs e. in_order-front rule base rs zs ys keeps (later rule base (base + length xs) (base + length zs) r rs (ap (λ (n : ℕ). base + n) e) h))

-- the bytes before those that are written stay
in_order-back : (rule : Rule) (base up : ℕ) (rs : List InputRelocation) (xs ys : List ℕ) → KeepsLength rule → up ≡ base + length xs → All (FieldWithin rule up (up + length ys)) rs
    → in_order rule base rs (xs ++ ys) ≡ then_apply (in_order rule up rs ys) (λ zs. Ok (xs ++ zs))
in_order-back rule base up [] xs ys keeps e h = refl
in_order-back rule base up (r ∷ rs) xs ys keeps e h =
    let one = h 0 r (omega arith) in
    ap (λ (o : Result (List ℕ) Error). then_apply o (in_order rule base rs)) (step-back rule base up r xs ys e one.0)
    ∙ on-wrap rule base up (length ys) rs (λ zs. xs ++ zs) (apply_step rule up r ys) (step-length rule up r ys keeps one)
    (λ zs k. in_order-back rule base up rs xs zs keeps e (later rule up (up + length ys) (up + length zs) r rs (ap (λ (n : ℕ). up + n) k) h))

-- the bytes keep their number
on-length : (rule : Rule) (base n : ℕ) (rs : List InputRelocation) (o : Result (List ℕ) Error) → IfOk o (λ zs. length zs ≡ n)
    → ((zs : List ℕ) → length zs ≡ n → IfOk (in_order rule base rs zs) (λ ws. length ws ≡ n))
    → IfOk (then_apply o (in_order rule base rs)) (λ ws. length ws ≡ n)
on-length rule base n rs (Err e) k rest = tt
on-length rule base n rs (Ok zs) k rest = rest zs k

in_order-length : (rule : Rule) (base : ℕ) (rs : List InputRelocation) (xs : List ℕ) (n : ℕ) → KeepsLength rule → length xs ≡ n → All (FieldWithin rule base (base + n)) rs
    → IfOk (in_order rule base rs xs) (λ ws. length ws ≡ n)
in_order-length rule base [] xs n keeps e h = e
in_order-length rule base (r ∷ rs) xs n keeps e h =
    let one : FieldWithin rule base (base + length xs) r = rw e (h 0 r (omega arith)) in
    let first : IfOk (apply_step rule base r xs) (λ ws. length ws ≡ n) = subst (λ (m : ℕ). IfOk (apply_step rule base r xs) (λ ws. length ws ≡ m)) e (step-length rule base r xs keeps one) in
    on-length rule base n rs (apply_step rule base r xs) first (λ zs k. in_order-length rule base rs zs n keeps k (λ i d l. h (suc i) d (omega arith)))

-- two parts, each in order, are the whole in order
both : (rule : Rule) (base : ℕ) (rs ss : List InputRelocation) (xs ys zs ws : List ℕ) (a b : Result (Unit {0}) Error) (one two : Result (List ℕ) Error)
    → in_order rule base rs (xs ++ ys) ≡ then_apply one (λ vs. Ok (vs ++ ys))
    → ((vs : List ℕ) → one ≡ Ok vs → in_order rule base ss (vs ++ ys) ≡ then_apply two (λ us. Ok (vs ++ us)))
    → ResultIs a zs one → ResultIs b ws two → ResultIs (first_of a b) (zs ++ ws) (in_order rule base (rs ++ ss) (xs ++ ys))
both rule base rs ss xs ys zs ws (Err e) b one two p q c d =
    in_order-append rule base rs ss (xs ++ ys) ∙ ap (λ o. then_apply o (in_order rule base ss)) (p ∙ ap (λ o. then_apply o (λ vs. Ok (vs ++ ys))) c)
both rule base rs ss xs ys zs ws (Ok u) (Err e) one two p q c d =
    in_order-append rule base rs ss (xs ++ ys) ∙ (ap (λ o. then_apply o (in_order rule base ss)) (p ∙ ap (λ o. then_apply o (λ vs. Ok (vs ++ ys))) c) ∙ (q zs c ∙ ap (λ o. then_apply o (λ us. Ok (zs ++ us))) d))
both rule base rs ss xs ys zs ws (Ok u) (Ok v) one two p q c d =
    in_order-append rule base rs ss (xs ++ ys) ∙ (ap (λ o. then_apply o (in_order rule base ss)) (p ∙ ap (λ o. then_apply o (λ vs. Ok (vs ++ ys))) c) ∙ (q zs c ∙ ap (λ o. then_apply o (λ us. Ok (zs ++ us))) d))

pub in_parts : (rule : Rule) (base up : ℕ) (rs ss : List InputRelocation) (xs ys zs ws : List ℕ) (a b : Result (Unit {0}) Error)
    → KeepsLength rule → up ≡ base + length xs
    → All (FieldWithin rule base (base + length xs)) rs → All (FieldWithin rule up (up + length ys)) ss
    → ResultIs a zs (in_order rule base rs xs) → ResultIs b ws (in_order rule up ss ys)
    → ResultIs (first_of a b) (zs ++ ws) (in_order rule base (rs ++ ss) (xs ++ ys))
in_parts rule base up rs ss xs ys zs ws a b keeps e h k c d =
    both rule base rs ss xs ys zs ws a b (in_order rule base rs xs) (in_order rule up ss ys) (in_order-front rule base rs xs ys keeps h)
    (λ vs o.
    let n : length vs ≡ length xs = subst (λ w. IfOk w (λ us. length us ≡ length xs)) o (in_order-length rule base rs xs (length xs) keeps refl h) in
    in_order-back rule base up ss vs ys keeps (e ∙ ap (λ (m : ℕ). base + m) (sym n)) k)
    c d

-- a byte in no field
put-stays : (a n k : ℕ) (xs : List ℕ) (d : Result (List ℕ) Error) → a + n ≤ length xs → IfOk d (λ zs. length zs ≡ n) → (k < a) ⊎ (a + n ≤ k)
    → IfOk (then_apply d (λ zs. Ok (place a zs xs))) (λ ws. (length ws ≡ length xs) × (get_or ws k 0 ≡ get_or xs k 0))
put-stays a n k xs (Err e) h q o = tt
put-stays a n k xs (Ok zs) h q o = (
  length-place a xs zs (omega (arith, h, q)),
  elim o [ inl l ↦ place-below a k xs zs (omega (arith, h, q)) l | inr g ↦ place-above a k xs zs (omega (arith, h, q)) (omega (arith, g, q)) ],
)

on-stays : (rule : Rule) (base k : ℕ) (rs : List InputRelocation) (xs ys : List ℕ) (o : Result (List ℕ) Error) → IfOk o (λ zs. (length zs ≡ length xs) × (get_or zs k 0 ≡ get_or xs k 0))
    → ((zs : List ℕ) → length zs ≡ length xs → in_order rule base rs zs ≡ Ok ys → get_or ys k 0 ≡ get_or zs k 0)
    → then_apply o (in_order rule base rs) ≡ Ok ys → get_or ys k 0 ≡ get_or xs k 0
on-stays rule base k rs xs ys (Err e) h rest q = cc
on-stays rule base k rs xs ys (Ok zs) h rest q = rest zs h.0 q ∙ h.1

pub others-stay : OthersStay
others-stay rule base [] xs ys k keeps h q o = let e : xs ≡ ys = cc in ap (λ (zs : List ℕ). get_or zs k 0) (sym e)
others-stay rule base (r ∷ rs) xs ys k keeps h q o =
    let one = h 0 r (omega arith) in
    let low = one.0 in
    let high = one.1 in
    let a : ℕ = r.offset - base in
    let inside : a + width rule r ≤ length xs = omega (arith, low, high) in
    let out : (k < a) ⊎ (a + width rule r ≤ k) = elim (o 0 r (omega arith)) [ inl l ↦ inl (omega (arith, l, low)) | inr g ↦ inr (omega (arith, g, low)) ] in
    on-stays rule base k rs xs ys (apply_step rule base r xs) (put-stays a (width rule r) k xs (rule.written r (field_at rule a r xs)) inside (field-length rule a r xs keeps inside) out)
    (λ zs e p. others-stay rule base rs zs ys k keeps (later rule base (base + length xs) (base + length zs) r rs (ap (λ (n : ℕ). base + n) e) h) p (λ i d l. o (suc i) d (omega arith))) q

-- a call that was given the bytes of the field
came-by : (a : ℕ) (ys zs xs : List ℕ) (result : Result (Unit {0}) Error) (d : Result (List ℕ) Error) → (d ≡ Ok ys → zs ≡ place a ys xs) → ResultIs result ys d → ResultIs result zs (then_apply d (λ ws. Ok (place a ws xs)))
came-by a ys zs xs (Ok u) d p c = ap (λ (o : Result (List ℕ) Error). then_apply o (λ (ws : List ℕ). Ok (place a ws xs))) c ∙ ap (λ (ws : List ℕ). Ok ws) (sym (p c))
came-by a ys zs xs (Err e) d p c = ap (λ (o : Result (List ℕ) Error). then_apply o (λ (ws : List ℕ). Ok (place a ws xs))) c

pub came-on : (rule : Rule) (base at w : ℕ) (r : InputRelocation) (xs ys : List ℕ) (result : Result (Unit {0}) Error)
    → KeepsLength rule → at ≡ r.offset - base → w ≡ width rule r → at + w ≤ length xs
    → ResultIs result ys (rule.written r (take (at + w - at) (drop at xs))) → ResultIs result (put_mid at (at + w - at) xs ys) (apply_step rule base r xs)
came-on rule base at w r xs ys result keeps e f h c =
    let a : ℕ = r.offset - base in
    let same : ResultIs result ys (rule.written r (take (at + width rule r - at) (drop at xs))) = subst (λ (n : ℕ). ResultIs result ys (rule.written r (take (at + n - at) (drop at xs)))) f c in
    let there : ResultIs result ys (rule.written r (field_at rule a r xs)) = subst (λ (k : ℕ). ResultIs result ys (rule.written r (take (k + width rule r - k) (drop k xs)))) e same in
    came-by a ys (put_mid at (at + w - at) xs ys) xs result (rule.written r (field_at rule a r xs))
    (λ q.
    let n : length ys ≡ width rule r = subst (λ (o : Result (List ℕ) Error). IfOk o (λ zs. length zs ≡ width rule r)) q (field-length rule a r xs keeps (omega (arith, e, f, h))) in
    place_put_mid at (at + w) xs ys (omega (arith, n, f)) ∙ ap (λ (k : ℕ). place k ys xs) e)
    there
