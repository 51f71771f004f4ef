-- The least address that runs share with live placements, run by run.
use Rattle.wild_placer.proofs.Common.{◌≡◌, ℕ, Bool, ◌+◌, ◌-◌, ◌<◌, ◌≤◌, true, false, List, length, get_or, ◌∙◌, sym, ap, subst, refl, arith, inl, inr, min, ◌⊎◌, Option, Some, None, IfSome, IfNone, slice_get, nat_lt, nat_le, ◌&&◌, cases_Bool, le-leb, ltb-true, ltb-false, same_Some, slice_get_within, Run, Runs, IsLeastOfRuns}
use Rattle.std.proofs.lemmas.Bool.{lt-ltb, leb-true, and_parts}
use Rattle.std.proofs.lemmas.Option.{slice_get_read}
use Rattle.wild_words.specs.Extents.{least}
use Rattle.wild_loader.specs.Runs.{has_address}
use Rattle.wild_placer.specs.Index.{NoneIsTaken, IsFirstTaken}
use Rattle.wild_placer.specs.Shared.{IsInRuns, IsLeast, IsLeastOf, IsLeastOfRun}

-- an address of a run is from its start on and before its end
pub address_low : (r : Run) (a : ℕ) → has_address r a ≡ true → r.start ≤ a
address_low r a h = leb-true _ _ (and_parts (nat_le r.start a) (nat_lt (a - r.start) (length r.bytes)) h).0

pub address_high : (r : Run) (a : ℕ) → has_address r a ≡ true → a < r.start + length r.bytes
address_high r a h =
    let low = address_low r a h in
    let high = ltb-true _ _ (and_parts (nat_le r.start a) (nat_lt (a - r.start) (length r.bytes)) h).1 in
    omega (arith, low, high)

pub is_address : (r : Run) (a : ℕ) → r.start ≤ a → a < r.start + length r.bytes → has_address r a ≡ true
is_address r a low high =
    let t1 : nat_le r.start a ≡ true = le-leb _ _ low in
    let t2 : nat_lt (a - r.start) (length r.bytes) ≡ true = lt-ltb _ _ (omega (arith, low, high)) in
    ap (λ (b : Bool). b && nat_lt (a - r.start) (length r.bytes)) t1 ∙ t2

-- a run without bytes has no address
pub none_of_empty : (runs : Runs) (r : Run) → length r.bytes ≡ 0 → IsLeastOfRun runs r None
none_of_empty runs r empty a h t = let low = address_low r a h in let high = address_high r a h in omega (arith, low, high, empty)

-- what is found from the start of a run up to its end
pub found_in_run : (runs : Runs) (r : Run) (a end : ℕ) → end ≡ r.start + length r.bytes → IsFirstTaken runs r.start end a → IsLeastOfRun runs r (Some a)
found_in_run runs r a end is f = record {
  has = is_address r a f.low (let h = f.high in omega (arith, h, is));
  taken = f.taken;
  first = λ b before h t. f.first b (address_low r b h) before t;
}

pub none_in_run : (runs : Runs) (r : Run) (end : ℕ) → end ≡ r.start + length r.bytes → NoneIsTaken runs r.start end → IsLeastOfRun runs r None
none_in_run runs r end is none a h t = let high = address_high r a h in none a (address_low r a h) (omega (arith, high, is)) t

pub in_run : (runs : Runs) (r : Run) (end : ℕ) (found : Option ℕ) → end ≡ r.start + length r.bytes → IfSome found (λ a. IsFirstTaken runs r.start end a) → IfNone found (NoneIsTaken runs r.start end) → IsLeastOfRun runs r found
in_run runs r end None is some none = none_in_run runs r end is none
in_run runs r end (Some a) is some none = found_in_run runs r a end is some

-- ---- two properties

-- the lesser of what is found for two properties is what is found for either
either_found : (runs : Runs) (P Q R : ℕ → Type 0) (x y : Option ℕ) → ((a : ℕ) → P a → R a) → ((a : ℕ) → Q a → R a) → ((a : ℕ) → R a → P a ⊎ Q a) → IsLeastOf runs P x → IsLeastOf runs Q y → IsLeastOf runs R (least x y)
either_found runs P Q R None None p q both hx hy = λ a h t. elim (both a h) [ inl k ↦ hx a k t | inr k ↦ hy a k t ]
either_found runs P Q R None (Some b) p q both hx hy = record {
  has = q b hy.has;
  taken = hy.taken;
  first = λ k before h t. elim (both k h) [ inl g ↦ hx k g t | inr g ↦ hy.first k before g t ];
}
either_found runs P Q R (Some a) None p q both hx hy = record {
  has = p a hx.has;
  taken = hx.taken;
  first = λ k before h t. elim (both k h) [ inl g ↦ hx.first k before g t | inr g ↦ hy k g t ];
}
either_found runs P Q R (Some a) (Some b) p q both hx hy =
    elim (cases_Bool (nat_lt a b)) [
      | inl t ↦ (let l = ltb-true _ _ t in let is : min a b ≡ a = omega (arith, l) in subst (λ (m : ℕ). IsLeast runs R m) (sym is) (record {
        has = p a hx.has;
        taken = hx.taken;
        first = λ k before h t. elim (both k h) [ inl g ↦ hx.first k before g t | inr g ↦ hy.first k (omega (arith, before, l)) g t ];
      }))
      | inr t ↦ (let l = ltb-false _ _ t in let is : min a b ≡ b = omega (arith, l) in subst (λ (m : ℕ). IsLeast runs R m) (sym is) (record {
        has = q b hy.has;
        taken = hy.taken;
        first = λ k before h t. elim (both k h) [ inl g ↦ hx.first k (omega (arith, before, l)) g t | inr g ↦ hy.first k before g t ];
      }))
    ]

-- ---- one more run

pub none_of_none : (runs : Runs) (rs : List Run) → IsLeastOfRuns runs rs 0 None
none_of_none runs rs = λ a h t. let before = h.before in omega (arith, before)

in_more : (rs : List Run) (n a : ℕ) → IsInRuns rs n a → IsInRuns rs (n + 1) a
in_more rs n a h = record { index = h.index; run = h.run; before = (let l = h.before in omega (arith, l)); listed = h.listed; has = h.has }

pub one_more : (runs : Runs) (rs : List Run) (n : ℕ) (r : Run) (x y : Option ℕ) → n < length rs → r ≡ get_or rs n r → IsLeastOfRuns runs rs n x → IsLeastOfRun runs r y → IsLeastOfRuns runs rs (n + 1) (least x y)
one_more runs rs n r x y l is hx hy =
    let at : slice_get rs n ≡ Some r = slice_get_read rs (length rs) n r refl l is in
    either_found runs (IsInRuns rs n) (λ a. has_address r a ≡ true) (IsInRuns rs (n + 1)) x y
    (λ a h. in_more rs n a h)
    (λ a h. record { index = n; run = r; before = omega arith; listed = at; has = h })
    (λ a h. split a h (cases_Bool (nat_lt h.index n)))
    hx hy
  where
    split : (a : ℕ) (h : IsInRuns rs (n + 1) a) → (nat_lt h.index n ≡ true) ⊎ (nat_lt h.index n ≡ false) → IsInRuns rs n a ⊎ (has_address r a ≡ true)
    split a h (inl t) = inl (record { index = h.index; run = h.run; before = ltb-true _ _ t; listed = h.listed; has = h.has })
    split a h (inr t) =
        let before = h.before in
        let after = ltb-false _ _ t in
        let same : h.index ≡ n = omega (arith, after, before) in
        let run : h.run ≡ r = same_Some h.run r (sym (subst (λ (k : ℕ). slice_get rs k ≡ Some h.run) same h.listed) ∙ slice_get_read rs (length rs) n r refl l is) in
        inr (subst (λ (q : Run). has_address q a ≡ true) run h.has)

-- all runs
pub all_runs : (runs : Runs) (rs : List Run) (n : ℕ) (found : Option ℕ) → length rs ≤ n → IsLeastOfRuns runs rs n found → IsLeastOfRuns runs rs (length rs) found
all_runs runs rs n found le h = by found h
  where
    wide : (a : ℕ) → IsInRuns rs (length rs) a → IsInRuns rs n a
    wide a i = record { index = i.index; run = i.run; before = (let l = i.before in omega (arith, l, le)); listed = i.listed; has = i.has }

    narrow : (a : ℕ) → IsInRuns rs n a → IsInRuns rs (length rs) a
    narrow a i = record { index = i.index; run = i.run; before = slice_get_within rs i.index i.run i.listed; listed = i.listed; has = i.has }

    by : (found : Option ℕ) → IsLeastOfRuns runs rs n found → IsLeastOfRuns runs rs (length rs) found
    by None h = λ a i t. h a (wide a i) t
    by (Some a) h = record { has = narrow a h.has; taken = h.taken; first = λ b before i t. h.first b before (wide b i) t }
