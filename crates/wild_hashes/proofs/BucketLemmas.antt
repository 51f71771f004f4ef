-- What the buckets hold.
use Rattle.std.proofs.Common.{◌≡◌, ℕ, ◌+◌, ◌%◌, ◌<◌, ◌≤◌, true, false, List, [], ◌∷◌, length, get_or, set, replicate, refl, arith, ◌∙◌, sym, inl, inr}
use Rattle.std.specs.Prelude.{◌==◌}
use Rattle.std.proofs.lemmas.List.{length-set, get_or-set_same, get_or-set_other, get_or-replicate, length-replicate, ext_get_or}
use Rattle.std.proofs.lemmas.List.FromFn.{get_or-map-range_with_len, length-map-range_with_len}
use Rattle.std.proofs.lemmas.Bool.{cases_eq, cases_Bool, eq-eqb, ne_eqb}
use Rattle.wild_hashes.specs.Tables.{first_in, buckets}

pub length-buckets : (n i : ℕ) (hs : List ℕ) → length (buckets n i hs) ≡ n
unfolding buckets
length-buckets n i hs = length-map-range_with_len (λ b. first_in n b i hs) 0 n

-- a bucket holds its first symbol
pub bucket_is : (n i b : ℕ) (hs : List ℕ) → b < n → get_or (buckets n i hs) b 0 ≡ first_in n b i hs
unfolding buckets
bucket_is n i b hs l = get_or-map-range_with_len (λ b. first_in n b i hs) 0 n b b 0 l (omega arith)

pub no_bucket : (n i b : ℕ) → b < n → get_or (buckets n i []) b 0 ≡ 0
no_bucket n i b l = bucket_is n i b [] l

pub bucket_here : (n i b h : ℕ) (hs : List ℕ) → b < n → h % n ≡ b → get_or (buckets n i (h ∷ hs)) b 0 ≡ i
bucket_here n i b h hs l e = let t : (h % n == b) ≡ true = eq-eqb _ _ e in bucket_is n i b (h ∷ hs) l ∙ rw t refl

pub bucket_other : (n i b h : ℕ) (hs : List ℕ) → b < n → (h % n ≡ b → ⊥) → get_or (buckets n i (h ∷ hs)) b 0 ≡ get_or (buckets n (i + 1) hs) b 0
bucket_other n i b h hs l d =
    let f : (h % n == b) ≡ false = ne_eqb _ _ d in
    bucket_is n i b (h ∷ hs) l ∙ rw f refl ∙ sym (bucket_is n (i + 1) b hs l)

pub first_small : (n b i m : ℕ) (hs : List ℕ) → i + length hs ≤ m → 1 ≤ m → first_in n b i hs < m
first_small n b i m [] h p = omega (arith, p)
first_small n b i m (g ∷ hs) h p =
    elim (cases_Bool (g % n == b)) [
      | inl t ↦ rw t (omega (arith, h))
      | inr f ↦ rw f (first_small n b (i + 1) m hs (omega (arith, h)) p)
    ]

pub bucket_small : (n i b m : ℕ) (hs : List ℕ) → i + length hs ≤ m → b < n → 1 ≤ m → get_or (buckets n i hs) b 0 < m
bucket_small n i b m hs h l p = rw (bucket_is n i b hs l) (first_small n b i m hs h p)

-- ---- as they are written, from the last symbol on

pub buckets-nil : (n i : ℕ) → buckets n i [] ≡ replicate n 0
buckets-nil n i =
    let a = length-buckets n i [] in
    let b : length (replicate {A = ℕ} n 0) ≡ n = length-replicate n 0 in
    ext_get_or 0 _ _ (a ∙ sym b) (λ k l. let m : k < n = omega (arith, a, l) in no_bucket n i k m ∙ sym (get_or-replicate n k 0 0 m))

-- a symbol goes over those behind it
pub buckets-cons : (n i h : ℕ) (hs : List ℕ) → h % n < n → set (buckets n (i + 1) hs) (h % n) i ≡ buckets n i (h ∷ hs)
buckets-cons n i h hs p =
    let a = length-buckets n (i + 1) hs in
    let b = length-buckets n i (h ∷ hs) in
    let c = length-set (buckets n (i + 1) hs) (h % n) i in
    ext_get_or 0 _ _ (c ∙ a ∙ sym b) (λ k l. one k (omega (arith, a, c, l)))
  where
    one : (k : ℕ) → k < n → get_or (set (buckets n (i + 1) hs) (h % n) i) k 0 ≡ get_or (buckets n i (h ∷ hs)) k 0
    one k l =
        let a = length-buckets n (i + 1) hs in
        elim (cases_eq (h % n) k) [
          | inl e ↦ rw e (get_or-set_same (buckets n (i + 1) hs) k i 0 (omega (arith, a, l))) ∙ sym (bucket_here n i k h hs l e)
          | inr d ↦ get_or-set_other (buckets n (i + 1) hs) (h % n) k i 0 (λ e. d (sym e)) ∙ sym (bucket_other n i k h hs l d)
        ]
