-- A name that is there is never filtered out.
use Rattle.std.proofs.Common.{◌≡◌, ℕ, ◌+◌, ◌/◌, ◌%◌, ◌^◌, ◌<◌, Bool, true, false, List, [], ◌∷◌, length, map, get_or, set, replicate, refl, arith, ◌∙◌, sym, ap, inl, inr, None, bit_or, subst}
use Rattle.std.specs.Prelude.{bytes_eq}
use Rattle.std.specs.Int.{bit_at}
use Rattle.std.proofs.lemmas.Bool.{cases_eq, cases_Bool, eq-eqb, eqb-true, and_parts, and_from}
use Rattle.std.proofs.lemmas.List.{length-set, get_or-set_same, get_or-set_other, get_or-replicate, length-replicate}
use Rattle.std.proofs.lemmas.Nat.{or_lt}
use Rattle.std.proofs.Math.Pow.{pow-lt}
use Rattle.std.proofs.lemmas.Nat.Bits.{bit_at_or, bit_at-lt, bit_at-pow_same}
use Rattle.std.proofs.lemmas.Slice.Eq.{bytes_eq-Decides}
use Rattle.wild_records.specs.Hashes.{gnu_hash}
use Rattle.std.specs.Prelude.{◌==◌}
use Rattle.std.proofs.lemmas.List.{ext_get_or}
use Rattle.std.proofs.lemmas.List.FromFn.{get_or-map-range_with_len, length-map-range_with_len}
use Rattle.std.proofs.lemmas.Bool.{ne_eqb}
use Rattle.wild_hashes.specs.Tables.{bloom, bloom_word, with_bits}
use Rattle.wild_hashes.specs.LookUp.{may_hold}
use Rattle.wild_hashes.specs.Laws.{first_named}

pub length-bloom : (n shift : ℕ) (hs : List ℕ) → length (bloom n shift hs) ≡ n
unfolding bloom
length-bloom n shift hs = length-map-range_with_len (λ w. bloom_word n shift w hs) 0 n

-- a word of the filter
bloom_is : (n shift k : ℕ) (hs : List ℕ) → k < n → get_or (bloom n shift hs) k 0 ≡ bloom_word n shift k hs
unfolding bloom
bloom_is n shift k hs l = get_or-map-range_with_len (λ w. bloom_word n shift w hs) 0 n k k 0 l (omega arith)

or_left : (a b i : ℕ) → bit_at a i ≡ 1 → bit_at (bit_or a b) i ≡ 1
or_left a b i h = let s = bit_at-lt b i in bit_at_or a b i ∙ rw h (omega (arith, s))

or_right : (a b i : ℕ) → bit_at b i ≡ 1 → bit_at (bit_or a b) i ≡ 1
or_right a b i h = let s = bit_at-lt a i in bit_at_or a b i ∙ rw h (omega (arith, s))

-- a word that holds the bits of a hash
has_bits : (shift h old : ℕ) → may_hold shift h (with_bits shift h old) ≡ true
has_bits shift h old =
    let one = or_left (bit_or old (2 ^ (h % 64))) (2 ^ (h / 2 ^ shift % 64)) (h % 64) (or_right old (2 ^ (h % 64)) (h % 64) (bit_at-pow_same (h % 64))) in
    let two = or_right (bit_or old (2 ^ (h % 64))) (2 ^ (h / 2 ^ shift % 64)) (h / 2 ^ shift % 64) (bit_at-pow_same (h / 2 ^ shift % 64)) in
    and_from _ _ (eq-eqb _ _ one) (eq-eqb _ _ two)

keeps_bits : (shift h g old : ℕ) → may_hold shift h old ≡ true → may_hold shift h (with_bits shift g old) ≡ true
keeps_bits shift h g old t =
    let parts = and_parts _ _ t in
    let one = or_left (bit_or old (2 ^ (g % 64))) (2 ^ (g / 2 ^ shift % 64)) (h % 64) (or_left old (2 ^ (g % 64)) (h % 64) (eqb-true _ _ parts.0)) in
    let two = or_left (bit_or old (2 ^ (g % 64))) (2 ^ (g / 2 ^ shift % 64)) (h / 2 ^ shift % 64) (or_left old (2 ^ (g % 64)) (h / 2 ^ shift % 64) (eqb-true _ _ parts.1)) in
    and_from _ _ (eq-eqb _ _ one) (eq-eqb _ _ two)

bloom_here : (n shift h k : ℕ) (hs : List ℕ) → k < n → h / 64 % n ≡ k → get_or (bloom n shift (h ∷ hs)) k 0 ≡ with_bits shift h (get_or (bloom n shift hs) k 0)
bloom_here n shift h k hs l e =
    let t : (h / 64 % n == k) ≡ true = eq-eqb _ _ e in
    bloom_is n shift k (h ∷ hs) l ∙ rw t refl ∙ ap (with_bits shift h) (sym (bloom_is n shift k hs l))

bloom_other : (n shift h k : ℕ) (hs : List ℕ) → k < n → (h / 64 % n ≡ k → ⊥) → get_or (bloom n shift (h ∷ hs)) k 0 ≡ get_or (bloom n shift hs) k 0
bloom_other n shift h k hs l d =
    let f : (h / 64 % n == k) ≡ false = ne_eqb _ _ d in
    bloom_is n shift k (h ∷ hs) l ∙ rw f refl ∙ sym (bloom_is n shift k hs l)

bloom_kept : (n shift h g : ℕ) (hs : List ℕ) → h / 64 % n < n → may_hold shift h (get_or (bloom n shift hs) (h / 64 % n) 0) ≡ true → may_hold shift h (get_or (bloom n shift (g ∷ hs)) (h / 64 % n) 0) ≡ true
bloom_kept n shift h g hs l t =
    elim (cases_eq (g / 64 % n) (h / 64 % n)) [
      | inl e ↦ rw (bloom_here n shift g (h / 64 % n) hs l e) (keeps_bits shift h g (get_or (bloom n shift hs) (h / 64 % n) 0) t)
      | inr d ↦ rw (bloom_other n shift g (h / 64 % n) hs l d) t
    ]

-- where the filter has not the bits of a name, no symbol has the name
pub filtered_none : (n shift i : ℕ) (ns : List (List ℕ)) (name : List ℕ) → gnu_hash name / 64 % n < n → may_hold shift (gnu_hash name) (get_or (bloom n shift (map gnu_hash ns)) (gnu_hash name / 64 % n) 0) ≡ false → first_named i ns name ≡ None
filtered_none n shift i [] name l f = refl
filtered_none n shift i (m ∷ ns) name l f =
    elim (cases_Bool (bytes_eq m name)) [
      | inl t ↦
          (let same : gnu_hash m ≡ gnu_hash name = ap gnu_hash ((bytes_eq-Decides m name).0 t) in
          let here = bloom_here n shift (gnu_hash m) (gnu_hash name / 64 % n) (map gnu_hash ns) l (ap (λ (h : ℕ). h / 64 % n) same) in
          let bits = has_bits shift (gnu_hash m) (get_or (bloom n shift (map gnu_hash ns)) (gnu_hash name / 64 % n) 0) in
          absurd (clash _ (rw here at f) (subst (λ (h : ℕ). may_hold shift h (with_bits shift (gnu_hash m) (get_or (bloom n shift (map gnu_hash ns)) (gnu_hash name / 64 % n) 0)) ≡ true) same bits)))
      | inr other ↦
          elim (cases_Bool (may_hold shift (gnu_hash name) (get_or (bloom n shift (map gnu_hash ns)) (gnu_hash name / 64 % n) 0))) [
            | inl t ↦ absurd (clash _ f (bloom_kept n shift (gnu_hash name) (gnu_hash m) (map gnu_hash ns) l t))
            | inr g ↦ rw other (filtered_none n shift (i + 1) ns name l g)
          ]
    ]
  where
    clash : (b : Bool) → b ≡ false → b ≡ true → ⊥
    clash true f t = cc
    clash false f t = cc

pub bloom_small : (n shift k : ℕ) (hs : List ℕ) → k < n → get_or (bloom n shift hs) k 0 < 2 ^ 64
bloom_small n shift k [] l = rw (bloom_is n shift k [] l) (omega arith)
bloom_small n shift k (h ∷ hs) l =
    let old = bloom_small n shift k hs l in
    elim (cases_eq (h / 64 % n) k) [
      | inl e ↦ rw (bloom_here n shift h k hs l e) (or_lt 64 _ _ (or_lt 64 _ _ old (bit_small (h % 64) (omega arith))) (bit_small (h / 2 ^ shift % 64) (omega arith)))
      | inr d ↦ rw (bloom_other n shift h k hs l d) old
    ]
  where
    bit_small : (k : ℕ) → k < 64 → 2 ^ k < 2 ^ 64
    bit_small k l = pow-lt l

-- ---- as it is written, from the last symbol on

pub bloom-nil : (n shift : ℕ) → bloom n shift [] ≡ replicate n 0
bloom-nil n shift =
    let a = length-bloom n shift [] in
    let b : length (replicate {A = ℕ} n 0) ≡ n = length-replicate n 0 in
    ext_get_or 0 _ _ (a ∙ sym b) (λ k l. let m : k < n = omega (arith, a, l) in bloom_is n shift k [] m ∙ sym (get_or-replicate n k 0 0 m))

-- a symbol's bits come to its word
pub bloom-cons : (n shift h : ℕ) (hs : List ℕ) → h / 64 % n < n → set (bloom n shift hs) (h / 64 % n) (with_bits shift h (get_or (bloom n shift hs) (h / 64 % n) 0)) ≡ bloom n shift (h ∷ hs)
bloom-cons n shift h hs p =
    let a = length-bloom n shift hs in
    let b = length-bloom n shift (h ∷ hs) in
    let c = length-set (bloom n shift hs) (h / 64 % n) (with_bits shift h (get_or (bloom n shift hs) (h / 64 % n) 0)) in
    ext_get_or 0 _ _ (c ∙ a ∙ sym b) (λ k l. one k (omega (arith, a, c, l)))
  where
    one : (k : ℕ) → k < n → get_or (set (bloom n shift hs) (h / 64 % n) (with_bits shift h (get_or (bloom n shift hs) (h / 64 % n) 0))) k 0 ≡ get_or (bloom n shift (h ∷ hs)) k 0
    one k l =
        let a = length-bloom n shift hs in
        elim (cases_eq (h / 64 % n) k) [
          | inl e ↦ rw e (get_or-set_same (bloom n shift hs) k (with_bits shift h (get_or (bloom n shift hs) k 0)) 0 (omega (arith, a, l))) ∙ sym (bloom_here n shift h k hs l e)
          | inr d ↦ get_or-set_other (bloom n shift hs) (h / 64 % n) k _ 0 (λ e. d (sym e)) ∙ sym (bloom_other n shift h k hs l d)
        ]
