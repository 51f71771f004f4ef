-- Loaded bytes in a buffer, and numbers in them.
use Rattle.std.proofs.Common.{◌≡◌, ℕ, suc, ◌+◌, ◌-◌, ◌*◌, ◌<◌, ◌≤◌, List, [], ◌∷◌, ◌++◌, length, take, drop, get_or, slice_set, refl, sym, ap, ◌∙◌, arith}
use Rattle.std.specs.Prelude.{Some, None}
use Rattle.std.proofs.lemmas.List.{append_assoc, append-nil, take_more_set, get_or-drop}
use Rattle.wild_words.specs.Words.{number, number_at}
use Rattle.wild_loader.specs.declared.memory.Memory.{Memory}
use Rattle.wild_loader.specs.Memory.{byte_in}
use Rattle.wild_loader.specs.Effect.{window}

-- ---- numbers of four bytes

front_4 : (xs : List ℕ) → number (take 4 xs) ≡ get_or xs 0 0 + 256 * get_or xs 1 0 + 65536 * (get_or xs 2 0 + 256 * get_or xs 3 0)
unfolding number
front_4 [] = refl
front_4 (a ∷ []) = omega arith
front_4 (a ∷ b ∷ []) = omega arith
front_4 (a ∷ b ∷ c ∷ []) = omega arith
front_4 (a ∷ b ∷ c ∷ d ∷ xs) = omega arith

pub number_4 : (bs : List ℕ) (k a b c d : ℕ) → a ≡ get_or bs k 0 → b ≡ get_or bs (k + 1) 0 → c ≡ get_or bs (k + 2) 0 → d ≡ get_or bs (k + 3) 0 → a + 256 * b + 65536 * (c + 256 * d) ≡ number_at bs k 4
number_4 bs k a b c d p q r s =
    let same : k + 4 - k ≡ 4 = omega arith in
    let whole : number_at bs k 4 ≡ number (take 4 (drop k bs)) = ap (λ (n : ℕ). number (take n (drop k bs))) same in
    let each = front_4 (drop k bs) in
    let p' : get_or (drop k bs) 0 0 ≡ get_or bs k 0 = let zero-more : k + 0 ≡ k = omega arith in get_or-drop k bs 0 0 ∙ ap (λ (i : ℕ). get_or bs i 0) zero-more in
    let q' = get_or-drop k bs 1 0 in
    let r' = get_or-drop k bs 2 0 in
    let s' = get_or-drop k bs 3 0 in
    omega (arith, whole, each, p, q, r, s, p', q', r', s')

-- ---- a buffer

-- with one byte more
pub window_more : (m : Memory) (a n i b : ℕ) (bytes : List ℕ) → i < n → i < length bytes → byte_in m (a + i) ≡ Some b → take i bytes ++ window m (a + i) (n - i) ≡ window m a n → take (i + 1) (slice_set bytes i b) ++ window m (a + (i + 1)) (n - (i + 1)) ≡ window m a n
unfolding window
window_more m a n i b bytes l k is inv =
    let e : n - i ≡ suc (n - (i + 1)) = omega arith in
    let f : a + i + 1 ≡ a + (i + 1) = omega arith in
    let step = rw (e, is, f) at inv in
    rw (take_more_set bytes i b k) (append_assoc (take i bytes) (b ∷ []) (window m (a + (i + 1)) (n - (i + 1))) ∙ step)

-- up to a byte that is not loaded
pub window_ends : (m : Memory) (a n i : ℕ) (bytes : List ℕ) → i < n → byte_in m (a + i) ≡ None → take i bytes ++ window m (a + i) (n - i) ≡ window m a n → take i bytes ≡ window m a n
unfolding window
window_ends m a n i bytes l is inv =
    let e : n - i ≡ suc (n - (i + 1)) = omega arith in
    let step = rw (e, is) at inv in
    sym (append-nil (take i bytes)) ∙ step

-- the whole
pub window_whole : (m : Memory) (a n i : ℕ) (bytes : List ℕ) → n ≤ i → take i bytes ++ window m (a + i) (n - i) ≡ window m a n → take i bytes ≡ window m a n
unfolding window
window_whole m a n i bytes l inv =
    let e : n - i ≡ 0 = omega arith in
    let step = rw e at inv in
    sym (append-nil (take i bytes)) ∙ step
