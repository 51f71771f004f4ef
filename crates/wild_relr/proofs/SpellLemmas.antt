-- The bytes of words that stand in bytes.
use Rattle.std.proofs.Common.{◌≡◌, ℕ, zero, suc, ◌+◌, ◌-◌, ◌*◌, ◌^◌, ◌<◌, ◌≤◌, List, [], ◌∷◌, ◌++◌, length, take, get_or, slice_range, refl, sym, ap, ◌∙◌, arith}
use Rattle.std.proofs.lemmas.List.{append_assoc, append-nil, take-take, take_at, length-append}
use Rattle.std.specs.Prelude.{All}
use Rattle.wild_words.specs.Words.{word, place, number, number_at, HasBytesAt}
use Rattle.wild_words.proofs.WordLemmas.{length-word, front-place}
use Rattle.wild_words.proofs.OverlayLemmas.{HasBytesAt-inner}
use Rattle.wild_words.proofs.RecordLemmas.{HasBytesAt-left, HasBytesAt-right, number-stands}
use Rattle.wild_relr.specs.WriterState.{words_in, word_bytes, IsSpelled}
use Rattle.wild_relr.proofs.WriterLemmas.{words_in_next, length_words_in}

pub word_bytes-append : (ws vs : List ℕ) → word_bytes (ws ++ vs) ≡ word_bytes ws ++ word_bytes vs
word_bytes-append [] vs = refl
word_bytes-append (w ∷ ws) vs = ap (λ (r : List ℕ). word 8 w ++ r) (word_bytes-append ws vs) ∙ sym (append_assoc (word 8 w) (word_bytes ws) (word_bytes vs))

pub word_bytes-push : (ws : List ℕ) (w : ℕ) → word_bytes (ws ++ w ∷ []) ≡ word_bytes ws ++ word 8 w
word_bytes-push ws w = word_bytes-append ws (w ∷ []) ∙ ap (λ (r : List ℕ). word_bytes ws ++ r) (append-nil (word 8 w))

pub length-word_bytes : (ws : List ℕ) → length (word_bytes ws) ≡ 8 * length ws
length-word_bytes [] = refl
length-word_bytes (w ∷ ws) = length-append (word 8 w) (word_bytes ws) ∙ (let a = length-word 8 w in let b = length-word_bytes ws in omega (arith, a, b))

-- a word behind the words
spelled_next : (bs : List ℕ) (n x : ℕ) → x < 2 ^ 64 → 8 * n + 8 ≤ length bs → IsSpelled bs n → IsSpelled (place (8 * n) (word 8 x) bs) (suc n)
unfolding IsSpelled
spelled_next bs n x h l s =
    let w = length-word 8 x in
    front-place (8 * n) (8 * suc n) bs (word 8 x) (omega (arith, w)) (omega arith)
    ∙ ap (λ (r : List ℕ). r ++ word 8 x) s
    ∙ sym (ap word_bytes (words_in_next bs n x h l) ∙ word_bytes-push (words_in bs n) x)

pub spelled_more : (bs : List ℕ) (n x m : ℕ) → m ≡ n + 1 → x < 2 ^ 64 → 8 * n + 8 ≤ length bs → IsSpelled bs n → IsSpelled (place (8 * n) (word 8 x) bs) m
spelled_more bs n x m e h l s =
    let i : m ≡ suc n = omega arith in
    rw i (spelled_next bs n x h l s)

-- all words but the last
spelled_front : (bs : List ℕ) (n : ℕ) → 8 * suc n ≤ length bs → IsSpelled bs (suc n) → IsSpelled bs n
unfolding IsSpelled words_in
spelled_front bs n l s =
    let v = number_at bs (8 * n) 8 in
    let low : 8 * n ≤ 8 * suc n = omega arith in
    let front : take (8 * n) (take (8 * suc n) bs) ≡ take (8 * n) bs = take-take (8 * n) (8 * suc n) bs low in
    let len : length (word_bytes (words_in bs n)) ≡ 8 * n = length-word_bytes (words_in bs n) ∙ ap (λ (k : ℕ). 8 * k) (length_words_in bs n) in
    sym front ∙ ap (λ (r : List ℕ). take (8 * n) r) (s ∙ word_bytes-push (words_in bs n) v) ∙ take_at (word_bytes (words_in bs n)) (word 8 v) (8 * n) len

-- another word in place of the last
pub spelled_last : (bs : List ℕ) (n at w : ℕ) → at ≡ 8 * (n - 1) → 0 < n → 8 * n ≤ length bs → w < 2 ^ 64 → IsSpelled bs n → IsSpelled (place at (word 8 w) bs) n
spelled_last bs zero at w e z l h s = absurd (omega arith)
spelled_last bs (suc n) at w e z l h s =
    let a : at ≡ 8 * n = omega arith in
    rw a (spelled_next bs n w h (omega arith) (spelled_front bs n l s))

-- ---- reading

pub HasBytesAt-word : (ws : List ℕ) (k d : ℕ) → k < length ws → HasBytesAt (word_bytes ws) (8 * k) (word 8 (get_or ws k d))
HasBytesAt-word [] k d l = absurd (omega (arith, l))
HasBytesAt-word (w ∷ ws) zero d l = HasBytesAt-left (word 8 w) (word_bytes ws)
HasBytesAt-word (w ∷ ws) (suc k) d l =
    let n = length-word 8 w in
    let e : length (word 8 w) + 8 * k ≡ 8 * suc k = omega (arith, n) in
    rw e at (HasBytesAt-right (word 8 w) (word_bytes ws) (word 8 (get_or ws k d)) (8 * k) (HasBytesAt-word ws k d (omega (arith, l))))

pub word_read : (whole ws : List ℕ) (at k d : ℕ) → All (λ w. w < 2 ^ 64) ws → HasBytesAt whole at (word_bytes ws) → k < length ws → number (slice_range whole (at + 8 * k) (at + 8 * k + 8)) ≡ get_or ws k d
word_read whole ws at k d h s l =
    let small : get_or ws k d < 256 ^ 8 = h k d l in
    number-stands whole (at + 8 * k) 8 (get_or ws k d) (HasBytesAt-inner whole (word_bytes ws) (word 8 (get_or ws k d)) at (8 * k) s (HasBytesAt-word ws k d l)) small
