-- Reversed words: as many bytes as there were.
use Rattle.std.proofs.Common.{◌≡◌, ℕ, zero, suc, ◌+◌, ◌-◌, ◌*◌, ◌/◌, ◌%◌, ◌≤◌, List, length, flat_map, refl, ap, ◌∙◌, arith, subst}
use Rattle.std.specs.Prelude.{slice_range}
use Rattle.std.specs.List.{range_with_len}
use Rattle.std.proofs.lemmas.List.{length-append}
use Rattle.wild_words.proofs.Basics.{length-range}
use Rattle.wild_words.proofs.ListLemmas.{flat_map-numbers}
use Rattle.wild_placement.specs.ReversedWords.{word_from_end, reversed_word_bytes}

-- a word has 8 bytes
word_length : (bs : List ℕ) (i : ℕ) → 8 * (i + 1) ≤ length bs → length (word_from_end bs i) ≡ 8
word_length bs i h =
    let from = length bs - 8 * (i + 1) in
    let to : from + 8 ≡ length bs - 8 * i = omega arith in
    subst (λ (n : ℕ). length (slice_range bs from n) ≡ 8) to (length-range bs from 8 (omega arith))

words_length : (bs : List ℕ) (n : ℕ) → 8 * n ≤ length bs → length (flat_map (word_from_end bs) (range_with_len 0 n)) ≡ 8 * n
words_length bs zero h = refl
words_length bs (suc n) h =
    let next : n + 1 ≡ suc n = omega arith in
    let P : ℕ → Type 0 = λ k. length (flat_map (word_from_end bs) (range_with_len 0 k)) ≡ 8 * k in
    let more = ap length (flat_map-numbers (word_from_end bs) n) in
    let both = length-append (flat_map (word_from_end bs) (range_with_len 0 n)) (word_from_end bs n) in
    let last = word_length bs n (omega arith) in
    let rest = words_length bs n (omega arith) in
    let whole : length (flat_map (word_from_end bs) (range_with_len 0 (n + 1))) ≡ 8 * (n + 1) = omega arith in
    subst P next whole

pub length-reversed_word_bytes : (bs : List ℕ) → length bs % 8 ≡ 0 → length (reversed_word_bytes bs) ≡ length bs
unfolding reversed_word_bytes
length-reversed_word_bytes bs h =
    let n = length bs / 8 in
    let whole : 8 * n ≡ length bs = omega arith in
    words_length bs n (omega arith) ∙ whole
