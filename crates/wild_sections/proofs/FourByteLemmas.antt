-- The four low bytes of a value.
use Rattle.std.proofs.Common.{◌≡◌, ℕ, ◌%◌, ◌/◌, ◌^◌, ◌∙◌, refl, arith}
use Rattle.std.specs.Int.{w32, to_le_bytes}
use Rattle.wild_words.specs.Words.{word}
use Rattle.wild_words.proofs.WordLemmas.{word_4}

pub low_four : (x : ℕ) → to_le_bytes w32 (x % 2 ^ 32) ≡ word 4 x
unfolding word
low_four x =
    let a : x % 2 ^ 32 % 256 ≡ x % 256 = omega arith in
    let b : x % 2 ^ 32 / 256 % 256 ≡ x / 256 % 256 = omega arith in
    let c : x % 2 ^ 32 / 256 / 256 % 256 ≡ x / 256 / 256 % 256 = omega arith in
    let d : x % 2 ^ 32 / 256 / 256 / 256 % 256 ≡ x / 256 / 256 / 256 % 256 = omega arith in
    word_4 (x % 2 ^ 32) ∙ rw (a, b, c, d) refl
