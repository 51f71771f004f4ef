-- Words in reverse order, one by one.
use Rattle.std.proofs.Common.{◌≡◌, ℕ, ◌+◌, ◌-◌, ◌*◌, List, [], ◌∷◌, ◌++◌, length, flat_map, ap, sym, ◌∙◌, arith}
use Rattle.std.specs.Prelude.{slice_range}
use Rattle.std.specs.List.{range_with_len}
use Rattle.wild_words.proofs.ListLemmas.{flat_map-numbers}
use Rattle.wild_placement.specs.ReversedWords.{word_from_end}

-- one more word
pub word_more : (bs items new : List ℕ) (i end : ℕ) → items ≡ flat_map (word_from_end bs) (range_with_len 0 i) → end ≡ length bs - 8 * i → new ≡ items ++ slice_range bs (end - 8) end
    → new ≡ flat_map (word_from_end bs) (range_with_len 0 (i + 1))
word_more bs items new i end h e n =
    let f = word_from_end bs in
    let low : end - 8 ≡ length bs - 8 * (i + 1) = omega (arith, e) in
    let word : slice_range bs (end - 8) end ≡ f i = ap (λ (k : ℕ). slice_range bs (end - 8) k) e ∙ ap (λ (k : ℕ). slice_range bs k (length bs - 8 * i)) low in
    n ∙ ap (λ xs. xs ++ slice_range bs (end - 8) end) h ∙ ap (λ xs. flat_map f (range_with_len 0 i) ++ xs) word ∙ sym (flat_map-numbers f i)
