-- Buffers after bytes are written into them.
use Rattle.wild_checker.proofs.Common.{◌≡◌, ℕ, ◌%◌, ◌^◌, ◌<◌, List, [], ◌∷◌, length, take, refl, sym, ap, ◌∙◌, arith, w64, word, length-word, RelocationKindInfo, WidthsHold, field_width}
use Rattle.std.specs.Int.{to_le_bytes}
use Rattle.wild_words.specs.Words.{place}
use Rattle.wild_words.proofs.WordLemmas.{front-place, low_word_4, word_8}
use Rattle.wild_loader.specs.StepLawsX86_64.{stub_bytes}
use Rattle.wild_reloc.specs.Field.{written}

front : (ys xs : List ℕ) (n : ℕ) → n ≡ length ys → take n (place 0 ys xs) ≡ ys
front ys xs n e = front-place 0 n xs ys (omega (arith, e)) (omega arith)

-- the front of a buffer after a field is written over the input's bytes
pub taken : WidthsHold → (row : RelocationKindInfo) (v : ℕ) (old xs mid buf : List ℕ) → length old ≡ field_width row → mid ≡ place 0 old xs → buf ≡ place 0 (written row v (take (field_width row) mid)) mid → take (field_width row) buf ≡ written row v old
taken widths row v old xs mid buf long first is =
    let same = ap (take (field_width row)) first ∙ front old xs (field_width row) (sym long) in
    let wide = widths row v (take (field_width row) mid) in
    ap (take (field_width row)) is ∙ front (written row v (take (field_width row) mid)) mid (field_width row) (sym wide) ∙ ap (written row v) same

-- the bytes of a stub whose displacement is 0
abbrev blank : List ℕ
blank = 0xf3 ∷ 0x0f ∷ 0x1e ∷ 0xfa ∷ 0xf2 ∷ 0xff ∷ 0x25 ∷ 0 ∷ 0 ∷ 0 ∷ 0 ∷ 0x0f ∷ 0x1f ∷ 0x44 ∷ 0 ∷ 0 ∷ []

stub_placed : (bs : List ℕ) → length bs ≡ 4 → place 7 bs blank ≡ stub_bytes bs
unfolding place
stub_placed bs four = rw four refl

-- a stub, after its displacement is written
pub stub_written : (d : ℕ) (bytes out : List ℕ) → bytes ≡ to_le_bytes w64 d → out ≡ place 7 (take 4 bytes) blank → out ≡ stub_bytes (word 4 d)
stub_written d bytes out e is =
    let low : take 4 bytes ≡ word 4 d = ap (take 4) e ∙ low_word_4 d in
    is ∙ ap (λ (bs : List ℕ). place 7 bs blank) low ∙ stub_placed (word 4 d) (length-word 4 d)

-- the bytes of a number of 64 bits
pub number_written : (v : ℕ) (bytes : List ℕ) → v < 2 ^ 64 → bytes ≡ to_le_bytes w64 v → bytes ≡ word 8 (v % 2 ^ 64)
number_written v bytes low e =
    let same : v ≡ v % 2 ^ 64 = omega (arith, low) in
    e ∙ word_8 v ∙ ap (word 8) same
