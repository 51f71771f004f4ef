-- Words and stubs in their parts.
use Rattle.std.proofs.Common.{◌≡◌, ℕ, ◌+◌, ◌*◌, ◌≤◌, List, ◌++◌, length, take, refl, arith}
use Rattle.wild_words.specs.Words.{place}
use Rattle.wild_words.proofs.WordLemmas.{front-place}
use Rattle.wild_relr.specs.WriterState.{word_bytes, words_in, IsSpelled}
use Rattle.wild_relr.proofs.WriterLemmas.{length_words_in}

pub words_stand : (bs : List ℕ) (n : ℕ) → IsSpelled bs n → take (8 * length (words_in bs n)) bs ≡ word_bytes (words_in bs n)
unfolding IsSpelled
words_stand bs n s = let e = length_words_in bs n in rw e s

-- what is put behind the front
pub stub_put : (bs part : List ℕ) (at : ℕ) → at + length part ≤ length bs → take (at + length part) (place at part bs) ≡ take at bs ++ part
stub_put bs part at l = front-place at (at + length part) bs part refl (omega arith)
