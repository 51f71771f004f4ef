-- What a reader of the tables finds.
--   LengthsOfEntries   a RELA entry has 24 bytes
--   EntriesAreRead     RELA entry k is read at offset 24 k
--   LoadersAgree       a loader decodes RELR words to the places that wild_relr says
--   PlacesAreLoaded    a loader finds each place that was recorded in RELR words, and no other
use Rattle.std.specs.Prelude.{◌≡◌, ◌≢◌, ℕ, ◌+◌, ◌*◌, ◌^◌, ◌<◌, List, length, All, AllPairs, IsPermutation, slice_index_or}
use Rattle.wild_words.specs.Words.{HasBytesAt}
use Rattle.wild_records.specs.declared.relocations.Rela.{Rela}
use Rattle.wild_records.specs.Relocations.{rela_size, rela_at, RelaFits}
use Rattle.wild_loader.specs.Places as loader
use Rattle.wild_relr.specs.Places.{places}
use Rattle.wild_relr.specs.RunWords.{Piece, IsEven, places_of_pieces, words_of}
use Rattle.wild_table_formats.specs.RelativeEntries.{rela_bytes}

-- a RELA entry has 24 bytes
abbrev pub LengthsOfEntries : Type 0
LengthsOfEntries = (es : List Rela) → length (rela_bytes es) ≡ rela_size * length es

-- entry k is read 24 k bytes after the start of the entries
abbrev pub EntriesAreRead : Type 0
EntriesAreRead = (whole : List ℕ) (es : List Rela) (at k : ℕ) (d : Rela) → All RelaFits es → HasBytesAt whole at (rela_bytes es) → k < length es → rela_at whole (at + rela_size * k) ≡ slice_index_or es k d

-- a loader, which computes modulo 2^64, decodes the same places if all are below 2^64
abbrev pub LoadersAgree : Type 0
LoadersAgree = (ws : List ℕ) → All (λ p. p < 2 ^ 64) (places ws) → loader.places ws ≡ places ws

-- for any list of runs and of slots in got_relr in which no place appears twice, a loader finds each of their places, and no other
abbrev pub PlacesAreLoaded : Type 0
PlacesAreLoaded = (pieces : List Piece) → All IsEven pieces → All (λ p. p < 2 ^ 64) (places_of_pieces pieces) → AllPairs (λ p q. p ≢ q) (places_of_pieces pieces)
    → IsPermutation (places_of_pieces pieces) (loader.places (words_of pieces))
