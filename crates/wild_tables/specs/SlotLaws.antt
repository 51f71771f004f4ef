-- How the words of slots are distributed to the parts.
--   EachWordIsInOnePart      each word is in `got` or in `got_relr`
--   WordsAreReadInOrder   word k of a slot in `got` is read at offset 8 k
--   EachFilledWordHasOneEntry  each word outside `got_relr` that is not a plain number has one RELA entry or one RELR word
--   EntriesFillWords    each RELA entry has the place of a word that is 0 in the file
--   CountsDoNotDependOnMachine  the number of RELA entries does not depend on the machine
use Rattle.std.specs.Prelude.{◌≡◌, ℕ, ◌+◌, ◌*◌, ◌%◌, ◌^◌, ◌<◌, Bool, true, false, Option, Some, None, List, length, All, slice_index_or}
use Rattle.wild_words.specs.Words.{number_at, HasBytesAt}
use Rattle.wild_relr.specs.WriterState.{word_bytes}
use Rattle.wild_records.specs.declared.relocations.Rela.{Rela}
use Rattle.wild_types.specs.declared.kind.Machine.{Machine}
use Rattle.wild_slot.specs.declared.slot.SlotWord.{SlotWord}
use Rattle.wild_slot.specs.declared.slot.SlotWord.TheVariants.{Number, InRelrGot}
use Rattle.wild_slot.specs.declared.slot_parts.WordPart.TheVariants as words
use Rattle.wild_slot.specs.declared.slot_parts.EntryPart.{EntryPart}
use Rattle.wild_slot.specs.declared.slot_parts.EntryPart.TheVariants as entries
use Rattle.wild_slot.specs.SlotParts.{at_places, word_of, slot_words, slot_entries, relr_slot_places}

-- each word is in exactly one of `got` and `got_relr`
abbrev pub EachWordIsInOnePart : Type 0
EachWordIsInOnePart = (relr : Bool) (at : ℕ) (ws : List SlotWord)
    → length (slot_words words.Got relr at ws) + length (slot_words words.RelrGot relr at ws) ≡ length ws

abbrev pub is_in_relr_got : SlotWord → Bool
is_in_relr_got (InRelrGot a) = true
is_in_relr_got other = false

-- the address of word k of a slot
abbrev pub word_place : ℕ → ℕ → ℕ
word_place at k = (at + 8 * k) % 2 ^ 64

-- word k of a slot in `got` is read 8 k bytes after the slot's first word
abbrev pub WordsAreReadInOrder : Type 0
WordsAreReadInOrder = (relr : Bool) (at : ℕ) (ws : List SlotWord) (whole : List ℕ) (from k : ℕ) (d : SlotWord) → at < 2 ^ 64
    → All (λ w. is_in_relr_got w ≡ false) ws → All (λ n. n < 2 ^ 64) (slot_words words.Got relr at ws) → HasBytesAt whole from (word_bytes (slot_words words.Got relr at ws)) → k < length ws
    → word_of words.Got relr (word_place at k) (slice_index_or ws k d) ≡ Some (number_at whole (from + 8 * k) 8)

-- a word that a loader fills, or to which it adds the base by its own RELR word
abbrev pub filled : SlotWord → Option SlotWord
filled (Number n) = None
filled (InRelrGot a) = None
filled other = Some other

-- each such word has one entry in one of the three RELA tables, or one RELR word
abbrev pub EachFilledWordHasOneEntry : Type 0
EachFilledWordHasOneEntry = (m : Machine) (relr : Bool) (at : ℕ) (ws : List SlotWord)
    → length (slot_entries entries.Plt m relr at ws) + length (slot_entries entries.Relative m relr at ws) + length (slot_entries entries.General m relr at ws) + length (relr_slot_places relr at ws)
    ≡ length (at_places (λ at. filled) at ws)

-- the entry has the place of some word of the slot, which is 0 in the file
pub record Fills (relr : Bool) (at : ℕ) (ws : List SlotWord) (e : Rela) : Type 0 where
  pub index : ℕ
  pub word : SlotWord
  pub listed : (index < length ws) × (slice_index_or ws index word ≡ word)
  pub place : e.offset ≡ word_place at index
  pub zero : word_of words.Got relr e.offset word ≡ Some 0

abbrev pub EntriesFillWords : Type 0
EntriesFillWords = (part : EntryPart) (m : Machine) (relr : Bool) (at : ℕ) (ws : List SlotWord) → at < 2 ^ 64 → All (Fills relr at ws) (slot_entries part m relr at ws)

-- the number of RELA entries does not depend on the machine
abbrev pub CountsDoNotDependOnMachine : Type 0
CountsDoNotDependOnMachine = (part : EntryPart) (m n : Machine) (relr : Bool) (at : ℕ) (ws : List SlotWord)
    → length (slot_entries part m relr at ws) ≡ length (slot_entries part n relr at ws)
