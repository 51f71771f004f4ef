-- The places of a symbol's words and stub in the tables (x86-64 psABI, "Global Offset Table (GOT)", "Procedure Linkage Table").
--   IsLocatedAt l r at bs   the table of a role has these bytes at an address
--   SymbolIsPlaced l s at  a symbol's words and its stub are at their addresses in the layout
--   WordIsPlaced l at w    a word is at its address in its table
--   SlotsArePlaced, EachWordIsPlaced, StubsAreThere, PairIsPlaced   the laws
use Rattle.std.specs.Prelude.{◌≡◌, ℕ, ◌+◌, ◌-◌, ◌*◌, ◌≤◌, Bool, true, false, List, [], length, Some, None, slice_get}
use Rattle.wild_words.specs.Words.{word, HasBytesAt}
use Rattle.wild_relr.specs.WriterState.{word_bytes}
use Rattle.wild_types.specs.declared.part.Role.{Role}
use Rattle.wild_types.specs.declared.part.Role.TheVariants as role
use Rattle.wild_types.specs.declared.symbol.Symbol.{Symbol}
use Rattle.wild_types.specs.declared.layout.Layout.{Layout}
use Rattle.wild_slot.specs.declared.slot.SlotWord.{SlotWord}
use Rattle.wild_slot.specs.declared.slot.SlotWord.TheVariants.{InRelrGot}
use Rattle.wild_slot.specs.declared.slot_parts.WordPart.{WordPart}
use Rattle.wild_slot.specs.declared.slot_parts.WordPart.TheVariants as words
use Rattle.wild_slot.specs.SlotParts.{word_of, slot_words, begins_relr_got}
use Rattle.wild_types.specs.SymbolSlots.{got_of, plt_of}
use Rattle.wild_needs.specs.SlotShares.{word_size, words_in, storage_words}
use Rattle.wild_slot.specs.SymbolWords.{slots_of}
use Rattle.wild_plan_rules.specs.SlotPlaces.{start_of}
use Rattle.wild_layout.specs.SlotBytes.{stub_bytes}
use Rattle.wild_layout.specs.TablePlaces.{table_bytes}
use Rattle.wild_layout.specs.SlotOrder.{HasSlotsInOrder}
use Rattle.wild_slots.specs.Order.{IsWritten, end_of}

-- the table of that role has the bytes at that address
pub record IsLocatedAt (l : Layout) (r : Role) (at : ℕ) (bs : List ℕ) : Type 0 where
  pub from : start_of l r ≤ at
  pub to : at + length bs ≤ end_of l r
  pub stands : HasBytesAt (table_bytes l r) (at - start_of l r) bs

-- if the first word is in the RELR block, the words are in the block's table and no others exist; otherwise they are in the other
-- table, and none is in the block
abbrev pub WordsArePlaced : Layout → Symbol → ℕ → Bool → Type 0
WordsArePlaced l s at true = IsLocatedAt l role.GotRelr at (word_bytes (words_in words.RelrGot l s)) × (words_in words.Got l s ≡ [])
WordsArePlaced l s at false = IsLocatedAt l role.Got at (word_bytes (words_in words.Got l s)) × (words_in words.RelrGot l s ≡ [])

-- a file writes the symbol's words and its stub, at their addresses in the layout
pub record SymbolIsPlaced (l : Layout) (s : Symbol) (at : ℕ) : Type 0 where
  pub written : IsWritten l s
  pub words : WordsArePlaced l s at (begins_relr_got (slots_of l s).words)
  pub stub : (p : ℕ) → plt_of s ≡ Some p → IsLocatedAt l role.PltGot p (stub_bytes l s)

-- for each symbol with slots
abbrev pub SlotsArePlaced : Type 0
SlotsArePlaced = (l : Layout) → HasSlotsInOrder l → (i at : ℕ) (s : Symbol) → slice_get l.symbols i ≡ Some s → got_of s ≡ Some at → SymbolIsPlaced l s at

-- ---- word by word

-- the table of a word
abbrev pub part_of_word : SlotWord → WordPart
part_of_word (InRelrGot a) = words.RelrGot
part_of_word other = words.Got

abbrev pub role_of_words : WordPart → Role
role_of_words words.Got = role.Got
role_of_words words.RelrGot = role.GotRelr

-- the word is at that address: its value in the file, as eight bytes
pub record WordIsPlaced (l : Layout) (at : ℕ) (w : SlotWord) : Type 0 where
  pub value : ℕ
  pub is : word_of (part_of_word w) l.options.relr at w ≡ Some value
  pub stands : IsLocatedAt l (role_of_words (part_of_word w)) at (word 8 value)

-- each word of each symbol, 8 bytes after the word before it
abbrev pub EachWordIsPlaced : Type 0
EachWordIsPlaced = (l : Layout) → HasSlotsInOrder l → (i at k : ℕ) (s : Symbol) (w : SlotWord) → slice_get l.symbols i ≡ Some s → got_of s ≡ Some at
    → slice_get (slots_of l s).words k ≡ Some w → WordIsPlaced l (at + word_size * k) w

-- ---- stubs

-- a symbol with slots whose stub has an address has a stub, if its slots have no fault
abbrev pub StubsAreThere : Type 0
StubsAreThere = (l : Layout) → HasSlotsInOrder l → (i at p : ℕ) (s : Symbol) → slice_get l.symbols i ≡ Some s → got_of s ≡ Some at → plt_of s ≡ Some p
    → (slots_of l s).fault ≡ None → (slots_of l s).has_stub ≡ true

-- ---- the shared module pair

-- the pair of the output's own thread-local data (ELF Handling For Thread-Local Storage, "Local Dynamic TLS Model")
abbrev pub PairIsPlaced : Type 0
PairIsPlaced = (l : Layout) → HasSlotsInOrder l → 1 ≤ length l.groups → (at : ℕ) → l.tlsld ≡ Some at
    → IsLocatedAt l role.Got at (word_bytes (slot_words words.Got l.options.relr at (storage_words l)))
