-- What slots contribute to the parts of an image, one list a part. A word is 8 bytes after the one before it.
--   slot_words t relr at ws     the words of `got` or `got_relr`
--   slot_entries t m relr at ws the entries of `rela_plt`, `rela_dyn_relative` or `rela_dyn_general`, each with its word's place
--   relr_slot_places relr at ws      the places that have a RELR word of their own
--   begins_relr_got ws    the first word belongs to the group's run of words that are packed together
use Rattle.std.specs.Prelude.{ℕ, ◌+◌, ◌%◌, ◌^◌, ◌==◌, ◌&&◌, Bool, if◌then◌else◌, List, [], ◌∷◌, ◌++◌, Option, Some, None, option_to_list, true, false}
use Rattle.std.specs.Int.{cast_signed, w64}
use Rattle.wild_records.specs.declared.relocations.Rela.{Rela}
use Rattle.wild_reloc.specs.declared.dynamic.DynamicRelocationKind.{DynamicRelocationKind}
use Rattle.wild_reloc.specs.declared.dynamic.DynamicRelocationKind.TheVariants.{Relative}
use Rattle.wild_reloc.specs.Dynamic.{x86_64_type, aarch64_type}
use Rattle.wild_types.specs.declared.kind.Machine.{Machine}
use Rattle.wild_types.specs.declared.kind.Machine.TheVariants as machine
use Rattle.wild_slot.specs.declared.slot.SlotEntry.{SlotEntry}
use Rattle.wild_slot.specs.declared.slot.SlotWord.{SlotWord}
use Rattle.wild_slot.specs.declared.slot.SlotWord.TheVariants.{Number, Address, InRelrGot, General, Plt}
use Rattle.wild_slot.specs.declared.slot_parts.WordPart.{WordPart}
use Rattle.wild_slot.specs.declared.slot_parts.WordPart.TheVariants as words
use Rattle.wild_slot.specs.declared.slot_parts.EntryPart.{EntryPart}
use Rattle.wild_slot.specs.declared.slot_parts.EntryPart.TheVariants as entries

-- the address of the next word
abbrev pub next : ℕ → ℕ
next at = (at + 8) % 2 ^ 64

-- the items that f yields for the words, in order, given each word's place
abbrev pub at_places : {X : Type 0} → (ℕ → SlotWord → Option X) → ℕ → List SlotWord → List X
at_places f at [] = []
at_places f at (w ∷ ws) = option_to_list (f at w) ++ at_places f (next at) ws

-- ---- words

-- a RELR word can name the place
abbrev pub is_packed : Bool → ℕ → Bool
is_packed relr at = relr && at % 2 == 0

-- the contents of a word in the file: an address if RELR or the block packs it; 0 if an entry fills it
abbrev pub word_of : WordPart → Bool → ℕ → SlotWord → Option ℕ
word_of words.Got relr at (Number n) = Some n
word_of words.Got relr at (Address a) = Some (if is_packed relr at then a else 0)
word_of words.Got relr at (InRelrGot a) = None
word_of words.Got relr at (General e) = Some 0
word_of words.Got relr at (Plt e) = Some 0
word_of words.RelrGot relr at (InRelrGot a) = Some a
word_of words.RelrGot relr at other = None

abbrev pub slot_words : WordPart → Bool → ℕ → List SlotWord → List ℕ
slot_words part relr at ws = at_places (word_of part relr) at ws

-- ---- entries

-- the relocation type of a kind (x86-64 psABI and aaelf64, "Relocation Types")
abbrev pub type_of : Machine → DynamicRelocationKind → ℕ
type_of machine.X86_64 kind = x86_64_type kind
type_of machine.AArch64 kind = aarch64_type kind

-- the entry that fills the word at a place; r_info has the low 32 bits of the index (gABI, "Relocation", ELF64_R_INFO)
abbrev pub entry_at : Machine → ℕ → SlotEntry → Rela
entry_at m at e = record { offset = at; number = type_of m e.kind; symbol = e.symbol % 2 ^ 32; addend = cast_signed w64 e.addend }

-- the relative entry with which a loader stores load bias plus value
abbrev pub address_entry : Machine → ℕ → ℕ → Rela
address_entry m at value = record { offset = at; number = type_of m Relative; symbol = 0; addend = cast_signed w64 value }

abbrev pub entry_of : EntryPart → Machine → Bool → ℕ → SlotWord → Option Rela
entry_of entries.Plt m relr at (Plt e) = Some (entry_at m at e)
entry_of entries.Relative m relr at (Address a) = if is_packed relr at then None else Some (address_entry m at a)
entry_of entries.General m relr at (General e) = Some (entry_at m at e)
entry_of part m relr at other = None

abbrev pub slot_entries : EntryPart → Machine → Bool → ℕ → List SlotWord → List Rela
slot_entries part m relr at ws = at_places (entry_of part m relr) at ws

-- ---- packed places

abbrev pub relr_slot_place : Bool → ℕ → SlotWord → Option ℕ
relr_slot_place relr at (Address a) = if is_packed relr at then Some at else None
relr_slot_place relr at other = None

abbrev pub relr_slot_places : Bool → ℕ → List SlotWord → List ℕ
relr_slot_places relr at ws = at_places (relr_slot_place relr) at ws

-- the first word belongs to the group's run of words that are packed together
abbrev pub begins_relr_got : List SlotWord → Bool
begins_relr_got (InRelrGot a ∷ ws) = true
begins_relr_got other = false
