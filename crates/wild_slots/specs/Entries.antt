-- The relocation entries of slots (x86-64 psABI, "Relocation Types"; ELF Handling For Thread-Local Storage).
--   IsKnownEntry s e        the entry refers to the symbol, its resolver, or the output's own module
--   EntriesAreKnown         each entry of a symbol's words does so
--   IsOfWord l f part e     the entry is that of a word of a symbol of the file
--   EntriesAreOfWords       each entry of a file's slots is such an entry
--   FixedOutputsMoveNothing in an output with a fixed base no slot moves
use Rattle.std.specs.Prelude.{◌≡◌, ℕ, ◌+◌, ◌*◌, ◌%◌, ◌^◌, ◌<◌, ◌⊎◌, ⊤, true, false, [], Option, Some, None, All, Contains, slice_get}
use Rattle.wild_records.specs.declared.relocations.Rela.{Rela}
use Rattle.wild_reloc.specs.declared.dynamic.DynamicRelocationKind.{DynamicRelocationKind}
use Rattle.wild_reloc.specs.declared.dynamic.DynamicRelocationKind.TheVariants as kinds
use Rattle.wild_types.specs.declared.file.File.{File}
use Rattle.wild_types.specs.declared.file.Group.{Group}
use Rattle.wild_types.specs.declared.symbol.Resolution.{Resolution}
use Rattle.wild_types.specs.declared.symbol.Symbol.{Symbol}
use Rattle.wild_types.specs.declared.layout.Layout.{Layout}
use Rattle.wild_slot.specs.declared.slot.SlotEntry.{SlotEntry}
use Rattle.wild_slot.specs.declared.slot.SlotWord.{SlotWord}
use Rattle.wild_slot.specs.declared.slot.SlotWord.TheVariants.{General, Plt}
use Rattle.wild_slot.specs.declared.slot_parts.EntryPart.{EntryPart}
use Rattle.wild_slot.specs.declared.slot_parts.WordPart.TheVariants as words
use Rattle.wild_slot.specs.declared.slot_parts.EntryPart.TheVariants as entries
use Rattle.wild_types.specs.Flags.{has_flag, ifunc}
use Rattle.wild_types.specs.Kinds.{is_position_independent}
use Rattle.wild_types.specs.ResolvedFlags.{HasItsFlags}
use Rattle.wild_types.specs.SymbolSlots.{got_of, slots_address}
use Rattle.wild_slot.specs.SlotParts.{entry_of}
use Rattle.wild_needs.specs.SlotShares.{word_size, storage_words, group_relr_got}
use Rattle.wild_types.specs.FileSymbols.{own_symbols}
use Rattle.wild_slot.specs.SymbolWords.{slots_of}
use Rattle.wild_layout.specs.SlotBytes.{slot_words_of, slot_entries_of, flat_places_of}

-- ---- what entries refer to

-- entries of these kinds may refer to a symbol
abbrev pub NamesSymbols : DynamicRelocationKind → Type 0
NamesSymbols kinds.GotEntry = ⊤
NamesSymbols kinds.JumpSlot = ⊤
NamesSymbols kinds.DtpMod = ⊤
NamesSymbols kinds.DtpOff = ⊤
NamesSymbols kinds.TpOff = ⊤
NamesSymbols kinds.TlsDesc = ⊤
NamesSymbols other = ⊥

-- entries of these kinds may refer to no symbol, for the output's own module
abbrev pub NamesModules : DynamicRelocationKind → Type 0
NamesModules kinds.DtpMod = ⊤
NamesModules kinds.TpOff = ⊤
NamesModules kinds.TlsDesc = ⊤
NamesModules other = ⊥

-- the entry refers to the symbol by its index in the dynamic symbol table, with addend 0
pub record NamesItself (s : Symbol) (e : SlotEntry) : Type 0 where
  pub resolution : Resolution
  pub resolved : s.resolution ≡ Some resolution
  pub index : resolution.dynamic_symbol_index ≡ Some e.symbol
  pub kind : NamesSymbols e.kind
  pub nothing : e.addend ≡ 0

-- the entry has the address of the symbol's resolver
pub record NamesResolver (s : Symbol) (e : SlotEntry) : Type 0 where
  pub resolution : Resolution
  pub resolved : s.resolution ≡ Some resolution
  pub indirect : has_flag s.flags ifunc ≡ true
  pub kind : e.kind ≡ kinds.Irelative
  pub none : e.symbol ≡ 0
  pub is : e.addend ≡ resolution.raw_value

abbrev pub IsKnownEntry : Symbol → SlotEntry → Type 0
IsKnownEntry s e = NamesItself s e ⊎ (NamesResolver s e ⊎ (NamesModules e.kind × (e.symbol ≡ 0)))

-- the entry of a word
abbrev pub entry_in : SlotWord → Option SlotEntry
entry_in (General e) = Some e
entry_in (Plt e) = Some e
entry_in other = None

-- each entry of a symbol's words, if the symbol's resolution has its flags, and that of the shared module pair
pub record EntriesAreKnown : Type 0 where
  pub words : (l : Layout) (s : Symbol) (d : SlotWord) (e : SlotEntry) → HasItsFlags s → Contains (slots_of l s).words d → entry_in d ≡ Some e → IsKnownEntry s e
  pub pair : (l : Layout) (d : SlotWord) (e : SlotEntry) → Contains (storage_words l) d → entry_in d ≡ Some e → (e.kind ≡ kinds.DtpMod) × (e.symbol ≡ 0) × (e.addend ≡ 0)

-- ---- where entries come from

-- the entry is that of a word of a symbol of the file, at the word's place
pub record IsOfWord (l : Layout) (f : File) (part : EntryPart) (e : Rela) : Type 0 where
  pub symbol : Symbol
  pub own : Contains (own_symbols l f) symbol
  pub number : ℕ
  pub word : SlotWord
  pub there : slice_get (slots_of l symbol).words number ≡ Some word
  pub is : entry_of part l.machine l.options.relr ((slots_address symbol + word_size * number) % 2 ^ 64) word ≡ Some e

-- if the slots' places are numbers of 64 bits
abbrev pub EntriesAreOfWords : Type 0
EntriesAreOfWords = (l : Layout) (f : File) (part : EntryPart) → All (λ (s : Symbol). (at : ℕ) → got_of s ≡ Some at → at < 2 ^ 64) l.symbols → All (IsOfWord l f part) (slot_entries_of part l f)

-- no slot has an address that moves with the base
pub record MovesNothing (l : Layout) : Type 0 where
  pub relative : (f : File) → slot_entries_of entries.Relative l f ≡ []
  pub flat : (f : File) → flat_places_of l f ≡ []
  pub block : (f : File) → slot_words_of words.RelrGot l f ≡ []
  pub groups : (g : Group) → group_relr_got l g ≡ []

-- in an output with a fixed base
abbrev pub FixedOutputsMoveNothing : Type 0
FixedOutputsMoveNothing = (l : Layout) → is_position_independent l.kind ≡ false → MovesNothing l
