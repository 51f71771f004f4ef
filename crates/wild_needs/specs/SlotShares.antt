-- What the slots and stubs of a file's symbols need of the parts (x86-64 psABI, "Global Offset Table (GOT)", "Procedure
-- Linkage Table").
--   header_words l       the words that appear once, at the start of the GOT
--   slots_need_nothing l r       slots need no bytes of parts of that role
--   slot_share l r f     the bytes that a file's symbols need of the part of a role
--   block_words l g      the RELR words for a group's block of slots
--   relr_got_share l r g    the size of these words in bytes
use Rattle.std.specs.Prelude.{ℕ, ◌+◌, ◌*◌, ◌==◌, Bool, true, false, not, ◌&&◌, ◌||◌, if◌then◌else◌, List, [], ◌∷◌, ◌++◌, min, ◌-◌, ◌^◌, length, replicate, Option, Some, None, unwrap_or}
use Rattle.wild_records.specs.Relocations.{rela_size, relr_size}
use Rattle.wild_relr.specs.RunWords.{block}
use Rattle.wild_types.specs.declared.part.Role.{Role}
use Rattle.wild_types.specs.declared.part.Role.TheVariants as role
use Rattle.wild_types.specs.declared.file.File.{File}
use Rattle.wild_types.specs.declared.file.Group.{Group}
use Rattle.wild_types.specs.declared.symbol.Symbol.{Symbol}
use Rattle.wild_types.specs.declared.layout.Layout.{Layout}
use Rattle.wild_needs.specs.declared.slot_shares.RelrGot.{RelrGot}
use Rattle.wild_slot.specs.declared.slot.Setting.{Setting}
use Rattle.wild_slot.specs.declared.slot.SlotWord.{SlotWord}
use Rattle.wild_slot.specs.declared.slot.SlotWord.TheVariants.{InRelrGot}
use Rattle.wild_slot.specs.declared.slot_parts.WordPart.{WordPart}
use Rattle.wild_slot.specs.declared.slot_parts.WordPart.TheVariants as words
use Rattle.wild_slot.specs.declared.slot_parts.EntryPart.{EntryPart}
use Rattle.wild_slot.specs.declared.slot_parts.EntryPart.TheVariants as entries
use Rattle.std.specs.List.{flat_map, list_all}
use Rattle.wild_types.specs.Lists.{total}
use Rattle.wild_types.specs.SymbolSlots.{slots_address, lacks_slots}
use Rattle.wild_slot.specs.Slots.{setting_of, storage_pair}
use Rattle.wild_slot.specs.SlotParts.{at_places, slot_words, slot_entries, relr_slot_places}
use Rattle.wild_types.specs.FileSymbols.{own_symbols}
use Rattle.wild_slot.specs.SymbolWords.{slots_of}

-- the size of a slot in bytes
abbrev pub word_size : ℕ
word_size = 8

-- the size of a stub in bytes
abbrev pub stub_size : ℕ
stub_size = 16

-- ---- words and entries

-- the words of a symbol in a part, and its entries in one
abbrev pub words_in : WordPart → Layout → Symbol → List ℕ
words_in part l s = slot_words part l.options.relr (slots_address s) (slots_of l s).words

abbrev pub entries_in : EntryPart → Layout → Symbol → ℕ
entries_in part l s = length (slot_entries part l.machine l.options.relr (slots_address s) (slots_of l s).words)

-- the module pair of the output's own thread-local data, if it has an address
abbrev pub storage_at : Setting → Option ℕ → List SlotWord
storage_at s None = []
storage_at s (Some at) = storage_pair s

abbrev pub storage_words : Layout → List SlotWord
storage_words l = storage_at (setting_of l) l.tlsld

-- reserved words, which are 0 in the file, and that pair
abbrev pub header_words : Layout → List ℕ
header_words l = replicate l.got_header 0 ++ slot_words words.Got l.options.relr (unwrap_or l.tlsld 0) (storage_words l)

-- the number of entries for that pair
abbrev pub header_entries : Layout → ℕ
header_entries l = length (slot_entries entries.General l.machine l.options.relr (unwrap_or l.tlsld 0) (storage_words l))

-- ---- bytes

-- the bytes that a symbol needs of the part of a role
abbrev pub symbol_share : Layout → Role → Symbol → ℕ
symbol_share l role.Got s = word_size * length (words_in words.Got l s)
symbol_share l role.GotRelr s = word_size * length (words_in words.RelrGot l s)
symbol_share l role.PltGot s = if (slots_of l s).has_stub then stub_size else 0
symbol_share l role.RelaPlt s = rela_size * entries_in entries.Plt l s
symbol_share l role.RelaDynRelative s = rela_size * entries_in entries.Relative l s
symbol_share l role.RelaDynGeneral s = rela_size * entries_in entries.General l s
symbol_share l role.RelrDyn s = relr_size * length (relr_slot_places l.options.relr (slots_address s) (slots_of l s).words)
symbol_share l other s = 0

-- parts of these roles hold slots or stubs, or entries for them
abbrev pub is_slot_role : Role → Bool
is_slot_role role.Got = true
is_slot_role role.GotRelr = true
is_slot_role role.PltGot = true
is_slot_role role.RelaPlt = true
is_slot_role role.RelaDynRelative = true
is_slot_role role.RelaDynGeneral = true
is_slot_role role.RelrDyn = true
is_slot_role other = false

-- the bytes that a file's symbols need
unfoldable pub slot_share : Layout → Role → File → ℕ
slot_share l r f = total (symbol_share l r) (own_symbols l f)

-- the bytes that appear once
abbrev pub header_share : Layout → Role → ℕ
header_share l role.Got = word_size * length (header_words l)
header_share l role.RelaDynGeneral = rela_size * header_entries l
header_share l other = 0

-- slots need no bytes of parts of that role: it is none of theirs, or it has no bytes that appear once and no symbol has a slot
abbrev pub slots_need_nothing : Layout → Role → Bool
slots_need_nothing l r = not (is_slot_role r) || (header_share l r == 0 && list_all lacks_slots l.symbols)

-- the place of a word, if it belongs to the block
abbrev pub relr_got_place : ℕ → SlotWord → Option ℕ
relr_got_place at (InRelrGot a) = Some at
relr_got_place at other = None

-- the places of a symbol's words in the group's block
abbrev pub relr_got_places : Layout → Symbol → List ℕ
relr_got_places l s = at_places relr_got_place (slots_address s) (slots_of l s).words

unfoldable pub group_relr_got : Layout → Group → List ℕ
group_relr_got l g = flat_map (λ f. flat_map (relr_got_places l) (own_symbols l f)) g.files

abbrev pub first_place : List ℕ → ℕ
first_place [] = 0
first_place (p ∷ ps) = p

-- consecutive slots of 8 bytes, by their places: the first place, and the number of slots, at most 2^64 - 1
abbrev pub block_of : List ℕ → RelrGot
block_of ps = record { base = first_place ps; count = min (2 ^ 64 - 1) (length ps) }

-- the RELR words that pack a block (gABI, "Relative Relocation Table")
abbrev pub words_of_relr_got : RelrGot → List ℕ
words_of_relr_got b = block b.base b.count

-- the RELR words that pack a group's block
abbrev pub block_words : Layout → Group → List ℕ
block_words l g = words_of_relr_got (block_of (group_relr_got l g))

-- the size of these words in bytes
abbrev pub relr_got_share : Layout → Role → Group → ℕ
relr_got_share l role.RelrDyn g = relr_size * length (block_words l g)
relr_got_share l other g = 0
