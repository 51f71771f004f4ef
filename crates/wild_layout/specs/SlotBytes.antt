-- What the GOT and PLT entries of a file's symbols contribute to the parts (x86-64 psABI, "Global Offset Table (GOT)", "Procedure
-- Linkage Table").
--   slot_words_of part l f       the GOT words of a part
--   slot_entries_of part l f     the dynamic relocations of a part, each with the place of its word
--   stubs_of l f                 the PLT stubs
--   flat_places_of l f           the places that have a RELR word of their own
--   slot_bytes l r f             the bytes of all these, by role
--   header_bytes l r             the bytes that a part has once
--   block_bytes l r g            the bytes of the RELR words of a group's run of GOT words
use Rattle.std.specs.Prelude.{ℕ, if◌then◌else◌, List, [], unwrap_or}
use Rattle.std.specs.List.{flat_map}
use Rattle.wild_records.specs.declared.relocations.Rela.{Rela}
use Rattle.wild_types.specs.declared.part.Role.{Role}
use Rattle.wild_types.specs.declared.part.Role.TheVariants as role
use Rattle.wild_types.specs.declared.file.File.{File}
use Rattle.wild_types.specs.declared.file.Group.{Group}
use Rattle.wild_types.specs.declared.symbol.Symbol.{Symbol}
use Rattle.wild_types.specs.declared.layout.Layout.{Layout}
use Rattle.wild_slot.specs.declared.slot_parts.WordPart.{WordPart}
use Rattle.wild_slot.specs.declared.slot_parts.WordPart.TheVariants as words
use Rattle.wild_slot.specs.declared.slot_parts.EntryPart.{EntryPart}
use Rattle.wild_slot.specs.declared.slot_parts.EntryPart.TheVariants as entries
use Rattle.wild_types.specs.SymbolSlots.{plt_of, slots_address}
use Rattle.wild_slot.specs.SlotParts.{slot_entries, relr_slot_places}
use Rattle.wild_types.specs.FileSymbols.{own_symbols}
use Rattle.wild_slot.specs.SymbolWords.{slots_of}
use Rattle.wild_needs.specs.SlotShares.{words_in, storage_words, header_words, block_words}
use Rattle.wild_slot.specs.MachineStub.{stub_in}
use Rattle.wild_relr.specs.WriterState.{word_bytes}
use Rattle.wild_table_formats.specs.RelativeEntries.{rela_bytes}

-- ---- by symbol

-- the dynamic relocations of a symbol's GOT words in a part
abbrev pub symbol_entries : EntryPart → Layout → Symbol → List Rela
symbol_entries part l s = slot_entries part l.machine l.options.relr (slots_address s) (slots_of l s).words

-- its PLT stub, which jumps to the address in its first GOT word
abbrev pub stub_bytes : Layout → Symbol → List ℕ
stub_bytes l s = if (slots_of l s).has_stub then (stub_in l (slots_address s) (unwrap_or (plt_of s) 0)).bytes else []

abbrev pub relr_slots_in : Layout → Symbol → List ℕ
relr_slots_in l s = relr_slot_places l.options.relr (slots_address s) (slots_of l s).words

-- ---- by file

unfoldable pub slot_words_of : WordPart → Layout → File → List ℕ
slot_words_of part l f = flat_map (words_in part l) (own_symbols l f)

unfoldable pub slot_entries_of : EntryPart → Layout → File → List Rela
slot_entries_of part l f = flat_map (symbol_entries part l) (own_symbols l f)

unfoldable pub stubs_of : Layout → File → List ℕ
stubs_of l f = flat_map (stub_bytes l) (own_symbols l f)

unfoldable pub flat_places_of : Layout → File → List ℕ
flat_places_of l f = flat_map (relr_slots_in l) (own_symbols l f)

-- the bytes of a file's GOT and PLT entries in the part of a role
abbrev pub slot_bytes : Layout → Role → File → List ℕ
slot_bytes l role.Got f = word_bytes (slot_words_of words.Got l f)
slot_bytes l role.GotRelr f = word_bytes (slot_words_of words.RelrGot l f)
slot_bytes l role.PltGot f = stubs_of l f
slot_bytes l role.RelaPlt f = rela_bytes (slot_entries_of entries.Plt l f)
slot_bytes l role.RelaDynRelative f = rela_bytes (slot_entries_of entries.Relative l f)
slot_bytes l role.RelaDynGeneral f = rela_bytes (slot_entries_of entries.General l f)
slot_bytes l role.RelrDyn f = word_bytes (flat_places_of l f)
slot_bytes l other f = []

-- ---- what a part has once, and runs of GOT words

-- the dynamic relocations of the GOT pair for the output's own thread-local data
abbrev pub storage_entries : Layout → List Rela
storage_entries l = slot_entries entries.General l.machine l.options.relr (unwrap_or l.tlsld 0) (storage_words l)

abbrev pub header_bytes : Layout → Role → List ℕ
header_bytes l role.Got = word_bytes (header_words l)
header_bytes l role.RelaDynGeneral = rela_bytes (storage_entries l)
header_bytes l other = []

abbrev pub block_bytes : Layout → Role → Group → List ℕ
block_bytes l role.RelrDyn g = word_bytes (block_words l g)
block_bytes l other g = []
