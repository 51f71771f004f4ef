-- What a file contributes to dynamic tables, by relocation, by section and by symbol.
--   entry_bytes l s r      the bytes of the entry of relocation r of an input section; empty if it needs none
--   packed_in l s r        its place, if it is packed in .relr.dyn
--   symbol_slot_bytes p l s   what a part has for a symbol's GOT and PLT entries: the bytes of GOT words, of dynamic relocations, of
--                          RELR words, or of the stub; slot_part r: which of them the part of a role has
use Rattle.std.specs.Prelude.{ℕ, List, Option, Some, None, option_to_list}
use Rattle.wild_types.specs.declared.input.InputRelocation.{InputRelocation}
use Rattle.wild_types.specs.declared.input.InputSection.{InputSection}
use Rattle.wild_types.specs.declared.symbol.Symbol.{Symbol}
use Rattle.wild_types.specs.declared.layout.Layout.{Layout}
use Rattle.wild_types.specs.declared.part.Role.{Role}
use Rattle.wild_types.specs.declared.part.Role.TheVariants as role
use Rattle.wild_slot.specs.declared.slot_parts.WordPart.TheVariants as words
use Rattle.wild_slot.specs.declared.slot_parts.EntryPart.TheVariants as entries
use Rattle.wild_contents.specs.declared.slots.SlotPart.{SlotPart}
use Rattle.wild_contents.specs.declared.slots.SlotPart.TheVariants as parts
use Rattle.wild_needs.specs.Entries.{relr_place, words_of}
use Rattle.wild_needs.specs.SlotShares.{words_in}
use Rattle.wild_relr.specs.WriterState.{word_bytes}
use Rattle.wild_table_formats.specs.RelativeEntries.{rela_bytes}
use Rattle.wild_layout.specs.RelativeRelocations.{listed_entry, section_entries}
use Rattle.wild_layout.specs.SlotBytes.{symbol_entries, relr_slots_in, stub_bytes}

-- the bytes of the entry of a relocation; empty if it needs none
unfoldable pub entry_bytes : Layout → InputSection → InputRelocation → List ℕ
entry_bytes l s r = rela_bytes (option_to_list (listed_entry l s r))

-- the bytes of an input section's entries
unfoldable pub section_entry_bytes : Layout → InputSection → List ℕ
section_entry_bytes l s = rela_bytes (section_entries l s)

-- the bytes of an input section's RELR words
unfoldable pub section_word_bytes : Layout → InputSection → List ℕ
section_word_bytes l s = word_bytes (words_of l s)

-- the place of a relocation, if it is packed in .relr.dyn
abbrev pub packed_in : Layout → InputSection → InputRelocation → List ℕ
packed_in l s r = option_to_list (relr_place l s r)

-- what a part has for a symbol's GOT and PLT entries
unfoldable pub symbol_slot_bytes : SlotPart → Layout → Symbol → List ℕ
symbol_slot_bytes (parts.Words part) l s = word_bytes (words_in part l s)
symbol_slot_bytes (parts.Entries part) l s = rela_bytes (symbol_entries part l s)
symbol_slot_bytes parts.Places l s = word_bytes (relr_slots_in l s)
symbol_slot_bytes parts.Stubs l s = stub_bytes l s

-- which of these the part of a role has, if any
abbrev pub slot_part : Role → Option SlotPart
slot_part role.Got = Some (parts.Words words.Got)
slot_part role.GotRelr = Some (parts.Words words.RelrGot)
slot_part role.PltGot = Some parts.Stubs
slot_part role.RelaPlt = Some (parts.Entries entries.Plt)
slot_part role.RelaDynRelative = Some (parts.Entries entries.Relative)
slot_part role.RelaDynGeneral = Some (parts.Entries entries.General)
slot_part role.RelrDyn = Some parts.Places
slot_part other = None
