-- The addresses of a position-independent output that a loader adds its load bias to, with their values.
--   relative_value l r       S + A in the layout; A if the symbol has no address
--   section_entries l s   the RELATIVE entries of an input section; file_entries l f those of a file
--   file_words l f        the RELR words of a file: those of its input sections, consecutively
use Rattle.std.specs.Prelude.{ℕ, List, Option, option_map, Result, Ok, Err}
use Rattle.std.specs.List.{flat_map}
use Rattle.wild_records.specs.declared.relocations.Rela.{Rela}
use Rattle.wild_types.specs.declared.fault.Fault.{Fault}
use Rattle.wild_types.specs.declared.input.InputRelocation.{InputRelocation}
use Rattle.wild_types.specs.declared.input.InputSection.{InputSection}
use Rattle.wild_types.specs.declared.file.File.{File}
use Rattle.wild_types.specs.declared.layout.Layout.{Layout}
use Rattle.wild_needs.specs.Entries.{relative_items, rela_place, words_of}
use Rattle.wild_table_formats.specs.GroupTables.{relative_entry}
use Rattle.wild_layout.specs.SymbolValues.{sum}
use Rattle.wild_layout.specs.Merged.{address_for}
use Rattle.wild_placement.specs.PlacedSections.{processed_sections}

abbrev pub value_or_0 : Result ℕ Fault → ℕ
value_or_0 (Ok a) = a
value_or_0 (Err f) = 0

-- S + A in the layout
abbrev pub relative_value : Layout → InputRelocation → ℕ
relative_value l r = sum (value_or_0 (address_for l r)) r.addend

-- the RELATIVE entry of a relocation, if its address is not packed (x86-64 psABI, "Relocation Types", R_X86_64_RELATIVE)
abbrev pub listed_entry : Layout → InputSection → InputRelocation → Option Rela
listed_entry l s r = option_map (λ place. relative_entry l place (relative_value l r)) (rela_place l s r)

-- the entries of an input section, in the order of the relocations
unfoldable pub section_entries : Layout → InputSection → List Rela
section_entries l s = relative_items l s (listed_entry l s)

-- the entries of a file with placed sections
abbrev pub file_entries : Layout → File → List Rela
file_entries l f = flat_map (section_entries l) (processed_sections l f)

-- the RELR words of such a file; each input section is packed separately
abbrev pub file_words : Layout → File → List ℕ
file_words l f = flat_map (words_of l) f.sections
