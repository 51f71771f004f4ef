-- The content of relocation tables and section groups of a relocatable output (gABI, "Relocation", "Section Groups").
--   rela_of l r       the entry of a relocation of a placed table
--   rela_bytes_of l s the bytes of a placed relocation table
--   group_words s     the bytes of a section group: its flags, copied, and the header indexes of its members' sections
use Rattle.std.specs.Prelude.{ℕ, ℤ, ◌+◌, ◌%◌, ◌^◌, Bool, if◌then◌else◌, List, [], ◌++◌, take, Option, Some, None, map, option_and_then, option_map, unwrap_or, slice_get}
use Rattle.std.specs.List.{flat_map}
use Rattle.std.specs.Int.{w64, cast_signed}
use Rattle.wild_words.specs.Words.{word}
use Rattle.wild_records.specs.declared.relocations.Rela.{Rela}
use Rattle.wild_types.specs.declared.symbol.Symbol.{Symbol}
use Rattle.wild_types.specs.declared.input.InputRelocation.{InputRelocation}
use Rattle.wild_types.specs.declared.input.InputSection.{InputSection}
use Rattle.wild_types.specs.declared.layout.Layout.{Layout}
use Rattle.wild_placement.specs.PlacedSections.{base_of}
use Rattle.wild_table_formats.specs.SectionSymbols.{symbol_section, is_section_type, named_index}
use Rattle.wild_table_formats.specs.RelativeEntries.{rela_bytes}
use Rattle.wild_layout.specs.SymbolValues.{sum}

-- the offset in its output section of a section symbol's section
abbrev pub shift_of : Option InputSection → ℕ
shift_of None = 0
shift_of (Some s) = base_of s

abbrev pub shift_by : Layout → ℕ → Symbol → ℕ
shift_by l i s = if is_section_type s then shift_of (symbol_section l i) else 0

-- what is added to the addend of a relocation that is redirected from the input's section symbol to the output's
abbrev pub shift : Layout → Option ℕ → ℕ
shift l None = 0
shift l (Some i) = unwrap_or (option_map (shift_by l i) (slice_get l.symbols i)) 0

-- the entry of a relocation, whose offset is that in the output section
abbrev pub rela_of : Layout → InputRelocation → Rela
rela_of l r = record { offset = r.offset; number = r.number; symbol = named_index l r.symbol % 2 ^ 32; addend = cast_signed w64 (sum (shift l r.symbol) r.addend) }

-- the bytes of a table that is placed with the relocations of its target section
unfoldable pub rela_bytes_of : Layout → InputSection → List ℕ
rela_bytes_of l s = rela_bytes (map (rela_of l) s.relocations)

-- the flags of a section group, copied, and the header indexes of its members' sections
unfoldable pub group_words : InputSection → List ℕ
group_words s = take 4 s.bytes ++ flat_map (word 4) s.members
