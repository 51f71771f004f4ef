-- The symbol indexes of a relocatable object's `.symtab`, which the relocations of its tables contain (gABI, "Relocation": r_info; "Symbol
-- Table").
--   symbol_section l i   the input section of symbol i, in its own file
--   entry_index l i      the index of symbol i's own entry
--   section_index l s    the index of the symbol of the output section that contains an input section
--   symbol_index l i     the index for symbol i: its own entry's, or for a section symbol that of the output section's symbol
--   named_index l symbol the index in a relocation: that of its symbol, otherwise that of the symbol's definition, otherwise 0
use Rattle.std.specs.Prelude.{ℕ, ◌+◌, ◌%◌, ◌==◌, ◌&&◌, Bool, true, false, if◌then◌else◌, List, [], ◌∷◌, length, Option, Some, None, option_and_then, option_map, unwrap_or, slice_get}
use Rattle.std.specs.List.{flat_map}
use Rattle.std.specs.Option.{option_or}
use Rattle.wild_records.specs.Abi.Symbol.{stt_section}
use Rattle.wild_types.specs.declared.symbol.Place.{Place}
use Rattle.wild_types.specs.declared.symbol.Place.TheVariants as at
use Rattle.wild_types.specs.declared.symbol.Symbol.{Symbol}
use Rattle.wild_types.specs.declared.input.InputSection.{InputSection}
use Rattle.wild_types.specs.declared.file.File.{File}
use Rattle.wild_types.specs.declared.layout.Layout.{Layout}
use Rattle.wild_types.specs.Lookups.{canonical, files_of, file_of, is_discarded, section_of}
use Rattle.wild_needs.specs.declared.table.SymtabName.{SymtabName}
use Rattle.wild_needs.specs.declared.table.SymtabName.TheVariants as named
use Rattle.wild_needs.specs.TableSymbols.{TableSymbol, file_items, side, is_local_symbol, marked_sections, singleton_sections, section_symbols}

-- ---- input sections of symbols

abbrev pub section_at : Place → File → Option InputSection
section_at (at.Section k) f = slice_get f.sections k
section_at other f = None

-- the input section of symbol i
abbrev pub symbol_section : Layout → ℕ → Option InputSection
symbol_section l i = option_and_then (λ (s : Symbol). option_and_then (section_at s.place) (file_of (files_of l.groups) i)) (slice_get l.symbols i)

-- it is a section symbol (STT_SECTION)
abbrev pub is_section_type : Symbol → Bool
is_section_type s = s.info % 16 == stt_section

-- ---- own entries

-- all named entries of the table, in the order of the files
abbrev pub all_items : Layout → List TableSymbol
all_items l = flat_map (file_items l) (files_of l.groups)

-- the entry is symbol i's own
abbrev pub is_own_entry : ℕ → TableSymbol → Bool
is_own_entry i x = is_itself x.named && x.index == i
  where
    is_itself : SymtabName → Bool
    is_itself named.Itself = true
    is_itself other = false

-- the index of the first such entry; the list begins with index k
abbrev pub place_from : ℕ → ℕ → List TableSymbol → Option ℕ
place_from i k [] = None
place_from i k (x ∷ xs) = if is_own_entry i x then Some k else place_from i (k + 1) xs

-- the number of entries before the named ones: the null symbol and the section symbols
abbrev pub front_count : Layout → ℕ
front_count l = 1 + length (section_symbols l)

-- local entries come before all others
abbrev pub entry_by : Layout → ℕ → Bool → Option ℕ
entry_by l i true = place_from i (front_count l) (side true (all_items l))
entry_by l i false = place_from i (front_count l + length (side true (all_items l))) (side false (all_items l))

-- the index of symbol i's own entry
abbrev pub entry_index : Layout → ℕ → Option ℕ
entry_index l i = option_and_then (λ (s : Symbol). entry_by l i (is_local_symbol s)) (slice_get l.symbols i)

-- ---- section symbols

-- the index of the first occurrence of a number; the list begins with index k
abbrev pub number_from : ℕ → ℕ → List ℕ → Option ℕ
number_from n k [] = None
number_from n k (m ∷ ms) = if m == n then Some k else number_from n (k + 1) ms

-- the symbol of the output section that contains an input section; one that the object keeps as a section of its own has its own
-- symbol; 0 if the section has no symbol
abbrev pub section_index : Layout → InputSection → ℕ
section_index l s = by s.singleton
  where
    by : Option ℕ → ℕ
    by (Some k) = unwrap_or (number_from k (1 + length (marked_sections 0 l.sections)) (singleton_sections l)) 0
    by None = unwrap_or (number_from (section_of l s.part) 1 (marked_sections 0 l.sections)) 0

abbrev pub section_number : Layout → InputSection → Option ℕ
section_number l s = if is_discarded s.slot then None else Some (section_index l s)

abbrev pub number_of_section : Layout → ℕ → Symbol → Option ℕ
number_of_section l i s = if is_section_type s then option_and_then (section_number l) (symbol_section l i) else None

-- ---- symbol indexes in relocations

-- the index for symbol i
abbrev pub symbol_index : Layout → ℕ → Option ℕ
symbol_index l i = option_or (entry_index l i) (option_and_then (number_of_section l i) (slice_get l.symbols i))

-- the index in a relocation; 0 if its symbol has none (gABI, "Relocation": STN_UNDEF)
abbrev pub named_index : Layout → Option ℕ → ℕ
named_index l None = 0
named_index l (Some i) = unwrap_or (option_or (symbol_index l i) (symbol_index l (canonical l i))) 0
