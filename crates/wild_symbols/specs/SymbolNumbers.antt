-- How the symbol indexes of a `.symtab` are counted and stored.
--   number_in i p q xs    the index of symbol i's first own entry in xs, if the next local entry has index p and the next other q
--   Numbered a x b        an entry gets its index; SectionNumbered, SectionSought: a section symbol gets its index, or is compared
--   HasOwnNumbers l v     a table with the index of each symbol's own entry
--   section_symbol_number_at l i f     if symbol i is a section symbol of file f, the index of its output section's symbol
--   found told fs i       the value that the first file with symbol i in its range gives; none without such a file
use Rattle.std.specs.Prelude.{◌≡◌, ℕ, ◌+◌, ◌<◌, Bool, true, false, if◌then◌else◌, List, [], ◌∷◌, length, Option, Some, None, option_and_then, option_map, slice_get, slice_index_or}
use Rattle.std.specs.Option.{option_or}
use Rattle.wild_types.specs.declared.symbol.Symbol.{Symbol}
use Rattle.wild_types.specs.declared.file.File.{File}
use Rattle.wild_types.specs.declared.layout.Layout.{Layout}
use Rattle.wild_types.specs.Lookups.{file_of}
use Rattle.wild_needs.specs.TableSymbols.{TableSymbol, is_local, marked_sections, singleton_sections}
use Rattle.wild_table_formats.specs.SectionSymbols.{is_own_entry, entry_index, number_from, section_at, is_section_type, section_number}
use Rattle.wild_symbols.specs.declared.numbers.Numbers.{Numbers}
use Rattle.wild_symbols.specs.declared.section_index.SectionTable.{SectionTable}
use Rattle.wild_symbols.specs.declared.section_index.SectionSearch.{SectionSearch}

-- ---- own entries

-- the index of an entry: p for a local one, q for another
abbrev pub number_at : Bool → ℕ → ℕ → ℕ
number_at true p q = p
number_at false p q = q

-- the next indexes after an entry
abbrev pub local_after : Bool → ℕ → ℕ
local_after true p = p + 1
local_after false p = p

abbrev pub other_after : Bool → ℕ → ℕ
other_after true q = q
other_after false q = q + 1

abbrev pub number_in : ℕ → ℕ → ℕ → List TableSymbol → Option ℕ
number_in i p q [] = None
number_in i p q (x ∷ xs) = if is_own_entry i x then Some (number_at (is_local x) p q) else number_in i (local_after (is_local x) p) (other_after (is_local x) q) xs

-- an entry gets its index: with any entries still to come, each symbol has the same index before and after this step
pub record Numbered (a : Numbers) (x : TableSymbol) (b : Numbers) : Type 0 where
  pub on : (xs : List TableSymbol) (k : ℕ) → k < length a.numbers.items
      → option_or (slice_index_or b.numbers.items k None) (number_in k b.local b.other xs) ≡ option_or (slice_index_or a.numbers.items k None) (number_in k a.local a.other (x ∷ xs))
  pub local : b.local ≡ local_after (is_local x) a.local
  pub same : length b.numbers.items ≡ length a.numbers.items

-- a table with the index of each symbol's own entry
pub record HasOwnNumbers (l : Layout) (numbers : List (Option ℕ)) : Type 0 where
  pub count : length numbers ≡ length l.symbols
  pub all : (k : ℕ) → k < length numbers → slice_index_or numbers k None ≡ entry_index l k

-- ---- section symbols

-- a section symbol gets its index, in the same way
pub record SectionNumbered (a : SectionTable) (m : ℕ) (b : SectionTable) : Type 0 where
  pub on : (ms : List ℕ) (k : ℕ) → k < length a.numbers.items
      → option_or (slice_index_or b.numbers.items k None) (number_from k b.next ms) ≡ option_or (slice_index_or a.numbers.items k None) (number_from k a.next (m ∷ ms))
  pub next : b.next ≡ a.next + 1
  pub same : length b.numbers.items ≡ length a.numbers.items

-- a section symbol is compared with the one searched for, in the same way
pub record SectionSought (a : SectionSearch) (m : ℕ) (b : SectionSearch) : Type 0 where
  pub on : (ms : List ℕ) → option_or b.found (number_from b.header b.next ms) ≡ option_or a.found (number_from a.header a.next (m ∷ ms))
  pub same : b.header ≡ a.header

-- a table of the symbol indexes of the output sections with the flag section_symbol
pub record HasFlaggedNumbers (l : Layout) (numbers : List (Option ℕ)) : Type 0 where
  pub count : length numbers ≡ length l.sections
  pub all : (k : ℕ) → k < length numbers → slice_index_or numbers k None ≡ number_from k 1 (marked_sections 0 l.sections)

-- a table of the symbol indexes of the input sections that the object keeps as sections of their own
pub record HasSingletonNumbers (l : Layout) (front : ℕ) (numbers : List (Option ℕ)) : Type 0 where
  pub all : (k : ℕ) → k < length numbers → slice_index_or numbers k None ≡ number_from k front (singleton_sections l)

-- ---- symbols of sections

abbrev pub section_symbol_number : Layout → File → Symbol → Option ℕ
section_symbol_number l f s = if is_section_type s then option_and_then (section_number l) (section_at s.place f) else None

-- if symbol i is a section symbol of file f, the index of its output section's symbol
abbrev pub section_symbol_number_at : Layout → ℕ → File → Option ℕ
section_symbol_number_at l i f = option_and_then (section_symbol_number l f) (slice_get l.symbols i)

-- the value that the first file with symbol i in its range gives
abbrev pub found : {T : Type 0} → (ℕ → File → T) → List File → ℕ → Option T
found told files i = option_map (told i) (file_of files i)
