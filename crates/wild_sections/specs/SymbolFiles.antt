-- The files of symbols, as the dynamic symbol table needs them.
--   symbol_file_of l place f   the role of a symbol's file, and the header index of the section that the symbol is in
--   symbol_file_in l i f       the same for symbol i of file f
--   HasSymbolFiles l files    a table of these for all symbols, if the output has a dynamic symbol table
use Rattle.std.specs.Prelude.{◌≡◌, ℕ, ◌<◌, true, List, length, Option, Some, None, slice_get, slice_index_or}
use Rattle.wild_types.specs.declared.symbol.Place.{Place}
use Rattle.wild_types.specs.declared.symbol.Place.TheVariants as at
use Rattle.wild_types.specs.declared.symbol.Symbol.{Symbol}
use Rattle.wild_types.specs.declared.file.File.{File}
use Rattle.wild_types.specs.declared.layout.Layout.{Layout}
use Rattle.wild_needs.specs.DynamicSymbols.{output_section}
use Rattle.wild_types.specs.Kinds.{needs_dynsym}
use Rattle.wild_types.specs.Lookups.{files_of}
use Rattle.wild_table_formats.specs.DynamicFields.{role_of}
use Rattle.wild_sections.specs.declared.file_of_symbol.SymbolFile.{SymbolFile}
use Rattle.wild_symbols.specs.SymbolNumbers.{found}

-- the same for a symbol at a place in a file
abbrev pub symbol_file_of : Layout → Place → Option File → SymbolFile
symbol_file_of l place f = record { role = role_of f; section = output_section l f place }

abbrev pub place_or : Option Symbol → Place
place_or None = at.Undefined
place_or (Some s) = s.place

-- the same for symbol i of file f
abbrev pub symbol_file_in : Layout → ℕ → File → SymbolFile
symbol_file_in l i f = symbol_file_of l (place_or (slice_get l.symbols i)) (Some f)

-- the table of these, if there is a dynamic symbol table
pub record HasSymbolFiles (l : Layout) (symbol_files : List (Option SymbolFile)) : Type 0 where
  pub count : needs_dynsym l.kind ≡ true → length symbol_files ≡ length l.symbols
  pub all : needs_dynsym l.kind ≡ true → (k : ℕ) → k < length symbol_files → slice_index_or symbol_files k None ≡ found (symbol_file_in l) (files_of l.groups) k
