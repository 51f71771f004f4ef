-- What the parts of `.symtab` have for consecutive symbols (gABI, "Symbol Table").
--   entry_of l f named i s     the entry of symbol i of a file, or of the symbol that names its GOT entry, its stub or a thunk to it
--   taken_bytes k at n         what a part has for an entry whose name is at an offset of the strings
--   sunk k at ns               what a part has for several entries, whose names are consecutive
--   with_entry n w             w with one more entry
--   Walks k from at to next ns   `to` and `next` are `from` and `at` after these entries, whatever entries follow
--   SymtabState                    the state of a sink: part, file, bytes, and the offset of the next name
--   Writes a x b               what the part has for a symbol was appended; WritesSection a k b for section symbol k
--   Passes a x b, Lacks a x e b   a symbol without a fault, and one with the fault e
use Rattle.std.specs.Prelude.{◌≡◌, ℕ, Bool, if◌then◌else◌, List, [], ◌∷◌, ◌++◌, option_to_list}
use Rattle.wild_words.specs.Words.{word}
use Rattle.wild_types.specs.declared.fault.At.{At}
use Rattle.wild_types.specs.declared.fault.Error.{Error}
use Rattle.wild_types.specs.declared.symbol.Symbol.{Symbol}
use Rattle.wild_types.specs.declared.file.File.{File}
use Rattle.wild_types.specs.Faults.{Refuses}
use Rattle.wild_needs.specs.declared.table.SymtabName.{SymtabName}
use Rattle.wild_needs.specs.declared.table.TablePart.{TablePart}
use Rattle.wild_needs.specs.declared.table.TablePart.TheVariants as parts
use Rattle.wild_types.specs.declared.layout.Layout.{Layout}
use Rattle.wild_needs.specs.TableSymbols.{TableSymbol, item}
use Rattle.wild_table_formats.specs.Strings.{string_bytes}
use Rattle.wild_table_formats.specs.Symbols.{symbol_bytes}
use Rattle.wild_table_formats.specs.DynamicEntries.{entry_at}
use Rattle.wild_table_formats.specs.TableEntries.{NamedEntry, named_entry, section_entry, is_side, name_at, offset_after_name}
use Rattle.wild_layout.specs.Faults.{table_error}

-- the entry of symbol i of a file, or of the symbol that names its GOT entry, its stub or a thunk to it
abbrev pub entry_of : Layout → File → SymtabName → ℕ → Symbol → NamedEntry
entry_of l f named i s = named_entry l f (item named i s)

-- what a part has for an entry whose name is at an offset of the strings: the entry or its extended section index, if it is local as
-- the part says, or the name
abbrev pub taken_bytes : TablePart → ℕ → NamedEntry → List ℕ
taken_bytes (parts.Entries local) at n = if is_side local n then symbol_bytes (entry_at (name_at at n.name) n.fields.fields ∷ []) else []
taken_bytes (parts.Long local) at n = if is_side local n then word 4 n.fields.long else []
taken_bytes parts.Strings at n = string_bytes (option_to_list n.name)

-- what a part has for several entries, whose names are consecutive
unfoldable pub sunk : TablePart → ℕ → List NamedEntry → List ℕ
sunk k at [] = []
sunk k at (n ∷ ns) = taken_bytes k at n ++ sunk k (offset_after_name at n.name) ns

-- these entries were appended, whatever entries follow
pub record Walks (k : TablePart) (from : List ℕ) (at : ℕ) (to : List ℕ) (next : ℕ) (ns : List NamedEntry) : Type 0 where
  pub on : (rest : List NamedEntry) → to ++ sunk k next rest ≡ from ++ sunk k at (ns ++ rest)

-- the state of a sink: part, file, bytes, and the offset of the next name
pub record SymtabState : Type 0 where
  pub layout : Layout
  pub file : File
  pub part : TablePart
  pub at : ℕ
  pub bytes : List ℕ

-- one more entry
abbrev pub with_entry : NamedEntry → SymtabState → SymtabState
with_entry n w = record w { at = offset_after_name w.at n.name; bytes = w.bytes ++ taken_bytes w.part w.at n }

-- what the part has for a symbol was appended
abbrev pub Writes : SymtabState → TableSymbol → SymtabState → Type 0
Writes a x b = b ≡ with_entry (named_entry a.layout a.file x) a

-- what it has for a section symbol was appended
abbrev pub WritesSection : SymtabState → ℕ → SymtabState → Type 0
WritesSection a k b = b ≡ with_entry (section_entry k) a

-- the state of the sink that checks: the file
pub record SymtabCheckState : Type 0 where
  pub layout : Layout
  pub file : File
  pub at : At

-- a symbol without a fault, and one with the fault e
abbrev pub Passes : SymtabCheckState → TableSymbol → SymtabCheckState → Type 0
Passes a x b = (table_error a.layout a.at a.file x ≡ []) × (b ≡ a)

abbrev pub Lacks : SymtabCheckState → TableSymbol → Error → SymtabCheckState → Type 0
Lacks a x e b = Refuses e (table_error a.layout a.at a.file x)
