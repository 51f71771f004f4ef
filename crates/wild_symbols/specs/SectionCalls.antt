-- Writing the section symbols of a relocatable object in order.
--   section_calls l          the arguments for each
--   SectionWritten a k b     the symbol of section k is written; SectionRefused a k e b: it does not fit
use Rattle.std.specs.Prelude.{◌≡◌, ℕ, List, map, Result, Ok, Err}
use Rattle.wild_types.specs.declared.fault.Fault.{Fault}
use Rattle.wild_types.specs.declared.fault.Error.{Error}
use Rattle.wild_types.specs.declared.layout.Layout.{Layout}
use Rattle.wild_needs.specs.TableSymbols.{section_symbols}
use Rattle.wild_table_formats.specs.TableEntries.{NamedEntry, section_entry}
use Rattle.wild_symbols.specs.Runs.{after_call}
use Rattle.wild_symbols.specs.SlotNames.{entry_result}
use Rattle.wild_symbols.specs.declared.writer.SymbolTableWriter.{SymbolTableWriter}

abbrev pub section_call : ℕ → Result NamedEntry Fault
section_call k = Ok (section_entry k)

abbrev pub section_calls : Layout → List (Result NamedEntry Fault)
section_calls l = map section_call (section_symbols l)

pub record SectionWritten (a : SymbolTableWriter) (k : ℕ) (b : SymbolTableWriter) : Type 0 where
  pub fits : entry_result (section_call k) a ≡ Ok tt
  pub is : b ≡ after_call (section_entry k) a

pub record SectionRefused (a : SymbolTableWriter) (k : ℕ) (e : Error) (b : SymbolTableWriter) : Type 0 where
  pub fault : entry_result (section_call k) a ≡ Err e
  pub kept : b ≡ a
