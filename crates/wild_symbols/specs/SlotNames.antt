-- The local symbols that name a symbol's slot and its PLT stub.
--   slot_fields l i s named   the fields of the slot's entry, or of the stub's; or the fault that its part has no section
--   slot_names l i s          the entries of those of the two that are named, or their faults
--   entry_result r w               the entry has no fault and fits; otherwise the fault
--   entries_result rs w          the same for each in order: the first fault
--   after_entries rs w            the writer after the entries before the first fault
--   SlotNamesAreItems         these are among a file's entries
use Rattle.std.specs.Prelude.{◌≡◌, ℕ, map, Bool, true, if◌then◌else◌, List, [], ◌∷◌, ◌++◌, Some, Result, Ok, Err}
use Rattle.wild_types.specs.declared.fault.Fault.{Fault}
use Rattle.wild_types.specs.declared.fault.Error.{Error}
use Rattle.wild_types.specs.declared.part.Role.TheVariants as role
use Rattle.wild_types.specs.declared.symbol.Symbol.{Symbol}
use Rattle.wild_needs.specs.declared.table.SymtabName.{SymtabName}
use Rattle.wild_needs.specs.declared.table.SymtabName.TheVariants as named
use Rattle.wild_types.specs.declared.file.File.{File}
use Rattle.wild_types.specs.declared.layout.Layout.{Layout}
use Rattle.wild_types.specs.Faults.{nowhere}
use Rattle.wild_types.specs.SymbolSlots.{got_of, plt_of, names_slot, names_stub}
use Rattle.wild_needs.specs.TableSymbols.{TableSymbol, slot_items, suffix, item_name}
use Rattle.wild_symbols.specs.TableRoom.{first_fault, room_for_fields}
use Rattle.wild_table_formats.specs.TableEntries.{NamedEntry, slot_role, at_part, table_fields}
use Rattle.wild_symbols.specs.Runs.{is_ok, after_call}
use Rattle.wild_table_formats.specs.declared.symbols.TableFields.{TableFields}
use Rattle.wild_symbols.specs.declared.writer.SymbolTableWriter.{SymbolTableWriter}

-- the fields of the stub's entry, or otherwise of the slot's
abbrev pub slot_fields : Layout → ℕ → Symbol → SymtabName → Result TableFields Fault
slot_fields l i s named.Stub = at_part l i role.PltGot (plt_of s)
slot_fields l i s other = at_part l i (slot_role l s) (got_of s)

abbrev pub local_entry : List ℕ → Result TableFields Fault → Result NamedEntry Fault
local_entry name (Err f) = Err f
local_entry name (Ok t) = Ok (record { name = Some name; local = true; fields = t })

-- the entry with its name
abbrev pub slot_entry : Layout → ℕ → Symbol → SymtabName → Result NamedEntry Fault
slot_entry l i s n = local_entry (s.name ++ suffix n) (slot_fields l i s n)

abbrev pub where_named : Bool → Result NamedEntry Fault → List (Result NamedEntry Fault)
where_named b r = if b then r ∷ [] else []

-- the entries of those that are named
abbrev pub slot_names : Layout → ℕ → Symbol → List (Result NamedEntry Fault)
slot_names l i s = where_named (names_slot l i s) (slot_entry l i s named.Slot) ++ where_named (names_stub l i s) (slot_entry l i s named.Stub)

-- ---- writing

-- the entry has no fault and fits
abbrev pub entry_result : Result NamedEntry Fault → SymbolTableWriter → Result (Unit {0}) Error
entry_result (Err f) w = Err (record { fault = f; at = nowhere })
entry_result (Ok n) w = room_for_fields n.local n.name n.fields.long w

abbrev pub after_entry : Result NamedEntry Fault → SymbolTableWriter → SymbolTableWriter
after_entry (Err f) w = w
after_entry (Ok n) w = after_call n w

-- each of them in order; otherwise the first fault
abbrev pub entries_result : List (Result NamedEntry Fault) → SymbolTableWriter → Result (Unit {0}) Error
entries_result [] w = Ok tt
entries_result (r ∷ rs) w = first_fault (entry_result r w) (entries_result rs (after_entry r w))

-- the writer after the entries before the first fault
abbrev pub after_entries : List (Result NamedEntry Fault) → SymbolTableWriter → SymbolTableWriter
after_entries [] w = w
after_entries (r ∷ rs) w = if is_ok (entry_result r w) then after_entries rs (after_entry r w) else w

-- ---- law

-- they are the entries that a file has for the slot and the stub, with the same fields
abbrev pub SlotNamesAreItems : Type 0
SlotNamesAreItems = (l : Layout) (f : File) (i : ℕ) (s : Symbol) → slot_names l i s ≡ map (λ (x : TableSymbol). local_entry (item_name x) (table_fields l f x)) (slot_items l i s)
