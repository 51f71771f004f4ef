-- Merged strings: the address of the byte that a section symbol of a merged section and an addend name (gABI, "Section Header":
-- SHF_MERGE, SHF_STRINGS).
--   merged_strings l i     the strings of the merged section whose section symbol is i
--   string_place ss x      the address of byte x of the input section
--   names_merged l symbol  the symbol is such a section symbol
--   address_for l r        S of a relocation; for such a symbol S + A is the address of the string's byte
use Rattle.std.specs.Prelude.{ℕ, ◌+◌, ◌-◌, ◌%◌, ◌^◌, ◌==◌, ◌&&◌, Bool, false, not, if◌then◌else◌, nat_le, List, [], ◌∷◌, Option, Some, None, option_and_then, option_map, is_some, Result, Ok, Err, slice_get}
use Rattle.std.specs.Option.{option_or}
use Rattle.std.specs.Int.{w64, cast_unsigned}
use Rattle.wild_records.specs.Abi.Symbol.{stt_section}
use Rattle.wild_types.specs.declared.fault.Fault.{Fault}
use Rattle.wild_types.specs.declared.fault.Missing.TheVariants as missing
use Rattle.wild_types.specs.declared.symbol.Place.{Place}
use Rattle.wild_types.specs.declared.symbol.Place.TheVariants as at
use Rattle.wild_types.specs.declared.symbol.Symbol.{Symbol}
use Rattle.wild_types.specs.declared.input.Slot.{Slot}
use Rattle.wild_types.specs.declared.input.Slot.TheVariants as slot
use Rattle.wild_types.specs.declared.input.InputRelocation.{InputRelocation}
use Rattle.wild_types.specs.declared.input.InputSection.{InputSection}
use Rattle.wild_types.specs.declared.input.MergedString.{MergedString}
use Rattle.wild_types.specs.declared.file.File.{File}
use Rattle.wild_types.specs.declared.layout.Layout.{Layout}
use Rattle.wild_types.specs.declared.symbol.ValueFlags.{ValueFlags}
use Rattle.wild_types.specs.Flags.{has_flag, interposable, absolute, dynamic, ifunc, undefined_weak}
use Rattle.wild_types.specs.Lookups.{files_of, file_of}
use Rattle.wild_slot.specs.Treatment.{flags_at}
use Rattle.wild_layout.specs.SymbolValues.{minus, sum, resolved_address}
use Rattle.wild_layout.specs.SlotValues.{address_of}

-- the symbol is a section symbol (gABI, "Symbol Table": STT_SECTION)
abbrev pub is_section_symbol : Symbol → Bool
is_section_symbol s = s.info % 16 == stt_section

abbrev pub strings_by : Slot → InputSection → Option (List MergedString)
strings_by slot.Merge s = Some s.strings
strings_by other s = None

abbrev pub strings_of : InputSection → Option (List MergedString)
strings_of s = strings_by s.slot s

abbrev pub strings_at : Place → File → Option (List MergedString)
strings_at (at.Section k) f = option_and_then strings_of (slice_get f.sections k)
strings_at other f = None

-- the strings of the merged section of a file, if the symbol, one of the file's, is its section symbol
abbrev pub strings_in : File → Symbol → Option (List MergedString)
strings_in f s = if is_section_symbol s then strings_at s.place f else None

abbrev pub strings_of_symbol : List File → ℕ → Symbol → Option (List MergedString)
strings_of_symbol files i s = option_and_then (λ f. strings_in f s) (file_of files i)

-- the output defines the value, which moves with the load bias
abbrev pub is_plain_own : ValueFlags → Bool
is_plain_own f = not (interposable f) && (not (has_flag f dynamic) && (not (has_flag f absolute) && (not (has_flag f ifunc) && not (has_flag f undefined_weak))))

unfoldable pub merged_strings : Layout → ℕ → Option (List MergedString)
merged_strings l i = if is_plain_own (flags_at l i) then option_and_then (strings_of_symbol (files_of l.groups) i) (slice_get l.symbols i) else None

-- the symbol is the section symbol of a merged section
abbrev pub names_merged : Layout → Option ℕ → Bool
names_merged l None = false
names_merged l (Some i) = is_some (merged_strings l i)

-- the last string that begins at byte x of the input section or before it
abbrev pub string_before : List MergedString → ℕ → Option MergedString
string_before [] x = None
string_before (s ∷ ss) x = option_or (string_before ss x) (if nat_le s.offset x then Some s else None)

-- the address of byte x of the input section: its distance from its string's start is kept
abbrev pub string_place : List MergedString → ℕ → Option ℕ
string_place ss x = option_map (λ (s : MergedString). (s.address + (x - s.offset)) % 2 ^ 64) (string_before ss x)

abbrev pub symbol_value : Option Symbol → ℕ
symbol_value None = 0
symbol_value (Some s) = s.value

-- the symbol's value plus the addend: an offset in the input section
abbrev pub merged_byte : Layout → ℕ → InputRelocation → ℕ
merged_byte l i r = sum (symbol_value (slice_get l.symbols i)) r.addend

-- the string's address minus A
abbrev pub without_addend : InputRelocation → Result ℕ Fault → Result ℕ Fault
without_addend r (Err f) = Err f
without_addend r (Ok a) = Ok (minus a (cast_unsigned w64 r.addend))

abbrev pub address_by : Layout → InputRelocation → ℕ → Option (List MergedString) → Result ℕ Fault
address_by l r i None = address_of l (Some i)
address_by l r i (Some strings) = without_addend r (resolved_address missing.Address i (string_place strings (merged_byte l i r)))

abbrev pub address_named : Layout → InputRelocation → Option ℕ → Result ℕ Fault
address_named l r None = Ok 0
address_named l r (Some i) = address_by l r i (merged_strings l i)

-- S of a relocation
unfoldable pub address_for : Layout → InputRelocation → Result ℕ Fault
address_for l r = address_named l r r.symbol
