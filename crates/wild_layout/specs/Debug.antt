-- What the relocations of debug sections write (DWARF, "Relocation"): values as the output is linked, which no loader changes.
--   tombstone l s            the value that replaces an address which the output does not have (DWARF, "Tombstone Values")
--   debug_decided l s r      the decision on a relocation of such a section
--   debug_rule l to s        the width of each field, and its bytes after the relocation; a fault has the place of the relocation's offset
--   debug_bytes l s          the bytes of the section, with its relocations applied one after another
use Rattle.std.specs.Prelude.{ℕ, ◌-◌, ◌^◌, ◌==◌, ◌||◌, Bool, true, false, if◌then◌else◌, List, [], bytes_eq, codes, length, Option, Some, None, Result, Ok, Err}
use Rattle.std.specs.Int.{w64, cast_unsigned}
use Rattle.wild_types.specs.declared.fault.At.{At}
use Rattle.wild_types.specs.declared.fault.Error.{Error}
use Rattle.wild_types.specs.declared.fault.Fault.{Fault}
use Rattle.wild_types.specs.declared.fault.Fault.TheVariants as faults
use Rattle.wild_types.specs.declared.input.InputRelocation.{InputRelocation}
use Rattle.wild_types.specs.declared.input.InputSection.{InputSection}
use Rattle.wild_types.specs.declared.layout.Layout.{Layout}
use Rattle.wild_types.specs.Addresses.{raw_value}
use Rattle.wild_types.specs.Rows.{row_of}
use Rattle.wild_reloc.specs.Field.{field_width, size_written}
use Rattle.wild_reloc.specs.declared.info.RelocationKind.{RelocationKind}
use Rattle.wild_reloc.specs.declared.info.RelocationKind.TheVariants as kinds
use Rattle.wild_reloc.specs.declared.info.RelocationKindInfo.{RelocationKindInfo}
use Rattle.wild_shards.specs.InOrder.{Rule, in_order}
use Rattle.wild_layout.specs.declared.decision.Decision.{Decision}
use Rattle.wild_layout.specs.declared.decision.Decision.TheVariants.{Nothing, Field}
use Rattle.wild_layout.specs.SymbolValues.{sum, raw_address}
use Rattle.wild_layout.specs.Merged.{address_for, names_merged}
use Rattle.wild_layout.specs.Values.{offset_from, pointer_offset}
use Rattle.wild_layout.specs.Decide.{field}

-- ---- tombstones

-- lists of ranges and of locations end at 0 (DWARF, "Range Lists", "Location Lists")
abbrev pub is_list_section : List ℕ → Bool
is_list_section name = bytes_eq name (codes ".debug_loc") || bytes_eq name (codes ".debug_ranges")

-- the value that replaces the address of a discarded symbol
abbrev pub tombstone : Layout → InputSection → ℕ
tombstone l s =
    if l.options.new_tombstones
    then (if is_list_section s.name then 2 ^ 64 - 2 else 2 ^ 64 - 1)
    else (if is_list_section s.name then 1 else 0)

-- the tombstone in the field: -1 and -2 are truncated to it, 0 and 1 are range-checked
abbrev pub tombstone_field : Layout → InputSection → RelocationKindInfo → Result Decision Fault
tombstone_field l s row = if l.options.new_tombstones then Ok (Field row.size (tombstone l s)) else field row (tombstone l s)

-- ---- values

-- S + A, or the fault of S
abbrev pub field_of_sum : InputRelocation → RelocationKindInfo → Result ℕ Fault → Result Decision Fault
field_of_sum r row (Err f) = Err f
field_of_sum r row (Ok a) = field row (sum a r.addend)

-- of a symbol with an address: the address, its offset in the thread-local data, or its offset from the thread pointer; other kinds are
-- refused
abbrev pub field_of_address : Layout → InputRelocation → ℕ → RelocationKindInfo → RelocationKind → Result Decision Fault
field_of_address l r i row kinds.Absolute = field_of_sum r row (address_for l r)
field_of_address l r i row kinds.DtpOff = field_of_sum r row (offset_from l.tls.start (raw_address l (Some i)))
field_of_address l r i row kinds.TpOff = field_of_sum r row (pointer_offset l (Some i))
field_of_address l r i row other = Err (faults.UnsupportedRelocation r.number)

-- of a symbol without an address: the merged string's address, or the tombstone, whatever the kind
abbrev pub field_without_address : Layout → InputSection → InputRelocation → ℕ → RelocationKindInfo → Result Decision Fault
field_without_address l s r i row = if names_merged l (Some i) then field_of_sum r row (address_for l r) else tombstone_field l s row

abbrev pub by_address : Layout → InputSection → InputRelocation → ℕ → RelocationKindInfo → Option ℕ → Result Decision Fault
by_address l s r i row None = field_without_address l s r i row
by_address l s r i row (Some v) = field_of_address l r i row row.kind

-- without a symbol: A, if the kind is an absolute address
abbrev pub field_without_symbol : InputRelocation → RelocationKindInfo → RelocationKind → Result Decision Fault
field_without_symbol r row kinds.Absolute = field row (cast_unsigned w64 r.addend)
field_without_symbol r row other = Err (faults.UnsupportedRelocation r.number)

abbrev pub field_by_symbol : Layout → InputSection → InputRelocation → RelocationKindInfo → Option ℕ → Result Decision Fault
field_by_symbol l s r row None = field_without_symbol r row row.kind
field_by_symbol l s r row (Some i) = by_address l s r i row (raw_value l i)

abbrev pub debug_by : Layout → InputSection → InputRelocation → RelocationKindInfo → RelocationKind → Result Decision Fault
debug_by l s r row kinds.None = Ok Nothing
debug_by l s r row other = field_by_symbol l s r row r.symbol

abbrev pub debug_with : Layout → InputSection → InputRelocation → Option RelocationKindInfo → Result Decision Fault
debug_with l s r None = Err (faults.UnsupportedRelocation r.number)
debug_with l s r (Some row) = debug_by l s r row row.kind

-- the decision on a relocation of a debug section
unfoldable pub debug_decided : Layout → InputSection → InputRelocation → Result Decision Fault
debug_decided l s r = debug_with l s r (row_of l.machine r.number)

-- the same, if there is a relocation
abbrev pub debug_decided_at : Layout → InputSection → Option InputRelocation → Result Decision Fault
debug_decided_at l s None = Ok Nothing
debug_decided_at l s (Some r) = debug_decided l s r

-- ---- bytes

-- the bytes of a decided field
abbrev pub debug_field : Decision → List ℕ → List ℕ
debug_field (Field size v) old = size_written size v old
debug_field other old = old

abbrev pub debug_written : (ℕ → At) → InputRelocation → Result Decision Fault → List ℕ → Result (List ℕ) Error
debug_written to r (Ok d) old = Ok (debug_field d old)
debug_written to r (Err f) old = Err (record { fault = f; at = to r.offset })

abbrev pub width_by : Option RelocationKindInfo → Option ℕ
width_by None = None
width_by (Some row) = Some (field_width row)

-- the width of each field, and its bytes after the relocation
abbrev pub debug_rule : Layout → (ℕ → At) → InputSection → Rule
debug_rule l to s = record { sized = λ r. width_by (row_of l.machine r.number); written = λ r old. debug_written to r (debug_decided l s r) old }

abbrev pub at_offset_only : ℕ → At
at_offset_only offset = record { group = None; file = None; section = None; offset = Some offset }

abbrev pub or_input : List ℕ → Result (List ℕ) Error → List ℕ
or_input old (Ok new) = new
or_input old (Err e) = old

-- the bytes of the section, with its relocations applied one after another
unfoldable pub debug_bytes : Layout → InputSection → List ℕ
debug_bytes l s = or_input s.bytes (in_order (debug_rule l at_offset_only s) 0 s.relocations s.bytes)
