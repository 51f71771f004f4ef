-- The decision on each relocation of an item: what it writes, or why it is refused.
--   field row v            the value v in the row's field, or the fault that it is out of range
--   field_or_thunk l s r row v    the same; for a branch whose target is out of range, the distance to its thunk
--   relative_decision l s r a       the address a plus A, which moves with the load bias
--   dynamic_decision ..             the dynamic linker fills the field, by an entry with an index in the dynamic symbol table
--   size_decision ..            the same for a symbol's size; if the symbol is not interposable, its size must fit the field
--   ifunc_decision ..           the same for an IFUNC, by an entry with its resolver
--   decide_by l s r t      the decision on a relocation with that treatment
--   decided l s r          the decision on a relocation whose instruction is not rewritten
--   rewritten_decision l s r row the decision on a relocation whose instruction a row rewrites
--   decide l s i           the decision on relocation i of item s
use Rattle.std.specs.Prelude.{ℕ, ◌+◌, ◌-◌, ◌%◌, ◌^◌, ◌==◌, ◌||◌, ◌&&◌, not, Bool, true, false, Option, Some, None, Result, Ok, Err, if◌then◌else◌, slice_get}
use Rattle.std.specs.Int.{w64, cast_unsigned}
use Rattle.wild_types.specs.declared.fault.Fault.{Fault}
use Rattle.wild_types.specs.declared.fault.Fault.TheVariants as faults
use Rattle.wild_types.specs.declared.fault.Missing.TheVariants as missing
use Rattle.wild_types.specs.declared.input.InputRelocation.{InputRelocation}
use Rattle.wild_types.specs.Item.{Item}
use Rattle.wild_types.specs.declared.layout.Layout.{Layout}
use Rattle.wild_types.specs.declared.layout.Thunk.{Thunk}
use Rattle.wild_slot.specs.declared.treatment.Treatment.{Treatment}
use Rattle.wild_slot.specs.declared.treatment.Treatment.TheVariants as treatments
use Rattle.wild_types.specs.Lookups.{place_of, packs}
use Rattle.wild_slot.specs.Slots.{is_replaceable}
use Rattle.wild_slot.specs.Treatment.{flags_at, treatment}
use Rattle.wild_reloc.specs.Field.{allows}
use Rattle.wild_reloc.specs.Range.{contains}
use Rattle.wild_reloc.specs.declared.info.RelocationKindInfo.{RelocationKindInfo}
use Rattle.wild_layout.specs.declared.decision.Decision.{Decision}
use Rattle.wild_layout.specs.declared.decision.Decision.TheVariants.{Nothing, Field, RelativeAddress, DynamicField, Rewritten, Partner}
use Rattle.wild_reloc.specs.declared.info.RelocationSize.{RelocationSize}
use Rattle.wild_reloc.specs.declared.info.RelocationSize.TheVariants.{ByteSize}
use Rattle.wild_reloc.specs.declared.info.Width.TheVariants.{Eight}
use Rattle.wild_reloc.specs.declared.dynamic.DynamicRelocationKind.TheVariants.{Absolute, Irelative}
use Rattle.wild_slot.specs.SlotParts.{type_of}
use Rattle.wild_reloc.specs.declared.info.RelocationKind.{RelocationKind}
use Rattle.wild_reloc.specs.declared.info.RelocationKind.TheVariants as kinds
use Rattle.wild_relax.specs.declared.reference.UnknownSequence.{UnknownSequence}
use Rattle.wild_relax.specs.declared.row.Row.{Row}
use Rattle.wild_relax.specs.RewriteX86_64.{rewrite_of, info_written}
use Rattle.wild_relax.specs.LinkedPattern.{keeps_bytes}
use Rattle.wild_layout.specs.Choice.{choice_on, is_partner}
use Rattle.wild_layout.specs.SymbolValues.{sum, minus, symbol_size}
use Rattle.wild_layout.specs.SlotValues.{index_of, decided_address}
use Rattle.wild_layout.specs.Merged.{address_for}
use Rattle.wild_layout.specs.Values.{value_in, term_at}
use Rattle.wild_layout.specs.Thunks.{thunk_for}

-- a value in the row's field, if it is in range
abbrev pub field : RelocationKindInfo → ℕ → Result Decision Fault
field row v = if allows row v then Ok (Field row.size v) else Err (faults.OutOfRange v)

-- the addend as a RELA entry has it, modulo 2^64
abbrev pub addend_bits : InputRelocation → ℕ
addend_bits r = cast_unsigned w64 r.addend

-- the distance to a thunk; an addend other than 0 is refused
abbrev pub thunk_field : InputRelocation → RelocationKindInfo → ℕ → Result Decision Fault
thunk_field r row distance = if contains row.range distance then (if addend_bits r == 0 then field row distance else Err (faults.ThunkAddend r.addend)) else Err (faults.ThunkOutOfRange distance)

-- the same for a thunk, from place p; without a thunk the fault has the value v
abbrev pub field_by_thunk : InputRelocation → RelocationKindInfo → ℕ → ℕ → Option Thunk → Result Decision Fault
field_by_thunk r row p v None = Err (faults.NoThunk v)
field_by_thunk r row p v (Some t) = thunk_field r row (minus t.address p)

-- a value in the field; a branch whose target is out of range uses the thunk of its symbol's definition in the item's block ("ELF for
-- the Arm 64-bit Architecture", "Call and Jump relocations")
unfoldable pub field_or_thunk : Layout → Item → InputRelocation → RelocationKindInfo → ℕ → Result Decision Fault
field_or_thunk l s r row v = if row.thunkable && not (contains row.range v) then field_by_thunk r row (place_of s.address r) v (thunk_for l s.thunk_block r.symbol) else field row v

-- the row's value, for the term that A is added to
abbrev pub field_for : Layout → Item → InputRelocation → RelocationKindInfo → Result ℕ Fault → Result Decision Fault
field_for l s r row (Err f) = Err f
field_for l s r row (Ok a) = field_or_thunk l s r row (value_in l row a r.addend (place_of s.address r))

-- an address that moves with the load bias: packed, or with a RELATIVE entry
abbrev pub relative_decision : Layout → Item → InputRelocation → Result ℕ Fault → Result Decision Fault
relative_decision l s r (Err f) = Err f
relative_decision l s r (Ok a) = Ok (RelativeAddress (sum a r.addend) (packs l (place_of s.address r)))

-- the dynamic linker fills the field, by an entry of that type that names symbol i by its index in the dynamic symbol table
abbrev pub dynamic_decision : RelocationSize → ℕ → InputRelocation → ℕ → Option ℕ → Result Decision Fault
dynamic_decision size number r i None = Err (faults.MissingResolution missing.DynamicSymbol i)
dynamic_decision size number r i (Some index) = Ok (DynamicField size number index (addend_bits r))

-- the same for a size; if the symbol is not interposable, its size plus A must fit the row's field, although an entry stores it
abbrev pub size_decision : Layout → InputRelocation → RelocationKindInfo → ℕ → Result Decision Fault → Result Decision Fault
size_decision l r row i (Err f) = Err f
size_decision l r row i (Ok d) = if is_replaceable l.kind (flags_at l i) || allows row (sum (symbol_size l i) r.addend) then Ok d else Err (faults.OutOfRange (sum (symbol_size l i) r.addend))

-- the dynamic linker fills the field with the resolver's answer, by an entry with the resolver's address; an addend other than 0 is
-- refused (x86-64 psABI, "Relocation Types", R_X86_64_IRELATIVE)
abbrev pub ifunc_decision : Layout → InputRelocation → Result ℕ Fault → Result Decision Fault
ifunc_decision l r (Err f) = Err f
ifunc_decision l r (Ok resolver) = if addend_bits r == 0 then Ok (DynamicField (ByteSize Eight) (type_of l.machine Irelative) 0 resolver) else Err (faults.IfuncAddend r.addend)

-- the decision on a relocation, by its treatment
abbrev pub decide_by : Layout → Item → InputRelocation → Treatment → Result Decision Fault
decide_by l s r treatments.Nothing = Ok Nothing
decide_by l s r (treatments.Value row) = field_for l s r row (term_at l r row (place_of s.address r))
decide_by l s r treatments.BaseRelative = relative_decision l s r (address_for l r)
decide_by l s r (treatments.Symbolic i) = dynamic_decision (ByteSize Eight) (type_of l.machine Absolute) r i (index_of l i)
decide_by l s r (treatments.Indirect i) = ifunc_decision l r (decided_address l i)
decide_by l s r (treatments.Extent row i) = size_decision l r row i (dynamic_decision row.size r.number r i (index_of l i))
decide_by l s r treatments.Recompile = Err (faults.RecompileWithPic r.number)
decide_by l s r treatments.Unsupported = Err (faults.UnsupportedRelocation r.number)

-- the decision on a relocation whose instruction is not rewritten
unfoldable pub decided : Layout → Item → InputRelocation → Result Decision Fault
decided l s r = decide_by l s r (treatment l s.flags r)

-- ---- rewritten instructions

-- the offset of a rewritten instruction's field in its item, and its address
abbrev pub field_at : Row → InputRelocation → ℕ
field_at row r = r.offset - (rewrite_of row).back + (rewrite_of row).field

abbrev pub place_to : Item → InputRelocation → Row → ℕ
place_to s r row = (s.address + field_at row r) % 2 ^ 64

-- the value that the row writes, for the term that A is added to, at the field's new place and with its new addend; a row that keeps
-- the instruction's bytes writes the field only
abbrev pub value_to : Layout → Item → InputRelocation → Row → Result ℕ Fault → Result Decision Fault
value_to l s r row (Err f) = Err f
value_to l s r row (Ok a) =
    let v = value_in l (info_written row) a ((rewrite_of row).addend r.addend) (place_to s r row) in
    if keeps_bytes row then field_or_thunk l s r (info_written row) v else (if allows (info_written row) v then Ok (Rewritten row v) else Err (faults.OutOfRange v))

-- the term of the written instruction's formula at place p; 0 if the formula has no value
abbrev pub term_to : Layout → InputRelocation → RelocationKindInfo → ℕ → Result ℕ Fault
term_to l r info p = if has_no_value info.kind then Ok 0 else term_at l r info p
  where
    has_no_value : RelocationKind → Bool
    has_no_value kinds.None = true
    has_no_value other = false

abbrev pub rewritten_decision : Layout → Item → InputRelocation → Row → Result Decision Fault
rewritten_decision l s r row = value_to l s r row (term_to l r (info_written row) (place_to s r row))

-- the sequence is unknown; a fault of the symbol is reported first
abbrev pub refused_sequence : Layout → Item → InputRelocation → UnknownSequence → Result Decision Fault
refused_sequence l s r e = refused_by (term_to l r e.written (place_of s.address r))
  where
    refused_by : Result ℕ Fault → Result Decision Fault
    refused_by (Err f) = Err f
    refused_by (Ok a) = Err (faults.UnknownSequence e.number)

-- the decision on a relocation, by the row that applies
abbrev pub decide_with : Layout → Item → InputRelocation → Result (Option Row) UnknownSequence → Result Decision Fault
decide_with l s r (Ok None) = decided l s r
decide_with l s r (Ok (Some row)) = rewritten_decision l s r row
decide_with l s r (Err e) = refused_sequence l s r e

-- ---- relocations of an item

abbrev pub decide_at : Layout → Item → ℕ → Option InputRelocation → Result Decision Fault
decide_at l s i None = Ok Nothing
decide_at l s i (Some r) = decide_with l s r (choice_on l.machine l s i r)

-- the decision on relocation i of an item; nothing for a sequence's call, which is written with the sequence
unfoldable pub decide : Layout → Item → ℕ → Result Decision Fault
decide l s i = if is_partner l s i then Ok Partner else decide_at l s i (slice_get s.relocations i)
