-- The treatment of each relocation, as far as the layout alone decides it: no value is computed.
--   flags_at l i          the flags of the symbol that defines symbol i
--   needs_symbolic l flags row i     a dynamic relocation against symbol i fills in its address
--   is_barred l flags n i     the field of type n cannot hold symbol i's address or distance: another module may define the symbol
--   moves l i             the address of symbol i changes with the load bias
--   needs_irelative l flags i       symbol i is an IFUNC whose address a loader stores
--   is_narrow l flags n       the field of type n cannot hold an address of a library
--   is_sized l flags i        a dynamic relocation against symbol i fills in its size
--   row_that_accepts m r row        the row, if it accepts the relocation's symbol and addend
--   treatment l flags r   the treatment of relocation r in a section with these flags (sh_flags)
use Rattle.std.specs.Prelude.{ℕ, Bool, true, false, not, ◌&&◌, ◌||◌, ◌==◌, nat_lt, if◌then◌else◌, length, Option, Some, None, option_map, unwrap_or, slice_get, is_none}
use Rattle.wild_types.specs.declared.kind.Machine.{Machine}
use Rattle.wild_types.specs.declared.kind.Machine.TheVariants as machine
use Rattle.wild_types.specs.declared.symbol.Symbol.{Symbol}
use Rattle.wild_types.specs.declared.symbol.ValueFlags.{ValueFlags}
use Rattle.wild_types.specs.declared.input.InputRelocation.{InputRelocation}
use Rattle.wild_types.specs.declared.layout.Layout.{Layout}
use Rattle.wild_slot.specs.declared.treatment.Treatment.{Treatment}
use Rattle.wild_slot.specs.declared.treatment.Treatment.TheVariants.{Nothing, Value, BaseRelative, Symbolic, Indirect, Extent, Recompile, Unsupported}
use Rattle.wild_types.specs.Flags.{has_flag, interposable, absolute, dynamic, copy_relocation, plt_stub, ifunc}
use Rattle.wild_types.specs.Kinds.{is_position_independent, is_shared_object}
use Rattle.wild_types.specs.Lookups.{canonical, writable, allocated}
use Rattle.wild_types.specs.Rows.{row_of}
use Rattle.wild_reloc.specs.BarredTypes.{is_listed, barred_x86_64, barred_in_shared_x86_64, barred_aarch64, barred_in_shared_aarch64}
use Rattle.wild_reloc.specs.Field.{field_width}
use Rattle.wild_reloc.specs.declared.info.RelocationKind.{RelocationKind}
use Rattle.wild_reloc.specs.Expression.{expression_of}
use Rattle.std.specs.Int.{w64, cast_unsigned}
use Rattle.wild_reloc.specs.declared.expression.Term.{Term}
use Rattle.wild_reloc.specs.declared.expression.Term.TheVariants as term
use Rattle.wild_reloc.specs.declared.expression.Class.{Class}
use Rattle.wild_reloc.specs.declared.expression.Class.TheVariants as class
use Rattle.wild_reloc.specs.declared.info.RelocationKindInfo.{RelocationKindInfo}

-- the flags of the symbol's definition
abbrev pub flags_at : Layout → ℕ → ValueFlags
flags_at l i = unwrap_or (option_map (λ (s : Symbol). s.flags) (slice_get l.symbols (canonical l i))) (record { 0 = 0 })

-- a dynamic relocation fills in the address of an interposable symbol, if it can: the field has 8 bytes in writable memory (gABI,
-- "Relocation", "Symbol Visibility")
abbrev pub needs_symbolic : Layout → (flags : ℕ) → RelocationKindInfo → ℕ → Bool
needs_symbolic l flags row i = allocated flags && writable flags && field_width row == 8 && interposable (flags_at l i)

-- another module may define the symbol, and neither a copy relocation nor a stub gives it an address in this output (gABI,
-- "Symbol Visibility")
abbrev pub has_no_local_address : ValueFlags → Bool
has_no_local_address f = (interposable f || has_flag f dynamic) && not (has_flag f copy_relocation || has_flag f plt_stub)

-- the relocation types of a machine that cannot refer to such a symbol
abbrev pub is_barred_type : Machine → ℕ → Bool
is_barred_type machine.X86_64 n = is_listed n barred_x86_64
is_barred_type machine.AArch64 n = is_listed n barred_aarch64

-- the relocation types of a machine that cannot occur in a shared object
abbrev pub is_barred_in_shared : Machine → ℕ → Bool
is_barred_in_shared machine.X86_64 n = is_listed n barred_in_shared_x86_64
is_barred_in_shared machine.AArch64 n = is_listed n barred_in_shared_aarch64

-- an address of another module is unknown at link time, and no dynamic relocation can fill a field of such a type (x86-64 psABI,
-- "Position-Independent Code")
abbrev pub is_barred : Layout → (flags n i : ℕ) → Bool
is_barred l flags n i = allocated flags && is_position_independent l.kind && is_barred_type l.machine n && has_no_local_address (flags_at l i)

-- an address in a library is known only at load time, and a field of such a type is too narrow for it (x86-64 psABI,
-- "Position-Independent Code")
abbrev pub is_narrow : Layout → (flags n : ℕ) → Bool
is_narrow l flags n = allocated flags && is_shared_object l.kind && is_barred_in_shared l.machine n

-- the address changes with the load bias: the output is position-independent, and the value is not absolute (gABI, "Symbol Table",
-- SHN_ABS)
abbrev pub moves : Layout → ℕ → Bool
moves l i = is_position_independent l.kind && not (has_flag (flags_at l i) absolute)

-- a loader stores an address that changes with the load bias, if the field has 8 bytes (x86-64 psABI, "Relocation Types",
-- R_X86_64_RELATIVE)
abbrev pub relative_treatment : RelocationKindInfo → Treatment
relative_treatment row = if field_width row == 8 then BaseRelative else Recompile

-- a loader stores the result of an IFUNC's resolver in writable data of a position-independent output (x86-64 psABI, "Relocation
-- Types", R_X86_64_IRELATIVE)
abbrev pub needs_irelative : Layout → (flags i : ℕ) → Bool
needs_irelative l flags i = allocated flags && writable flags && is_position_independent l.kind && has_flag (flags_at l i) ifunc

-- the field must have 8 bytes
abbrev pub irelative_treatment : RelocationKindInfo → ℕ → Treatment
irelative_treatment row i = if field_width row == 8 then Indirect i else Recompile

-- S + A of symbol i, by a relocation of type n
abbrev pub address_treatment : Layout → (flags n : ℕ) → RelocationKindInfo → ℕ → Treatment
address_treatment l flags n row i =
    if is_barred l flags n i || is_narrow l flags n then Recompile
    else if needs_symbolic l flags row i then Symbolic i
    else if needs_irelative l flags i then irelative_treatment row i
    else if allocated flags && moves l i then relative_treatment row
    else Value row

-- a relocation that needs a symbol
abbrev pub named : Option ℕ → (ℕ → Treatment) → Treatment
named None by = Unsupported
named (Some i) by = by i

-- S + A - P: without a symbol it is the distance from address 0, which changes with the load bias
abbrev pub distance_treatment : Layout → (flags n : ℕ) → RelocationKindInfo → Option ℕ → Treatment
distance_treatment l flags n row None = if allocated flags && is_position_independent l.kind then Recompile else Value row
distance_treatment l flags n row (Some i) = if is_barred l flags n i then Recompile else Value row

-- an offset from the thread pointer is known at link time only in an executable (ELF Handling For Thread-Local Storage, "Local Exec")
abbrev pub pointer_treatment : Layout → (flags : ℕ) → RelocationKindInfo → Treatment
pointer_treatment l flags row = if allocated flags && is_shared_object l.kind then Recompile else Value row

-- the size of an interposable symbol is that of the definition which the loader finds (x86-64 psABI, "Relocation Types",
-- R_X86_64_SIZE64)
abbrev pub is_sized : Layout → (flags i : ℕ) → Bool
is_sized l flags i = allocated flags && interposable (flags_at l i) && (has_flag (flags_at l i) dynamic || is_shared_object l.kind)

abbrev pub size_treatment : Layout → (flags : ℕ) → RelocationKindInfo → ℕ → Treatment
size_treatment l flags row i = if is_sized l flags i then Extent row i else Value row

-- a relocation whose symbol, or its definition, is missing from the list has no dynamic relocation: clauses refuse it, after the shares
-- are checked
abbrev pub if_defined : Layout → RelocationKindInfo → ℕ → Treatment → Treatment
if_defined l row i t = if nat_lt (canonical l i) (length l.symbols) then t else Value row

-- by the class of the kind's expression
abbrev pub class_treatment : Layout → (flags n : ℕ) → Option ℕ → RelocationKindInfo → Class → Treatment
class_treatment l flags n symbol row class.Nothing = Nothing
class_treatment l flags n symbol row class.Mark = named symbol (λ i. Nothing)
class_treatment l flags n symbol row class.Free = Value row
class_treatment l flags n symbol row class.Plain = named symbol (λ i. Value row)
class_treatment l flags n symbol row class.Address = named symbol (λ i. if_defined l row i (address_treatment l flags n row i))
class_treatment l flags n symbol row class.Distance = distance_treatment l flags n row symbol
class_treatment l flags n symbol row class.Pointer = named symbol (λ i. pointer_treatment l flags row)
class_treatment l flags n symbol row class.Extent = named symbol (λ i. if_defined l row i (size_treatment l flags row i))
class_treatment l flags n symbol row class.Part = named symbol (λ i. distance_treatment l flags n row (Some i))

abbrev pub kind_treatment : Layout → (flags n : ℕ) → Option ℕ → RelocationKindInfo → RelocationKind → Treatment
kind_treatment l flags n symbol row kind = class_treatment l flags n symbol row (expression_of kind).class

unfoldable pub row_treatment : Layout → (flags n : ℕ) → Option ℕ → Option RelocationKindInfo → Treatment
row_treatment l flags n symbol None = Unsupported
row_treatment l flags n symbol (Some row) = kind_treatment l flags n symbol row row.kind

-- ---- by the relocation

abbrev pub is_slot : Term → Bool
is_slot (term.Slot sort) = true
is_slot other = false

-- on AArch64 the address of a slot has no addend, and a page is that of a symbol (aaelf64, "Relocation operations": GDAT, Page)
abbrev pub row_accepts : Machine → InputRelocation → RelocationKindInfo → Bool
row_accepts machine.X86_64 r row = true
row_accepts machine.AArch64 r row = (cast_unsigned w64 r.addend == 0 || not (is_slot (expression_of row.kind).term)) && not (is_none r.symbol && not (is_none row.mask))

abbrev pub row_that_accepts : Machine → InputRelocation → Option RelocationKindInfo → Option RelocationKindInfo
row_that_accepts m r None = None
row_that_accepts m r (Some row) = if row_accepts m r row then Some row else None

-- the treatment of a relocation, by its row
unfoldable pub treatment : Layout → (flags : ℕ) → InputRelocation → Treatment
treatment l flags r = row_treatment l flags r.number r.symbol (row_that_accepts l.machine r (row_of l.machine r.number))
