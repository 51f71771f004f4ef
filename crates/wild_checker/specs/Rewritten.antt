-- Instructions of x86-64 that use a GOT slot, and that a linker rewrote to do without it (x86-64 psABI, "Linker Optimization"; "ELF Handling
-- For Thread-Local Storage", "Linker Relaxations").
--   Shape                 an instruction of the input with one field: its relocation type, the values of its bytes, its operand
--   shape_before ..       the longest instruction that ends with a relocation's field
--   code_action a bs      the action of these bytes of code at an address
--   operand_term o x y    a number that is an operand, as a term; y is the operand at the next address
--   is_rewrite ..         the code in memory has the effect that the input's instruction requires, in every world
--   next_cursor m c r     where a walk over a section's relocations is after one
--   rewritten_start ..    the start of a relocation's instruction, if that was rewritten and has the effect that it requires
use Rattle.std.specs.Prelude.{ℕ, ◌+◌, ◌-◌, ◌/◌, ◌%◌, ◌^◌, ◌==◌, ◌&&◌, ◌||◌, Bool, true, false, not, if◌then◌else◌, nat_le, nat_lt, max, length, map, slice_get, slice_range, take, List, [], ◌∷◌, ◌++◌, Option, Some, None, option_and_then}
use Rattle.std.specs.List.{filter, flat_map}
use Rattle.wild_words.specs.Words.{word}
use Rattle.wild_records.specs.Abi.Relocation.{r_x86_64_tlsgd, r_x86_64_tlsld, r_x86_64_pltoff64, r_x86_64_tlsdesc_call}
use Rattle.wild_records.specs.Abi.Section.{shf_execinstr}
use Rattle.wild_types.specs.declared.file.File.{File}
use Rattle.wild_types.specs.declared.input.InputRelocation.{InputRelocation}
use Rattle.wild_types.specs.declared.input.InputSection.{InputSection}
use Rattle.wild_types.specs.declared.kind.Machine.{Machine}
use Rattle.wild_types.specs.declared.kind.Machine.TheVariants as machine
use Rattle.wild_types.specs.declared.symbol.Symbol.{Symbol}
use Rattle.wild_types.specs.Flags.{has_flag, ifunc_got_for_address}
use Rattle.wild_types.specs.Lookups.{canonical}
use Rattle.wild_types.specs.Rows.{field_bytes}
use Rattle.wild_loader.specs.declared.instruction.Action.{Action}
use Rattle.wild_loader.specs.declared.instruction.Cell.{Cell}
use Rattle.wild_loader.specs.declared.instruction.Deed.{Deed}
use Rattle.wild_loader.specs.declared.instruction.Deed.TheVariants.{Set, Add, Subtract, Compare, Call, Jump}
use Rattle.wild_loader.specs.declared.instruction.Operand.{Operand}
use Rattle.wild_loader.specs.declared.instruction.Operand.TheVariants.{Number}
use Rattle.wild_loader.specs.Effect.{first_match}
use Rattle.wild_loader.specs.Instruction.{Template, matches_cells, template_fills}
use Rattle.wild_loader.specs.InstructionX86_64.{templates_x86_64}
use Rattle.wild_loader.specs.Rows.{template_of}
use Rattle.wild_loader.specs.ThreadCodeX86_64.{nop_byte}
use Rattle.wild_meaning.specs.Sequence.{Sort, TargetInSlot, AddressInSlot, OffsetInSlot, Described, Instruction, Partner, instructions_of}
use Rattle.wild_terms.specs.declared.outline.Outline.{Outline}
use Rattle.wild_terms.specs.declared.term.Atom.{Atom}
use Rattle.wild_terms.specs.declared.term.Atom.TheVariants.{Zero}
use Rattle.wild_terms.specs.declared.term.Term.{Term}
use Rattle.wild_terms.specs.Terms.{number_term, sum, difference}
use Rattle.wild_terms.specs.Outline.{based}
use Rattle.wild_terms.specs.Symbolic.{Symbolic, term_at}
use Rattle.wild_checker.specs.declared.rewritten.Cursor.{Cursor}
use Rattle.wild_checker.specs.declared.instructions.SlotUse.{SlotUse}
use Rattle.wild_checker.specs.declared.instructions.SlotUse.TheVariants as uses
use Rattle.wild_checker.specs.declared.instructions.SlotInstruction.{SlotInstruction}
use Rattle.wild_checker.specs.Loaded.{Loaded}
use Rattle.wild_checker.specs.Files.{file_for}
use Rattle.wild_checker.specs.References.{addend_of, knows_offsets}
use Rattle.wild_checker.specs.Slots.{stub_term, is_at_stub}
use Rattle.wild_checker.specs.Symbols.{loaded_term}
use Rattle.wild_checker.specs.Threads.{thread_term, may_be_zero}

-- ---- instructions of the input

-- a relocation type, the values of an instruction's bytes, of which the last four are the field, and what its operand represents
pub record Shape : Type 0 where
  pub number : ℕ
  pub cells : List Cell
  pub sort : Sort

abbrev pub shapes_of : Instruction → List Shape
shapes_of o = map (λ n. record { number = n; cells = o.template.cells; sort = o.sort }) o.numbers

abbrev pub has_no_partner : List Partner → Bool
has_no_partner [] = true
has_no_partner (p ∷ ps) = false

-- the instruction has one field, n bytes after its start
abbrev pub is_single_at : ℕ → Instruction → Bool
is_single_at n o = has_no_partner o.partners && o.field == n

abbrev pub shapes_at : ℕ → List Shape
shapes_at n = flat_map shapes_of (filter (is_single_at n) (instructions_of machine.X86_64))

-- the instructions of x86-64 that use a slot, the longest first
abbrev pub shapes : List Shape
shapes = shapes_at 4 ++ (shapes_at 3 ++ shapes_at 2)

-- the instruction of that relocation type is in the bytes, up to an offset
abbrev pub ends_at : Shape → ℕ → List ℕ → ℕ → Bool
ends_at t n bs end = t.number == n && (nat_le (length t.cells) end && matches_cells t.cells (slice_range bs (end - length t.cells) end))

-- the first of these instructions that ends at an offset
abbrev pub first_shape : ℕ → List ℕ → ℕ → List Shape → Option Shape
first_shape n bs end [] = None
first_shape n bs end (t ∷ ts) = if ends_at t n bs end then Some t else first_shape n bs end ts

-- the longest instruction of a relocation type that ends at an offset
abbrev pub shape_before : ℕ → List ℕ → ℕ → Option Shape
shape_before n bs end = first_shape n bs end shapes

abbrev pub sort_of : SlotUse → Sort
sort_of uses.Branch = TargetInSlot
sort_of uses.Address = AddressInSlot
sort_of uses.Offset = OffsetInSlot
sort_of uses.Descriptor = Described

-- the shape of a row of the table
abbrev pub shape_of : SlotInstruction → Shape
shape_of row = record { number = row.number; cells = (template_of row.template).cells; sort = sort_of row.slot_use }

-- ---- code

abbrev pub nop : List ℕ
nop = nop_byte ∷ []

abbrev pub action_by : ℕ → List ℕ → Option Template → Option Action
action_by a bs None = None
action_by a bs (Some t) = if template_fills nop t bs then Some (t.action a bs) else None

-- the action of these bytes of code at an address, if only `nop` follows the longest instruction that they start with
abbrev pub code_action : ℕ → List ℕ → Option Action
code_action a bs = action_by a bs (first_match templates_x86_64 bs)

abbrev pub bytes_by : ℕ → Atom → ℕ → Option (List ℕ)
bytes_by n Zero v = Some (take n (word 8 (v % 2 ^ 64)))
bytes_by n other v = None

-- at most eight bytes of memory, if they are the same in every world
abbrev pub code_bytes : Symbolic → ℕ → ℕ → Option (List ℕ)
code_bytes t a n = if nat_le n 8 then option_and_then (λ (x : Term). bytes_by n x.atom x.plus) (term_at t a n) else None

abbrev pub same_deed : Deed → Deed → Bool
same_deed (Set i) (Set j) = i == j
same_deed (Add i) (Add j) = i == j
same_deed (Subtract i) (Subtract j) = i == j
same_deed (Compare i) (Compare j) = i == j
same_deed Call Call = true
same_deed Jump Jump = true
same_deed a b = false

-- A number that is an operand, as a term. It is relative to the place if the code at the next address has another operand.
abbrev pub operand_term : Outline → Operand → Operand → Option Term
operand_term o (Number n) (Number m) = Some (sum (if m == n then number_term 0 else based o 0) n)
operand_term o x y = None

-- ---- what is required

-- a difference is 0 in the low bits that an instruction of that width uses
abbrev pub is_no_difference : ℕ → Option ℕ → Bool
is_no_difference width None = false
is_no_difference width (Some d) = if width == 32 then d % 2 ^ 32 == 0 else (width == 64 && d == 0)

-- the low bits of a term are those of another in every world
abbrev pub is_low : ℕ → Term → Option Term → Bool
is_low width x None = false
is_low width x (Some y) = is_no_difference width (difference y x)

-- the stub's address is in a slot for the address of symbol i, whose definition is d
abbrev pub is_stub_in_slot : Loaded → File → ℕ → Symbol → Bool
is_stub_in_slot k f i d = is_at_stub k f i d || has_flag d.flags ifunc_got_for_address

-- symbol i's offset from the thread pointer
abbrev pub is_offset : Loaded → File → ℕ → Symbol → ℕ → Term → Bool
is_offset k f i d width x = is_low width x (thread_term k f i d) || (may_be_zero k f i d && is_low width x (Some (number_term 0)))

-- The operand is what the instruction's slot of symbol i represents: for a branch the symbol's value or its stub; for an address the value, or
-- the stub if its address is the symbol's; the offset from the thread pointer, also where the program has that in place of descriptors.
abbrev pub is_required_by : Loaded → File → Sort → ℕ → ℕ → Term → Option Symbol → Bool
is_required_by k f sort i width x None = false
is_required_by k f TargetInSlot i width x (Some d) = is_low width x (loaded_term k f i d) || is_low width x (stub_term k f i)
is_required_by k f AddressInSlot i width x (Some d) = is_low width x (loaded_term k f i d) || (is_stub_in_slot k f i d && is_low width x (stub_term k f i))
is_required_by k f OffsetInSlot i width x (Some d) = is_offset k f i d width x
is_required_by k f Described i width x (Some d) = knows_offsets k.layout.machine k.layout.kind k.layout.options.relax && is_offset k f i d width x
is_required_by k f other i width x (Some d) = false

abbrev pub is_required : Loaded → File → Sort → ℕ → ℕ → Term → Bool
is_required k f sort i width x = is_required_by k f sort i width x (slice_get k.layout.symbols (canonical k.layout i))

abbrev pub is_operand : Loaded → File → Sort → ℕ → ℕ → Option Term → Bool
is_operand k f sort i width None = false
is_operand k f sort i width (Some x) = is_required k f sort i width x

-- the actions are the same, up to the operand; z is the second one at the next address
abbrev pub same_actions : Loaded → File → Sort → ℕ → Option Action → Option Action → Option Action → Bool
same_actions k f sort i (Some x) (Some y) (Some z) = same_deed x.deed y.deed && (x.width == y.width && is_operand k f sort i y.width (operand_term k.outline y.operand z.operand))
same_actions k f sort i x y z = false

abbrev pub same_effect : Loaded → File → Sort → Option ℕ → ℕ → List ℕ → Option (List ℕ) → Bool
same_effect k f sort None a old new = false
same_effect k f sort (Some i) a old None = false
same_effect k f sort (Some i) a old (Some new) = same_actions k f sort i (code_action a old) (code_action a new) (code_action (a + 1) new)

-- the code in place of an instruction of the input has the effect that this requires, in every world
abbrev pub is_rewrite : Loaded → File → InputSection → InputRelocation → Shape → ℕ → Bool
is_rewrite k f s r t start = same_effect k (file_for k f r.symbol) t.sort r.symbol (s.address + start) (slice_range s.bytes start (r.offset + 4)) (code_bytes k.memory (s.address + start) (length t.cells))

-- ---- a walk over the relocations of a section

-- the number of bytes after a relocation's field that belong to the same instructions: the end of a call to a distance of 64 bits, or a
-- call through a descriptor
abbrev pub bytes_after : ℕ → ℕ
bytes_after n = if n == r_x86_64_pltoff64 then 5 else (if n == r_x86_64_tlsdesc_call then 2 else 0)

-- the end of the instructions of a relocation
abbrev pub reach : Machine → InputRelocation → ℕ
reach m r = r.offset + field_bytes m r.number + bytes_after r.number

abbrev pub next_cursor : Machine → Cursor → InputRelocation → Cursor
next_cursor m c r = record {
  end = r.offset + field_bytes m r.number;
  clear = max c.clear (reach m r);
  last = if field_bytes m r.number == 0 then c.last else r.number;
}

abbrev pub first_cursor : Cursor
first_cursor = record { end = 0; clear = 0; last = 0 }

-- the relocation of this type begins no sequence, so the next one belongs to none
abbrev pub begins_none : ℕ → Bool
begins_none n = not (n == r_x86_64_tlsgd || n == r_x86_64_tlsld)

abbrev pub is_for_x86_64 : Machine → Bool
is_for_x86_64 machine.X86_64 = true
is_for_x86_64 machine.AArch64 = false

-- The relocation is in code and in no sequence, and its addend only compensates for the origin of its field's distance. The next address
-- of its instruction is an address too.
abbrev pub is_in_code : Loaded → InputSection → Cursor → InputRelocation → Bool
is_in_code k s c r =
    is_for_x86_64 k.layout.machine
    && (s.flags / shf_execinstr % 2 == 1
    && (begins_none c.last
    && ((addend_of r + 4) % 2 ^ 64 == 0
    && (nat_le (r.offset + 4) (length s.bytes) && nat_lt (s.address + r.offset + 5) (2 ^ 64)))))

-- an instruction of the input that ends at an offset starts after all earlier ones, and was rewritten
abbrev pub is_rewritten : Loaded → File → InputSection → Cursor → InputRelocation → Shape → ℕ → Bool
is_rewritten k f s c r t end = nat_le (length t.cells) end && (nat_le c.clear (end - length t.cells) && is_rewrite k f s r t (end - length t.cells))

abbrev pub start_by : Loaded → File → InputSection → Cursor → InputRelocation → ℕ → Option Shape → Option ℕ
start_by k f s c r end None = None
start_by k f s c r end (Some t) = if is_rewritten k f s c r t end then Some (end - length t.cells) else None

-- the start of a relocation's instruction, if that was rewritten and has the effect that it requires
unfoldable pub rewritten_start : Loaded → File → InputSection → Cursor → InputRelocation → Option ℕ
rewritten_start k f s c r = if is_in_code k s c r then start_by k f s c r (r.offset + 4) (shape_before r.number s.bytes (r.offset + 4)) else None
