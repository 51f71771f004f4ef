-- Whether the field of a reference has the value of its formula in every world.
--   value_term k f s r row     the value of the reference's formula as a term
--   word_term k s r row        the same for a word that a loader fills
--   field_holds k s r row x    the field has that value in every world
--   reference_holds k f s r    both
use Rattle.std.specs.Prelude.{ℕ, ◌+◌, ◌-◌, ◌/◌, ◌^◌, ◌%◌, ◌==◌, ◌&&◌, ◌||◌, Bool, true, false, not, if◌then◌else◌, nat_lt, nat_le, length, slice_get, slice_range, List, Option, Some, None, option_map, option_and_then}
use Rattle.std.specs.Int.{w64, cast_unsigned}
use Rattle.wild_records.specs.Abi.Section.{shf_write, shf_execinstr}
use Rattle.wild_reloc.specs.declared.expression.Class.{Class}
use Rattle.wild_reloc.specs.declared.expression.Class.TheVariants as class
use Rattle.wild_reloc.specs.declared.expression.SlotSort.{SlotSort}
use Rattle.wild_reloc.specs.declared.expression.SlotSort.TheVariants as sorts
use Rattle.wild_reloc.specs.declared.expression.Subtrahend.{Subtrahend}
use Rattle.wild_reloc.specs.declared.expression.Subtrahend.TheVariants as subtrahend
use Rattle.wild_reloc.specs.declared.expression.Term.TheVariants as terms
use Rattle.wild_reloc.specs.declared.expression.Term as expression
use Rattle.wild_reloc.specs.declared.info.RelocationKindInfo.{RelocationKindInfo}
use Rattle.wild_reloc.specs.declared.info.RelocationSize.{RelocationSize}
use Rattle.wild_reloc.specs.declared.info.RelocationSize.TheVariants.{ByteSize}
use Rattle.wild_reloc.specs.declared.info.Width.TheVariants.{Eight}
use Rattle.wild_reloc.specs.Expression.{expression_of, subtrahend_of}
use Rattle.wild_reloc.specs.Field.{field_width, allows, written}
use Rattle.wild_types.specs.declared.file.File.{File}
use Rattle.wild_types.specs.declared.input.InputRelocation.{InputRelocation}
use Rattle.wild_types.specs.declared.input.InputSection.{InputSection}
use Rattle.wild_types.specs.declared.kind.Machine.{Machine}
use Rattle.wild_types.specs.declared.kind.Machine.TheVariants as machine
use Rattle.wild_types.specs.declared.kind.OutputKind.{OutputKind}
use Rattle.wild_types.specs.declared.kind.OutputKind.TheVariants as output
use Rattle.wild_types.specs.declared.layout.Layout.{Layout}
use Rattle.wild_types.specs.declared.symbol.Symbol.{Symbol}
use Rattle.wild_types.specs.Flags.{has_flag, non_interposable}
use Rattle.wild_types.specs.Lookups.{canonical, place_of}
use Rattle.wild_types.specs.Rows.{row_of}
use Rattle.wild_meaning.specs.Value.{may_be_replaced}
use Rattle.wild_terms.specs.declared.term.Atom.{Atom}
use Rattle.wild_terms.specs.declared.term.Atom.TheVariants.{Zero, Base}
use Rattle.wild_terms.specs.declared.term.Term.{Term}
use Rattle.wild_terms.specs.Terms.{number_term, sum, difference}
use Rattle.wild_terms.specs.Outline.{based, size_of}
use Rattle.wild_terms.specs.Symbolic.{Symbolic, term_at}
use Rattle.wild_checker.specs.Loaded.{Loaded}
use Rattle.wild_checker.specs.Files.{file_for}
use Rattle.wild_checker.specs.Bytes.{has_bytes}
use Rattle.wild_checker.specs.Search.{or_else}
use Rattle.wild_checker.specs.Slots.{is_known, slot_term, stub_term, is_at_stub}
use Rattle.wild_checker.specs.Symbols.{names_no_strings, symbol_term, index_of, known_answer, answer_term, own_term}
use Rattle.wild_checker.specs.Threads.{pointer_term, relative_term}

-- ---- the value

-- the value of the reference's symbol; 0 without a symbol
abbrev pub plain_referent : Loaded → File → Option ℕ → Option Term
plain_referent k f None = Some (number_term 0)
plain_referent k f (Some i) = if names_no_strings k f i then symbol_term k f i else None

abbrev pub is_x86_64 : Machine → Bool
is_x86_64 machine.X86_64 = true
is_x86_64 machine.AArch64 = false

-- the address that the output uses for symbol i, where d is its definition: its stub's, or the answer of its resolver
abbrev pub address_by : Loaded → File → ℕ → Option Symbol → Option Term
address_by k f i None = None
address_by k f i (Some d) = if is_at_stub k f i d then stub_term k f i else (if is_x86_64 k.layout.machine && not (may_be_replaced k.layout.kind d.flags) then own_term k f i d else None)

abbrev pub address_referent : Loaded → File → Option ℕ → Option Term
address_referent k f None = None
address_referent k f (Some i) = if names_no_strings k f i then address_by k f i (slice_get k.layout.symbols (canonical k.layout i)) else None

-- S
abbrev pub referent_term : Loaded → File → Option ℕ → Option Term
referent_term k f x = or_else (plain_referent k f x) (address_referent k f x)

abbrev pub addend_of : InputRelocation → ℕ
addend_of r = cast_unsigned w64 r.addend

-- P and GOT
abbrev pub place_term : Loaded → InputSection → InputRelocation → Term
place_term k s r = based k.outline (place_of s.address r)

abbrev pub table_term : Loaded → Term
table_term k = based k.outline k.layout.got_base

-- x - y, if it is the same number in every world
abbrev pub distance_term : Term → Term → Option Term
distance_term x y = option_map number_term (difference x y)

abbrev pub page_by : Layout → Atom → ℕ → Option Term
page_by l Zero n = Some (number_term (n - n % 4096))
page_by l Base n = if l.page_size % 4096 == 0 then Some (record { atom = Base; plus = n - n % 4096 }) else None
page_by l other n = None

-- the page of 4096 bytes of an address; a base is a multiple of the page size
abbrev pub page_term : Layout → Term → Option Term
page_term l x = page_by l x.atom x.plus

abbrev pub page_distance : Layout → Term → Term → Option Term
page_distance l x y = option_and_then (λ a. option_and_then (λ b. distance_term a b) (page_term l y)) (page_term l x)

-- the value of a formula by its term and what is subtracted, where S + A is known (x86-64 psABI, "Relocation Types"; aaelf64, "Relocation
-- operations")
abbrev pub less : Loaded → InputSection → InputRelocation → Subtrahend → Term → Option Term
less k s r subtrahend.Nothing x = Some x
less k s r subtrahend.Place x = distance_term x (place_term k s r)
less k s r subtrahend.GotBase x = distance_term x (table_term k)
less k s r subtrahend.PageOfPlace x = page_distance k.layout x (place_term k s r)
less k s r subtrahend.PageOfGot x = option_and_then (λ page. distance_term x page) (page_term k.layout (table_term k))

-- L, as a stub
abbrev pub stub_referent : Loaded → File → Option ℕ → Option Term
stub_referent k f None = None
stub_referent k f (Some i) = stub_term k f i

-- L: S where that is known, else the symbol's stub
abbrev pub branch_term : Loaded → File → InputRelocation → Option Term
branch_term k f r = or_else (plain_referent k f r.symbol) (stub_referent k f r.symbol)

-- G, for a slot of a sort
abbrev pub slot_referent : Loaded → File → SlotSort → Option ℕ → Option Term
slot_referent k f sort None = None
slot_referent k f sort (Some i) = slot_term k f sort i

-- the same in an expression that does not add A
abbrev pub named_slot : Loaded → File → InputRelocation → SlotSort → Option Term
named_slot k f r sort = if addend_of r == 0 then slot_referent k f sort r.symbol else None

abbrev pub knows_offsets : Machine → OutputKind → Bool → Bool
knows_offsets machine.X86_64 (output.StaticExecutable any) relax = true
knows_offsets machine.X86_64 (output.DynamicExecutable any) relax = relax
knows_offsets m kind relax = false

-- in the section's code a reference to a descriptor holds the offset itself ("ELF Handling For Thread-Local Storage", "Linker
-- Relaxations")
abbrev pub has_offset_mode : Layout → InputSection → Bool
has_offset_mode l s = knows_offsets l.machine l.kind l.options.relax && s.flags / shf_execinstr % 2 == 1

-- G and what is subtracted (x86-64 psABI, "Relocation Types"; aaelf64, "Relocation operations": GDAT(S + A))
abbrev pub slot_less : Loaded → File → InputSection → InputRelocation → SlotSort → Subtrahend → Option Term
slot_less k f s r sorts.TlsDesc subtrahend.Place = if has_offset_mode k.layout s then None else slot_referent k f sorts.TlsDesc r.symbol
slot_less k f s r sort subtrahend.Place = slot_referent k f sort r.symbol
slot_less k f s r sorts.Address subtrahend.GotBase = slot_referent k f sorts.Address r.symbol
slot_less k f s r sort subtrahend.GotBase = None
slot_less k f s r sorts.Address subtrahend.PageOfGot = named_slot k f r sorts.Address
slot_less k f s r sort subtrahend.PageOfGot = None
slot_less k f s r sort less = named_slot k f r sort

-- Z
abbrev pub size_by : Loaded → Option Symbol → Option Term
size_by k None = None
size_by k (Some d) = if may_be_replaced k.layout.kind d.flags then option_map (λ a. size_of a.index a.answer) (known_answer k.outline (index_of d.resolution)) else Some (number_term d.size)

abbrev pub size_term : Loaded → Option ℕ → Option Term
size_term k None = None
size_term k (Some i) = size_by k (slice_get k.layout.symbols (canonical k.layout i))

-- The terms and what is subtracted, of which the value is decided: S + A, less P, GOT or a page; L + A less P or GOT; G, by its sort;
-- GOT + A - P; Z + A; offsets in thread-local data, plus A.
abbrev pub term_less : Loaded → File → InputSection → InputRelocation → expression.Term → Subtrahend → Option Term
term_less k f s r terms.Symbol subtrahend.PageOfGot = None
term_less k f s r terms.Symbol less = referent_term k f r.symbol
term_less k f s r terms.Stub subtrahend.Place = branch_term k f r
term_less k f s r terms.Stub subtrahend.GotBase = if is_x86_64 k.layout.machine then branch_term k f r else plain_referent k f r.symbol
term_less k f s r (terms.Slot sort) less = slot_less k f s r sort less
term_less k f s r terms.GotBase subtrahend.Place = Some (table_term k)
term_less k f s r terms.Size subtrahend.Nothing = size_term k r.symbol
term_less k f s r terms.PointerOffset subtrahend.Nothing = pointer_term k f r.symbol
term_less k f s r terms.ModuleOffset subtrahend.Nothing = relative_term k f r.symbol
term_less k f s r other less = None

abbrev pub value_by_parts : Loaded → File → InputSection → InputRelocation → expression.Term → Subtrahend → Option Term
value_by_parts k f s r t u = option_and_then (λ x. less k s r u (sum x (addend_of r))) (term_less k f s r t u)

-- ---- words that a loader fills with the address of a symbol that another module may define

abbrev pub is_eight : RelocationSize → Bool
is_eight (ByteSize Eight) = true
is_eight other = false

abbrev pub is_nothing : Subtrahend → Bool
is_nothing subtrahend.Nothing = true
is_nothing other = false

abbrev pub is_symbol : expression.Term → Bool
is_symbol terms.Symbol = true
is_symbol other = false

-- the field has eight bytes of S + A, in a section that the program may write to (gABI, "Relocation")
abbrev pub is_word : InputSection → RelocationKindInfo → Bool
is_word s row = s.flags / shf_write % 2 == 1 && (is_eight row.size && (is_symbol (expression_of row.kind).term && is_nothing (subtrahend_of row.kind row.mask)))

abbrev pub foreign_by : Loaded → Option Symbol → Option Term
foreign_by k None = None
foreign_by k (Some d) = if may_be_replaced k.layout.kind d.flags && not (has_flag d.flags non_interposable) then answer_term k.outline (index_of d.resolution) else None

abbrev pub foreign_term : Loaded → Option ℕ → Option Term
foreign_term k None = None
foreign_term k (Some i) = foreign_by k (slice_get k.layout.symbols (canonical k.layout i))

-- S + A, from the world's answer
abbrev pub word_term : Loaded → InputSection → InputRelocation → RelocationKindInfo → Option Term
word_term k s r row = if is_word s row then option_map (λ x. sum x (addend_of r)) (foreign_term k r.symbol) else None

-- the value of the reference's formula
abbrev pub value_term : Loaded → File → InputSection → InputRelocation → RelocationKindInfo → Option Term
value_term k f s r row = value_by_parts k f s r (expression_of row.kind).term (subtrahend_of row.kind row.mask)

-- ---- the field

-- the field has all 64 bits of any value
abbrev pub is_whole : RelocationKindInfo → Bool
is_whole row = is_eight row.size && (nat_le row.alignment 1 && (row.range.below == 2 ^ 63 && row.range.above == 2 ^ 63))

abbrev pub old_field : InputSection → InputRelocation → RelocationKindInfo → List ℕ
old_field s r row = slice_range s.bytes r.offset (r.offset + field_width row)

-- the field has the number n
abbrev pub number_holds : Symbolic → InputSection → InputRelocation → RelocationKindInfo → ℕ → Bool
number_holds t s r row n = allows row n && has_bytes t (s.address + r.offset) (written row n (old_field s r row))

-- the field has the offset of an address in its page
abbrev pub is_part : Class → Bool
is_part class.Part = true
is_part other = false

-- A term that depends on the world needs a field of 64 bits. The offset in its page of an address that moves by pages does not depend
-- on it.
abbrev pub holds_by : Loaded → InputSection → InputRelocation → RelocationKindInfo → Atom → ℕ → Bool
holds_by k s r row Zero n = number_holds k.memory s r row n
holds_by k s r row Base n = is_part (expression_of row.kind).class && (k.layout.page_size % 4096 == 0 && number_holds k.memory s r row (n % 4096))
holds_by k s r row other n = false

abbrev pub value_holds : Loaded → InputSection → InputRelocation → RelocationKindInfo → Term → Bool
value_holds k s r row x = if is_whole row then is_known (term_at k.memory (s.address + r.offset) 8) x else holds_by k s r row x.atom x.plus

-- there is a field, and it is in the section
abbrev pub is_inside : InputSection → InputRelocation → RelocationKindInfo → Bool
is_inside s r row = nat_lt 0 (field_width row) && (nat_le (r.offset + field_width row) (length s.bytes) && nat_lt (s.address + r.offset) (2 ^ 64))

-- the field has the value x in every world
abbrev pub field_holds : Loaded → InputSection → InputRelocation → RelocationKindInfo → Option Term → Bool
field_holds k s r row None = false
field_holds k s r row (Some x) = is_inside s r row && value_holds k s r row x

-- the relocation only marks an instruction: the call through a descriptor
abbrev pub is_mark : expression.Term → Bool
is_mark terms.Nothing = true
is_mark other = false

-- A mark is in the section and has no field. No mark holds where references to descriptors hold offsets.
abbrev pub mark_holds : Loaded → InputSection → InputRelocation → RelocationKindInfo → Bool
mark_holds k s r row = field_width row == 0 && (nat_le r.offset (length s.bytes) && (allows row 0 && not (has_offset_mode k.layout s)))

abbrev pub holds_by_row : Loaded → File → InputSection → InputRelocation → Option RelocationKindInfo → Bool
holds_by_row k f s r None = false
holds_by_row k f s r (Some row) = if is_mark (expression_of row.kind).term then mark_holds k s r row else (field_holds k s r row (value_term k f s r row) || field_holds k s r row (word_term k s r row))

-- the field has the value of the reference's formula in every world
unfoldable pub reference_holds : Loaded → File → InputSection → InputRelocation → Bool
reference_holds k f s r = holds_by_row k (file_for k f r.symbol) s r (row_of k.layout.machine r.number)
