-- Every rewrite keeps the effect: from the standing pattern and the field to explicit bytes.
use Rattle.std.proofs.Common.{◌≡◌, ℕ, ◌+◌, ◌^◌, ◌<◌, true, List, [], get_or, refl, sym, ap, ◌∙◌, arith, subst, Bool}
use Rattle.std.specs.Prelude.{Option, Some, None, is_some, ◌⊎◌, ◌==◌, ◌||◌, ◌-◌}
use Rattle.std.specs.List.{list_all}
use Rattle.std.proofs.lemmas.Bool.Decides.{nat_tests}
use Rattle.std.proofs.lemmas.Bool.{and_parts}
use Rattle.wild_words.specs.Words.{word, number, place}
use Rattle.wild_reloc.specs.Range.{of_bits, contains}
use Rattle.wild_reloc.specs.Field.{allows, written}
use Rattle.wild_reloc.specs.Table.{plain}
use Rattle.wild_reloc.specs.TableX86_64.{x86_64_row}
use Rattle.wild_reloc.specs.declared.range.Sign.TheVariants.{Signed, Unsigned}
use Rattle.wild_reloc.specs.declared.info.Width.TheVariants.{Zero, Four}
use Rattle.wild_reloc.specs.declared.info.RelocationKind.{RelocationKind}
use Rattle.wild_reloc.specs.declared.info.RelocationKind.TheVariants as kinds
use Rattle.wild_reloc.specs.declared.info.RelocationKindInfo.{RelocationKindInfo}
use Rattle.wild_loader.specs.declared.instruction.Operand.TheVariants.{Word}
use Rattle.wild_loader.specs.Instruction.{Reader, sum_64}
use Rattle.wild_loader.specs.InstructionX86_64.{effect_x86_64, demand_x86_64, meaning_x86_64}
use Rattle.wild_relax.specs.declared.pattern.Prefix.TheVariants.{Rex, Rex2}
use Rattle.wild_relax.specs.declared.pattern.Operation.{Operation}
use Rattle.wild_relax.specs.declared.pattern.Operation.TheVariants as operation
use Rattle.wild_relax.specs.declared.pattern.GeneralForm.TheVariants as general
use Rattle.wild_relax.specs.declared.pattern.LocalForm.TheVariants as local
use Rattle.wild_relax.specs.declared.pattern.Pattern.TheVariants as pattern
use Rattle.wild_relax.specs.declared.pattern.Pattern.{Pattern}
use Rattle.wild_relax.specs.declared.pattern.GeneralForm.{GeneralForm}
use Rattle.wild_relax.specs.declared.pattern.LocalForm.{LocalForm}
use Rattle.wild_relax.specs.declared.row.Row.{Row}
use Rattle.wild_relax.specs.declared.row.Made.{Made}
use Rattle.wild_relax.specs.declared.row.Made.TheVariants as made
use Rattle.wild_relax.specs.declared.row.Written.{Written}
use Rattle.wild_relax.specs.declared.row.Written.TheVariants as ways
use Rattle.wild_relax.specs.RewriteX86_64.{change_of, number_written}
use Rattle.wild_relax.specs.Rows.{rows_x86_64}
use Rattle.wild_words.proofs.Basics.{or_other, listed_passes}
use Rattle.wild_relax.specs.Pattern.{pattern_cells, field_of, opcode}
use Rattle.wild_relax.specs.LinkedPattern.{pattern_of, keeps_bytes}
use Rattle.wild_relax.specs.KeepX86_64.{IsWhole, distance, ReadsNumbers, no_effect, FieldIsRight, demanded, IsField, RowsKeep}
use Rattle.wild_relax.proofs.StubLemmas.{read_back}
use Rattle.wild_relax.proofs.ShapeLemmas.{filled, shape, shape-matches_cells}
use Rattle.wild_relax.proofs.KeepLemmas.{placed, SlotByte, IsWide, Back, lea_bare, lea_rex, lea_rex2, call_direct, jump_direct}
use Rattle.wild_relax.proofs.ImmediateLemmas.{IsWide2, low_bits, rex_immediate, rex2_immediate, bare_immediate, rex_descriptor, rex2_descriptor, rex_descriptor_slot, rex2_descriptor_slot}
use Rattle.wild_relax.proofs.SequenceLemmas.{exec_for, to_number, to_slot_regular, to_slot_no_plt, to_pointer}

-- ---- fields

-- the four bytes of a value that is read back with its sign
record IsSignedField (info : RelocationKindInfo) (value : ℕ) : Type 0 where
  bytes : written info value [] ≡ word 4 value
  back : Back value

back_of : (value : ℕ) → value < 2 ^ 64 → contains (of_bits 32 Signed) value ≡ true → Back value
unfolding word number
back_of value small range = read_back value small range

plain_signed : (info : RelocationKindInfo) (kind : RelocationKind) (value : ℕ) → info ≡ plain kind Four Signed → value < 2 ^ 64 → allows info value ≡ true → IsSignedField info value
plain_signed info kind value e small h =
    let P : RelocationKindInfo → Type 0 = λ i. allows i value ≡ true → IsSignedField i value in
    subst P (sym e) (λ range. record { bytes = refl; back = back_of value small range }) h

pub pc32 : (info : RelocationKindInfo) → Some info ≡ x86_64_row 2 → info ≡ plain kinds.Relative Four Signed
unfolding x86_64_row
pc32 info e = cc

pub signed_32s : (info : RelocationKindInfo) → Some info ≡ x86_64_row 11 → info ≡ plain kinds.Absolute Four Signed
unfolding x86_64_row
signed_32s info e = cc

pub unsigned_32 : (info : RelocationKindInfo) → Some info ≡ x86_64_row 10 → info ≡ plain kinds.Absolute Four Unsigned
unfolding x86_64_row
unsigned_32 info e = cc

pub tpoff32 : (info : RelocationKindInfo) → Some info ≡ x86_64_row 23 → info ≡ plain kinds.TpOff Four Signed
unfolding x86_64_row
tpoff32 info e = cc

pub gottpoff : (info : RelocationKindInfo) → Some info ≡ x86_64_row 22 → info ≡ plain kinds.GotTpOff Four Signed
unfolding x86_64_row
gottpoff info e = cc

pub nothing : (info : RelocationKindInfo) → Some info ≡ x86_64_row 0 → info ≡ plain kinds.None Zero Signed
unfolding x86_64_row
nothing info e = cc

four_bytes : (info : RelocationKindInfo) (value : ℕ) → info ≡ plain kinds.Absolute Four Unsigned → written info value [] ≡ word 4 value
four_bytes info value e = ap (λ i. written i value []) e

no_bytes : (info : RelocationKindInfo) (value : ℕ) → info ≡ plain kinds.None Zero Signed → written info value [] ≡ []
unfolding word
no_bytes info value e = ap (λ i. written i value []) e

lands_at : (v place end value : ℕ) → v < 2 ^ 64 → value ≡ distance v place → end ≡ place + 4 → sum_64 end value ≡ v
lands_at v place end value small e at = omega arith

-- ---- patterns

pub either : (m n b : ℕ) → (b == m || b == n) ≡ true → (b ≡ m) ⊎ (b ≡ n)
either m n b h = grind (arith, nat_tests)

either_of_four : (b : ℕ) → (b == 0x08 || b == 0x0c || b == 0x48 || b == 0x4c) ≡ true → IsWide2 b
either_of_four b h = grind (arith, nat_tests)

record IsRex (old : List ℕ) : Type 0 where
  wide : IsWide (get_or old 0 0)
  slot : SlotByte (get_or old 2 0)

record IsRex2 (old : List ℕ) : Type 0 where
  wide : IsWide (get_or old 1 0)
  slot : SlotByte (get_or old 3 0)

rex_facts : (o : Operation) (old : List ℕ) → IsWhole (pattern_cells (pattern.Wide Rex o)) old → IsRex old
rex_facts o old whole =
    let all = shape-matches_cells (pattern_cells (pattern.Wide Rex o)) old whole in
    let first = and_parts (get_or old 0 0 == 0x48 || get_or old 0 0 == 0x4c) _ all in
    let second = and_parts (opcode o == opcode o) _ first.1 in
    record { wide = either 0x48 0x4c (get_or old 0 0) first.0; slot = (and_parts _ _ second.1).0 }

rex2_facts : (o : Operation) (old : List ℕ) → IsWhole (pattern_cells (pattern.Wide Rex2 o)) old → IsRex2 old
rex2_facts o old whole =
    let all = shape-matches_cells (pattern_cells (pattern.Wide Rex2 o)) old whole in
    let first = and_parts (get_or old 1 0 == 0x48 || get_or old 1 0 == 0x4c) _ all in
    let second = and_parts (opcode o == opcode o) _ first.1 in
    record { wide = either 0x48 0x4c (get_or old 1 0) first.0; slot = (and_parts _ _ second.1).0 }

mov_slot : (old : List ℕ) → IsWhole (pattern_cells pattern.Mov) old → SlotByte (get_or old 1 0)
mov_slot old whole = (and_parts _ _ (shape-matches_cells (pattern_cells pattern.Mov) old whole)).0

lea_facts : (old : List ℕ) → IsWhole (pattern_cells (pattern.Lea Rex)) old → IsRex old
lea_facts old whole =
    let all = shape-matches_cells (pattern_cells (pattern.Lea Rex)) old whole in
    let first = and_parts (get_or old 0 0 == 0x48 || get_or old 0 0 == 0x4c) _ all in
    record { wide = either 0x48 0x4c (get_or old 0 0) first.0; slot = (and_parts _ _ first.1).0 }

record IsRex2Lea (old : List ℕ) : Type 0 where
  wide : IsWide2 (get_or old 1 0)
  slot : SlotByte (get_or old 3 0)

lea2_facts : (old : List ℕ) → IsWhole (pattern_cells (pattern.Lea Rex2)) old → IsRex2Lea old
lea2_facts old whole =
    let all = shape-matches_cells (pattern_cells (pattern.Lea Rex2)) old whole in
    let first = and_parts (get_or old 1 0 == 0x08 || get_or old 1 0 == 0x0c || get_or old 1 0 == 0x48 || get_or old 1 0 == 0x4c) _ all in
    record { wide = either_of_four (get_or old 1 0) first.0; slot = (and_parts _ _ first.1).0 }

-- ---- shapes of code: a pattern, what is made of it, and how its field is written

-- the field takes the value at a place, which lands, and the bytes of the pattern do what they have to then
abbrev pub KeepsShape : Pattern → Made → Written → Type 0
KeepsShape p m w = (info : RelocationKindInfo) (read : Reader) (a v value : ℕ) (old : List ℕ) → IsWhole (pattern_cells p) old → IsField w info read (a + (field_of p - (change_of m).back + (change_of m).field)) v value
    → effect_x86_64 read a (placed p m (written info value []) old) ≡ demanded m v a old

-- from the pattern's own spelling to the bytes, and from the bytes of the value to the field
carried : (p : Pattern) (m : Made) (info : RelocationKindInfo) (read : Reader) (a v value : ℕ) (bytes old : List ℕ) → IsWhole (pattern_cells p) old → written info value [] ≡ bytes → effect_x86_64 read a (placed p m bytes (filled (pattern_cells p) 0 old)) ≡ demanded m v a (filled (pattern_cells p) 0 old) → effect_x86_64 read a (placed p m (written info value []) old) ≡ demanded m v a old
carried p m info read a v value bytes old whole e h =
    let F : List ℕ → List ℕ → Type 0 = λ b o. effect_x86_64 read a (placed p m b o) ≡ demanded m v a o in
    subst (λ (b : List ℕ). F b old) (sym e) (subst (λ (o : List ℕ). F bytes o) (sym (shape (pattern_cells p) old whole)) h)

-- the same where the value is v itself
carried_value : (p : Pattern) (m : Made) (info : RelocationKindInfo) (read : Reader) (a v value : ℕ) (old : List ℕ) → IsWhole (pattern_cells p) old → written info value [] ≡ word 4 value → value ≡ v → effect_x86_64 read a (placed p m (word 4 value) (filled (pattern_cells p) 0 old)) ≡ demanded m value a (filled (pattern_cells p) 0 old) → effect_x86_64 read a (placed p m (written info value []) old) ≡ demanded m v a old
carried_value p m info read a v value old whole e same h =
    carried p m info read a value value (word 4 value) old whole e h ∙ ap (λ (x : ℕ). demanded m x a old) same

-- a slot's word, by where the field ends
slot_at : (read : Reader) (v place end value : ℕ) → read (Word (sum_64 (place + 4) value)) ≡ Some v → end ≡ place + 4 → read (Word (sum_64 end value)) ≡ Some v
slot_at read v place end value h e = subst (λ (x : ℕ). read (Word (sum_64 x value)) ≡ Some v) (sym e) h

-- ---- numbers

-- the field has the value itself, with its sign
record IsItself (w : Written) : Type 0 where
  field : (info : RelocationKindInfo) (value : ℕ) → Some info ≡ x86_64_row (number_written w) → value < 2 ^ 64 → allows info value ≡ true → IsSignedField info value
  lands : (read : Reader) (place v value : ℕ) → FieldIsRight w read place v value → value ≡ v

signed_itself : IsItself ways.Signed32
signed_itself = record { field = λ info value e small allowed. plain_signed info _ value (signed_32s info e) small allowed; lands = λ read place v value h. h }

offset_itself : IsItself ways.TpOff32
offset_itself = record { field = λ info value e small allowed. plain_signed info _ value (tpoff32 info e) small allowed; lands = λ read place v value h. h }

rex_number : (o : Operation) (w : Written) → IsItself w → KeepsShape (pattern.Wide Rex o) (made.Immediate Rex o) w
rex_number o w itself info read a v value old whole field =
    let facts = rex_facts o old whole in
    let f = itself.field info value field.row_of field.small field.allowed in
    carried_value (pattern.Wide Rex o) (made.Immediate Rex o) info read a v value old whole f.bytes (itself.lands read _ v value field.lands) (rex_immediate o read a value (get_or old 0 0) (get_or old 2 0) (get_or old 3 0) (get_or old 4 0) (get_or old 5 0) (get_or old 6 0) facts.wide facts.slot field.numbers f.back)

rex2_number : (o : Operation) (w : Written) → IsItself w → KeepsShape (pattern.Wide Rex2 o) (made.Immediate Rex2 o) w
rex2_number o w itself info read a v value old whole field =
    let facts = rex2_facts o old whole in
    let f = itself.field info value field.row_of field.small field.allowed in
    carried_value (pattern.Wide Rex2 o) (made.Immediate Rex2 o) info read a v value old whole f.bytes (itself.lands read _ v value field.lands) (rex2_immediate o read a value (get_or old 1 0) (get_or old 3 0) (get_or old 4 0) (get_or old 5 0) (get_or old 6 0) (get_or old 7 0) facts.wide facts.slot field.numbers f.back)

bare_number : KeepsShape pattern.Mov made.MovImmediate ways.Unsigned32
bare_number info read a v value old whole field =
    carried_value pattern.Mov made.MovImmediate info read a v value old whole (four_bytes info value (unsigned_32 info field.row_of)) field.lands (bare_immediate read a value (get_or old 1 0) (get_or old 2 0) (get_or old 3 0) (get_or old 4 0) (get_or old 5 0) (mov_slot old whole) field.numbers (low_bits value))

-- ---- distances

rex_lea : KeepsShape (pattern.Wide Rex operation.Mov) made.Lea ways.Pc32
rex_lea info read a v value old whole field =
    let facts = rex_facts operation.Mov old whole in
    let f = plain_signed info _ value (pc32 info field.row_of) field.small field.allowed in
    carried (pattern.Wide Rex operation.Mov) made.Lea info read a v value (word 4 value) old whole f.bytes (lea_rex read a v value (get_or old 0 0) (get_or old 2 0) (get_or old 3 0) (get_or old 4 0) (get_or old 5 0) (get_or old 6 0) facts.wide facts.slot field.numbers f.back (lands_at v (a + 3) (a + 7) value field.operand field.lands (omega arith)))

rex2_lea : KeepsShape (pattern.Wide Rex2 operation.Mov) made.Lea ways.Pc32
rex2_lea info read a v value old whole field =
    let facts = rex2_facts operation.Mov old whole in
    let f = plain_signed info _ value (pc32 info field.row_of) field.small field.allowed in
    carried (pattern.Wide Rex2 operation.Mov) made.Lea info read a v value (word 4 value) old whole f.bytes (lea_rex2 read a v value (get_or old 1 0) (get_or old 3 0) (get_or old 4 0) (get_or old 5 0) (get_or old 6 0) (get_or old 7 0) facts.wide facts.slot field.numbers f.back (lands_at v (a + 4) (a + 8) value field.operand field.lands (omega arith)))

bare_lea : KeepsShape pattern.Mov made.Lea ways.Pc32
bare_lea info read a v value old whole field =
    let f = plain_signed info _ value (pc32 info field.row_of) field.small field.allowed in
    carried pattern.Mov made.Lea info read a v value (word 4 value) old whole f.bytes (lea_bare read a v value (get_or old 1 0) (get_or old 2 0) (get_or old 3 0) (get_or old 4 0) (get_or old 5 0) (mov_slot old whole) field.numbers f.back (lands_at v (a + 2) (a + 6) value field.operand field.lands (omega arith)))

call : KeepsShape pattern.Call made.DirectCall ways.Pc32
call info read a v value old whole field =
    let f = plain_signed info _ value (pc32 info field.row_of) field.small field.allowed in
    carried pattern.Call made.DirectCall info read a v value (word 4 value) old whole f.bytes (call_direct read a v value (get_or old 2 0) (get_or old 3 0) (get_or old 4 0) (get_or old 5 0) field.numbers f.back (lands_at v (a + 2) (a + 6) value field.operand field.lands (omega arith)))

jump : KeepsShape pattern.Jump made.DirectJump ways.Pc32
jump info read a v value old whole field =
    let f = plain_signed info _ value (pc32 info field.row_of) field.small field.allowed in
    carried pattern.Jump made.DirectJump info read a v value (word 4 value) old whole f.bytes (jump_direct read a v value (get_or old 2 0) (get_or old 3 0) (get_or old 4 0) (get_or old 5 0) field.numbers f.back (lands_at v (a + 1) (a + 5) value field.operand field.lands (omega arith)))

-- ---- sequences

general_number : (form : GeneralForm) → KeepsShape (pattern.General form) (exec_for form) ways.TpOff32
general_number general.Regular info read a v value old whole field =
    let f = offset_itself.field info value field.row_of field.small field.allowed in
    carried_value (pattern.General general.Regular) made.LocalExec info read a v value old whole f.bytes field.lands (to_number general.Regular read a value old field.numbers f.back)
general_number general.NoPlt info read a v value old whole field =
    let f = offset_itself.field info value field.row_of field.small field.allowed in
    carried_value (pattern.General general.NoPlt) made.LocalExec info read a v value old whole f.bytes field.lands (to_number general.NoPlt read a value old field.numbers f.back)
general_number general.Large info read a v value old whole field =
    let f = offset_itself.field info value field.row_of field.small field.allowed in
    carried_value (pattern.General general.Large) made.LocalExecLarge info read a v value old whole f.bytes field.lands (to_number general.Large read a value old field.numbers f.back)

general_slot : KeepsShape (pattern.General general.Regular) made.InitialExec ways.GotTpOff
general_slot info read a v value old whole field =
    let f = plain_signed info _ value (gottpoff info field.row_of) field.small field.allowed in
    carried (pattern.General general.Regular) made.InitialExec info read a v value (word 4 value) old whole f.bytes (to_slot_regular read a v value old f.back (slot_at read v (a + 12) (a + 16) value field.lands (omega arith)))

general_slot_no_plt : KeepsShape (pattern.General general.NoPlt) made.InitialExec ways.GotTpOff
general_slot_no_plt info read a v value old whole field =
    let f = plain_signed info _ value (gottpoff info field.row_of) field.small field.allowed in
    carried (pattern.General general.NoPlt) made.InitialExec info read a v value (word 4 value) old whole f.bytes (to_slot_no_plt read a v value old f.back (slot_at read v (a + 12) (a + 16) value field.lands (omega arith)))

local_pointer : (form : LocalForm) → KeepsShape (pattern.Local form) (made.ThreadPointer form) ways.Nothing
local_pointer form info read a v value old whole field =
    carried (pattern.Local form) (made.ThreadPointer form) info read a 0 value [] old whole (no_bytes info value (nothing info field.row_of)) (to_pointer form read a old field.numbers) ∙ ap (λ (x : ℕ). demand_x86_64 x a old) (sym field.lands)

-- ---- descriptors

rex_described : KeepsShape (pattern.Lea Rex) (made.Immediate Rex operation.Mov) ways.TpOff32
rex_described info read a v value old whole field =
    let facts = lea_facts old whole in
    let f = offset_itself.field info value field.row_of field.small field.allowed in
    carried_value (pattern.Lea Rex) (made.Immediate Rex operation.Mov) info read a v value old whole f.bytes field.lands (rex_descriptor read a value (get_or old 0 0) (get_or old 2 0) (get_or old 3 0) (get_or old 4 0) (get_or old 5 0) (get_or old 6 0) facts.wide facts.slot field.numbers f.back)

rex2_described : KeepsShape (pattern.Lea Rex2) (made.Immediate Rex2 operation.Mov) ways.TpOff32
rex2_described info read a v value old whole field =
    let facts = lea2_facts old whole in
    let f = offset_itself.field info value field.row_of field.small field.allowed in
    carried_value (pattern.Lea Rex2) (made.Immediate Rex2 operation.Mov) info read a v value old whole f.bytes field.lands (rex2_descriptor read a value (get_or old 1 0) (get_or old 3 0) (get_or old 4 0) (get_or old 5 0) (get_or old 6 0) (get_or old 7 0) facts.wide facts.slot field.numbers f.back)

rex_described_slot : KeepsShape (pattern.Lea Rex) made.Load ways.GotTpOff
rex_described_slot info read a v value old whole field =
    let facts = lea_facts old whole in
    let f = plain_signed info _ value (gottpoff info field.row_of) field.small field.allowed in
    carried (pattern.Lea Rex) made.Load info read a v value (word 4 value) old whole f.bytes (rex_descriptor_slot read a v value (get_or old 0 0) (get_or old 2 0) (get_or old 3 0) (get_or old 4 0) (get_or old 5 0) (get_or old 6 0) facts.wide facts.slot f.back (slot_at read v (a + 3) (a + 7) value field.lands (omega arith)))

rex2_described_slot : KeepsShape (pattern.Lea Rex2) made.Load ways.GotTpOff
rex2_described_slot info read a v value old whole field =
    let facts = lea2_facts old whole in
    let f = plain_signed info _ value (gottpoff info field.row_of) field.small field.allowed in
    carried (pattern.Lea Rex2) made.Load info read a v value (word 4 value) old whole f.bytes (rex2_descriptor_slot read a v value (get_or old 1 0) (get_or old 3 0) (get_or old 4 0) (get_or old 5 0) (get_or old 6 0) (get_or old 7 0) facts.wide facts.slot f.back (slot_at read v (a + 4) (a + 8) value field.lands (omega arith)))

nop_stands : (read : Reader) (a : ℕ) (old : List ℕ) → ReadsNumbers read → effect_x86_64 read a (placed pattern.DescriptorCall made.Nop [] (filled (pattern_cells pattern.DescriptorCall) 0 old)) ≡ Some no_effect
unfolding meaning_x86_64 place
nop_stands read a old numbers = rw (numbers 0) refl

left_out : KeepsShape pattern.DescriptorCall made.Nop ways.Nothing
left_out info read a v value old whole field =
    carried pattern.DescriptorCall made.Nop info read a v value [] old whole (no_bytes info value (nothing info field.row_of)) (nop_stands read a old field.numbers)

-- ---- the table

-- that a shape keeps the effect, of those that do
abbrev keeps_by : (p : Pattern) (m : Made) (w : Written) → Option (KeepsShape p m w)
keeps_by (pattern.Wide Rex operation.Mov) (made.Immediate Rex operation.Mov) ways.Signed32 = Some (rex_number operation.Mov ways.Signed32 signed_itself)
keeps_by (pattern.Wide Rex operation.Sub) (made.Immediate Rex operation.Sub) ways.Signed32 = Some (rex_number operation.Sub ways.Signed32 signed_itself)
keeps_by (pattern.Wide Rex operation.Cmp) (made.Immediate Rex operation.Cmp) ways.Signed32 = Some (rex_number operation.Cmp ways.Signed32 signed_itself)
keeps_by (pattern.Wide Rex operation.Mov) (made.Immediate Rex operation.Mov) ways.TpOff32 = Some (rex_number operation.Mov ways.TpOff32 offset_itself)
keeps_by (pattern.Wide Rex operation.Add) (made.Immediate Rex operation.Add) ways.TpOff32 = Some (rex_number operation.Add ways.TpOff32 offset_itself)
keeps_by (pattern.Wide Rex2 operation.Mov) (made.Immediate Rex2 operation.Mov) ways.Signed32 = Some (rex2_number operation.Mov ways.Signed32 signed_itself)
keeps_by (pattern.Wide Rex2 operation.Sub) (made.Immediate Rex2 operation.Sub) ways.Signed32 = Some (rex2_number operation.Sub ways.Signed32 signed_itself)
keeps_by (pattern.Wide Rex2 operation.Cmp) (made.Immediate Rex2 operation.Cmp) ways.Signed32 = Some (rex2_number operation.Cmp ways.Signed32 signed_itself)
keeps_by (pattern.Wide Rex2 operation.Mov) (made.Immediate Rex2 operation.Mov) ways.TpOff32 = Some (rex2_number operation.Mov ways.TpOff32 offset_itself)
keeps_by (pattern.Wide Rex2 operation.Add) (made.Immediate Rex2 operation.Add) ways.TpOff32 = Some (rex2_number operation.Add ways.TpOff32 offset_itself)
keeps_by (pattern.Wide Rex operation.Mov) made.Lea ways.Pc32 = Some rex_lea
keeps_by (pattern.Wide Rex2 operation.Mov) made.Lea ways.Pc32 = Some rex2_lea
keeps_by pattern.Mov made.Lea ways.Pc32 = Some bare_lea
keeps_by pattern.Mov made.MovImmediate ways.Unsigned32 = Some bare_number
keeps_by pattern.Call made.DirectCall ways.Pc32 = Some call
keeps_by pattern.Jump made.DirectJump ways.Pc32 = Some jump
keeps_by (pattern.General general.Regular) made.LocalExec ways.TpOff32 = Some (general_number general.Regular)
keeps_by (pattern.General general.NoPlt) made.LocalExec ways.TpOff32 = Some (general_number general.NoPlt)
keeps_by (pattern.General general.Large) made.LocalExecLarge ways.TpOff32 = Some (general_number general.Large)
keeps_by (pattern.General general.Regular) made.InitialExec ways.GotTpOff = Some general_slot
keeps_by (pattern.General general.NoPlt) made.InitialExec ways.GotTpOff = Some general_slot_no_plt
keeps_by (pattern.Local local.Regular) (made.ThreadPointer local.Regular) ways.Nothing = Some (local_pointer local.Regular)
keeps_by (pattern.Local local.Large) (made.ThreadPointer local.Large) ways.Nothing = Some (local_pointer local.Large)
keeps_by (pattern.Local local.NoPlt) (made.ThreadPointer local.NoPlt) ways.Nothing = Some (local_pointer local.NoPlt)
keeps_by (pattern.Lea Rex) (made.Immediate Rex operation.Mov) ways.TpOff32 = Some rex_described
keeps_by (pattern.Lea Rex2) (made.Immediate Rex2 operation.Mov) ways.TpOff32 = Some rex2_described
keeps_by (pattern.Lea Rex) made.Load ways.GotTpOff = Some rex_described_slot
keeps_by (pattern.Lea Rex2) made.Load ways.GotTpOff = Some rex2_described_slot
keeps_by pattern.DescriptorCall made.Nop ways.Nothing = Some left_out
keeps_by p m w = None

abbrev is_kept : Row → Bool
is_kept row = keeps_bytes row || is_some (keeps_by (pattern_of row) row.made row.written)

-- each row that changes bytes is of such a shape
each_is_kept : list_all is_kept rows_x86_64 ≡ true
unfolding rows_x86_64
each_is_kept = refl

kept_by : {X : Type 0} (o : Option X) → is_some o ≡ true → X
kept_by None h = cc
kept_by (Some x) h = x

pub rows_keep : RowsKeep
rows_keep row info read a v value old changing whole field =
    kept_by (keeps_by (pattern_of row) row.made row.written) (or_other (keeps_bytes row) _ (listed_passes is_kept rows_x86_64 row each_is_kept changing.listed) changing.changes)
    info read a v value old whole field
