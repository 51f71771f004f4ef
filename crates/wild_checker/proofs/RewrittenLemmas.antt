-- A reference whose rewritten instruction is accepted holds: the code in memory has the effect that the input's instruction requires.
use Rattle.wild_checker.proofs.Common.{◌≡◌, ℕ, zero, suc, ◌+◌, ◌-◌, ◌/◌, ◌%◌, ◌^◌, ◌<◌, ◌≤◌, ◌⊎◌, ◌&&◌, ◌||◌, inl, inr, Bool, true, false, List, [], ◌∷◌, length, take, get_or, nat_le, refl, sym, ap, ◌∙◌, arith, subst, Option, Some, None, All, Contains, if◌then◌else◌, not, ◌==◌, is_some, slice_get, slice_range, option_map, option_and_then, cases_lt, eqb-true, leb-true, and_parts, or_cases, not-true, word, length-word, r_x86_64_none, RelocationKindInfo, Formula, formula, SlotDistance, Plain, Signed, x86_64_row, File, InputRelocation, InputSection, Machine, OutputKind, Layout, Symbol, Item, has_flag, canonical, row_of, field_bytes, Number, Memory, World, matches_cells, Holds, formula_of, form_width, place_at, Instruction, Partner, size_of, IsOwnByte, instructions_of, IsInstruction, IsSingle, Among, pick, own_definition, Atom, Term, Symbolic, term_at, number_term, value_of, Follows, RowsHaveFormulas, Cursor, file_for, Loaded, first_shape, begins_none, rewritten_start, first_cursor, is_settled, stub_term, is_at_stub, loaded_term, thread_term, may_be_zero}
use Rattle.std.proofs.lemmas.Bool.{cases_Bool, cases_eq}
use Rattle.std.specs.List.{list_all}
use Rattle.wild_words.proofs.Basics.{All-each, listed_passes}
use Rattle.wild_words.proofs.WordLemmas.{take-word}
use Rattle.wild_records.specs.Abi.Relocation.{r_x86_64_tlsgd, r_x86_64_tlsld}
use Rattle.wild_records.specs.Abi.Section.{shf_execinstr}
use Rattle.wild_aarch64.specs.Effect.{words_of}
use Rattle.wild_reloc.specs.Formula.{NoValue, NoField}
use Rattle.wild_reloc.specs.FormulaX86_64.{x86_64_formula}
use Rattle.wild_reloc.specs.FormulaAArch64.{aarch64_formula}
use Rattle.wild_types.specs.declared.kind.Machine.TheVariants as machine
use Rattle.wild_types.specs.declared.kind.OutputKind.TheVariants as output
use Rattle.wild_types.specs.Flags.{ifunc_got_for_address}
use Rattle.wild_types.specs.Rows.{row_width}
use Rattle.wild_loader.specs.declared.instruction.Action.{Action}
use Rattle.wild_loader.specs.declared.instruction.Cell.{Cell}
use Rattle.wild_loader.specs.declared.instruction.Deed.{Deed}
use Rattle.wild_loader.specs.declared.instruction.Operand.{Operand}
use Rattle.wild_loader.specs.Instruction.{Effect, effect, as_value, with_value}
use Rattle.wild_loader.specs.InstructionX86_64.{meaning_x86_64, effect_x86_64, demand_x86_64}
use Rattle.wild_meaning.specs.Field.{InNoField}
use Rattle.wild_meaning.specs.Formula.{IsTarget, IsOffset, KnowsOffsets}
use Rattle.wild_meaning.specs.Jump.{meaning_of}
use Rattle.wild_meaning.specs.Reference.{HoldsRewritten, ReadsOffsetSlots}
use Rattle.wild_meaning.specs.Section.{IsSet}
use Rattle.wild_meaning.specs.Sequence.{Sort, TargetInSlot, AddressInSlot, OffsetInSlot, Described, Target, SymbolPair, OwnPair, DescribedCall, Address, FieldBits}
use Rattle.wild_meaning.specs.Slot.{IsInAddressSlot}
use Rattle.wild_meaning.specs.Template.{HasOriginAddend, IsSequence, IsSlotAddress, Demands, IsDemanded, DoesDemanded, reads_without_calls, effect_of, demand_of, old_bytes}
use Rattle.wild_meaning.specs.Thread.{HasThreadOffset}
use Rattle.wild_meaning.specs.Denotes.{Denotes}
use Rattle.wild_meaning.proofs.OneReference.{no_words}
use Rattle.wild_meaning.proofs.PairLemmas.{as_its_call, are_several}
use Rattle.wild_terms.specs.declared.term.Atom.TheVariants.{Zero, Base, Address as AddressOf, Module, Offset, ThreadOffset, Size, OwnModule, OwnDistance, Resolver}
use Rattle.wild_checker.specs.References.{addend_of, knows_offsets, holds_by_row, reference_holds}
use Rattle.wild_checker.specs.Rewritten.{Shape, shapes, shape_before, code_action, bytes_by, code_bytes, same_deed, operand_term, is_low, is_stub_in_slot, is_offset, is_required_by, is_required, is_operand, same_actions, same_effect, is_rewrite, is_for_x86_64, is_in_code, is_rewritten, start_by}
use Rattle.wild_checker.proofs.CodeLemmas.{IsMoved, HasNumber, moved_code, number_at_place, low_bits, deed_is}
use Rattle.wild_checker.proofs.PlacedSections.{Laws, IsItem, IsChecked, item_for}
use Rattle.wild_checker.proofs.ShapeLemmas.{IsInSlot, IsFound, found_shape, EndsThere, longest}
use Rattle.wild_checker.proofs.SlotLemmas.{CodeLaws, stub_is, stub_address, at_stub}
use Rattle.wild_checker.proofs.ThreadLemmas.{thread_is, zero_is}
use Rattle.wild_checker.proofs.ValueLemmas.{Known, loaded_value}
use Rattle.wild_checker.proofs.WalkLemmas.{cursor_at, settled_at, in_order, reached, last_is}

some_is : {X : Type 0} (x y : X) → (let o : Option X = Some x in o) ≡ Some y → x ≡ y
some_is x y h = cc

-- ---- what is found of a relocation

pub record InCode (k : Loaded) (s : InputSection) (c : Cursor) (r : InputRelocation) : Type 0 where
  pub on : k.layout.machine ≡ machine.X86_64
  pub code : s.flags / shf_execinstr % 2 ≡ 1
  pub free : begins_none c.last ≡ true
  pub ends : (addend_of r + 4) % 2 ^ 64 ≡ 0
  pub inside : r.offset + 4 ≤ length s.bytes

on_x86_64 : (m : Machine) → is_for_x86_64 m ≡ true → m ≡ machine.X86_64
on_x86_64 machine.X86_64 h = refl
on_x86_64 machine.AArch64 h = cc

in_code : (k : Loaded) (s : InputSection) (c : Cursor) (r : InputRelocation) → is_in_code k s c r ≡ true → InCode k s c r
in_code k s c r h =
    let one = and_parts (is_for_x86_64 k.layout.machine) _ h in
    let two = and_parts (s.flags / shf_execinstr % 2 == 1) _ one.1 in
    let three = and_parts (begins_none c.last) _ two.1 in
    let four = and_parts ((addend_of r + 4) % 2 ^ 64 == 0) _ three.1 in
    let five = and_parts (nat_le (r.offset + 4) (length s.bytes)) _ four.1 in
    record { on = on_x86_64 k.layout.machine one.0; code = eqb-true (s.flags / shf_execinstr % 2) 1 two.0; free = three.0; ends = eqb-true ((addend_of r + 4) % 2 ^ 64) 0 four.0; inside = leb-true (r.offset + 4) (length s.bytes) five.0 }

pub record IsRewritten (k : Loaded) (f : File) (s : InputSection) (c : Cursor) (r : InputRelocation) (start : ℕ) : Type 0 where
  pub code : InCode k s c r
  pub shape : Shape
  pub first : first_shape r.number s.bytes (r.offset + 4) shapes ≡ Some shape
  pub found : IsFound shape r.number s.bytes (r.offset + 4)
  pub fits : length shape.cells ≤ r.offset + 4
  pub begin : start ≡ r.offset + 4 - length shape.cells
  pub clear : c.clear ≤ start
  pub effect : is_rewrite k f s r shape start ≡ true

pub rewritten : (k : Loaded) (f : File) (s : InputSection) (c : Cursor) (r : InputRelocation) (start : ℕ) → rewritten_start k f s c r ≡ Some start → IsRewritten k f s c r start
unfolding rewritten_start
rewritten k f s c r start h = by_code (is_in_code k s c r) refl h
  where
    end : ℕ
    end = r.offset + 4

    by_test : InCode k s c r → (t : Shape) → first_shape r.number s.bytes end shapes ≡ Some t → (b : Bool) → is_rewritten k f s c r t end ≡ b → (if b then Some (end - length t.cells) else None) ≡ Some start → IsRewritten k f s c r start
    by_test code t e false is h = cc
    by_test code t e true is h =
        let one = and_parts (nat_le (length t.cells) end) _ is in
        let two = and_parts (nat_le c.clear (end - length t.cells)) (is_rewrite k f s r t (end - length t.cells)) one.1 in
        let begin = some_is (end - length t.cells) start h in
        record {
          code = code;
          shape = t;
          first = e;
          found = found_shape r.number s.bytes end t e;
          fits = leb-true (length t.cells) end one.0;
          begin = sym begin;
          clear = subst (λ (n : ℕ). c.clear ≤ n) begin (leb-true c.clear (end - length t.cells) two.0);
          effect = subst (λ (n : ℕ). is_rewrite k f s r t n ≡ true) begin two.1;
        }

    by_shape : InCode k s c r → (o : Option Shape) → first_shape r.number s.bytes end shapes ≡ o → start_by k f s c r end o ≡ Some start → IsRewritten k f s c r start
    by_shape code None e h = cc
    by_shape code (Some t) e h = by_test code t e (is_rewritten k f s c r t end) refl h

    by_code : (b : Bool) → is_in_code k s c r ≡ b → (if b then start_by k f s c r end (shape_before r.number s.bytes end) else None) ≡ Some start → IsRewritten k f s c r start
    by_code false e h = cc
    by_code true e h = by_shape (in_code k s c r e) (first_shape r.number s.bytes end shapes) refl h

-- the size of the instruction, from its start to the end of its field
pub size_is : (k : Loaded) (f : File) (s : InputSection) (c : Cursor) (r : InputRelocation) (start : ℕ) → (h : IsRewritten k f s c r start) → start + length h.shape.cells ≡ r.offset + 4
size_is k f s c r start h = let fits = h.fits in let begin = h.begin in omega (arith, fits, begin)

pub field_is : (k : Loaded) (f : File) (s : InputSection) (c : Cursor) (r : InputRelocation) (start : ℕ) → (h : IsRewritten k f s c r start) → r.offset ≡ start + h.found.shaped.instruction.field
field_is k f s c r start h = let size = size_is k f s c r start h in let long = h.found.shaped.size in omega (arith, size, long)

pub number_is : (k : Loaded) (f : File) (s : InputSection) (c : Cursor) (r : InputRelocation) (start : ℕ) → (h : IsRewritten k f s c r start) → h.shape.number ≡ r.number
number_is k f s c r start h = eqb-true h.shape.number r.number (and_parts (h.shape.number == r.number) _ h.found.ends).0

-- the field has four bytes
pub room_is : (k : Loaded) (f : File) (s : InputSection) (c : Cursor) (r : InputRelocation) (start : ℕ) → IsRewritten k f s c r start → field_bytes k.layout.machine r.number ≡ 4
room_is k f s c r start h =
    let on = h.code.on in
    subst (λ (m : Machine). field_bytes m r.number ≡ 4) (sym on) (subst (λ (n : ℕ). field_bytes machine.X86_64 n ≡ 4) (number_is k f s c r start h) h.found.shaped.room)

-- the formula is the distance of a slot
pub formula_is : (k : Loaded) (f : File) (s : InputSection) (c : Cursor) (r : InputRelocation) (start : ℕ) → (h : IsRewritten k f s c r start) → formula_of k.layout.machine r.number ≡ Some (formula (SlotDistance h.found.shaped.slot) (Plain 32 Signed))
formula_is k f s c r start h =
    let on = h.code.on in
    subst (λ (m : Machine). formula_of m r.number ≡ Some (formula (SlotDistance h.found.shaped.slot) (Plain 32 Signed))) (sym on)
    (subst (λ (n : ℕ). x86_64_formula n ≡ Some (formula (SlotDistance h.found.shaped.slot) (Plain 32 Signed))) (number_is k f s c r start h) h.found.shaped.value)

-- ---- the fields of all relocations of the section

row_there : (k : Loaded) (f : File) (s : InputSection) (r : InputRelocation) → reference_holds k f s r ≡ true → (row : RelocationKindInfo) × (row_of k.layout.machine r.number ≡ Some row)
unfolding reference_holds
row_there k f s r h = by (row_of k.layout.machine r.number) refl h
  where
    by : (o : Option RelocationKindInfo) → row_of k.layout.machine r.number ≡ o → holds_by_row k (file_for k f r.symbol) s r o ≡ true → (row : RelocationKindInfo) × (row_of k.layout.machine r.number ≡ Some row)
    by None e h = cc
    by (Some row) e h = (row, e)

no_field : (m : Machine) (g : Formula) → formula_of m r_x86_64_none ≡ Some g → form_width g.form ≡ 0
unfolding x86_64_formula aarch64_formula
no_field machine.X86_64 g h = let same : formula NoValue NoField ≡ g = some_is (formula NoValue NoField) g h in ap (λ (x : Formula). form_width x.form) (sym same)
no_field machine.AArch64 g h = let same : formula NoValue NoField ≡ g = some_is (formula NoValue NoField) g h in ap (λ (x : Formula). form_width x.form) (sym same)

is_there : {X : Type 0} (o : Option X) → is_some o ≡ true → (x : X) × (o ≡ Some x)
is_there None h = cc
is_there (Some x) h = (x, refl)

-- the field of a formula is that of the row, if the relocation is settled
pub width_is : RowsHaveFormulas → (k : Loaded) (f : File) (s : InputSection) (c : Cursor) (q : InputRelocation) → is_settled k f s c q ≡ true → (g : Formula) → formula_of k.layout.machine q.number ≡ Some g → form_width g.form ≤ field_bytes k.layout.machine q.number
width_is rows k f s c q settled g known =
    elim (or_cases (q.number == r_x86_64_none) (is_some (rewritten_start k f s c q) || reference_holds k f s q) settled) [
      | inl nothing ↦ (let none = no_field k.layout.machine g (subst (λ (n : ℕ). formula_of k.layout.machine n ≡ Some g) (eqb-true q.number r_x86_64_none nothing) known) in omega (arith, none))
      | inr other ↦ elim (or_cases (is_some (rewritten_start k f s c q)) (reference_holds k f s q) other) [
        | inl code ↦
            (let there = is_there (rewritten_start k f s c q) code in
            let h = rewritten k f s c q there.0 there.1 in
            let same : formula (SlotDistance h.found.shaped.slot) (Plain 32 Signed) ≡ g = some_is (formula (SlotDistance h.found.shaped.slot) (Plain 32 Signed)) g (sym (formula_is k f s c q there.0 h) ∙ known) in
            let width : 4 ≡ form_width g.form = ap (λ (x : Formula). form_width x.form) same in
            let room = room_is k f s c q there.0 h in
            omega (arith, width, room))
        | inr holds ↦
            (let row = row_there k f s q holds in
            let t = rows k.layout.machine q.number row.0 row.1 in
            let same : t.formula ≡ g = some_is t.formula g (sym t.known ∙ known) in
            let width : form_width g.form ≡ field_bytes k.layout.machine q.number = ap (λ (x : Formula). form_width x.form) (sym same) ∙ t.width ∙ ap row_width (sym row.1) in
            omega (arith, width))
      ]
    ]

-- ---- the judge's instruction

at_index : {X : Type 0} (xs : List X) (x : X) (j : ℕ) → j < length xs → get_or xs j x ≡ x → slice_get xs j ≡ Some x
at_index [] x j lt e = absurd (omega (arith, lt))
at_index (y ∷ ys) x zero lt e = ap Some e
at_index (y ∷ ys) x (suc j) lt e = at_index ys x j (omega (arith, lt)) e

pub position_of : {X : Type 0} (xs : List X) (x : X) → Contains xs x → (j : ℕ) × (slice_get xs j ≡ Some x)
position_of xs x c = (c.0, at_index xs x c.0 c.1 c.2)

counts : (m : Machine) (sort : Sort) (r : InputRelocation) → m ≡ machine.X86_64 → IsInSlot sort → (addend_of r + 4) % 2 ^ 64 ≡ 0 → HasOriginAddend m sort r
counts m sort r on uses h = subst (λ (x : Machine). HasOriginAddend x sort r) (sym on) (by sort uses)
  where
    by : (t : Sort) → IsInSlot t → HasOriginAddend machine.X86_64 t r
    by TargetInSlot u = h
    by AddressInSlot u = h
    by OffsetInSlot u = h
    by Described u = h
    by other u = absurd u

each_words : (ws : List ℕ) → list_all (λ (o : Instruction). o.words ws) (instructions_of machine.X86_64) ≡ true
each_words ws = refl

own_before : (o : Instruction) (j n : ℕ) → IsOwnByte o j → o.width ≡ 4 → n ≡ o.field + 4 → size_of o ≡ n → j < o.field
own_before o j n own wide size same =
    let inside = own.inside in
    elim own.beside [
      | inl low ↦ low
      | inr high ↦ absurd (omega (arith, high, inside, wide, size, same))
    ]

pub stands : (k : Loaded) (f : File) (w : World) (m : Memory) (item : Item) (s : InputSection) → Laws → IsItem k f w m item s → IsChecked k f s → (i : ℕ) (r : InputRelocation) (start : ℕ) → slice_get s.relocations i ≡ Some r → (h : IsRewritten k f s (cursor_at k.layout.machine first_cursor s.relocations i) r start) → IsInstruction k.layout item r start h.found.shaped.instruction
stands k f w m item s laws n checked i r start there h = record {
  code = subst (λ (x : ℕ). IsSet x shf_execinstr) (sym n.flags) h.code.code;
  known = subst (λ (x : Machine). Contains (instructions_of x) o) (sym h.code.on) known;
  number = subst (λ (x : ℕ). Contains o.numbers x) same_number h.found.shaped.number;
  field = field;
  inside = subst (λ (bs : List ℕ). start + size_of o ≤ length bs) (sym n.bytes) (omega (arith, whole, inside));
  stands = subst (λ (bs : List ℕ). matches_cells o.template.cells (slice_range bs start (start + size_of o)) ≡ true) (sym n.bytes) matched;
  words = listed_passes (λ (x : Instruction). x.words (words_of (slice_range item.bytes start (start + size_of o)))) (instructions_of machine.X86_64) o (each_words (words_of (slice_range item.bytes start (start + size_of o)))) known;
  counts = subst (λ (t : Sort). HasOriginAddend k.layout.machine t r) (sym h.found.shaped.sort) (counts k.layout.machine h.shape.sort r h.code.on h.found.shaped.uses h.code.ends);
  alone = alone;
}
  where
    o : Instruction
    o = h.found.shaped.instruction

    c : Cursor
    c = cursor_at k.layout.machine first_cursor s.relocations i

    known : Contains (instructions_of machine.X86_64) o
    known = h.found.shaped.known

    same_number : h.shape.number ≡ r.number
    same_number = number_is k f s c r start h

    field : r.offset ≡ start + o.field
    field = field_is k f s c r start h

    long : size_of o ≡ length h.shape.cells
    long = ap length h.found.shaped.cells

    whole : start + size_of o ≡ r.offset + 4
    whole = let size = size_is k f s c r start h in let same = long in omega (arith, size, same)

    inside : r.offset + 4 ≤ length s.bytes
    inside = h.code.inside

    matched : matches_cells o.template.cells (slice_range s.bytes start (start + size_of o)) ≡ true
    matched =
        let both = and_parts (h.shape.number == r.number) (nat_le (length h.shape.cells) (r.offset + 4) && matches_cells h.shape.cells (slice_range s.bytes (r.offset + 4 - length h.shape.cells) (r.offset + 4))) h.found.ends in
        let part = and_parts (nat_le (length h.shape.cells) (r.offset + 4)) (matches_cells h.shape.cells (slice_range s.bytes (r.offset + 4 - length h.shape.cells) (r.offset + 4))) both.1 in
        let begun : matches_cells h.shape.cells (slice_range s.bytes start (r.offset + 4)) ≡ true = subst (λ (x : ℕ). matches_cells h.shape.cells (slice_range s.bytes x (r.offset + 4)) ≡ true) (sym h.begin) part.1 in
        let ended : matches_cells h.shape.cells (slice_range s.bytes start (start + size_of o)) ≡ true = subst (λ (x : ℕ). matches_cells h.shape.cells (slice_range s.bytes start x) ≡ true) (sym whole) begun in
        subst (λ (cs : List Cell). matches_cells cs (slice_range s.bytes start (start + size_of o)) ≡ true) (sym h.found.shaped.cells) ended

    before_field : (j : ℕ) → IsOwnByte o j → start + j < r.offset
    before_field j own =
        let low = own_before o j (length h.shape.cells) own h.found.shaped.wide h.found.shaped.size long in
        let place = field in
        omega (arith, low, place)

    room : field_bytes k.layout.machine r.number ≡ 4
    room = room_is k f s c r start h

    apart : (j : ℕ) → IsOwnByte o j → (q : InputRelocation) → Contains s.relocations q → (g : Formula) → formula_of k.layout.machine q.number ≡ Some g → (start + j < q.offset) ⊎ (q.offset + form_width g.form ≤ start + j)
    apart j own q listed g has =
        let at = position_of s.relocations q listed in
        let low = before_field j own in
        elim (cases_lt at.0 i) [
          | inl before ↦
              (let end = reached k.layout.machine first_cursor s.relocations at.0 i q before at.1 in
              let settled = settled_at k f s first_cursor 0 s.relocations at.0 q checked.references at.1 in
              let narrow = width_is laws.rows k f s (cursor_at k.layout.machine first_cursor s.relocations at.0) q settled g has in
              let clear = h.clear in
              inr (ended q.offset (form_width g.form) (field_bytes k.layout.machine q.number) _ c.clear start j narrow end clear))
          | inr from ↦ elim (cases_lt i at.0) [
            | inl after ↦ (let next = in_order k.layout.machine 0 s.relocations i at.0 r q checked.order after there at.1 in inl (omega (arith, low, next)))
            | inr until ↦
                (let here : at.0 ≡ i = omega (arith, from, until) in
                let same : r ≡ q = some_is r q (sym there ∙ subst (λ (x : ℕ). slice_get s.relocations x ≡ Some q) here at.1) in
                inl (subst (λ (x : InputRelocation). start + j < x.offset) same low))
          ]
        ]
      where
        ended : (a width bytes after clear start j : ℕ) → width ≤ bytes → a + bytes + after ≤ clear → clear ≤ start → a + width ≤ start + j
        ended a width bytes after clear start j x y z = omega (arith, x, y, z)

    alone : (j : ℕ) → IsOwnByte o j → InNoField k.layout item (start + j)
    alone j own =
        let P : List InputRelocation → Type 0 = λ rs. All (λ (q : InputRelocation). (g : Formula) → formula_of k.layout.machine q.number ≡ Some g → (start + j < q.offset) ⊎ (q.offset + form_width g.form ≤ start + j)) rs in
        subst P (sym n.relocations) (All-each (λ (q : InputRelocation). (g : Formula) → formula_of k.layout.machine q.number ≡ Some g → (start + j < q.offset) ⊎ (q.offset + form_width g.form ≤ start + j)) s.relocations (apart j own))

-- ---- no sequence has the relocation as a further one

begins_all : Among (λ (o : Instruction). are_several o.partners) (λ (o : Instruction). list_all (λ (x : ℕ). not (begins_none x)) o.numbers ≡ true) (instructions_of machine.X86_64)
begins_all = (refl, (refl, (refl, (refl, (refl, (refl, tt))))))

-- the first relocation of a sequence begins one
pub begins : (o : Instruction) (n : ℕ) (p : Partner) → Contains (instructions_of machine.X86_64) o → o.partners ≡ p ∷ [] → Contains o.numbers n → begins_none n ≡ false
begins o n p known calls number =
    let several : are_several o.partners ≡ true = rw calls refl in
    let all = pick (λ (o : Instruction). are_several o.partners) (λ (o : Instruction). list_all (λ (x : ℕ). not (begins_none x)) o.numbers ≡ true) (instructions_of machine.X86_64) begins_all o known several in
    not-true (begins_none n) (listed_passes (λ (x : ℕ). not (begins_none x)) o.numbers n all number)

general : field_bytes machine.X86_64 r_x86_64_tlsgd ≡ 4
unfolding row_of x86_64_row
general = refl

local : field_bytes machine.X86_64 r_x86_64_tlsld ≡ 4
unfolding row_of x86_64_row
local = refl

-- and has a field
pub begins_wide : (n : ℕ) → begins_none n ≡ false → field_bytes machine.X86_64 n ≡ 4
begins_wide n h =
    elim (cases_Bool (n == r_x86_64_tlsgd)) [
      | inl t ↦ subst (λ (x : ℕ). field_bytes machine.X86_64 x ≡ 4) (sym (eqb-true n r_x86_64_tlsgd t)) general
      | inr f ↦ elim (cases_Bool (n == r_x86_64_tlsld)) [
        | inl t ↦ subst (λ (x : ℕ). field_bytes machine.X86_64 x ≡ 4) (sym (eqb-true n r_x86_64_tlsld t)) local
        | inr g ↦ absurd (let yes : begins_none n ≡ true = rw (f, g) refl in let both : true ≡ false = sym yes ∙ h in cc)
      ]
    ]

wide_is : (n : ℕ) → n ≡ 4 → (n == 0) ≡ false
wide_is n e = rw e refl

-- relocation i follows one that begins a sequence, so its instruction is not looked at alone
pub not_after_first : (k : Loaded) (f : File) (s : InputSection) (j : ℕ) (first r : InputRelocation) (start : ℕ) → k.layout.machine ≡ machine.X86_64 → slice_get s.relocations j ≡ Some first → begins_none first.number ≡ false → IsRewritten k f s (cursor_at k.layout.machine first_cursor s.relocations (j + 1)) r start → ⊥
not_after_first k f s j first r start on listed begin h =
    let four : field_bytes k.layout.machine first.number ≡ 4 = subst (λ (m : Machine). field_bytes m first.number ≡ 4) (sym on) (begins_wide first.number begin) in
    let last = last_is k.layout.machine first_cursor s.relocations j first listed (wide_is (field_bytes k.layout.machine first.number) four) in
    let both : true ≡ false = sym h.code.free ∙ ap begins_none last ∙ begin in
    cc

pub no_sequence : (k : Loaded) (f : File) (w : World) (m : Memory) (item : Item) (s : InputSection) → IsItem k f w m item s → IsChecked k f s → (i : ℕ) (r : InputRelocation) (start : ℕ) → slice_get s.relocations i ≡ Some r → IsRewritten k f s (cursor_at k.layout.machine first_cursor s.relocations i) r start → (first : InputRelocation) (rest : List InputRelocation) (from : ℕ) (p : Instruction) → IsSequence k.layout item first rest from p → Contains rest r → ⊥
no_sequence k f w m item s n checked i r start there h first rest from p q c =
    let on = h.code.on in
    let call = as_its_call k.layout item first r rest from p on q c in
    let j = call.has.index in
    let listed = subst (λ (rs : List InputRelocation). slice_get rs j ≡ Some first) n.relocations call.has.listed in
    let next = subst (λ (rs : List InputRelocation). slice_get rs (j + 1) ≡ Some r) n.relocations call.has.next in
    let known = subst (λ (x : Machine). Contains (instructions_of x) p) on call.stands.known in
    let begin = begins p first.number call.partner known call.calls call.stands.number in
    let room = room_is k f s (cursor_at k.layout.machine first_cursor s.relocations i) r start h in
    elim (cases_eq (j + 1) i) [
      | inl same ↦ not_after_first k f s j first r start on listed begin (subst (λ (x : ℕ). IsRewritten k f s (cursor_at k.layout.machine first_cursor s.relocations x) r start) (sym same) h)
      | inr other ↦ elim (cases_lt (j + 1) i) [
        | inl before ↦ absurd (let next-one = in_order k.layout.machine 0 s.relocations (j + 1) i r r checked.order before next there in omega (arith, next-one, room))
        | inr from ↦ (let after : i < j + 1 = later (j + 1) i other from in absurd (let next-one = in_order k.layout.machine 0 s.relocations i (j + 1) r r checked.order after there next in omega (arith, next-one, room)))
      ]
    ]
  where
    later : (a b : ℕ) → (a ≡ b → ⊥) → b ≤ a → b < a
    later a b apart le =
        elim (cases_lt b a) [
          | inl lt ↦ lt
          | inr ge ↦ absurd (apart (omega (arith, le, ge)))
        ]

pub single : (k : Loaded) (f : File) (w : World) (m : Memory) (item : Item) (s : InputSection) → Laws → IsItem k f w m item s → IsChecked k f s → (i : ℕ) (r : InputRelocation) (start : ℕ) → slice_get s.relocations i ≡ Some r → (h : IsRewritten k f s (cursor_at k.layout.machine first_cursor s.relocations i) r start) → IsSingle k.layout item r start h.found.shaped.instruction
single k f w m item s laws n checked i r start there h = record {
  single = h.found.shaped.single;
  stands = stands k f w m item s laws n checked i r start there h;
  longest = least;
  free = no_sequence k f w m item s n checked i r start there h;
}
  where
    least : (from : ℕ) (p : Instruction) → p.partners ≡ [] → IsInstruction k.layout item r from p → size_of p ≤ size_of h.found.shaped.instruction
    least from p alone t =
        let place = t.field in
        let ends : EndsThere p r.number s.bytes (r.offset + 4) from = record {
          known = subst (λ (x : Machine). Contains (instructions_of x) p) h.code.on t.known;
          single = alone;
          number = t.number;
          place = omega (arith, place);
          matches = subst (λ (bs : List ℕ). matches_cells p.template.cells (slice_range bs from (from + size_of p)) ≡ true) n.bytes t.stands;
        } in
        let low = longest r.number s.bytes (r.offset + 4) h.shape p from h.first ends in
        let same : size_of h.found.shaped.instruction ≡ length h.shape.cells = ap length h.found.shaped.cells in
        omega (arith, low, same)

-- ---- what is required

-- a term whose value the operand has to have
record IsRequired (k : Loaded) (w : World) (m : Memory) (item : Item) (r : InputRelocation) (sort : Sort) (width : ℕ) (x : Term) : Type 0 where
  term : Term
  low : is_low width x (Some term) ≡ true
  demands : Demands sort k.layout w m item r (value_of w term)
  demanded : (v a : ℕ) (old : List ℕ) (e : Effect) → demand_of k.layout.machine v a old ≡ Some e → IsDemanded sort k.layout item v a old e

-- a term that has the operand's low bits in every world
low_term : (width : ℕ) (x : Term) (o : Option Term) → is_low width x o ≡ true → (y : Term) × (o ≡ Some y) × (is_low width x (Some y) ≡ true)
low_term width x None h = cc
low_term width x (Some y) h = (y, refl, h)

-- the stub's address in a slot
stub_in_slot : (k : Loaded) (f : File) (w : World) (m : Memory) (i : ℕ) (d : Symbol) (t : Term) → CodeLaws k w → Known k f w → Follows w k.memory m → slice_get k.layout.symbols (canonical k.layout i) ≡ Some d → is_stub_in_slot k f i d ≡ true → stub_term k f i ≡ Some t → IsInAddressSlot k.layout w m i (value_of w t)
stub_in_slot k f w m i d t laws n follows there h is =
    let s = stub_is k f w m i t laws n follows is in
    elim (or_cases (is_at_stub k f i d) (has_flag d.flags ifunc_got_for_address) h) [
      | inl e ↦ inl (stub_address k f w m i (value_of w t) (at_stub k f w i d n there e) s)
      | inr e ↦ inr (record { definition = canonical k.layout i; defined = own_definition k.layout i d there; symbol = d; listed = there; flagged = e }, s.stub)
    ]

-- the offset of a symbol
record HasOffsetTerm (k : Loaded) (w : World) (i width : ℕ) (x : Term) : Type 0 where
  term : Term
  low : is_low width x (Some term) ≡ true
  has : HasThreadOffset k.layout w i (value_of w term)

offset_of : (k : Loaded) (f : File) (w : World) (i : ℕ) (d : Symbol) (width : ℕ) (x : Term) → Known k f w → slice_get k.layout.symbols (canonical k.layout i) ≡ Some d → is_offset k f i d width x ≡ true → HasOffsetTerm k w i width x
offset_of k f w i d width x n there h =
    elim (or_cases (is_low width x (thread_term k f i d)) (may_be_zero k f i d && is_low width x (Some (number_term 0))) h) [
      | inl a ↦ (let y = low_term width x (thread_term k f i d) a in record { term = y.0; low = y.2; has = thread_is k f w i d y.0 n there y.1 })
      | inr a ↦ (let both = and_parts (may_be_zero k f i d) (is_low width x (Some (number_term 0))) a in record { term = number_term 0; low = both.1; has = zero_is k f w i d n there both.0 })
    ]

-- the program's code holds offsets in place of descriptors
knows_by : (m : Machine) (kind : OutputKind) (l : Layout) → knows_offsets m kind l.options.relax ≡ true → KnowsOffsets m kind l
knows_by machine.X86_64 (output.StaticExecutable any) l h = tt
knows_by machine.X86_64 (output.DynamicExecutable any) l h = h
knows_by machine.X86_64 output.SharedObject l h = cc
knows_by machine.X86_64 output.PartialObject l h = cc
knows_by machine.AArch64 kind l h = cc

required_by : (k : Loaded) (f : File) (w : World) (m : Memory) (item : Item) (s : InputSection) (r : InputRelocation) (i : ℕ) (d : Symbol) (sort : Sort) (width : ℕ) (x : Term) → Laws → IsItem k f w m item s → IsSet item.flags shf_execinstr → r.symbol ≡ Some i → slice_get k.layout.symbols (canonical k.layout i) ≡ Some d → is_required_by k f sort i width x (Some d) ≡ true → IsRequired k w m item r sort width x
required_by k f w m item s r i d TargetInSlot width x laws n code named there h =
    elim (or_cases (is_low width x (loaded_term k f i d)) (is_low width x (stub_term k f i)) h) [
      | inl a ↦ (let y = low_term width x (loaded_term k f i d) a in record { term = y.0; low = y.2; demands = target (value_of w y.0) (inl (loaded_value k f w i d y.0 n.known there y.1)); demanded = λ v a old e d. d })
      | inr a ↦ (let y = low_term width x (stub_term k f i) a in record { term = y.0; low = y.2; demands = target (value_of w y.0) (inr (stub_is k f w m i y.0 (record { stubs = laws.stubs; pages = n.pages }) n.known n.follows y.1).stub); demanded = λ v a old e d. d })
    ]
  where
    target : (v : ℕ) → Denotes k.layout w m i v → IsTarget k.layout w m r.symbol v
    target v h = subst (λ (o : Option ℕ). IsTarget k.layout w m o v) (sym named) h
required_by k f w m item s r i d AddressInSlot width x laws n code named there h =
    elim (or_cases (is_low width x (loaded_term k f i d)) (is_stub_in_slot k f i d && is_low width x (stub_term k f i)) h) [
      | inl a ↦ (let y = low_term width x (loaded_term k f i d) a in record { term = y.0; low = y.2; demands = in_slot (value_of w y.0) (inl (inl (loaded_value k f w i d y.0 n.known there y.1))); demanded = λ v a old e d. d })
      | inr a ↦
          (let both = and_parts (is_stub_in_slot k f i d) (is_low width x (stub_term k f i)) a in
          let y = low_term width x (stub_term k f i) both.1 in
          record { term = y.0; low = y.2; demands = in_slot (value_of w y.0) (stub_in_slot k f w m i d y.0 (record { stubs = laws.stubs; pages = n.pages }) n.known n.follows there both.0 y.1); demanded = λ v a old e d. d })
    ]
  where
    in_slot : (v : ℕ) → IsInAddressSlot k.layout w m i v → IsSlotAddress k.layout w m r.symbol v
    in_slot v h = subst (λ (o : Option ℕ). IsSlotAddress k.layout w m o v) (sym named) h
required_by k f w m item s r i d OffsetInSlot width x laws n code named there h =
    let o = offset_of k f w i d width x n.known there h in
    record { term = o.term; low = o.low; demands = offset (value_of w o.term) o.has; demanded = λ v a old e d. d }
  where
    offset : (v : ℕ) → HasThreadOffset k.layout w i v → IsOffset k.layout w r.symbol v
    offset v h = subst (λ (o : Option ℕ). IsOffset k.layout w o v) (sym named) h
required_by k f w m item s r i d Described width x laws n code named there h =
    let both = and_parts (knows_offsets k.layout.machine k.layout.kind k.layout.options.relax) (is_offset k f i d width x) h in
    let o = offset_of k f w i d width x n.known there both.1 in
    record { term = o.term; low = o.low; demands = inl ((knows_by k.layout.machine k.layout.kind k.layout both.0, code), offset (value_of w o.term) o.has); demanded = λ v a old e d. d }
  where
    offset : (v : ℕ) → HasThreadOffset k.layout w i v → IsOffset k.layout w r.symbol v
    offset v h = subst (λ (o : Option ℕ). IsOffset k.layout w o v) (sym named) h
required_by k f w m item s r i d Target width x laws n code named there h = cc
required_by k f w m item s r i d SymbolPair width x laws n code named there h = cc
required_by k f w m item s r i d OwnPair width x laws n code named there h = cc
required_by k f w m item s r i d DescribedCall width x laws n code named there h = cc
required_by k f w m item s r i d Address width x laws n code named there h = cc
required_by k f w m item s r i d FieldBits width x laws n code named there h = cc

required : (k : Loaded) (f : File) (w : World) (m : Memory) (item : Item) (s : InputSection) (r : InputRelocation) (i : ℕ) (sort : Sort) (width : ℕ) (x : Term) → Laws → IsItem k f w m item s → IsSet item.flags shf_execinstr → r.symbol ≡ Some i → is_required k f sort i width x ≡ true → IsRequired k w m item r sort width x
required k f w m item s r i sort width x laws n code named h = by (slice_get k.layout.symbols (canonical k.layout i)) refl h
  where
    by : (o : Option Symbol) → slice_get k.layout.symbols (canonical k.layout i) ≡ o → is_required_by k f sort i width x o ≡ true → IsRequired k w m item r sort width x
    by None e h = cc
    by (Some d) e h = required_by k f w m item s r i d sort width x laws n code named e h

-- ---- the code in memory

-- bytes that are found are there
record IsHeld (w : World) (m : Memory) (a n : ℕ) (bs : List ℕ) : Type 0 where
  held : Holds m (w.base + a) bs
  long : length bs ≡ n

code_held : (w : World) (m : Memory) (t : Symbolic) (a n : ℕ) (bs : List ℕ) → Follows w t m → code_bytes t a n ≡ Some bs → IsHeld w m a n bs
code_held w m t a n bs follows h = by_size (nat_le n 8) refl h
  where
    by_atom : n ≤ 8 → (b : Atom) (v : ℕ) → term_at t a n ≡ Some (record { atom = b; plus = v }) → bytes_by n b v ≡ Some bs → IsHeld w m a n bs
    by_atom few Zero v e h =
        let same : word n (v % 2 ^ 64) ≡ bs = sym (take-word n 8 (v % 2 ^ 64) few) ∙ some_is (take n (word 8 (v % 2 ^ 64))) bs h in
        let held : Holds m (w.base + a) (word n ((0 + v) % 2 ^ 64)) = follows.terms a n (record { atom = Zero; plus = v }) few e in
        let value : (0 + v) % 2 ^ 64 ≡ v % 2 ^ 64 = omega arith in
        record { held = subst (λ (xs : List ℕ). Holds m (w.base + a) xs) (ap (word n) value ∙ same) held; long = ap length (sym same) ∙ length-word n (v % 2 ^ 64) }
    by_atom few Base v e h = cc
    by_atom few (AddressOf i) v e h = cc
    by_atom few (Module i) v e h = cc
    by_atom few (Offset i) v e h = cc
    by_atom few (ThreadOffset i) v e h = cc
    by_atom few (Size i) v e h = cc
    by_atom few OwnModule v e h = cc
    by_atom few OwnDistance v e h = cc
    by_atom few (Resolver i) v e h = cc

    by_term : n ≤ 8 → (o : Option Term) → term_at t a n ≡ o → option_and_then (λ (x : Term). bytes_by n x.atom x.plus) o ≡ Some bs → IsHeld w m a n bs
    by_term few None e h = cc
    by_term few (Some x) e h = by_atom few x.atom x.plus e h

    by_size : (b : Bool) → nat_le n 8 ≡ b → (if b then option_and_then (λ (x : Term). bytes_by n x.atom x.plus) (term_at t a n) else None) ≡ Some bs → IsHeld w m a n bs
    by_size false e h = cc
    by_size true e h = by_term (leb-true n 8 e) (term_at t a n) refl h

-- what is compared
record IsCompared (k : Loaded) (f : File) (r : InputRelocation) (sort : Sort) (a : ℕ) (old : List ℕ) (code : Option (List ℕ)) : Type 0 where
  symbol : ℕ
  named : r.symbol ≡ Some symbol
  new : List ℕ
  there : code ≡ Some new
  before : Action
  read : code_action a old ≡ Some before
  after : Action
  acts : code_action a new ≡ Some after
  next : Action
  moves : code_action (a + 1) new ≡ Some next
  deed : before.deed ≡ after.deed
  width : before.width ≡ after.width
  term : Term
  operand : operand_term k.outline after.operand next.operand ≡ Some term
  required : is_required k f sort symbol after.width term ≡ true

compared : (k : Loaded) (f : File) (r : InputRelocation) (sort : Sort) (a : ℕ) (old : List ℕ) (code : Option (List ℕ)) → same_effect k f sort r.symbol a old code ≡ true → IsCompared k f r sort a old code
compared k f r sort a old code h = by_symbol r.symbol refl code refl h
  where
    by_operand : (i : ℕ) → r.symbol ≡ Some i → (new : List ℕ) → code ≡ Some new → (x y z : Action) → code_action a old ≡ Some x → code_action a new ≡ Some y → code_action (a + 1) new ≡ Some z → x.deed ≡ y.deed → x.width ≡ y.width → (o : Option Term) → operand_term k.outline y.operand z.operand ≡ o → is_operand k f sort i y.width o ≡ true → IsCompared k f r sort a old code
    by_operand i named new there x y z p q t deed width None e h = cc
    by_operand i named new there x y z p q t deed width (Some v) e h = record { symbol = i; named = named; new = new; there = there; before = x; read = p; after = y; acts = q; next = z; moves = t; deed = deed; width = width; term = v; operand = e; required = h }

    by_actions : (i : ℕ) → r.symbol ≡ Some i → (new : List ℕ) → code ≡ Some new → (x y z : Option Action) → code_action a old ≡ x → code_action a new ≡ y → code_action (a + 1) new ≡ z → same_actions k f sort i x y z ≡ true → IsCompared k f r sort a old code
    by_actions i named new there None y z p q t h = cc
    by_actions i named new there (Some x) None z p q t h = cc
    by_actions i named new there (Some x) (Some y) None p q t h = cc
    by_actions i named new there (Some x) (Some y) (Some z) p q t h =
        let one = and_parts (same_deed x.deed y.deed) (x.width == y.width && is_operand k f sort i y.width (operand_term k.outline y.operand z.operand)) h in
        let two = and_parts (x.width == y.width) (is_operand k f sort i y.width (operand_term k.outline y.operand z.operand)) one.1 in
        by_operand i named new there x y z p q t (deed_is x.deed y.deed one.0) (eqb-true x.width y.width two.0) (operand_term k.outline y.operand z.operand) refl two.1

    by_symbol : (n : Option ℕ) → r.symbol ≡ n → (o : Option (List ℕ)) → code ≡ o → same_effect k f sort n a old o ≡ true → IsCompared k f r sort a old code
    by_symbol None e o g h = cc
    by_symbol (Some i) e None g h = cc
    by_symbol (Some i) e (Some new) g h = by_actions i e new g (code_action a old) (code_action a new) (code_action (a + 1) new) refl refl refl h

one_effect : (d e : Deed) (u v x y : ℕ) → d ≡ e → u ≡ v → x ≡ y → (let a : Effect = record { deed = d; width = u; value = x } in a) ≡ record { deed = e; width = v; value = y }
one_effect d e u v x y p q r = rw (p, q, r) refl

-- the effect of code whose operand is a number
acts_as : (place : ℕ) (bs : List ℕ) (act : Action) (w : World) (m : Memory) (n : ℕ) → meaning_x86_64 place bs ≡ Some act → act.operand ≡ Number n → effect_x86_64 (reads_without_calls w m) place bs ≡ Some (with_value act n)
acts_as place bs act w m n means is =
    let acts : effect_x86_64 (reads_without_calls w m) place bs ≡ option_map (with_value act) (reads_without_calls w m act.operand) = ap (option_and_then (effect (reads_without_calls w m))) means in
    acts ∙ ap (λ (o : Operand). option_map (with_value act) (reads_without_calls w m o)) is

-- the loaded code has the required effect, and reads no word
pub record IsDone (l : Layout) (w : World) (m : Memory) (item : Item) (r : InputRelocation) (start : ℕ) (o : Instruction) : Type 0 where
  pub does : DoesDemanded (reads_without_calls w m) l w m item r start o
  pub words : ReadsOffsetSlots l.machine l w m item r start o

pub done : (k : Loaded) (f : File) (w : World) (m : Memory) (item : Item) (s : InputSection) (c : Cursor) (r : InputRelocation) (start : ℕ) → Laws → IsItem k f w m item s → (h : IsRewritten k f s c r start) → IsDone k.layout w m item r start h.found.shaped.instruction
done k f w m item s c r start laws n h = record {
  does = record {
    value = value_of w need.term;
    demands = subst (λ (t : Sort). Demands t k.layout w m item r (value_of w need.term)) (sym h.found.shaped.sort) need.demands;
    code = record {
      effect = e;
      demanded = subst (λ (t : Sort). IsDemanded t k.layout item (value_of w need.term) (place_at w item start) (old_bytes item start o) e) (sym h.found.shaped.sort)
          (need.demanded (value_of w need.term) (place_at w item start) (old_bytes item start o) e (subst (λ (x : Machine). demand_of x (value_of w need.term) (place_at w item start) (old_bytes item start o) ≡ Some e) (sym on) demanded));
      bytes = p.new;
      whole = whole;
      held = held;
      does = subst (λ (x : Machine). effect_of x (reads_without_calls w m) (place_at w item start) p.new ≡ Some e) (sym on) acts;
    };
  };
  words = no_words k.layout.machine k.layout w m item r start o p.new act number.number whole held (subst (λ (x : Machine). meaning_of x (place_at w item start) p.new ≡ Some act) (sym on) means) number.operand;
}
  where
    o : Instruction
    o = h.found.shaped.instruction

    on : k.layout.machine ≡ machine.X86_64
    on = h.code.on

    a : ℕ
    a = s.address + start

    old : List ℕ
    old = slice_range s.bytes start (r.offset + 4)

    g : File
    g = file_for k f r.symbol

    p : IsCompared k g r h.shape.sort a old (code_bytes k.memory a (length h.shape.cells))
    p = compared k g r h.shape.sort a old (code_bytes k.memory a (length h.shape.cells)) h.effect

    place : w.base + a ≡ place_at w item start
    place = let address = n.address in omega (arith, address)

    there : IsHeld w m a (length h.shape.cells) p.new
    there = code_held w m k.memory a (length h.shape.cells) p.new n.follows p.there

    long : length h.shape.cells ≡ size_of o
    long = ap length (sym h.found.shaped.cells)

    whole : length p.new ≡ size_of o
    whole = there.long ∙ long

    held : Holds m (place_at w item start) p.new
    held = subst (λ (x : ℕ). Holds m x p.new) place there.held

    need : IsRequired k w m item r h.shape.sort p.after.width p.term
    need = required k g w m item s r p.symbol h.shape.sort p.after.width p.term laws (item_for k f w m item s r.symbol n) (subst (λ (x : ℕ). IsSet x shf_execinstr) (sym n.flags) h.code.code) p.named p.required

    number : HasNumber w (w.base + a) p.new p.after p.term
    number = number_at_place k.outline w a p.new p.after p.next p.term n.known.world p.acts p.moves p.operand

    act : Action
    act = number.moved.action

    means : meaning_x86_64 (place_at w item start) p.new ≡ Some act
    means = subst (λ (x : ℕ). meaning_x86_64 x p.new ≡ Some act) place number.moved.means

    e : Effect
    e = with_value act number.number

    acts : effect_x86_64 (reads_without_calls w m) (place_at w item start) p.new ≡ Some e
    acts = acts_as (place_at w item start) p.new act w m number.number means number.operand

    input : IsMoved (w.base + a) old p.before
    input = moved_code a (w.base + a) old p.before p.read

    same_old : old ≡ old_bytes item start o
    same_old =
        let size = size_is k f s c r start h in
        let size_there = long in
        let end : r.offset + 4 ≡ start + size_of o = omega (arith, size, size_there) in
        ap (slice_range s.bytes start) end ∙ ap (λ (bs : List ℕ). slice_range bs start (start + size_of o)) (sym n.bytes)

    input_means : meaning_x86_64 (place_at w item start) (old_bytes item start o) ≡ Some input.action
    input_means = subst (λ (bs : List ℕ). meaning_x86_64 (place_at w item start) bs ≡ Some input.action) same_old (subst (λ (x : ℕ). meaning_x86_64 x old ≡ Some input.action) place input.means)

    low : number.number % 2 ^ p.after.width ≡ value_of w need.term % 2 ^ p.after.width
    low = low_bits w p.after.width number.number p.term need.term number.small number.value need.low

    wide : input.action.width ≡ act.width
    wide = input.width ∙ p.width ∙ sym number.moved.width

    value : value_of w need.term % 2 ^ input.action.width ≡ number.number % 2 ^ act.width
    value =
        let first : value_of w need.term % 2 ^ input.action.width ≡ value_of w need.term % 2 ^ p.after.width = ap (λ (x : ℕ). value_of w need.term % 2 ^ x) (input.width ∙ p.width) in
        first ∙ sym low ∙ ap (λ (x : ℕ). number.number % 2 ^ x) (sym number.moved.width)

    demanded : demand_x86_64 (value_of w need.term) (place_at w item start) (old_bytes item start o) ≡ Some e
    demanded =
        let first : demand_x86_64 (value_of w need.term) (place_at w item start) (old_bytes item start o) ≡ Some (with_value input.action (value_of w need.term)) = ap (option_and_then (effect (as_value (value_of w need.term)))) input_means in
        first ∙ ap (λ (x : Effect). Some x) (one_effect input.action.deed act.deed input.action.width act.width (value_of w need.term % 2 ^ input.action.width) (number.number % 2 ^ act.width) (input.deed ∙ p.deed ∙ sym number.moved.deed) wide value)

pub holds_rewritten : (k : Loaded) (f : File) (w : World) (m : Memory) (item : Item) (s : InputSection) → Laws → IsItem k f w m item s → IsChecked k f s → (i : ℕ) (r : InputRelocation) (start : ℕ) → slice_get s.relocations i ≡ Some r → IsRewritten k f s (cursor_at k.layout.machine first_cursor s.relocations i) r start → HoldsRewritten k.layout w m item r
holds_rewritten k f w m item s laws n checked i r start there h =
    let d = done k f w m item s (cursor_at k.layout.machine first_cursor s.relocations i) r start laws n h in
    record {
      start = start;
      instruction = h.found.shaped.instruction;
      first = r;
      template = inl (single k f w m item s laws n checked i r start there h, refl);
      does = d.does;
      words = d.words;
    }
