-- What an instruction that is rewritten demands, and that the value in its field lands there: offsets from the thread pointer.
use Rattle.wild_references.proofs.Common.{◌≡◌, ℕ, ◌+◌, ◌-◌, ◌%◌, ◌^◌, ◌<◌, ◌≤◌, inl, inr, true, false, refl, sym, ap, ◌∙◌, arith, subst, ℤ, pos, Option, Some, w64, cast_unsigned, Machine, OutputKind, InputRelocation, Layout, KeepsAll, interposable, is_executable, is_static_executable, flags_at, ThreadOffset, Row, minus_four, rewrite_of, field_in, template_start, Memory, World, Word, Reader, sum_64, Item, place_at, IsSet, shf_execinstr, IsOffsetBase, HasWord, IsSlot, IsOffset, KnowsOffsets, HasOffsetMode, reads, IsOffsetSlot, word_below, IsLoadedItem}
use Rattle.wild_types.specs.declared.kind.Machine.TheVariants as machine
use Rattle.wild_types.specs.declared.kind.OutputKind.TheVariants as output
use Rattle.wild_meaning.specs.Thread.{HasOwnOffset, HasThreadOffset}
use Rattle.wild_references.proofs.RewrittenReads.{ReadsOnlySlots, reads_at, reads_there, one_slot}
use Rattle.wild_references.proofs.RewrittenPlaces.{LawsBelow, IsPlacedRow, ended}
use Rattle.wild_references.proofs.RewrittenTerms.{written_as, stands_below}
use Rattle.wild_references.proofs.RewrittenValues.{gives_offset, gives_slot}

-- ---- numbers of the machine

own_below : (l : Layout) (w : World) (k t : ℕ) → HasOwnOffset l w k t → t < 2 ^ 64
own_below l w k t (inl h) = (let e = h.sum in omega (arith, e))
own_below l w k t (inr h) = (let e = h.1 in omega (arith, e))

thread_below : (l : Layout) (w : World) (k t : ℕ) → HasThreadOffset l w k t → t < 2 ^ 64
thread_below l w k t (inl h) = (let e = h.1.sum in omega (arith, e))
thread_below l w k t (inr h) = own_below l w k t h.1

-- ---- the offset itself

-- the symbol's offset, a number of the machine
pub record IsThreadOperand (l : Layout) (w : World) (symbol : Option ℕ) (n : ℕ) : Type 0 where
  pub offset : IsOffset l w symbol n
  pub small : n < 2 ^ 64

pub offset_at : (l : Layout) (w : World) (k n : ℕ) (symbol : Option ℕ) → symbol ≡ Some k → IsOffset l w symbol n → IsThreadOperand l w symbol n
offset_at l w k n symbol e t = record { offset = t; small = thread_below l w k n (subst (λ (o : Option ℕ). IsOffset l w o n) e t) }

pub record LandsOffset (l : Layout) (w : World) (r : InputRelocation) (v : ℕ) : Type 0 where
  pub operand : ℕ
  pub is : IsThreadOperand l w r.symbol operand
  pub lands : v ≡ operand

pub lands_offset : LawsBelow → (l : Layout) (w : World) (m : Memory) (s : Item) (i : ℕ) (r : InputRelocation) (row : Row) (v : ℕ) → IsLoadedItem machine.X86_64 l w m s → KeepsAll l → (p : IsPlacedRow l s i r row v) → (rewrite_of row).number ≡ 23 → (rewrite_of row).addend r.addend ≡ pos 0 → is_executable l.kind ≡ true → interposable (flags_at l p.chosen.symbol) ≡ false → LandsOffset l w r v
lands_offset laws l w m s i r row v h all p number none program own =
    let g = gives_offset laws l w m s i r row v h all p number program own in
    let is = offset_at l w p.chosen.symbol g.0 r.symbol p.chosen.named g.1 in
    let c : cast_unsigned w64 ((rewrite_of row).addend r.addend) ≡ 0 = ap (λ (x : ℤ). cast_unsigned w64 x) none in
    let e = g.2 in
    let low = is.small in
    record { operand = g.0; is = is; lands = omega (arith, e, c, low) }

-- ---- the slot that has it

pub record LandsSlot (l : Layout) (w : World) (m : Memory) (s : Item) (r : InputRelocation) (row : Row) (v : ℕ) : Type 0 where
  pub operand : ℕ
  pub is : IsThreadOperand l w r.symbol operand
  pub lands : reads w m (Word (sum_64 (place_at w s (template_start row r) + field_in row + 4) v)) ≡ Some operand
  pub only : Reader
  pub reads : ReadsOnlySlots l w r.symbol only
  pub lands_only : only (Word (sum_64 (place_at w s (template_start row r) + field_in row + 4) v)) ≡ Some operand

-- a slot with an offset
record HasSlot (l : Layout) (w : World) (m : Memory) (symbol : Option ℕ) (g : ℕ) : Type 0 where
  offset : ℕ
  word : HasWord m g offset
  is : IsOffset l w symbol offset
  own : IsOffsetSlot l w symbol g

slot_at : (l : Layout) (w : World) (m : Memory) (g k : ℕ) (symbol : Option ℕ) → symbol ≡ Some k → IsSlot ThreadOffset l w m symbol g → HasSlot l w m symbol g
slot_at l w m g k symbol e h =
    let t = subst (λ (o : Option ℕ). IsSlot ThreadOffset l w m o g) e h in
    record { offset = t.holds.0; word = t.holds.1; is = subst (λ (o : Option ℕ). IsOffset l w o t.holds.0) (sym e) t.holds.2; own = record { index = k; named = e; slot = t.slot; given = t.given; moves = t.moves } }

slot_lands : (g c place q v : ℕ) → g < 2 ^ 64 → c ≡ 2 ^ 64 - 4 → v ≡ (g + c + (2 ^ 64 - place)) % 2 ^ 64 → place ≡ q → place ≤ 2 ^ 64 → (q + 4 + v) % 2 ^ 64 ≡ g
slot_lands g c place q v low a b e high = omega (arith, low, a, b, e, high)

pub lands_slot : LawsBelow → (l : Layout) (w : World) (m : Memory) (s : Item) (i : ℕ) (r : InputRelocation) (row : Row) (v : ℕ) → IsLoadedItem machine.X86_64 l w m s → KeepsAll l → IsPlacedRow l s i r row v → (rewrite_of row).number ≡ 22 → (rewrite_of row).addend r.addend ≡ r.addend → minus_four r.addend ≡ true → LandsSlot l w m s r row v
lands_slot laws l w m s i r row v h all p number same ends =
    let g = gives_slot laws l w m s i r row v h all p number in
    let below = stands_below l w m s i r row v h p in
    let place = below.place in
    let high = below.ends in
    let c : cast_unsigned w64 ((rewrite_of row).addend r.addend) ≡ 2 ^ 64 - 4 = ap (λ (x : ℤ). cast_unsigned w64 x) same ∙ ended r.addend ends in
    let slot = slot_at l w m g.0 p.chosen.symbol r.symbol p.chosen.named g.1 in
    let at = slot_lands g.0 (cast_unsigned w64 ((rewrite_of row).addend r.addend)) (place_at w s (written_as row r).offset) (place_at w s (template_start row r) + field_in row) v (word_below m g.0 slot.offset slot.word) c g.2 below.start (omega (arith, place, high)) in
    record { operand = slot.offset; is = offset_at l w p.chosen.symbol slot.offset r.symbol p.chosen.named slot.is; lands = subst (λ (a : ℕ). HasWord m a slot.offset) (sym at) slot.word; only = reads_at g.0 slot.offset; reads = one_slot l w r.symbol g.0 slot.offset slot.own; lands_only = subst (λ (a : ℕ). reads_at g.0 slot.offset (Word a) ≡ Some slot.offset) (sym at) (reads_there g.0 slot.offset) }

-- ---- descriptors, and the output's own data

-- where a descriptor's instructions are rewritten, references to descriptors are offsets
knows_by : (k : OutputKind) (l : Layout) → is_executable k ≡ true → (is_static_executable k ≡ false → l.options.relax ≡ true) → KnowsOffsets machine.X86_64 k l
knows_by (output.StaticExecutable any) l h e = tt
knows_by (output.DynamicExecutable any) l h e = e refl
knows_by output.SharedObject l h e = cc
knows_by output.PartialObject l h e = cc

pub offset_mode : (l : Layout) (s : Item) → l.machine ≡ machine.X86_64 → is_executable l.kind ≡ true → (is_static_executable l.kind ≡ false → l.options.relax ≡ true) → IsSet s.flags shf_execinstr → HasOffsetMode l s
offset_mode l s x86 program on code = (subst (λ (k : Machine). KnowsOffsets k l.kind l) (sym x86) (knows_by l.kind l program on), code)

base_by : (m : Machine) (k : OutputKind) (w : World) → m ≡ machine.X86_64 → is_executable k ≡ true → IsOffsetBase m k w 0
base_by machine.X86_64 (output.StaticExecutable any) w e h = refl
base_by machine.X86_64 (output.DynamicExecutable any) w e h = refl
base_by machine.X86_64 output.SharedObject w e h = cc
base_by machine.X86_64 output.PartialObject w e h = cc
base_by machine.AArch64 k w e h = cc

pub own_base : (l : Layout) (w : World) → l.machine ≡ machine.X86_64 → is_executable l.kind ≡ true → IsOffsetBase l.machine l.kind w 0
own_base l w e h = base_by l.machine l.kind w e h
