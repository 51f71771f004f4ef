-- On x86-64: the call or the jump through a slot that a reference fills, and that its code goes to what comes to the symbol.
use Rattle.wild_laws.proofs.Common.{◌≡◌, ℕ, zero, suc, ◌+◌, ◌-◌, ◌%◌, ◌^◌, ◌<◌, ◌≤◌, ◌⊎◌, inl, inr, true, false, List, [], ◌∷◌, ◌++◌, length, get_or, slice_range, refl, sym, ap, ◌∙◌, arith, subst, eq-eqb, Some, Contains, slice_index, not, ◌&&◌, ◌==◌, and_parts, eqb-true, eqb-false, length-range, listed_passes, Machine, InputRelocation, Layout, Memory, World, Cell, Is, Deed, Call, Jump, matches_cells, meaning_x86_64, Instruction, size_of, IsOwnByte, instructions_of, Item, place_at, InNoField, demand_of, reads, IsInstruction, IsTemplate, DoesDemanded, ReferenceHolds, bit_code, IsThreadCall}
use Rattle.std.proofs.lemmas.Bool.{not-true}
use Rattle.wild_words.proofs.Basics.{range_byte}
use Rattle.wild_types.specs.declared.kind.Machine.TheVariants as machine
use Rattle.wild_loader.specs.Instruction.{exact_cells, field, as_value}
use Rattle.wild_loader.specs.InstructionX86_64.{effect_x86_64}
use Rattle.wild_meaning.specs.Sequence.{TargetInSlot}
use Rattle.wild_meaning.specs.Template.{HasOriginAddend}
use Rattle.wild_laws.specs.FirstTypes.{slot_types, IsSlotBranch}
use Rattle.wild_laws.specs.FirstPath.{SlotBranchReaches}
use Rattle.wild_laws.proofs.FirstNames.{target_reached}
use Rattle.wild_laws.proofs.SequencesX86_64.{is_thread, is_slot, through, IsThrough, is_through}
use Rattle.wild_laws.proofs.CodeX86_64.{IsAlone, single_of, no_sequence}
use Rattle.wild_laws.proofs.Readers.{does_so}

-- ---- bytes

six : (P : List ℕ → Type 0) → ((a b c d e f : ℕ) → P (a ∷ b ∷ c ∷ d ∷ e ∷ f ∷ [])) → (bs : List ℕ) → length bs ≡ 6 → P bs
six P h [] n = absurd (omega (arith, n))
six P h (a ∷ []) n = absurd (omega (arith, n))
six P h (a ∷ b ∷ []) n = absurd (omega (arith, n))
six P h (a ∷ b ∷ c ∷ []) n = absurd (omega (arith, n))
six P h (a ∷ b ∷ c ∷ d ∷ []) n = absurd (omega (arith, n))
six P h (a ∷ b ∷ c ∷ d ∷ e ∷ []) n = absurd (omega (arith, n))
six P h (a ∷ b ∷ c ∷ d ∷ e ∷ f ∷ []) n = h a b c d e f
six P h (a ∷ b ∷ c ∷ d ∷ e ∷ f ∷ g ∷ bs) n = absurd (omega (arith, n))

stands_from : (opcode : ℕ) (bs : List ℕ) → length bs ≡ 6 → get_or bs 0 0 ≡ 0xff → get_or bs 1 0 ≡ opcode → matches_cells (exact_cells (0xff ∷ opcode ∷ []) ++ field) bs ≡ true
stands_from opcode bs n h i = six
    (λ (xs : List ℕ). get_or xs 0 0 ≡ 0xff → get_or xs 1 0 ≡ opcode → matches_cells (exact_cells (0xff ∷ opcode ∷ []) ++ field) xs ≡ true)
    (λ a b c d e f first second.
    let t : (a == 0xff) ≡ true = eq-eqb a 0xff first in
    let u : (b == opcode) ≡ true = eq-eqb b opcode second in
    rw t (rw u refl))
    bs n h i

-- the second byte of such code
second_byte : (opcode : ℕ) (cs : List Cell) (bs : List ℕ) → matches_cells (Is 0xff ∷ Is opcode ∷ cs) bs ≡ true → get_or bs 1 0 ≡ opcode
second_byte opcode cs [] h = cc
second_byte opcode cs (a ∷ []) h = (let both = (and_parts (a == 0xff) false h).1 in cc)
second_byte opcode cs (a ∷ b ∷ bs) h =
    let rest = and_parts (a == 0xff) (b == opcode && matches_cells cs bs) h in
    eqb-true b opcode (and_parts (b == opcode) (matches_cells cs bs) rest.1).0

-- ---- the input's code

alone_of : (l : Layout) (s : Item) (r : InputRelocation) (k opcode : ℕ) → (IsThreadCall l s r → ⊥) → IsSlotBranch l s r k opcode → IsAlone l s r
alone_of l s r k opcode free branch = record {
  asks = not-true (is_thread r.number) (listed_passes (λ (n : ℕ). not (is_thread n)) slot_types r.number refl branch.number);
  free = free;
}

-- the reference's instruction is a call or a jump through a slot
which_of : (l : Layout) (s : Item) (r : InputRelocation) (k opcode start : ℕ) (o : Instruction) → l.machine ≡ machine.X86_64 → IsSlotBranch l s r k opcode → o.partners ≡ [] → IsInstruction l s r start o → IsThrough o
which_of l s r k opcode start o x branch single t =
    is_through o r.number (slice_range s.bytes start (start + size_of o)) (subst (λ (m : Machine). Contains (instructions_of m) o) x t.known) single t.number
    (listed_passes is_slot slot_types r.number refl branch.number)
    t.stands
    (λ low high.
    let here = branch.behind in
    let there = t.field in
    let at : start + (o.field - 2) ≡ k = omega (arith, low, here, there) in
    range_byte s.bytes start (size_of o) (o.field - 2) (omega (arith, low, high)) ∙ ap (λ (j : ℕ). slice_index s.bytes j) at ∙ branch.first)

-- it begins where the opcode does, and has that opcode
at_start : (l : Layout) (s : Item) (r : InputRelocation) (k opcode start other : ℕ) (deed : Deed) → IsSlotBranch l s r k opcode → IsInstruction l s r start (through other deed) → (start ≡ k) × (other ≡ opcode)
at_start l s r k opcode start other deed branch t =
    let here = branch.behind in
    let there = t.field in
    let at : start ≡ k = omega (arith, here, there) in
    let byte = second_byte other field (slice_range s.bytes start (start + 6)) t.stands in
    (at, sym byte ∙ range_byte s.bytes start 6 1 (omega arith) ∙ ap (λ (j : ℕ). slice_index s.bytes (j + 1)) at ∙ branch.second)

old_length : (l : Layout) (s : Item) (r : InputRelocation) (k opcode : ℕ) → IsSlotBranch l s r k opcode → length (slice_range s.bytes k (k + 6)) ≡ 6
old_length l s r k opcode branch = let behind = branch.behind in let inside = branch.inside in length-range s.bytes k 6 (omega (arith, behind, inside))

old_first : (l : Layout) (s : Item) (r : InputRelocation) (k opcode : ℕ) → IsSlotBranch l s r k opcode → get_or (slice_range s.bytes k (k + 6)) 0 0 ≡ 0xff
old_first l s r k opcode branch = let z : k + 0 ≡ k = omega arith in range_byte s.bytes k 6 0 (omega arith) ∙ ap (λ (j : ℕ). slice_index s.bytes j) z ∙ branch.first

old_second : (l : Layout) (s : Item) (r : InputRelocation) (k opcode : ℕ) → IsSlotBranch l s r k opcode → get_or (slice_range s.bytes k (k + 6)) 1 0 ≡ opcode
old_second l s r k opcode branch = range_byte s.bytes k 6 1 (omega arith) ∙ branch.second

own_byte : (l : Layout) (s : Item) (k opcode j : ℕ) (deed : Deed) → InNoField l s k → InNoField l s (k + 1) → IsOwnByte (through opcode deed) j → InNoField l s (k + j)
own_byte l s k opcode j deed first second own = by_side j own.beside own.inside
  where
    by_side : (j : ℕ) → (j < 2) ⊎ (6 ≤ j) → j < 6 → InNoField l s (k + j)
    by_side zero a b = (let z : k ≡ k + 0 = omega arith in subst (λ (n : ℕ). InNoField l s n) z first)
    by_side (suc zero) a b = second
    by_side (suc (suc j)) (inl a) b = absurd (omega (arith, a))
    by_side (suc (suc j)) (inr a) b = absurd (omega (arith, a, b))

slot_instruction : (l : Layout) (s : Item) (r : InputRelocation) (k opcode : ℕ) (deed : Deed) → Contains (instructions_of machine.X86_64) (through opcode deed) → l.machine ≡ machine.X86_64 → IsSlotBranch l s r k opcode → IsInstruction l s r k (through opcode deed)
slot_instruction l s r k opcode deed known x branch =
    let behind = branch.behind in
    let ends = branch.inside in
    record {
      code = bit_code s.flags branch.code;
      known = subst (λ (m : Machine). Contains (instructions_of m) (through opcode deed)) (sym x) known;
      number = branch.number;
      field = behind;
      inside = omega (arith, behind, ends);
      stands = stands_from opcode (slice_range s.bytes k (k + 6)) (old_length l s r k opcode branch) (old_first l s r k opcode branch) (old_second l s r k opcode branch);
      words = refl;
      counts = subst (λ (m : Machine). HasOriginAddend m TargetInSlot r) (sym x) branch.addend;
      alone = λ j own. own_byte l s k opcode j deed branch.free branch.free_too own;
    }

short : (o : Instruction) → IsThrough o → size_of o ≤ 6
short o (inl e) = subst (λ (p : Instruction). size_of p ≤ 6) (sym e) (omega arith)
short o (inr e) = subst (λ (p : Instruction). size_of p ≤ 6) (sym e) (omega arith)

slot_template : (l : Layout) (s : Item) (r : InputRelocation) (k opcode : ℕ) (deed : Deed) → Contains (instructions_of machine.X86_64) (through opcode deed) → l.machine ≡ machine.X86_64 → (IsThreadCall l s r → ⊥) → IsSlotBranch l s r k opcode → IsTemplate l s r k (through opcode deed) r
slot_template l s r k opcode deed known x free branch = inl (
  record {
    single = refl;
    stands = slot_instruction l s r k opcode deed known x branch;
    longest = λ from p none t. short p (which_of l s r k opcode from p x branch none t);
    free = λ a rest from p q c. no_sequence l s a r rest from p x free q c;
  },
  refl,
)

-- ---- the code in memory

-- an opcode that does that, whatever its operand reads as
abbrev DoesDeed : ℕ → Deed → Type 0
DoesDeed opcode deed = (a v : ℕ) (bs : List ℕ) → length bs ≡ 6 → get_or bs 0 0 ≡ 0xff → get_or bs 1 0 ≡ opcode → effect_x86_64 (as_value v) a bs ≡ Some (record { deed = deed; width = 64; value = v % 2 ^ 64 })

call_bytes : (a v c d e f : ℕ) → effect_x86_64 (as_value v) a (0xff ∷ 0x15 ∷ c ∷ d ∷ e ∷ f ∷ []) ≡ Some (record { deed = Call; width = 64; value = v % 2 ^ 64 })
unfolding meaning_x86_64
call_bytes a v c d e f = refl

jump_bytes : (a v c d e f : ℕ) → effect_x86_64 (as_value v) a (0xff ∷ 0x25 ∷ c ∷ d ∷ e ∷ f ∷ []) ≡ Some (record { deed = Jump; width = 64; value = v % 2 ^ 64 })
unfolding meaning_x86_64
jump_bytes a v c d e f = refl

does : (opcode : ℕ) (deed : Deed) → ((a v c d e f : ℕ) → effect_x86_64 (as_value v) a (0xff ∷ opcode ∷ c ∷ d ∷ e ∷ f ∷ []) ≡ Some (record { deed = deed; width = 64; value = v % 2 ^ 64 })) → DoesDeed opcode deed
does opcode deed each = λ a v bs n h i. six
    (λ (xs : List ℕ). get_or xs 0 0 ≡ 0xff → get_or xs 1 0 ≡ opcode → effect_x86_64 (as_value v) a xs ≡ Some (record { deed = deed; width = 64; value = v % 2 ^ 64 }))
    (λ x y c d e f first second.
    subst (λ (p : ℕ). effect_x86_64 (as_value v) a (p ∷ y ∷ c ∷ d ∷ e ∷ f ∷ []) ≡ Some (record { deed = deed; width = 64; value = v % 2 ^ 64 })) (sym first)
    (subst (λ (q : ℕ). effect_x86_64 (as_value v) a (0xff ∷ q ∷ c ∷ d ∷ e ∷ f ∷ []) ≡ Some (record { deed = deed; width = 64; value = v % 2 ^ 64 })) (sym second) (each a v c d e f)))
    bs n h i

-- code that does what such an instruction demands goes to what comes to the symbol
goes : (l : Layout) (w : World) (m : Memory) (s : Item) (r : InputRelocation) (k opcode : ℕ) (deed : Deed) → DoesDeed opcode deed → l.machine ≡ machine.X86_64 → IsSlotBranch l s r k opcode → DoesDemanded (reads w m) l w m s r k (through opcode deed) → SlotBranchReaches l w m s r k deed
goes l w m s r k opcode deed does x branch d =
    let a = place_at w s k in
    let old : demand_of machine.X86_64 d.value a (slice_range s.bytes k (k + 6)) ≡ Some d.code.effect = subst (λ (mach : Machine). demand_of mach d.value a (slice_range s.bytes k (k + 6)) ≡ Some d.code.effect) x d.code.demanded in
    let is = does a d.value (slice_range s.bytes k (k + 6)) (old_length l s r k opcode branch) (old_first l s r k opcode branch) (old_second l s r k opcode branch) in
    record {
      target = d.value;
      comes = target_reached l w m r.symbol d.value d.demands;
      bytes = d.code.bytes;
      six = d.code.whole;
      held = d.code.held;
      goes = d.code.does ∙ sym old ∙ is;
    }

-- ---- references that hold

abbrev Does : Layout → World → Memory → Item → InputRelocation → ℕ → ℕ → Deed → Type 0
Does l w m s r k opcode deed = DoesDemanded (reads w m) l w m s r k (through opcode deed)

-- of an instruction that is that one
here : (l : Layout) (w : World) (m : Memory) (s : Item) (r one : InputRelocation) (k start opcode : ℕ) (o : Instruction) (deed : Deed) → IsSlotBranch l s r k opcode → IsInstruction l s r start o → o ≡ through opcode deed → one ≡ r → DoesDemanded (reads w m) l w m s one start o → Does l w m s r k opcode deed
here l w m s r one k start opcode o deed branch t e same d =
    let at = at_start l s r k opcode start opcode deed branch (subst (λ (p : Instruction). IsInstruction l s r start p) e t) in
    subst (λ (j : ℕ). DoesDemanded (reads w m) l w m s r j (through opcode deed)) at.0 (subst (λ (q : InputRelocation). DoesDemanded (reads w m) l w m s q start (through opcode deed)) same (subst (λ (p : Instruction). DoesDemanded (reads w m) l w m s one start p) e d))

-- and of none with the other opcode
other : (l : Layout) (s : Item) (r : InputRelocation) (k start a b : ℕ) (o : Instruction) (deed : Deed) → (b == a) ≡ false → IsSlotBranch l s r k a → IsInstruction l s r start o → o ≡ through b deed → ⊥
other l s r k start a b o deed apart branch t e = eqb-false b a apart (at_start l s r k a start b deed branch (subst (λ (p : Instruction). IsInstruction l s r start p) e t)).1

call_by : (l : Layout) (w : World) (m : Memory) (s : Item) (r one : InputRelocation) (k start : ℕ) (o : Instruction) → IsSlotBranch l s r k 0x15 → IsInstruction l s r start o → IsThrough o → one ≡ r → DoesDemanded (reads w m) l w m s one start o → Does l w m s r k 0x15 Call
call_by l w m s r one k start o branch t (inl e) same d = here l w m s r one k start 0x15 o Call branch t e same d
call_by l w m s r one k start o branch t (inr e) same d = absurd (other l s r k start 0x15 0x25 o Jump refl branch t e)

jump_by : (l : Layout) (w : World) (m : Memory) (s : Item) (r one : InputRelocation) (k start : ℕ) (o : Instruction) → IsSlotBranch l s r k 0x25 → IsInstruction l s r start o → IsThrough o → one ≡ r → DoesDemanded (reads w m) l w m s one start o → Does l w m s r k 0x25 Jump
jump_by l w m s r one k start o branch t (inl e) same d = absurd (other l s r k start 0x25 0x15 o Call refl branch t e)
jump_by l w m s r one k start o branch t (inr e) same d = here l w m s r one k start 0x25 o Jump branch t e same d

call_does_it : (l : Layout) (w : World) (m : Memory) (s : Item) (r : InputRelocation) (k : ℕ) → l.machine ≡ machine.X86_64 → (IsThreadCall l s r → ⊥) → IsSlotBranch l s r k 0x15 → ReferenceHolds l w m s r → Does l w m s r k 0x15 Call
call_does_it l w m s r k x free branch (inl p) = p.does k (through 0x15 Call) r (slot_template l s r k 0x15 Call (2, omega arith, refl) x free branch)
call_does_it l w m s r k x free branch (inr q) =
    let d = single_of l s r q.start q.instruction q.first x (alone_of l s r k 0x15 free branch) q.template in
    call_by l w m s r q.first k q.start q.instruction branch d.stands (which_of l s r k 0x15 q.start q.instruction x branch d.single d.stands) d.same (does_so l w m s q.first q.start q.instruction q.does)

jump_does_it : (l : Layout) (w : World) (m : Memory) (s : Item) (r : InputRelocation) (k : ℕ) → l.machine ≡ machine.X86_64 → (IsThreadCall l s r → ⊥) → IsSlotBranch l s r k 0x25 → ReferenceHolds l w m s r → Does l w m s r k 0x25 Jump
jump_does_it l w m s r k x free branch (inl p) = p.does k (through 0x25 Jump) r (slot_template l s r k 0x25 Jump (3, omega arith, refl) x free branch)
jump_does_it l w m s r k x free branch (inr q) =
    let d = single_of l s r q.start q.instruction q.first x (alone_of l s r k 0x25 free branch) q.template in
    jump_by l w m s r q.first k q.start q.instruction branch d.stands (which_of l s r k 0x25 q.start q.instruction x branch d.single d.stands) d.same (does_so l w m s q.first q.start q.instruction q.does)

pub slot_call_goes : (l : Layout) (w : World) (m : Memory) (s : Item) (r : InputRelocation) (k : ℕ) → l.machine ≡ machine.X86_64 → (IsThreadCall l s r → ⊥) → IsSlotBranch l s r k 0x15 → ReferenceHolds l w m s r → SlotBranchReaches l w m s r k Call
slot_call_goes l w m s r k x free branch holds = goes l w m s r k 0x15 Call (does 0x15 Call call_bytes) x branch (call_does_it l w m s r k x free branch holds)

pub slot_jump_goes : (l : Layout) (w : World) (m : Memory) (s : Item) (r : InputRelocation) (k : ℕ) → l.machine ≡ machine.X86_64 → (IsThreadCall l s r → ⊥) → IsSlotBranch l s r k 0x25 → ReferenceHolds l w m s r → SlotBranchReaches l w m s r k Jump
slot_jump_goes l w m s r k x free branch holds = goes l w m s r k 0x25 Jump (does 0x25 Jump jump_bytes) x branch (jump_does_it l w m s r k x free branch holds)
