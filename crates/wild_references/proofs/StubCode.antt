-- A stub in memory: its bytes jump to the word of its slot.
use Rattle.wild_references.proofs.Common.{◌≡◌, ℕ, ◌+◌, ◌-◌, ◌/◌, ◌%◌, ◌^◌, ◌<◌, ◌≤◌, inl, inr, Bool, true, false, List, [], ◌∷◌, ◌++◌, Option, Some, refl, sym, ap, ◌∙◌, arith, subst, ⊤, ◌&&◌, nat_le, nat_lt, option_and_then, slice_get, cases_Bool, and_parts, eqb-true, ltb-true, leb-true, holds_at, word, place, contains, Signed, page, Memory, Holds, World, byte_below, HasWord, Word, action_of, JumpsBy, word_below, Machine, Symbol, Layout, got_of, processor_of, MovesByPages}
use Rattle.wild_reloc.specs.Range.{of_bits}
use Rattle.wild_reloc.specs.declared.instruction.AArch64Instruction.TheVariants.{Adr, Imm12}
use Rattle.wild_relax.specs.Laws.{StubsJump}
use Rattle.wild_relax.specs.LawsAArch64.{StubsOfAArch64Jump}
use Rattle.wild_relax.proofs.FieldsAArch64Lemmas.{fields_agree}
use Rattle.wild_aarch64.specs.Stub as reader
use Rattle.wild_aarch64.specs.Stub.{HasSlot, IsLocatedAt}
use Rattle.wild_slot.specs.Stub.{stub_x86_64, displacement_x86_64}
use Rattle.wild_slot.specs.StubAArch64 as writer
use Rattle.wild_slot.specs.StubAArch64.{stub_aarch64}
use Rattle.wild_loader.specs.declared.memory.Machine.TheVariants as machines
use Rattle.wild_loader.specs.StepLawsX86_64.{IsSigned32, StubsOfValuesAreRead, stub_bytes}
use Rattle.wild_loader.specs.StepLawsAArch64 as code
use Rattle.wild_loader.specs.Instruction.{jump_through}
use Rattle.wild_loader.specs.Reach.{JumpsTo}
use Rattle.wild_meaning.specs.Jump.{meaning_of}
use Rattle.wild_meaning.specs.Denotes.{stub_size}
use Rattle.wild_types.specs.declared.kind.Machine.TheVariants as machine
use Rattle.wild_plan_rules.specs.SlotPlaces.{is_even_slot, slot_is_even}
use Rattle.wild_slot.specs.MachineStub.{stub_of, stub_in}
use Rattle.wild_slot.proofs.StubLemmas.{length-stub_of}
use Rattle.wild_references.specs.Terms.{HasPageBases}

-- what a stub does, of either machine
pub record StubLaws : Type 0 where
  pub value : StubsOfValuesAreRead
  pub plain : code.StubsAreRead
  pub marked : code.MarkedStubsAreRead
  pub meant : StubsJump
  pub words : StubsOfAArch64Jump

-- ---- the displacement

-- a distance that the stub can tell is one that its field can have
in_field : (d : ℕ) → d < 2 ^ 64 → contains (of_bits 32 Signed) d ≡ true → IsSigned32 d
in_field d low h =
    elim (cases_Bool (nat_lt d (2 ^ 31))) [
      | inl t ↦ inl (ltb-true d (2 ^ 31) t)
      | inr f ↦ inr (leb-true (2 ^ 64 - 2 ^ 31) d (rw f at h), low)
    ]

-- ---- the stub

bytes_are : (slot stub : ℕ) → (stub_x86_64 slot stub).bytes ≡ stub_bytes (word 4 (displacement_x86_64 slot stub))
unfolding word place
bytes_are slot stub = refl

-- the slot, from the end of the jump
slot_named : (base slot stub : ℕ) → base + slot < 2 ^ 64 → (base + stub + 11 + displacement_x86_64 slot stub) % 2 ^ 64 ≡ base + slot
slot_named base slot stub low = omega (arith, low)

-- the stub at base + stub, in reach of its slot at base + slot, jumps to the word there
stub_jumps : StubsOfValuesAreRead → (m : Memory) (base slot stub x : ℕ) → m.machine ≡ machines.X86_64 → (stub_x86_64 slot stub).reaches ≡ true → Holds m (base + stub) (stub_x86_64 slot stub).bytes → HasWord m (base + slot) x → JumpsTo m (base + stub) x
stub_jumps law m base slot stub x machine reaches held there =
    let d = displacement_x86_64 slot stub in
    let named = slot_named base slot stub (word_below m (base + slot) x there) in
    let bytes = subst (λ (bs : List ℕ). Holds m (base + stub) bs) (bytes_are slot stub) held in
    record { effect = _; known = law m (base + stub) d x machine (in_field d (omega arith) reaches) bytes (subst (λ (a : ℕ). HasWord m a x) (sym named) there); jump = refl }

-- it does not wrap
stub_ends : (k : Machine) (bti : Bool) (m : Memory) (base slot stub : ℕ) → Holds m (base + stub) (stub_of k bti slot stub).bytes → base + stub + 12 ≤ 2 ^ 64
stub_ends k bti m base slot stub held =
    let n = length-stub_of k bti slot stub in
    let last = byte_below m (base + stub + 15) _ (held 15 (omega (arith, n))) in
    omega (arith, last)

pub stub_below : (l : Layout) (m : Memory) (base slot stub : ℕ) → Holds m (base + stub) (stub_in l slot stub).bytes → base + stub < 2 ^ 64
stub_below l m base slot stub held = (let ends = stub_ends l.machine l.options.bti m base slot stub held in omega (arith, ends))

-- ---- AArch64

-- the words of a stub, as they are written and as they are read
jump_is : (k : ℕ) → writer.jump_to_slot k ≡ reader.jump_to_slot k
jump_is k = rw (fields_agree Adr (k / 4096) 0x90000010, fields_agree Imm12 (k % 4096 / 8) 0xf9400211) refl

-- the slot that a stub reaches
reached_slot : (q p g : ℕ) → q ≡ page p → nat_le q g && nat_lt g (q + 2 ^ 32) ≡ true → g % 8 ≡ 0 → HasSlot p g
reached_slot q p g e h even =
    let parts = and_parts _ _ h in
    let low = leb-true _ _ parts.0 in
    let high = ltb-true _ _ parts.1 in
    record { from = subst (λ (i : ℕ). i ≤ g) e low; near = subst (λ (i : ℕ). g < i + 2 ^ 32) e high; aligned = even }

-- the stub at base + stub, in reach of its slot at base + slot, jumps to the word there, behind a landing pad too
words_jump : StubLaws → (m : Memory) (base slot stub x : ℕ) (bti : Bool) → m.machine ≡ machines.AArch64 → slot % 8 ≡ 0 → IsLocatedAt base stub slot → (stub_aarch64 slot stub bti).reaches ≡ true → Holds m (base + stub) (stub_aarch64 slot stub bti).bytes → HasWord m (base + slot) x → JumpsTo m (base + stub) x
words_jump laws m base slot stub x false machine even at reaches held there =
    let k = slot - page stub in
    let bytes = subst (λ (ws : List ℕ). Holds m (base + stub) (writer.spelled (ws ++ (0xd503201f ∷ [])))) (jump_is k) held in
    record { effect = _; known = laws.plain m base stub slot x machine (reached_slot (page stub) stub slot refl reaches even) at bytes there; jump = refl }
words_jump laws m base slot stub x true machine even at reaches held there =
    let code = at.code in
    let next : (stub + 4) % 2 ^ 64 ≡ stub + 4 = omega arith in
    let start : page ((stub + 4) % 2 ^ 64) ≡ page (stub + 4) = ap page next in
    let k = slot - page ((stub + 4) % 2 ^ 64) in
    let bytes = subst (λ (ws : List ℕ). Holds m (base + stub) (writer.spelled (0xd503245f ∷ ws))) (jump_is k ∙ ap (λ (i : ℕ). reader.jump_to_slot (slot - i)) start) held in
    record { effect = _; known = laws.marked m base stub slot x machine (reached_slot (page ((stub + 4) % 2 ^ 64)) (stub + 4) slot start reaches even) at bytes there; jump = refl }

-- ---- either machine

-- what an AArch64 output rests on besides
pub paged_on : (l : Layout) (w : World) → MovesByPages l.machine l w → l.machine ≡ machine.AArch64 → HasPageBases l w
paged_on l w h on = subst (λ (k : Machine). MovesByPages k l w) on h

-- where the slot of a symbol with a stub stands, as its machine asks
abbrev pub HasPlaces : Machine → (base slot : ℕ) → Type 0
HasPlaces machine.X86_64 base slot = ⊤
HasPlaces machine.AArch64 base slot = (base % 4096 ≡ 0) × (slot % 8 ≡ 0)

-- of the symbol that has the slot
pub has_places : (l : Layout) (w : World) (i slot : ℕ) (s : Symbol) → MovesByPages l.machine l w → slice_get l.symbols i ≡ Some s → got_of s ≡ Some slot → HasPlaces l.machine w.base slot
has_places l w i slot s h listed got = by_machine l.machine h
  where
    even : slot_is_even s ≡ true → slot % 8 ≡ 0
    even t = eqb-true _ _ (subst (λ (o : Option ℕ). is_even_slot o ≡ true) got t)

    by_machine : (k : Machine) → MovesByPages k l w → HasPlaces k w.base slot
    by_machine machine.X86_64 h = tt
    by_machine machine.AArch64 h = (h.pages, even (holds_at (λ (x : Symbol). slot_is_even x ≡ true) l.symbols i s listed h.even))

stub_goes : StubLaws → (l : Layout) (m : Memory) (base slot stub x : ℕ) → HasPlaces l.machine base slot → m.machine ≡ processor_of l.machine → (stub_in l slot stub).reaches ≡ true → Holds m (base + stub) (stub_in l slot stub).bytes → HasWord m (base + slot) x → JumpsTo m (base + stub) x
stub_goes laws l m base slot stub x places loaded reaches held there = by_machine l.machine places loaded reaches held
  where
    by_machine : (k : Machine) → HasPlaces k base slot → m.machine ≡ processor_of k → (stub_of k l.options.bti slot stub).reaches ≡ true → Holds m (base + stub) (stub_of k l.options.bti slot stub).bytes → JumpsTo m (base + stub) x
    by_machine machine.X86_64 places loaded reaches held = stub_jumps laws.value m base slot stub x loaded reaches held there
    by_machine machine.AArch64 places loaded reaches held =
        words_jump laws m base slot stub x l.options.bti loaded places.1 (record { pages = places.0; code = stub_ends machine.AArch64 l.options.bti m base slot stub held; top = word_below m (base + slot) x there }) reaches held there

-- what its bytes mean
stub_means : StubLaws → (k : Machine) (bti : Bool) (m : Memory) (base slot stub x : ℕ) → HasPlaces k base slot → (stub_of k bti slot stub).reaches ≡ true → Holds m (base + stub) (stub_of k bti slot stub).bytes → HasWord m (base + slot) x → meaning_of k (base + stub) (stub_of k bti slot stub).bytes ≡ Some (jump_through ((base + slot) % 2 ^ 64))
stub_means laws machine.X86_64 bti m base slot stub x places reaches held there =
    let top = word_below m (base + slot) x there in
    let ends = stub_ends machine.X86_64 bti m base slot stub held in
    laws.meant base slot stub (omega (arith, top)) (omega (arith, ends)) reaches
stub_means laws machine.AArch64 bti m base slot stub x places reaches held there =
    let top = word_below m (base + slot) x there in
    let same : base + slot ≡ (base + slot) % 2 ^ 64 = omega (arith, top) in
    let meant = laws.words base slot stub bti reaches places.1 (record { pages = places.0; code = stub_ends machine.AArch64 bti m base slot stub held; top = top }) in
    ap (λ o. option_and_then action_of o) meant ∙ ap (λ (a : ℕ). Some (jump_through a)) same

-- the stub is code that jumps by the slot
pub stub_code : StubLaws → (l : Layout) (m : Memory) (base slot stub x : ℕ) → HasPlaces l.machine base slot → m.machine ≡ processor_of l.machine → (stub_in l slot stub).reaches ≡ true → Holds m (base + stub) (stub_in l slot stub).bytes → HasWord m (base + slot) x → JumpsBy l m (base + stub) stub_size (Word ((base + slot) % 2 ^ 64)) x
stub_code laws l m base slot stub x places loaded reaches held there = record {
  bytes = (stub_in l slot stub).bytes;
  whole = length-stub_of l.machine l.options.bti slot stub;
  held = held;
  means = stub_means laws l.machine l.options.bti m base slot stub x places reaches held there;
  jumps = stub_goes laws l m base slot stub x places loaded reaches held there;
}
