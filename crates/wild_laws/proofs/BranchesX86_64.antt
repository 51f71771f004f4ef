-- On x86-64 a direct call or jump that a reference fills goes to what stands for the symbol.
use Rattle.wild_laws.proofs.Common.{◌≡◌, ℕ, ◌+◌, inl, inr, length, slice_range, refl, sym, ap, ◌∙◌, arith, subst, Some, slice_index, eqb-false, Machine, InputRelocation, Layout, StubDistance, Memory, World, Deed, Call, Jump, Instruction, Item, place_at, demand_of, reads, IsInstruction, DoesDemanded, ReferenceHolds, IsBranch, IsThreadCall}
use Rattle.std.specs.Int.{w64, cast_unsigned}
use Rattle.wild_types.specs.declared.kind.Machine.TheVariants as machine
use Rattle.wild_meaning.specs.Template.{field_origin, IsBranchReferent}
use Rattle.wild_meaning.proofs.SymbolLemmas.{referent_stands}
use Rattle.wild_laws.specs.FirstPath.{BranchReaches, branch_size, IsBranchedTo}
use Rattle.wild_laws.proofs.Readers.{does_so, once_more}
use Rattle.wild_laws.proofs.SequencesX86_64.{direct}
use Rattle.wild_laws.proofs.CodeX86_64.{first_byte, IsFirst, of_branch, IsCallOrJump, template_direct, is_branch, branch_template, old_length, DoesDeed, call_does, jump_does}

-- bytes are those of one instruction
same_code : (l : Layout) (s : Item) (r : InputRelocation) (k a b start : ℕ) (deed : Deed) → (a ≡ b → ⊥) → IsBranch l s r k a → IsInstruction l s r start (direct b deed) → ⊥
same_code l s r k a b start deed apart branch t =
    let other = is_branch l s r start b deed t in
    let here = branch.behind in
    let there = other.behind in
    let same : start ≡ k = omega (arith, here, there) in
    apart (sym branch.begins ∙ sym (ap (λ (j : ℕ). slice_index s.bytes j) same) ∙ other.begins)

-- a reference that holds has the code of its call or its jump do what that demands
abbrev Does : Layout → World → Memory → Item → InputRelocation → ℕ → ℕ → Deed → Type 0
Does l w m s r k opcode deed = DoesDemanded (reads w m) l w m s r k (direct opcode deed)

moved_here : (l : Layout) (w : World) (m : Memory) (s : Item) (r one : InputRelocation) (k start opcode : ℕ) (o : Instruction) (deed : Deed) → IsBranch l s r k opcode → IsInstruction l s r start (direct opcode deed) → o ≡ direct opcode deed → one ≡ r → DoesDemanded (reads w m) l w m s one start o → Does l w m s r k opcode deed
moved_here l w m s r one k start opcode o deed branch t e same d =
    let here = branch.behind in
    let there = t.field in
    let at : start ≡ k = omega (arith, here, there) in
    subst (λ (j : ℕ). DoesDemanded (reads w m) l w m s r j (direct opcode deed)) at (subst (λ (q : InputRelocation). DoesDemanded (reads w m) l w m s q start (direct opcode deed)) same (subst (λ (p : Instruction). DoesDemanded (reads w m) l w m s one start p) e d))

as_direct : (l : Layout) (s : Item) (r : InputRelocation) (start opcode : ℕ) (o : Instruction) (deed : Deed) → o ≡ direct opcode deed → IsInstruction l s r start o → IsInstruction l s r start (direct opcode deed)
as_direct l s r start opcode o deed e t = subst (λ (p : Instruction). IsInstruction l s r start p) e t

call_rewritten : (l : Layout) (w : World) (m : Memory) (s : Item) (r one : InputRelocation) (k start : ℕ) (o : Instruction) → IsBranch l s r k 0xe8 → IsInstruction l s r start o → IsCallOrJump o → one ≡ r → DoesDemanded (reads w m) l w m s one start o → Does l w m s r k 0xe8 Call
call_rewritten l w m s r one k start o branch t (inl e) same d = moved_here l w m s r one k start 0xe8 o Call branch (as_direct l s r start 0xe8 o Call e t) e same d
call_rewritten l w m s r one k start o branch t (inr e) same d = absurd (same_code l s r k 0xe8 0xe9 start Jump (eqb-false 0xe8 0xe9 refl) branch (as_direct l s r start 0xe9 o Jump e t))

jump_rewritten : (l : Layout) (w : World) (m : Memory) (s : Item) (r one : InputRelocation) (k start : ℕ) (o : Instruction) → IsBranch l s r k 0xe9 → IsInstruction l s r start o → IsCallOrJump o → one ≡ r → DoesDemanded (reads w m) l w m s one start o → Does l w m s r k 0xe9 Jump
jump_rewritten l w m s r one k start o branch t (inl e) same d = absurd (same_code l s r k 0xe9 0xe8 start Call (eqb-false 0xe9 0xe8 refl) branch (as_direct l s r start 0xe8 o Call e t))
jump_rewritten l w m s r one k start o branch t (inr e) same d = moved_here l w m s r one k start 0xe9 o Jump branch (as_direct l s r start 0xe9 o Jump e t) e same d

call_does_it : (l : Layout) (w : World) (m : Memory) (s : Item) (r : InputRelocation) (k : ℕ) → l.machine ≡ machine.X86_64 → IsFirst l s r → IsBranch l s r k 0xe8 → ReferenceHolds l w m s r → Does l w m s r k 0xe8 Call
call_does_it l w m s r k x f branch (inl p) = p.does k (direct 0xe8 Call) r (branch_template l s r k 0xe8 Call (0, omega arith, refl) x f branch)
call_does_it l w m s r k x f branch (inr q) = let d = template_direct l s r q.start q.instruction q.first x f q.template in call_rewritten l w m s r q.first k q.start q.instruction branch d.stands d.which d.same (does_so l w m s q.first q.start q.instruction q.does)

jump_does_it : (l : Layout) (w : World) (m : Memory) (s : Item) (r : InputRelocation) (k : ℕ) → l.machine ≡ machine.X86_64 → IsFirst l s r → IsBranch l s r k 0xe9 → ReferenceHolds l w m s r → Does l w m s r k 0xe9 Jump
jump_does_it l w m s r k x f branch (inl p) = p.does k (direct 0xe9 Jump) r (branch_template l s r k 0xe9 Jump (1, omega arith, refl) x f branch)
jump_does_it l w m s r k x f branch (inr q) = let d = template_direct l s r q.start q.instruction q.first x f q.template in jump_rewritten l w m s r q.first k q.start q.instruction branch d.stands d.which d.same (does_so l w m s q.first q.start q.instruction q.does)

-- what code goes to
branched_to : (l : Layout) (w : World) (m : Memory) (s : Item) (r : InputRelocation) (a : ℕ) → l.machine ≡ machine.X86_64 → IsBranchReferent l w m s r a → IsBranchedTo l.machine l w m s r a
branched_to l w m s r a x (inl h) = subst (λ (k : Machine). IsBranchedTo k l w m s r a) (sym x) (inr (h.0.takes.1, h.1))
branched_to l w m s r a x (inr h) = subst (λ (k : Machine). IsBranchedTo k l w m s r a) (sym x) (inl (referent_stands StubDistance l w m s r a x (λ t. t.0) h.1))

-- such code goes to what comes to the symbol
goes : (l : Layout) (w : World) (m : Memory) (s : Item) (r : InputRelocation) (k opcode : ℕ) (deed : Deed) → DoesDeed opcode deed → l.machine ≡ machine.X86_64 → IsBranch l s r k opcode → DoesDemanded (reads w m) l w m s r k (direct opcode deed) → BranchReaches l w m s r k deed
goes l w m s r k opcode deed does x branch d =
    let a = place_at w s k in
    let old : demand_of machine.X86_64 d.value a (slice_range s.bytes k (k + 5)) ≡ Some d.code.effect = subst (λ (mach : Machine). demand_of mach d.value a (slice_range s.bytes k (k + 5)) ≡ Some d.code.effect) x d.code.demanded in
    let is = does a d.value (slice_range s.bytes k (k + 5)) (old_length l s r k opcode branch) (first_byte s.bytes k ∙ branch.begins) in
    let value = once_more d.value (d.demands.goal + cast_unsigned w64 r.addend + field_origin l.machine) d.demands.is in
    record {
      target = d.demands.goal;
      stands = branched_to l w m s r d.demands.goal x d.demands.stands;
      bytes = d.code.bytes;
      whole = subst (λ (mach : Machine). length d.code.bytes ≡ branch_size mach) (sym x) d.code.whole;
      held = d.code.held;
      goes = d.code.does ∙ sym old ∙ is ∙ ap (λ (n : ℕ). Some (record { deed = deed; width = 64; value = n })) value;
    }

pub call_reaches : (l : Layout) (w : World) (m : Memory) (s : Item) (r : InputRelocation) (k : ℕ) → l.machine ≡ machine.X86_64 → (IsThreadCall l s r → ⊥) → IsBranch l s r k 0xe8 → ReferenceHolds l w m s r → BranchReaches l w m s r k Call
call_reaches l w m s r k x free branch holds = goes l w m s r k 0xe8 Call call_does x branch (call_does_it l w m s r k x (of_branch l s r k 0xe8 free branch) branch holds)

pub jump_reaches : (l : Layout) (w : World) (m : Memory) (s : Item) (r : InputRelocation) (k : ℕ) → l.machine ≡ machine.X86_64 → (IsThreadCall l s r → ⊥) → IsBranch l s r k 0xe9 → ReferenceHolds l w m s r → BranchReaches l w m s r k Jump
jump_reaches l w m s r k x free branch holds = goes l w m s r k 0xe9 Jump jump_does x branch (jump_does_it l w m s r k x (of_branch l s r k 0xe9 free branch) branch holds)
