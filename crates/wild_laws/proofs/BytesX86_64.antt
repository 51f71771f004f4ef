-- On x86-64 bytes in no field are the input's, the opcodes of calls and jumps too.
use Rattle.wild_laws.proofs.Common.{◌≡◌, ℕ, zero, suc, ◌+◌, ◌<◌, ◌≤◌, ◌⊎◌, inl, inr, length, get_or, slice_range, refl, sym, ap, ◌∙◌, arith, subst, Option, Some, None, Contains, slice_index, nat_lt, ◌==◌, cases_Bool, eqb-true, eqb-false, All-contains, Machine, InputRelocation, Layout, Formula, formula, Distance, StubDistance, Plain, Memory, World, Deed, Call, Jump, Effect, Instruction, size_of, IsOwnByte, Item, place_at, formula_of, InNoField, demand_of, reads, reads_without_calls, IsInstruction, IsTemplate, ReferenceHolds, ItemHolds, HasFirstTypes, IsBranch}
use Rattle.std.proofs.lemmas.Bool.{ltb-true, ltb-false}
use Rattle.wild_records.specs.Abi.Relocation.{r_x86_64_pc32, r_x86_64_plt32}
use Rattle.wild_types.specs.declared.kind.Machine.TheVariants as machine
use Rattle.wild_reloc.specs.Formula.{Signed}
use Rattle.wild_reloc.specs.FormulaX86_64.{x86_64_formula}
use Rattle.wild_loader.specs.Memory.{byte_in}
use Rattle.wild_meaning.specs.Field.{form_width, IsInputByte}
use Rattle.wild_meaning.specs.Template.{effect_of, DoesWith}
use Rattle.wild_meaning.specs.Reference.{LinkedHolds}
use Rattle.wild_laws.specs.FirstTypes.{branch_types}
use Rattle.wild_laws.specs.FirstPath.{EachIsChecked}
use Rattle.wild_laws.proofs.Readers.{with_too}
use Rattle.wild_laws.proofs.SequencesX86_64.{direct}
use Rattle.wild_laws.proofs.CodeX86_64.{first_byte, IsFirst, of_section, IsCallOrJump, template_direct, is_branch, old_length, DoesDeed, HasOpcode, call_does, jump_does, call_opcode, jump_opcode}

-- ---- fields

-- the formula of a direct call or jump has four bytes
record HasCallFormula (n : ℕ) : Type 0 where
  formula : Formula
  known : x86_64_formula n ≡ Some formula
  wide : form_width formula.form ≡ 4

formula_pc32 : HasCallFormula r_x86_64_pc32
unfolding x86_64_formula
formula_pc32 = record { formula = formula Distance (Plain 32 Signed); known = refl; wide = refl }

formula_plt32 : HasCallFormula r_x86_64_plt32
unfolding x86_64_formula
formula_plt32 = record { formula = formula StubDistance (Plain 32 Signed); known = refl; wide = refl }

call_formula : (n : ℕ) → Contains branch_types n → HasCallFormula n
call_formula n c = at n c.0 c.1 c.2
  where
    at : (n k : ℕ) → k < length branch_types → get_or branch_types k n ≡ n → HasCallFormula n
    at n zero l e = subst HasCallFormula e formula_pc32
    at n (suc zero) l e = subst HasCallFormula e formula_plt32
    at n (suc (suc k)) l e = absurd (omega (arith, l))

-- the byte is outside the four bytes of a reference's field
outside : (l : Layout) (s : Item) (r : InputRelocation) (k : ℕ) → l.machine ≡ machine.X86_64 → InNoField l s k → Contains s.relocations r → Contains branch_types r.number → (k < r.offset) ⊎ (r.offset + 4 ≤ k)
outside l s r k x out listed number =
    let f = call_formula r.number number in
    subst (λ (n : ℕ). (k < r.offset) ⊎ (r.offset + n ≤ k)) f.wide (All-contains (λ (q : InputRelocation). (g : Formula) → formula_of l.machine q.number ≡ Some g → (k < q.offset) ⊎ (q.offset + form_width g.form ≤ k)) s.relocations r out listed f.formula (subst (λ (m : Machine). formula_of m r.number ≡ Some f.formula) (sym x) f.known))

-- ---- opcodes

-- the effect that a call or a jump demands
demanded_deed : (l : Layout) (w : World) (m : Memory) (s : Item) (r : InputRelocation) (start opcode : ℕ) (deed : Deed) → DoesDeed opcode deed → l.machine ≡ machine.X86_64 → IsBranch l s r start opcode → (v : ℕ) → (d : DoesWith (reads w m) l w m s start (direct opcode deed) v) → d.effect.deed ≡ deed
demanded_deed l w m s r start opcode deed does x branch v d =
    let old : demand_of machine.X86_64 v (place_at w s start) (slice_range s.bytes start (start + 5)) ≡ Some d.effect = subst (λ (k : Machine). demand_of k v (place_at w s start) (slice_range s.bytes start (start + 5)) ≡ Some d.effect) x d.demanded in
    let is = does (place_at w s start) v (slice_range s.bytes start (start + 5)) (old_length l s r start opcode branch) (first_byte s.bytes start ∙ branch.begins) in
    ap deed_in (sym (sym is ∙ old)) ∙ refl
  where
    deed_in : Option Effect → Deed
    deed_in None = Call
    deed_in (Some e) = e.deed

-- the loaded code does what the instruction demands, so it begins with the input's opcode
opcode_kept : (l : Layout) (w : World) (m : Memory) (s : Item) (r : InputRelocation) (start opcode : ℕ) (deed : Deed) → DoesDeed opcode deed → HasOpcode opcode deed → l.machine ≡ machine.X86_64 → IsBranch l s r start opcode → (v : ℕ) → DoesWith (reads w m) l w m s start (direct opcode deed) v → IsInputByte w m s start
opcode_kept l w m s r start opcode deed does has x branch v d =
    let a = place_at w s start in
    let loaded : effect_of machine.X86_64 (reads w m) a d.bytes ≡ Some d.effect = subst (λ (k : Machine). effect_of k (reads w m) a d.bytes ≡ Some d.effect) x d.does in
    let five = d.whole in
    let op = has (reads w m) a d.bytes d.effect five loaded (demanded_deed l w m s r start opcode deed does x branch v d) in
    let z : a + 0 ≡ a = omega arith in
    let held : byte_in m (a + 0) ≡ Some (get_or d.bytes 0 0) = d.held 0 (omega (arith, five)) in
    subst (λ (p : ℕ). byte_in m p ≡ Some (get_or d.bytes 0 0)) z held ∙ ap (λ (b : ℕ). Some b) (op ∙ sym branch.begins)

by_code : (l : Layout) (w : World) (m : Memory) (s : Item) (r : InputRelocation) (start : ℕ) (o : Instruction) (v : ℕ) → l.machine ≡ machine.X86_64 → IsFirst l s r → IsInstruction l s r start o → IsCallOrJump o → DoesWith (reads w m) l w m s start o v → IsInputByte w m s start
by_code l w m s r start o v x f t (inl e) d =
    let branch = is_branch l s r start 0xe8 Call (subst (λ (p : Instruction). IsInstruction l s r start p) e t) in
    opcode_kept l w m s r start 0xe8 Call call_does call_opcode x branch v (subst (λ (p : Instruction). DoesWith (reads w m) l w m s start p v) e d)
by_code l w m s r start o v x f t (inr e) d =
    let branch = is_branch l s r start 0xe9 Jump (subst (λ (p : Instruction). IsInstruction l s r start p) e t) in
    opcode_kept l w m s r start 0xe9 Jump jump_does jump_opcode x branch v (subst (λ (p : Instruction). DoesWith (reads w m) l w m s start p v) e d)

-- so it is of each template
by_template : (l : Layout) (w : World) (m : Memory) (s : Item) (r : InputRelocation) (start : ℕ) (o : Instruction) (one : InputRelocation) (v : ℕ) → l.machine ≡ machine.X86_64 → IsFirst l s r → IsTemplate l s r start o one → DoesWith (reads w m) l w m s start o v → IsInputByte w m s start
by_template l w m s r start o one v x f t d =
    let direct = template_direct l s r start o one x f t in
    by_code l w m s r start o v x f direct.stands direct.which d

-- where the instruction begins, and that its other bytes are in its field
record IsShort (s : Item) (r : InputRelocation) (start : ℕ) (o : Instruction) : Type 0 where
  five : size_of o ≡ 5
  behind : r.offset ≡ start + 1
  number : Contains branch_types r.number

short : (l : Layout) (s : Item) (r : InputRelocation) (start : ℕ) (o : Instruction) → l.machine ≡ machine.X86_64 → IsFirst l s r → IsInstruction l s r start o → IsCallOrJump o → IsShort s r start o
short l s r start o x f t (inl e) =
    let branch = is_branch l s r start 0xe8 Call (subst (λ (p : Instruction). IsInstruction l s r start p) e t) in
    record { five = ap size_of e; behind = branch.behind; number = branch.number }
short l s r start o x f t (inr e) =
    let branch = is_branch l s r start 0xe9 Jump (subst (λ (p : Instruction). IsInstruction l s r start p) e t) in
    record { five = ap size_of e; behind = branch.behind; number = branch.number }

-- ---- references that hold

-- the reference keeps the bytes of its instruction
abbrev KeepsBytes : Layout → World → Memory → Item → InputRelocation → Type 0
KeepsBytes l w m s r = (start : ℕ) (o : Instruction) (one : InputRelocation) → IsTemplate l s r start o one → (k : ℕ) → IsOwnByte o k → IsInputByte w m s (start + k)

kept_opcode : (l : Layout) (w : World) (m : Memory) (s : Item) (r : InputRelocation) (start : ℕ) (o : Instruction) (one : InputRelocation) → IsCallOrJump o → IsTemplate l s r start o one → KeepsBytes l w m s r → IsInputByte w m s start
kept_opcode l w m s r start o one (inl e) t keeps =
    let z : start + 0 ≡ start = omega arith in
    subst (λ (k : ℕ). IsInputByte w m s k) z (keeps start (direct 0xe8 Call) one (subst (λ (p : Instruction). IsTemplate l s r start p one) e t) 0 (record { inside = omega arith; beside = inl (omega arith); apart = tt }))
kept_opcode l w m s r start o one (inr e) t keeps =
    let z : start + 0 ≡ start = omega arith in
    subst (λ (k : ℕ). IsInputByte w m s k) z (keeps start (direct 0xe9 Jump) one (subst (λ (p : Instruction). IsTemplate l s r start p one) e t) 0 (record { inside = omega arith; beside = inl (omega arith); apart = tt }))

-- or its instruction was rewritten: the loaded code has the effect, with some value
record HasCode (l : Layout) (w : World) (m : Memory) (s : Item) (r : InputRelocation) : Type 0 where
  start : ℕ
  instruction : Instruction
  first : InputRelocation
  template : IsTemplate l s r start instruction first
  value : ℕ
  code : DoesWith (reads_without_calls w m) l w m s start instruction value

opcode_there : (l : Layout) (w : World) (m : Memory) (s : Item) (r : InputRelocation) (start : ℕ) (o : Instruction) (one : InputRelocation) → l.machine ≡ machine.X86_64 → IsFirst l s r → IsTemplate l s r start o one → KeepsBytes l w m s r ⊎ HasCode l w m s r → IsInputByte w m s start
opcode_there l w m s r start o one x f t (inl keeps) = kept_opcode l w m s r start o one (template_direct l s r start o one x f t).which t keeps
opcode_there l w m s r start o one x f t (inr q) =
    let here = template_direct l s r start o one x f t in
    let there = template_direct l s r q.start q.instruction q.first x f q.template in
    let a = (short l s r start o x f here.stands here.which).behind in
    let b = (short l s r q.start q.instruction x f there.stands there.which).behind in
    let same : q.start ≡ start = omega (arith, a, b) in
    subst (λ (k : ℕ). IsInputByte w m s k) same (by_template l w m s r q.start q.instruction q.first q.value x f q.template (with_too l w m s q.start q.instruction q.value q.code))

plain_keeps : (l : Layout) (w : World) (m : Memory) (s : Item) (r : InputRelocation) → ReferenceHolds l w m s r → KeepsBytes l w m s r ⊎ HasCode l w m s r
plain_keeps l w m s r (inl p) = inl p.kept
plain_keeps l w m s r (inr q) = inr (record { start = q.start; instruction = q.instruction; first = q.first; template = q.template; value = q.does.value; code = q.does.code })

linked_keeps : (l : Layout) (w : World) (m : Memory) (s : Item) (r : InputRelocation) → LinkedHolds l w m s r → KeepsBytes l w m s r ⊎ HasCode l w m s r
linked_keeps l w m s r (inl p) = inl p.kept
linked_keeps l w m s r (inr (inl q)) = inr (record { start = q.start; instruction = q.instruction; first = r; template = inl (q.template, refl); value = q.does.value; code = q.does.code })
linked_keeps l w m s r (inr (inr q)) = inr (record { start = q.start; instruction = q.instruction; first = q.first; template = inr (record { rest = q.rest; sequence = q.sequence; one = (let lt = q.one.1 in (suc q.one.0, omega (arith, lt), q.one.2)) }); value = q.does.value; code = q.does.code })

-- ---- other bytes

-- whether a byte is loaded so can be decided
stable : (o : Option ℕ) (b : ℕ) → ((o ≡ Some b → ⊥) → o ≡ Some b) → o ≡ Some b
stable None b h = h (λ e. (let both : None ≡ Some b = e in cc))
stable (Some c) b h =
    elim (cases_Bool (c == b)) [
      | inl t ↦ ap (λ (x : ℕ). Some x) (eqb-true c b t)
      | inr f ↦ h (λ e. (let same : c ≡ b = cc in eqb-false c b f same))
    ]

outside_instruction : (k start n : ℕ) → (start ≤ k → k < start + n → ⊥) → (k < start) ⊎ (start + n ≤ k)
outside_instruction k start n never =
    elim (cases_Bool (nat_lt k start)) [
      | inl t ↦ inl (ltb-true k start t)
      | inr f ↦
          elim (cases_Bool (nat_lt k (start + n))) [
            | inl u ↦ absurd (never (ltb-false k start f) (ltb-true k (start + n) u))
            | inr g ↦ inr (ltb-false k (start + n) g)
          ]
    ]

-- a byte of an instruction that is in no field is its first
at_start : (k start size offset : ℕ) → size ≡ 5 → offset ≡ start + 1 → start ≤ k → k < start + size → (k < offset) ⊎ (offset + 4 ≤ k) → start ≡ k
at_start k start size offset five e from to (inl a) = omega (arith, e, from, a)
at_start k start size offset five e from to (inr b) = absurd (omega (arith, five, e, to, b))

pub other_byte : (l : Layout) (w : World) (m : Memory) (s : Item) (k : ℕ) → l.machine ≡ machine.X86_64 → HasFirstTypes machine.X86_64 s → EachIsChecked l w s → ItemHolds l w m s → k < length s.bytes → InNoField l s k → IsInputByte w m s k
other_byte l w m s k x types asked holds lt out =
    stable (byte_in m (place_at w s k)) (slice_index s.bytes k) (λ never. holds.others k lt (record {
      fields = out;
      templates = λ r start o one ref t. outside_instruction k start (size_of o) (λ from to.
          (let f = of_section l s r types ref in
          let told = asked r (record { listed = ref.listed; refers = ref.refers }) in
          let d = template_direct l s r start o one x f t in
          let code = short l s r start o x f d.stands d.which in
          let here : start ≡ k = at_start k start (size_of o) r.offset code.five code.behind from to (outside l s r k x out ref.listed code.number) in
          let done : IsInputByte w m s start → ⊥ = λ h. never (subst (λ (j : ℕ). IsInputByte w m s j) here h) in
          done (opcode_there l w m s r start o one x f t (plain_keeps l w m s r (holds.references r ref told.1 told.0 (λ alone. done (opcode_there l w m s r start o one x f t (linked_keeps l w m s r (holds.linked r ref told.1 told.0 alone)))))))));
    }))
