-- Thread-local code of x86-64, in any layout, that does not do what is demanded.
use Rattle.wild_meaning.proofs.Common.{◌≡◌, ℕ, zero, suc, ◌+◌, ◌%◌, ◌^◌, ◌<◌, ◌≤◌, ◌⊎◌, inl, inr, Bool, true, false, List, [], ◌∷◌, get_or, refl, sym, ap, ◌∙◌, subst, arith, ◌==◌, if◌then◌else◌, Option, Some, None, Contains, option_map, slice_get, slice_range, w64, cast_unsigned, All-from_recursion, number, r_x86_64_tlsgd, r_x86_64_tlsld, Formula, formula, x86_64_formula, Machine, OutputKind, InputRelocation, Layout, Item, Memory, World, Holds, Deed, SetThreadAddress, Number, Reader, Effect, matches_cells, as_value, with_value, meaning_x86_64, effect_x86_64, place_at, form_width, formula_of, InNoField, Instruction, SymbolPair, size_of, of_symbol, by_call, by_slot, by_distance, instructions_of, IsInstruction, IsSequence, IsTemplate, IsDemanded, demand_of, effect_of, reads, reads_without_calls, DoesDemanded}
use Rattle.wild_records.specs.Abi.Relocation.{r_x86_64_tlsdesc_call}
use Rattle.wild_reloc.specs.Formula.{NoValue, NoField}
use Rattle.wild_types.specs.declared.kind.Machine.TheVariants as machine
use Rattle.wild_types.specs.declared.kind.OutputKind.TheVariants as output
use Rattle.wild_loader.specs.declared.instruction.Deed.TheVariants.{CallDescriptor, Nothing}
use Rattle.wild_loader.specs.ThreadCodeX86_64.{general_slot_call, far_pair_call, local_call, local_slot_call}
use Rattle.wild_meaning.specs.Formula.{KnowsOffsets, HasOffsetMode}
use Rattle.wild_meaning.specs.Sequence.{OwnPair, DescribedCall, described_call, of_sequence, of_output}
use Rattle.wild_meaning.specs.Partners.{HasCallAddend}
use Rattle.wild_meaning.specs.Reference.{HoldsWithSequence}
use Rattle.wild_meaning.specs.Worked.SequenceRefusals.{call_reference, call_item, RemovedCallsAreRefused, far_code, far_reference, far_getter, far_item, far_sequence, another_base, OtherBasesAreRefused, near_code, near_reference, near_getter, near_item, near_sequence, KeptCallsAreRefused, OtherAddendsAreNoCalls}
use Rattle.wild_meaning.proofs.EffectLemmas.{meant}
use Rattle.wild_meaning.proofs.AmongLemmas.{Among, pick}
use Rattle.wild_meaning.proofs.PairLemmas.{as_pair, as_its_call}
use Rattle.wild_meaning.proofs.OneReference.{has, has_is, fills, fills_is, effect_with, value_in, ReadsNumbers, same_bytes, single_refused, template_there}
use Rattle.wild_meaning.proofs.TermsRefused.{base_is}

-- ---- a call through a descriptor

call_formula : x86_64_formula r_x86_64_tlsdesc_call ≡ Some (formula NoValue NoField)
unfolding x86_64_formula
call_formula = refl

no_width : (f : Formula) → x86_64_formula r_x86_64_tlsdesc_call ≡ Some f → form_width f.form ≡ 0
no_width f e =
    let both : Some f ≡ Some (formula NoValue NoField) = sym e ∙ call_formula in
    let same : f ≡ formula NoValue NoField = cc in
    ap (λ (g : Formula). form_width g.form) same

behind_call : (k width : ℕ) → width ≡ 0 → 0 + width ≤ k
behind_call k width e = omega (arith, e)

no_field : (l : Layout) (address k : ℕ) → l.machine ≡ machine.X86_64 → InNoField l (call_item address) k
no_field l address k x =
    subst (λ (q : Machine). (i : ℕ) (d : InputRelocation) → i < 1 → (f : Formula) → formula_of q (get_or (call_reference ∷ []) i d).number ≡ Some f → (k < (get_or (call_reference ∷ []) i d).offset) ⊎ ((get_or (call_reference ∷ []) i d).offset + form_width f.form ≤ k)) (sym x)
    (All-from_recursion (λ (q : InputRelocation). (f : Formula) → x86_64_formula q.number ≡ Some f → (k < q.offset) ⊎ (q.offset + form_width f.form ≤ k)) (call_reference ∷ []) ((λ f e. inr (behind_call k (form_width f.form) (no_width f e))), tt))

call_stands : (l : Layout) (address : ℕ) → l.machine ≡ machine.X86_64 → IsInstruction l (call_item address) call_reference 0 described_call
call_stands l address x = record {
  code = refl;
  known = subst (λ (k : Machine). Contains (instructions_of k) described_call) (sym x) (24, omega arith, refl);
  number = (0, omega arith, refl);
  field = refl;
  inside = omega arith;
  stands = refl;
  words = refl;
  counts = tt;
  alone = λ k h. no_field l address (0 + k) x;
}

call_demanded : (v a : ℕ) → effect_x86_64 (as_value v) a (0xff ∷ 0x10 ∷ []) ≡ Some (effect_with (CallDescriptor 0) 64 (v % 2 ^ 64))
unfolding meaning_x86_64
call_demanded v a = refl

nothing_done : (read : Reader) (a : ℕ) → ReadsNumbers read → effect_x86_64 read a (0x66 ∷ 0x90 ∷ []) ≡ Some (effect_with Nothing 64 0)
unfolding meaning_x86_64
nothing_done read a h = ap (λ (o : Option ℕ). option_map (with_value (record { deed = Nothing; width = 64; operand = Number 0 })) o) (h 0)

deed_in : (d : Deed) (width n : ℕ) (e : Effect) → Some (effect_with d width n) ≡ Some e → d ≡ e.deed
deed_in d width n e h = let one : effect_with d width n ≡ e = cc in ap (λ (x : Effect). x.deed) one

-- a library has no offsets in place of descriptors
no_mode : (l : Layout) (item : Item) → l.machine ≡ machine.X86_64 → l.kind ≡ output.SharedObject → HasOffsetMode l item → ⊥
no_mode l item x shared h = (let on : KnowsOffsets machine.X86_64 l.kind l = subst (λ (k : Machine). KnowsOffsets k l.kind l) x h.0 in let none : KnowsOffsets machine.X86_64 output.SharedObject l = subst (λ (k : OutputKind). KnowsOffsets machine.X86_64 k l) shared on in none)

call_is_demanded : (l : Layout) (item : Item) (v a : ℕ) (e : Effect) → l.machine ≡ machine.X86_64 → l.kind ≡ output.SharedObject → IsDemanded DescribedCall l item v a (0xff ∷ 0x10 ∷ []) e → CallDescriptor 0 ≡ e.deed
call_is_demanded l item v a e x shared (inl h) = absurd (no_mode l item x shared h.0)
call_is_demanded l item v a e x shared (inr h) =
    let there : effect_x86_64 (as_value v) a (0xff ∷ 0x10 ∷ []) ≡ Some e = subst (λ (k : Machine). demand_of k v a (0xff ∷ 0x10 ∷ []) ≡ Some e) x h.1 in
    deed_in (CallDescriptor 0) 64 (v % 2 ^ 64) e (sym (call_demanded v a) ∙ there)

call_refused : (read : Reader) (l : Layout) (w : World) (m : Memory) (address : ℕ) → l.machine ≡ machine.X86_64 → l.kind ≡ output.SharedObject → ReadsNumbers read → Holds m (place_at w (call_item address) 0) (0x66 ∷ 0x90 ∷ []) → DoesDemanded read l w m (call_item address) call_reference 0 described_call → ⊥
call_refused read l w m address x shared numbers held d =
    let a = place_at w (call_item address) 0 in
    let h = meant read l w m (call_item address) call_reference 0 described_call d in
    let bytes : h.bytes ≡ 0x66 ∷ 0x90 ∷ [] = same_bytes m a h.bytes (0x66 ∷ 0x90 ∷ []) h.whole h.held held in
    let does : effect_x86_64 read a h.bytes ≡ Some h.effect = subst (λ (k : Machine). effect_of k read a h.bytes ≡ Some h.effect) x h.does in
    let done : Some (effect_with Nothing 64 0) ≡ Some h.effect = sym (nothing_done read a numbers) ∙ subst (λ (bs : List ℕ). effect_x86_64 read a bs ≡ Some h.effect) bytes does in
    let both : CallDescriptor 0 ≡ Nothing = call_is_demanded l (call_item address) h.value a h.effect x shared h.demanded ∙ sym (deed_in Nothing 64 0 h.effect done) in
    cc

pub removed_calls : RemovedCallsAreRefused
removed_calls l w m address x shared held =
    single_refused l w m (call_item address) call_reference described_call x refl (template_there l (call_item address) call_reference described_call x refl refl refl (call_stands l address x))
    (λ read numbers. ((λ start f s d. let at : start ≡ 0 = omega (arith, f) in call_refused read l w m address x shared numbers held (subst (λ (k : ℕ). DoesDemanded read l w m (call_item address) call_reference k described_call) at d)), tt))

-- ---- sequences of two references

-- no instruction alone has the relocation
abbrev IsNone : Instruction → Type 0
IsNone o = ⊥

-- the first relocation of a sequence is the first one of the item
first_is : (a b first second : InputRelocation) (i : ℕ) → slice_get (a ∷ b ∷ []) i ≡ Some first → slice_get (a ∷ b ∷ []) (i + 1) ≡ Some second → first ≡ a
first_is a b first second zero h k = (let one : Some a ≡ Some first = h in cc)
first_is a b first second (suc zero) h k = absurd (let none : None ≡ Some second = k in cc)
first_is a b first second (suc (suc i)) h k = absurd (let none : None ≡ Some first = h in cc)

-- other code does not stand there
not_there : (bytes : List ℕ) (start at : ℕ) (o : Instruction) → start ≡ at → matches_cells o.template.cells (slice_range bytes at (at + size_of o)) ≡ false → matches_cells o.template.cells (slice_range bytes start (start + size_of o)) ≡ true → ⊥
not_there bytes start at o e never s =
    let there : matches_cells o.template.cells (slice_range bytes at (at + size_of o)) ≡ true = subst (λ (k : ℕ). matches_cells o.template.cells (slice_range bytes k (k + size_of o)) ≡ true) e s in
    let none : false ≡ true = sym never ∙ there in
    cc

-- ---- another base

abbrev local : Instruction
local = of_sequence local_call 3 OwnPair r_x86_64_tlsld of_output (by_call 8)

abbrev local_slot : Instruction
local_slot = of_sequence local_slot_call 3 OwnPair r_x86_64_tlsld of_output (by_slot 9)

far_demanded : (v a : ℕ) → effect_x86_64 (as_value v) a far_code ≡ Some (effect_with (SetThreadAddress 0) 64 (v % 2 ^ 64))
unfolding meaning_x86_64
far_demanded v a = refl

base_done : (read : Reader) (a : ℕ) → ReadsNumbers read → effect_x86_64 read a another_base ≡ Some (effect_with (SetThreadAddress 0) 64 8)
unfolding meaning_x86_64 number
base_done read a h = ap (λ (o : Option ℕ). option_map (with_value (record { deed = SetThreadAddress 0; width = 64; operand = Number 8 })) o) (h 8)

base_refused : (read : Reader) (l : Layout) (w : World) (m : Memory) (address : ℕ) → l.machine ≡ machine.X86_64 → IsSequence l (far_item address) far_reference (far_getter ∷ []) 0 far_sequence → ReadsNumbers read → Holds m (place_at w (far_item address) 0) another_base → DoesDemanded read l w m (far_item address) far_reference 0 far_sequence → ⊥
base_refused read l w m address x q numbers held d =
    let a = place_at w (far_item address) 0 in
    let h = meant read l w m (far_item address) far_reference 0 far_sequence d in
    let bytes : h.bytes ≡ another_base = same_bytes m a h.bytes another_base h.whole h.held held in
    let does : effect_x86_64 read a h.bytes ≡ Some h.effect = subst (λ (k : Machine). effect_of k read a h.bytes ≡ Some h.effect) x h.does in
    let done : Some (effect_with (SetThreadAddress 0) 64 8) ≡ Some h.effect = sym (base_done read a numbers) ∙ subst (λ (bs : List ℕ). effect_x86_64 read a bs ≡ Some h.effect) bytes does in
    let asked : effect_x86_64 (as_value h.value) a far_code ≡ Some h.effect = subst (λ (k : Machine). demand_of k h.value a far_code ≡ Some h.effect) x h.demanded in
    let demanded : Some (effect_with (SetThreadAddress 0) 64 (h.value % 2 ^ 64)) ≡ Some h.effect = sym (far_demanded h.value a) ∙ asked in
    let same : 8 ≡ h.value % 2 ^ 64 = value_in (SetThreadAddress 0) 64 8 h.effect done ∙ sym (value_in (SetThreadAddress 0) 64 (h.value % 2 ^ 64) h.effect demanded) in
    let base : h.value ≡ 0 = base_is l w h.value x q.met.0 h.demands in
    omega (arith, same, base)

-- a sequence of that relocation does not do what is demanded
abbrev IsOtherBase : Reader → Layout → World → Memory → ℕ → Instruction → Type 0
IsOtherBase read l w m address o = (start : ℕ) → 3 ≡ start + o.field → matches_cells o.template.cells (slice_range far_code start (start + size_of o)) ≡ true → DoesDemanded read l w m (far_item address) far_reference start o → ⊥

no_base : (read : Reader) (l : Layout) (w : World) (m : Memory) (address : ℕ) → (DoesDemanded read l w m (far_item address) far_reference 0 far_sequence → ⊥) → Among (λ (o : Instruction). has r_x86_64_tlsld o.numbers) (IsOtherBase read l w m address) (instructions_of machine.X86_64)
no_base read l w m address undone = (
  (λ start f s d. not_there far_code start 0 local (omega (arith, f)) refl s),
  (
    (λ start f s d. not_there far_code start 0 local_slot (omega (arith, f)) refl s),
    ((λ start f s d. let at : start ≡ 0 = omega (arith, f) in undone (subst (λ (k : ℕ). DoesDemanded read l w m (far_item address) far_reference k far_sequence) at d)), tt),
  ),
)

base_not_done : (read : Reader) (l : Layout) (w : World) (m : Memory) (address : ℕ) → l.machine ≡ machine.X86_64 → (DoesDemanded read l w m (far_item address) far_reference 0 far_sequence → ⊥) → (start : ℕ) (o : Instruction) (first : InputRelocation) → IsTemplate l (far_item address) far_reference start o first → DoesDemanded read l w m (far_item address) first start o → ⊥
base_not_done read l w m address x undone start o first (inl s) d = pick (fills r_x86_64_tlsld) IsNone (instructions_of machine.X86_64) tt o (subst (λ (k : Machine). Contains (instructions_of k) o) x s.0.stands.known) (fills_is r_x86_64_tlsld o s.0.stands.number s.0.single)
base_not_done read l w m address x undone start o first (inr s) d =
    let q = (as_pair l (far_item address) first s.rest start o x s.sequence).pair in
    let at : first ≡ far_reference = first_is far_reference far_getter first _ q.has.index q.has.listed q.has.next in
    let there : IsInstruction l (far_item address) far_reference start o = subst (λ (r : InputRelocation). IsInstruction l (far_item address) r start o) at s.sequence.stands in
    let known : Contains (instructions_of machine.X86_64) o = subst (λ (k : Machine). Contains (instructions_of k) o) x there.known in
    pick (λ (p : Instruction). has r_x86_64_tlsld p.numbers) (IsOtherBase read l w m address) (instructions_of machine.X86_64) (no_base read l w m address undone) o known (has_is r_x86_64_tlsld o.numbers there.number) start there.field there.stands
    (subst (λ (r : InputRelocation). DoesDemanded read l w m (far_item address) r start o) at d)

pub other_bases : OtherBasesAreRefused
other_bases l w m address x q held (inl h) = base_refused (reads w m) l w m address x q (λ n. refl) held (h.does 0 far_sequence far_reference (inr (record { rest = far_getter ∷ []; sequence = q; one = (0, omega arith, refl) })))
other_bases l w m address x q held (inr h) = base_not_done (reads_without_calls w m) l w m address x (base_refused (reads_without_calls w m) l w m address x q (λ n. refl) held) h.start h.instruction h.first h.template h.does

-- ---- a call that remains

abbrev general_slot : Instruction
general_slot = of_sequence general_slot_call 4 SymbolPair r_x86_64_tlsgd of_symbol (by_slot 12)

abbrev far_general : Instruction
far_general = of_sequence far_pair_call 3 SymbolPair r_x86_64_tlsgd of_symbol (by_distance 9)

-- without calls it has no effect
near_done : (w : World) (m : Memory) (a : ℕ) → effect_x86_64 (reads_without_calls w m) a near_code ≡ None
unfolding meaning_x86_64
near_done w m a = refl

near_refused : (l : Layout) (w : World) (m : Memory) (address : ℕ) → l.machine ≡ machine.X86_64 → Holds m (place_at w (near_item address) 0) near_code → DoesDemanded (reads_without_calls w m) l w m (near_item address) near_reference 0 near_sequence → ⊥
near_refused l w m address x held d =
    let a = place_at w (near_item address) 0 in
    let h = meant (reads_without_calls w m) l w m (near_item address) near_reference 0 near_sequence d in
    let bytes : h.bytes ≡ near_code = same_bytes m a h.bytes near_code h.whole h.held held in
    let does : effect_x86_64 (reads_without_calls w m) a h.bytes ≡ Some h.effect = subst (λ (k : Machine). effect_of k (reads_without_calls w m) a h.bytes ≡ Some h.effect) x h.does in
    let none : None ≡ Some h.effect = sym (near_done w m a) ∙ subst (λ (bs : List ℕ). effect_x86_64 (reads_without_calls w m) a bs ≡ Some h.effect) bytes does in
    cc

abbrev IsKeptCall : Layout → World → Memory → ℕ → Instruction → Type 0
IsKeptCall l w m address o = (start : ℕ) → 4 ≡ start + o.field → matches_cells o.template.cells (slice_range near_code start (start + size_of o)) ≡ true → DoesDemanded (reads_without_calls w m) l w m (near_item address) near_reference start o → ⊥

no_near : (l : Layout) (w : World) (m : Memory) (address : ℕ) → l.machine ≡ machine.X86_64 → Holds m (place_at w (near_item address) 0) near_code → Among (λ (o : Instruction). has r_x86_64_tlsgd o.numbers) (IsKeptCall l w m address) (instructions_of machine.X86_64)
no_near l w m address x held = (
  (λ start f s d. let at : start ≡ 0 = omega (arith, f) in near_refused l w m address x held (subst (λ (k : ℕ). DoesDemanded (reads_without_calls w m) l w m (near_item address) near_reference k near_sequence) at d)),
  ((λ start f s d. not_there near_code start 0 general_slot (omega (arith, f)) refl s), ((λ start f s d. not_there near_code start 1 far_general (omega (arith, f)) refl s), tt)),
)

sequence_refused : (l : Layout) (w : World) (m : Memory) (address : ℕ) → l.machine ≡ machine.X86_64 → Holds m (place_at w (near_item address) 0) near_code → HoldsWithSequence l w m (near_item address) near_getter → ⊥
sequence_refused l w m address x held h =
    let q = as_its_call l (near_item address) h.first near_getter h.rest h.start h.instruction x h.sequence h.one in
    let at : h.first ≡ near_reference = first_is near_reference near_getter h.first near_getter q.has.index q.has.listed q.has.next in
    let there : IsInstruction l (near_item address) near_reference h.start h.instruction = subst (λ (r : InputRelocation). IsInstruction l (near_item address) r h.start h.instruction) at q.stands in
    let known : Contains (instructions_of machine.X86_64) h.instruction = subst (λ (k : Machine). Contains (instructions_of k) h.instruction) x there.known in
    pick (λ (p : Instruction). has r_x86_64_tlsgd p.numbers) (IsKeptCall l w m address) (instructions_of machine.X86_64) (no_near l w m address x held) h.instruction known (has_is r_x86_64_tlsgd h.instruction.numbers there.number) h.start there.field there.stands
    (subst (λ (r : InputRelocation). DoesDemanded (reads_without_calls w m) l w m (near_item address) r h.start h.instruction) at h.does)

pub kept_calls : KeptCallsAreRefused
kept_calls l w m address x q held plain (inl h) = plain h
kept_calls l w m address x q held plain (inr (inl h)) = h.template.free near_reference (near_getter ∷ []) 0 near_sequence q (0, omega arith, refl)
kept_calls l w m address x q held plain (inr (inr h)) = sequence_refused l w m address x held h

-- ---- addends

neither : (b : Bool) (c : ℕ) → (c + (if b then 0 else 4)) % 2 ^ 64 ≡ 0 → ((c + 4) % 2 ^ 64 ≡ 0 → ⊥) → (c % 2 ^ 64 ≡ 0 → ⊥) → ⊥
neither true c h four none = none (omega (arith, h))
neither false c h four none = four h

pub other_addends : OtherAddendsAreNoCalls
other_addends l item first r rest start o x q one four none =
    let call = as_its_call l item first r rest start o x q one in
    let is : HasCallAddend call.partner.width r = call.has.addend in
    neither (call.partner.width == 8) (cast_unsigned w64 r.addend) is four none
