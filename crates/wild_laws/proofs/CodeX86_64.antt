-- On x86-64: the call or the jump that a reference of a first type fills, in the input and in memory.
use Rattle.wild_laws.proofs.Common.{◌≡◌, ℕ, ◌+◌, ◌%◌, ◌^◌, ◌<◌, ◌≤◌, ◌⊎◌, inl, inr, Bool, true, false, List, [], ◌∷◌, ◌++◌, length, get_or, slice_range, refl, sym, ap, ◌∙◌, arith, subst, eq-eqb, Option, Some, None, Contains, slice_index, option_map, option_and_then, not, ◌||◌, ◌==◌, nat_le, list_all, cases_Bool, and_parts, eqb-true, length-range, listed_passes, Machine, InputRelocation, Layout, Cell, Is, Deed, Call, Jump, Effect, matches_cells, meaning_x86_64, Instruction, size_of, IsOwnByte, instructions_of, Item, InNoField, IsInstruction, IsTemplate, bit_code, HasFirstTypes, IsBranch, IsThreadCall}
use Rattle.std.proofs.lemmas.Bool.{not-true}
use Rattle.wild_words.proofs.Basics.{listed_at, range_byte}
use Rattle.wild_types.specs.declared.kind.Machine.TheVariants as machine
use Rattle.wild_loader.specs.declared.instruction.Action.{Action}
use Rattle.wild_loader.specs.Instruction.{Template, Reader, exact_cells, field, template_fills, first_meaning, effect, with_value, as_value}
use Rattle.wild_loader.specs.ThreadCodeX86_64.{nop_byte}
use Rattle.wild_loader.specs.InstructionX86_64.{templates_x86_64, effect_x86_64}
use Rattle.wild_meaning.specs.Item.{IsReference}
use Rattle.wild_meaning.specs.Template.{IsSequence}
use Rattle.wild_meaning.proofs.PairLemmas.{IsGetterCall, IsDouble, as_its_call, as_double}
use Rattle.wild_meaning.proofs.BitLemmas.{code_bit}
use Rattle.wild_laws.specs.FirstTypes.{addresses_x86_64, first_types, branch_types, thread_types}
use Rattle.wild_laws.proofs.SequencesX86_64.{is_first, is_thread, thread, one_of, first_number_is_thread, calling, direct, by_instruction}

-- ---- bytes

pub first_byte : (bs : List ℕ) (k : ℕ) → get_or (slice_range bs k (k + 5)) 0 0 ≡ slice_index bs k
first_byte bs k = let z : k + 0 ≡ k = omega arith in range_byte bs k 5 0 (omega arith) ∙ ap (λ (j : ℕ). slice_index bs j) z

-- five bytes
pub five : (P : List ℕ → Type 0) → ((b c d e f : ℕ) → P (b ∷ c ∷ d ∷ e ∷ f ∷ [])) → (bs : List ℕ) → length bs ≡ 5 → P bs
five P h [] n = absurd (omega (arith, n))
five P h (b ∷ []) n = absurd (omega (arith, n))
five P h (b ∷ c ∷ []) n = absurd (omega (arith, n))
five P h (b ∷ c ∷ d ∷ []) n = absurd (omega (arith, n))
five P h (b ∷ c ∷ d ∷ e ∷ []) n = absurd (omega (arith, n))
five P h (b ∷ c ∷ d ∷ e ∷ f ∷ []) n = h b c d e f
five P h (b ∷ c ∷ d ∷ e ∷ f ∷ g ∷ bs) n = absurd (omega (arith, n))

-- ---- the template of a reference

-- the first of a sequence asks for a thread address
first_asks : (l : Layout) (s : Item) (a b : InputRelocation) (start : ℕ) (o : Instruction) → l.machine ≡ machine.X86_64 → IsGetterCall l s a b start o → is_thread a.number ≡ true
first_asks l s a b start o x q = first_number_is_thread o q.partner a.number (subst (λ (m : Machine). Contains (instructions_of m) o) x q.stands.known) q.calls q.stands.number

-- the second of a sequence is the call of the function that gives thread addresses, behind one that asks for such an address
second_calls : (l : Layout) (s : Item) (a b : InputRelocation) (start : ℕ) (o : Instruction) → l.machine ≡ machine.X86_64 → IsGetterCall l s a b start o → IsThreadCall l s b
second_calls l s a b start o x q = record {
  number = calling o q.partner b.number (subst (λ (m : Machine). Contains (instructions_of m) o) x q.stands.known) q.calls q.has.number;
  getter = q.has.getter;
  index = q.has.index;
  first = a;
  listed = q.has.listed;
  next = q.has.next;
  asks = one_of thread_types a.number (first_asks l s a b start o x q);
}

pub no_sequence : (l : Layout) (s : Item) (a b : InputRelocation) (rest : List InputRelocation) (start : ℕ) (o : Instruction) → l.machine ≡ machine.X86_64 → (IsThreadCall l s b → ⊥) → IsSequence l s a rest start o → Contains rest b → ⊥
no_sequence l s a b rest start o x free q c = free (second_calls l s a b start o x (as_its_call l s a b rest start o x q c))

-- the reference is one of an instruction alone
pub record IsAlone (l : Layout) (s : Item) (r : InputRelocation) : Type 0 where
  pub asks : is_thread r.number ≡ false
  pub free : IsThreadCall l s r → ⊥

pub record IsSingleOf (l : Layout) (s : Item) (r : InputRelocation) (start : ℕ) (o : Instruction) (one : InputRelocation) : Type 0 where
  pub same : one ≡ r
  pub single : o.partners ≡ []
  pub stands : IsInstruction l s r start o

pub single_of : (l : Layout) (s : Item) (r : InputRelocation) (start : ℕ) (o : Instruction) (one : InputRelocation) → l.machine ≡ machine.X86_64 → IsAlone l s r → IsTemplate l s r start o one → IsSingleOf l s r start o one
single_of l s r start o one x alone (inl t) = record { same = t.1; single = t.0.single; stands = t.0.stands }
single_of l s r start o one x alone (inr part) = absurd (by_place t.one)
  where
    t : IsDouble l s r start o one
    t = as_double l s r start o one x part

    by_place : (r ≡ one) ⊎ (r ≡ t.second) → ⊥
    by_place (inl e) =
        let asks : is_thread r.number ≡ true = subst (λ (q : InputRelocation). is_thread q.number ≡ true) (sym e) (first_asks l s one t.second start o x t.sequence) in
        let both : true ≡ false = sym asks ∙ alone.asks in
        cc
    by_place (inr e) = alone.free (subst (λ (q : InputRelocation). IsThreadCall l s q) (sym e) (second_calls l s one t.second start o x t.sequence))

-- and its type is one that only calls and jumps have
pub record IsFirst (l : Layout) (s : Item) (r : InputRelocation) : Type 0 where
  pub type : is_first r.number ≡ true
  pub alone : IsAlone l s r

-- of a number of such types
pub of_type : (l : Layout) (s : Item) (r : InputRelocation) (ns : List ℕ) → list_all is_first ns ≡ true → list_all (λ n. not (is_thread n)) ns ≡ true → Contains ns r.number → (IsThreadCall l s r → ⊥) → IsFirst l s r
of_type l s r ns firsts others c free = record {
  type = listed_passes is_first ns r.number firsts c;
  alone = record { asks = not-true (is_thread r.number) (listed_passes (λ (n : ℕ). not (is_thread n)) ns r.number others c); free = free };
}

pub of_branch : (l : Layout) (s : Item) (r : InputRelocation) (k opcode : ℕ) → (IsThreadCall l s r → ⊥) → IsBranch l s r k opcode → IsFirst l s r
of_branch l s r k opcode free branch = of_type l s r branch_types refl refl branch.number free

pub of_address : (l : Layout) (s : Item) (r : InputRelocation) → Contains addresses_x86_64 r.number → (IsThreadCall l s r → ⊥) → IsFirst l s r
of_address l s r c free = of_type l s r addresses_x86_64 refl refl c free

-- in a section of such types no relocation asks for a thread address
pub of_section : (l : Layout) (s : Item) (r : InputRelocation) → HasFirstTypes machine.X86_64 s → IsReference s r → IsFirst l s r
of_section l s r types ref = of_type l s r first_types refl refl (types.each r ref.listed) (λ c. none c)
  where
    none : IsThreadCall l s r → ⊥
    none c =
        let asks = thread c.first.number c.asks in
        let other = not-true (is_thread c.first.number) (listed_passes (λ (n : ℕ). not (is_thread n)) first_types c.first.number refl (types.each c.first (listed_at s.relocations c.index c.first c.listed))) in
        let both : true ≡ false = sym asks ∙ other in
        cc

abbrev pub IsCallOrJump : Instruction → Type 0
IsCallOrJump o = (o ≡ direct 0xe8 Call) ⊎ (o ≡ direct 0xe9 Jump)

-- the instruction of such a reference is one of the two
which_of : (l : Layout) (s : Item) (r : InputRelocation) (start : ℕ) (o : Instruction) → l.machine ≡ machine.X86_64 → IsFirst l s r → IsInstruction l s r start o → IsCallOrJump o
which_of l s r start o x f t = by_instruction IsCallOrJump o r.number (inl refl) (inr refl) (subst (λ (m : Machine). Contains (instructions_of m) o) x t.known) t.number f.type

pub record IsDirect (l : Layout) (s : Item) (r : InputRelocation) (start : ℕ) (o : Instruction) (one : InputRelocation) : Type 0 where
  pub same : one ≡ r
  pub stands : IsInstruction l s r start o
  pub which : IsCallOrJump o

pub template_direct : (l : Layout) (s : Item) (r : InputRelocation) (start : ℕ) (o : Instruction) (one : InputRelocation) → l.machine ≡ machine.X86_64 → IsFirst l s r → IsTemplate l s r start o one → IsDirect l s r start o one
template_direct l s r start o one x f t = let q = single_of l s r start o one x f.alone t in record { same = q.same; stands = q.stands; which = which_of l s r start o x f q.stands }

-- ---- the input's bytes

pub starts : (opcode : ℕ) (cs : List Cell) (bs : List ℕ) → matches_cells (Is opcode ∷ cs) bs ≡ true → get_or bs 0 0 ≡ opcode
starts opcode cs [] h = cc
starts opcode cs (b ∷ bs) h = eqb-true b opcode (and_parts (b == opcode) (matches_cells cs bs) h).0

-- such an instruction's bytes are those of a call or a jump
pub is_branch : (l : Layout) (s : Item) (r : InputRelocation) (start opcode : ℕ) (deed : Deed) → IsInstruction l s r start (direct opcode deed) → IsBranch l s r start opcode
is_branch l s r start opcode deed t =
    let behind = t.field in
    let inside = t.inside in
    let z : start + 0 ≡ start = omega arith in
    record {
      code = code_bit s.flags t.code;
      behind = behind;
      begins = sym (first_byte s.bytes start) ∙ starts opcode field (slice_range s.bytes start (start + 5)) t.stands;
      number = t.number;
      inside = omega (arith, behind, inside);
      free = subst (λ (k : ℕ). InNoField l s k) z (t.alone 0 (record { inside = omega arith; beside = inl (omega arith); apart = tt }));
    }

-- and a call or a jump is one

four : (bs : List ℕ) → length bs ≡ 4 → matches_cells field bs ≡ true
four [] n = absurd (omega (arith, n))
four (a ∷ []) n = absurd (omega (arith, n))
four (a ∷ b ∷ []) n = absurd (omega (arith, n))
four (a ∷ b ∷ c ∷ []) n = absurd (omega (arith, n))
four (a ∷ b ∷ c ∷ d ∷ rest) n = refl

stands_from : (opcode : ℕ) (bs : List ℕ) → length bs ≡ 5 → get_or bs 0 0 ≡ opcode → matches_cells (exact_cells (opcode ∷ []) ++ field) bs ≡ true
stands_from opcode [] n e = absurd (omega (arith, n))
stands_from opcode (a ∷ bs) n e = let t : (a == opcode) ≡ true = eq-eqb a opcode e in rw t (four bs (omega (arith, n)))

only_first : (opcode k : ℕ) (deed : Deed) → IsOwnByte (direct opcode deed) k → k ≡ 0
only_first opcode k deed own = by_side k own.beside own.inside
  where
    by_side : (k : ℕ) → (k < 1) ⊎ (5 ≤ k) → k < 5 → k ≡ 0
    by_side k (inl a) b = omega (arith, a)
    by_side k (inr a) b = absurd (omega (arith, a, b))

pub old_length : (l : Layout) (s : Item) (r : InputRelocation) (k opcode : ℕ) → IsBranch l s r k opcode → length (slice_range s.bytes k (k + 5)) ≡ 5
old_length l s r k opcode branch = let behind = branch.behind in let inside = branch.inside in length-range s.bytes k 5 (omega (arith, behind, inside))

branch_instruction : (l : Layout) (s : Item) (r : InputRelocation) (k opcode : ℕ) (deed : Deed) → Contains (instructions_of machine.X86_64) (direct opcode deed) → l.machine ≡ machine.X86_64 → IsBranch l s r k opcode → IsInstruction l s r k (direct opcode deed)
branch_instruction l s r k opcode deed known x branch =
    let behind = branch.behind in
    let ends = branch.inside in
    record {
      code = bit_code s.flags branch.code;
      known = subst (λ (m : Machine). Contains (instructions_of m) (direct opcode deed)) (sym x) known;
      number = branch.number;
      field = behind;
      inside = omega (arith, behind, ends);
      stands = stands_from opcode (slice_range s.bytes k (k + 5)) (old_length l s r k opcode branch) (first_byte s.bytes k ∙ branch.begins);
      words = refl;
      counts = tt;
      alone = λ j own. subst (λ (n : ℕ). InNoField l s n) (let z = only_first opcode j deed own in let e : k ≡ k + j = omega (arith, z) in e) branch.free;
    }

short : (o : Instruction) → IsCallOrJump o → size_of o ≤ 5
short o (inl e) = subst (λ (p : Instruction). size_of p ≤ 5) (sym e) (omega arith)
short o (inr e) = subst (λ (p : Instruction). size_of p ≤ 5) (sym e) (omega arith)

pub branch_template : (l : Layout) (s : Item) (r : InputRelocation) (k opcode : ℕ) (deed : Deed) → Contains (instructions_of machine.X86_64) (direct opcode deed) → l.machine ≡ machine.X86_64 → IsFirst l s r → IsBranch l s r k opcode → IsTemplate l s r k (direct opcode deed) r
branch_template l s r k opcode deed known x f branch = inl (
  record {
    single = refl;
    stands = branch_instruction l s r k opcode deed known x branch;
    longest = λ from p none t. short p (which_of l s r from p x f t);
    free = λ a rest from p q c. no_sequence l s a r rest from p x f.alone.free q c;
  },
  refl,
)

-- ---- code that has the effect

-- an opcode that does that, whatever its operand reads as
abbrev pub DoesDeed : ℕ → Deed → Type 0
DoesDeed opcode deed = (a v : ℕ) (bs : List ℕ) → length bs ≡ 5 → get_or bs 0 0 ≡ opcode → effect_x86_64 (as_value v) a bs ≡ Some (record { deed = deed; width = 64; value = v % 2 ^ 64 })

call_bytes : (a v c d e f : ℕ) → effect_x86_64 (as_value v) a (0xe8 ∷ c ∷ d ∷ e ∷ f ∷ []) ≡ Some (record { deed = Call; width = 64; value = v % 2 ^ 64 })
unfolding meaning_x86_64
call_bytes a v c d e f = refl

jump_bytes : (a v c d e f : ℕ) → effect_x86_64 (as_value v) a (0xe9 ∷ c ∷ d ∷ e ∷ f ∷ []) ≡ Some (record { deed = Jump; width = 64; value = v % 2 ^ 64 })
unfolding meaning_x86_64
jump_bytes a v c d e f = refl

pub call_does : DoesDeed 0xe8 Call
call_does = λ a v bs n h. five
    (λ (xs : List ℕ). get_or xs 0 0 ≡ 0xe8 → effect_x86_64 (as_value v) a xs ≡ Some (record { deed = Call; width = 64; value = v % 2 ^ 64 }))
    (λ b c d e f is. subst (λ (k : ℕ). effect_x86_64 (as_value v) a (k ∷ c ∷ d ∷ e ∷ f ∷ []) ≡ Some (record { deed = Call; width = 64; value = v % 2 ^ 64 })) (sym is) (call_bytes a v c d e f))
    bs n h

pub jump_does : DoesDeed 0xe9 Jump
jump_does = λ a v bs n h. five
    (λ (xs : List ℕ). get_or xs 0 0 ≡ 0xe9 → effect_x86_64 (as_value v) a xs ≡ Some (record { deed = Jump; width = 64; value = v % 2 ^ 64 }))
    (λ b c d e f is. subst (λ (k : ℕ). effect_x86_64 (as_value v) a (k ∷ c ∷ d ∷ e ∷ f ∷ []) ≡ Some (record { deed = Jump; width = 64; value = v % 2 ^ 64 })) (sym is) (jump_bytes a v c d e f))
    bs n h

-- five bytes that do that begin with that opcode
abbrev pub HasOpcode : ℕ → Deed → Type 0
HasOpcode opcode deed = (read : Reader) (a : ℕ) (bs : List ℕ) (e : Effect) → length bs ≡ 5 → effect_x86_64 read a bs ≡ Some e → e.deed ≡ deed → get_or bs 0 0 ≡ opcode

abbrev starts_with : ℕ → List Cell → Bool
starts_with opcode (Is b ∷ cs) = b == opcode
starts_with opcode other = false

begins : (opcode : ℕ) (cs : List Cell) (bs : List ℕ) → starts_with opcode cs ≡ true → matches_cells cs bs ≡ true → get_or bs 0 0 ≡ opcode
begins opcode (Is b ∷ cs) bs h s = starts b cs bs s ∙ eqb-true b opcode h
begins opcode other bs h s = cc

-- a template of at most five bytes that does that begins with that opcode
abbrev fits_deed : (Deed → Bool) → ℕ → ℕ → List ℕ → Template → Bool
fits_deed is opcode a bs t = not (nat_le (length t.cells) 5) || (not (is (t.action a bs).deed) || starts_with opcode t.cells)

third : (a b c : Bool) → (not a || (not b || c)) ≡ true → a ≡ true → b ≡ true → c ≡ true
third true true c h x y = h
third true false c h x y = cc
third false b c h x y = cc

here : (is : Deed → Bool) (opcode a : ℕ) (bs : List ℕ) (t : Template) (act : Action) → length bs ≡ 5 → fits_deed is opcode a bs t ≡ true → template_fills (nop_byte ∷ []) t bs ≡ true → Some (t.action a bs) ≡ Some act → is act.deed ≡ true → get_or bs 0 0 ≡ opcode
here is opcode a bs t act n fit full same does =
    let one : t.action a bs ≡ act = cc in
    let parts = and_parts _ _ full in
    let stood = and_parts _ _ parts.1 in
    let size : nat_le (length t.cells) 5 ≡ true = subst (λ (k : ℕ). nat_le (length t.cells) k ≡ true) n parts.0 in
    let deed : is (t.action a bs).deed ≡ true = subst (λ (x : Action). is x.deed ≡ true) (sym one) does in
    begins opcode t.cells bs (third _ _ _ fit size deed) stood.0

opcode_of : (is : Deed → Bool) (opcode a : ℕ) (bs : List ℕ) (ts : List Template) (act : Action) → length bs ≡ 5 → list_all (fits_deed is opcode a bs) ts ≡ true → first_meaning (nop_byte ∷ []) ts a bs ≡ Some act → is act.deed ≡ true → get_or bs 0 0 ≡ opcode
opcode_of is opcode a bs [] act n fit h does = cc
opcode_of is opcode a bs (t ∷ ts) act n fit h does =
    let both = and_parts (fits_deed is opcode a bs t) (list_all (fits_deed is opcode a bs) ts) fit in
    elim (cases_Bool (template_fills (nop_byte ∷ []) t bs)) [
      | inl y ↦ here is opcode a bs t act n both.0 y (rw y at h) does
      | inr f ↦ opcode_of is opcode a bs ts act n both.1 (rw f at h) does
    ]

-- what an effect does is what its action does
deed_of : (read : Reader) (act : Action) (e : Effect) → effect read act ≡ Some e → e.deed ≡ act.deed
deed_of read act e h = by_value act e (read act.operand) h
  where
    by_value : (act : Action) (e : Effect) (o : Option ℕ) → option_map (with_value act) o ≡ Some e → e.deed ≡ act.deed
    by_value act e None h = cc
    by_value act e (Some v) h = let same : with_value act v ≡ e = cc in ap (λ (x : Effect). x.deed) (sym same)

by_action : (is : Deed → Bool) (opcode : ℕ) (read : Reader) (a : ℕ) (bs : List ℕ) (e : Effect) → length bs ≡ 5 → list_all (fits_deed is opcode a bs) templates_x86_64 ≡ true → (o : Option Action) → first_meaning (nop_byte ∷ []) templates_x86_64 a bs ≡ o → option_and_then (effect read) o ≡ Some e → is e.deed ≡ true → get_or bs 0 0 ≡ opcode
by_action is opcode read a bs e n fit None m h does = cc
by_action is opcode read a bs e n fit (Some act) m h does = opcode_of is opcode a bs templates_x86_64 act n fit m (subst (λ (d : Deed). is d ≡ true) (deed_of read act e h) does)

abbrev is_call : Deed → Bool
is_call Call = true
is_call other = false

abbrev is_jump : Deed → Bool
is_jump Jump = true
is_jump other = false

calls_fit : (a : ℕ) (bs : List ℕ) → list_all (fits_deed is_call 0xe8 a bs) templates_x86_64 ≡ true
calls_fit a bs = refl

jumps_fit : (a : ℕ) (bs : List ℕ) → list_all (fits_deed is_jump 0xe9 a bs) templates_x86_64 ≡ true
jumps_fit a bs = refl

pub call_opcode : HasOpcode 0xe8 Call
unfolding meaning_x86_64
call_opcode = λ read a bs e n h deed. by_action is_call 0xe8 read a bs e n (calls_fit a bs) (first_meaning (nop_byte ∷ []) templates_x86_64 a bs) refl h (ap is_call deed)

pub jump_opcode : HasOpcode 0xe9 Jump
unfolding meaning_x86_64
jump_opcode = λ read a bs e n h deed. by_action is_jump 0xe9 read a bs e n (jumps_fit a bs) (first_meaning (nop_byte ∷ []) templates_x86_64 a bs) refl h (ap is_jump deed)
