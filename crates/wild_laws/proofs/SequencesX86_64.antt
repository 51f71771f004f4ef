-- Instructions that relocations fill: of the first types the direct call and the direct jump alone; behind the opcode of a call or a jump
-- through a slot these two alone; and of a sequence's first field those that ask for a thread address.
use Rattle.wild_laws.proofs.Common.{◌≡◌, ℕ, zero, suc, ◌-◌, ◌<◌, ◌≤◌, ◌⊎◌, inl, inr, Bool, true, false, List, [], ◌∷◌, length, get_or, refl, sym, ap, ◌∙◌, arith, subst, eq-eqb, Contains, not, ◌&&◌, ◌||◌, ◌==◌, nat_le, nat_lt, drop, list_all, cases_Bool, and_parts, eqb-true, listed_passes, Cell, Is, Deed, Call, Jump, matches_cells, Instruction, size_of, instructions_of}
use Rattle.std.specs.List.{list_any}
use Rattle.std.proofs.lemmas.Bool.{ltb-true, leb-true}
use Rattle.wild_words.proofs.Basics.{implied}
use Rattle.wild_types.specs.declared.kind.Machine.TheVariants as machine
use Rattle.wild_loader.specs.declared.instruction.Operand.TheVariants.{Number, Word}
use Rattle.wild_loader.specs.CodeX86_64.{branch}
use Rattle.wild_meaning.specs.Sequence.{Partner, Target, TargetInSlot, of_field}
use Rattle.wild_meaning.proofs.PairLemmas.{are_several, the_one}
use Rattle.wild_laws.specs.FirstTypes.{first_types, branch_types, slot_types, thread_types, call_types}

-- ---- types of relocations

abbrev pub is_of : List ℕ → ℕ → Bool
is_of ns n = list_any (λ m. n == m) ns

abbrev pub is_first : ℕ → Bool
is_first n = is_of first_types n

pub first : (n : ℕ) → Contains first_types n → is_first n ≡ true
first n c = listed_passes is_first first_types n refl c

pub one_of : (ns : List ℕ) (n : ℕ) → is_of ns n ≡ true → Contains ns n
one_of [] n h = cc
one_of (m ∷ ms) n h =
    elim (cases_Bool (n == m)) [
      | inl t ↦ (0, omega arith, sym (eqb-true n m t))
      | inr f ↦ (let c = one_of ms n (rw f at h) in (suc c.0, omega (arith, c.1), c.2))
    ]

abbrev pub is_thread : ℕ → Bool
is_thread n = is_of thread_types n

pub thread : (n : ℕ) → Contains thread_types n → is_thread n ≡ true
thread n c = listed_passes is_thread thread_types n refl c

abbrev pub is_slot : ℕ → Bool
is_slot n = is_of slot_types n

-- ---- instructions

-- a direct call or jump
abbrev pub direct : ℕ → Deed → Instruction
direct opcode deed = of_field (branch (opcode ∷ []) Number deed) 1 Target branch_types

-- those behind the two
abbrev all_but_two : List Instruction → List Instruction
all_but_two (a ∷ b ∷ os) = os
all_but_two other = []

abbrev others : List Instruction
others = all_but_two (instructions_of machine.X86_64)

abbrev has_none : List ℕ → Bool
has_none ns = list_all (λ n. not (is_first n)) ns

others_have_none : list_all (λ (o : Instruction). has_none o.numbers) others ≡ true
others_have_none = refl

no_other : {A : Type 0} (b : Bool) → not b ≡ true → b ≡ true → A
no_other true h e = cc
no_other false h e = cc

-- what holds of the two holds of each that such a relocation fills
pub by_instruction : (P : Instruction → Type 0) (o : Instruction) (n : ℕ) → P (direct 0xe8 Call) → P (direct 0xe9 Jump) → Contains (instructions_of machine.X86_64) o → Contains o.numbers n → is_first n ≡ true → P o
by_instruction P o n call jump known number f = at P o n call jump known.0 known.1 known.2 number f
  where
    at : (P : Instruction → Type 0) (o : Instruction) (n : ℕ) → P (direct 0xe8 Call) → P (direct 0xe9 Jump) → (k : ℕ) → k < length (instructions_of machine.X86_64) → get_or (instructions_of machine.X86_64) k o ≡ o → Contains o.numbers n → is_first n ≡ true → P o
    at P o n call jump zero l e number f = subst P e call
    at P o n call jump (suc zero) l e number f = subst P e jump
    at P o n call jump (suc (suc k)) l e number f =
        let none = listed_passes (λ (p : Instruction). has_none p.numbers) others o others_have_none (k, omega (arith, l), e) in
        no_other (is_first n) (listed_passes (λ (m : ℕ). not (is_first m)) o.numbers n none number) f

-- ---- sequences

abbrev asks_alone : Instruction → Bool
asks_alone o = not (are_several o.partners) || list_all is_thread o.numbers

all_ask : list_all asks_alone (instructions_of machine.X86_64) ≡ true
all_ask = refl

-- the first field of a sequence asks for a thread address
pub first_number_is_thread : (o : Instruction) (p : Partner) (n : ℕ) → Contains (instructions_of machine.X86_64) o → o.partners ≡ p ∷ [] → Contains o.numbers n → is_thread n ≡ true
first_number_is_thread o p n known calls number =
    listed_passes is_thread o.numbers n (implied (are_several o.partners) (list_all is_thread o.numbers) (listed_passes asks_alone (instructions_of machine.X86_64) o all_ask known) (ap are_several calls)) number

abbrev calls_alone : Partner → Bool
calls_alone p = list_all (is_of call_types) p.numbers

all_call : list_all (λ (o : Instruction). list_all calls_alone o.partners) (instructions_of machine.X86_64) ≡ true
all_call = refl

-- and the field of its call has a call's type
pub calling : (o : Instruction) (p : Partner) (n : ℕ) → Contains (instructions_of machine.X86_64) o → o.partners ≡ p ∷ [] → Contains p.numbers n → Contains call_types n
calling o p n known calls number =
    one_of call_types n (listed_passes (is_of call_types) p.numbers n (listed_passes calls_alone o.partners p (listed_passes (λ (q : Instruction). list_all calls_alone q.partners) (instructions_of machine.X86_64) o all_call known) (the_one o.partners p calls)) number)

-- ---- calls and jumps through slots

abbrev pub through : ℕ → Deed → Instruction
through opcode deed = of_field (branch (0xff ∷ opcode ∷ []) Word deed) 2 TargetInSlot slot_types

abbrev pub IsThrough : Instruction → Type 0
IsThrough o = (o ≡ through 0x15 Call) ⊎ (o ≡ through 0x25 Jump)

-- the first cell is a byte other than ff
abbrev begins_apart : List Cell → Bool
begins_apart (Is b ∷ cs) = not (b == 0xff)
begins_apart other = false

-- two bytes before the field stands another
abbrev has_other : Instruction → Bool
has_other o = nat_le 2 o.field && (nat_lt o.field (size_of o) && begins_apart (drop (o.field - 2) o.template.cells))

-- a sequence, or no slot's type, or another opcode
abbrev is_other : Instruction → Bool
is_other o = are_several o.partners || (list_all (λ n. not (is_slot n)) o.numbers || has_other o)

abbrev behind_slots : List Instruction
behind_slots = all_but_two others

all_other : list_all is_other behind_slots ≡ true
all_other = refl

not_there : (cs : List Cell) (bs : List ℕ) (j : ℕ) → matches_cells cs bs ≡ true → begins_apart (drop j cs) ≡ true → get_or bs j 0 ≡ 0xff → ⊥
not_there [] bs zero s b h = cc
not_there [] bs (suc j) s b h = cc
not_there (c ∷ cs) [] j s b h = cc
not_there (Is n ∷ cs) (x ∷ xs) zero s b h =
    let same = eqb-true x n (and_parts (x == n) (matches_cells cs xs) s).0 in
    let is : (n == 0xff) ≡ true = eq-eqb n 0xff (sym same ∙ h) in
    no_other (n == 0xff) b is
not_there (c ∷ cs) (x ∷ xs) zero s b h = cc
not_there (c ∷ cs) (x ∷ xs) (suc j) s b h = not_there cs xs j (and_parts _ (matches_cells cs xs) s).1 b h

no_slot_type : (o : Instruction) (n : ℕ) → list_all (λ m. not (is_slot m)) o.numbers ≡ true → Contains o.numbers n → is_slot n ≡ true → ⊥
no_slot_type o n none number slot = no_other (is_slot n) (listed_passes (λ (m : ℕ). not (is_slot m)) o.numbers n none number) slot

by_tests : (a b c : Bool) → (a || (b || c)) ≡ true → a ≡ false → (b ≡ true) ⊎ (c ≡ true)
by_tests true b c h n = cc
by_tests false true c h n = inl refl
by_tests false false c h n = inr h

excluded : (o : Instruction) (n : ℕ) (bs : List ℕ) → is_other o ≡ true → o.partners ≡ [] → Contains o.numbers n → is_slot n ≡ true → matches_cells o.template.cells bs ≡ true → (2 ≤ o.field → o.field < size_of o → get_or bs (o.field - 2) 0 ≡ 0xff) → ⊥
excluded o n bs other single number slot stood byte =
    elim (by_tests (are_several o.partners) (list_all (λ m. not (is_slot m)) o.numbers) (has_other o) other (ap are_several single)) [
      | inl none ↦ no_slot_type o n none number slot
      | inr h ↦
          let low = and_parts (nat_le 2 o.field) _ h in
          let high = and_parts (nat_lt o.field (size_of o)) _ low.1 in
          not_there o.template.cells bs (o.field - 2) stood high.1 (byte (leb-true 2 o.field low.0) (ltb-true o.field (size_of o) high.0))
    ]

-- an instruction of a slot's type behind the byte ff is a call or a jump through one
pub is_through : (o : Instruction) (n : ℕ) (bs : List ℕ) → Contains (instructions_of machine.X86_64) o → o.partners ≡ [] → Contains o.numbers n → is_slot n ≡ true → matches_cells o.template.cells bs ≡ true → (2 ≤ o.field → o.field < size_of o → get_or bs (o.field - 2) 0 ≡ 0xff) → IsThrough o
is_through o n bs known single number slot stood byte = at o n bs known.0 known.1 known.2 single number slot stood byte
  where
    at : (o : Instruction) (n : ℕ) (bs : List ℕ) (k : ℕ) → k < length (instructions_of machine.X86_64) → get_or (instructions_of machine.X86_64) k o ≡ o → o.partners ≡ [] → Contains o.numbers n → is_slot n ≡ true → matches_cells o.template.cells bs ≡ true → (2 ≤ o.field → o.field < size_of o → get_or bs (o.field - 2) 0 ≡ 0xff) → IsThrough o
    at o n bs zero l e single number slot stood byte = absurd (no_slot_type o n (subst (λ (p : Instruction). list_all (λ m. not (is_slot m)) p.numbers ≡ true) e refl) number slot)
    at o n bs (suc zero) l e single number slot stood byte = absurd (no_slot_type o n (subst (λ (p : Instruction). list_all (λ m. not (is_slot m)) p.numbers ≡ true) e refl) number slot)
    at o n bs (suc (suc zero)) l e single number slot stood byte = inl (sym e)
    at o n bs (suc (suc (suc zero))) l e single number slot stood byte = inr (sym e)
    at o n bs (suc (suc (suc (suc k)))) l e single number slot stood byte =
        absurd (excluded o n bs (listed_passes is_other behind_slots o all_other (k, omega (arith, l), e)) single number slot stood byte)
