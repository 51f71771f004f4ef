-- The effects of the known instructions of x86-64 in memory that has their bytes.
use Rattle.std.proofs.Common.{◌≡◌, ℕ, ◌+◌, ◌%◌, ◌^◌, ◌≤◌, inl, inr, List, [], ◌∷◌, ◌++◌, length, get_or, refl, sym, ap, ◌∙◌, arith, subst}
use Rattle.std.specs.Prelude.{Option, Some, nat_lt, option_map}
use Rattle.std.proofs.lemmas.Bool.{cases_Bool, ltb-true, ltb-false}
use Rattle.wild_words.specs.Words.{word, number}
use Rattle.wild_words.proofs.WordLemmas.{length-word, number-word_4}
use Rattle.wild_loader.specs.declared.memory.Machine.{Machine}
use Rattle.wild_loader.specs.declared.memory.Machine.TheVariants as machines
use Rattle.wild_loader.specs.declared.memory.Memory.{Memory}
use Rattle.wild_loader.specs.declared.effect.Effect.{Effect}
use Rattle.wild_loader.specs.declared.effect.Value.{Value}
use Rattle.wild_loader.specs.declared.effect.Value.TheVariants as values
use Rattle.wild_loader.specs.Memory.{number_in, Holds}
use Rattle.wild_loader.specs.declared.instruction.Operand.TheVariants.{Number, Word}
use Rattle.wild_loader.specs.declared.instruction.Deed.{Deed}
use Rattle.wild_loader.specs.declared.instruction.Deed.TheVariants.{Call, Jump}
use Rattle.wild_loader.specs.Instruction.{Template, signed_32}
use Rattle.wild_loader.specs.CodeX86_64.{branch, stub}
use Rattle.wild_loader.specs.InstructionX86_64.{templates_x86_64}
use Rattle.wild_loader.specs.Effect.{window, first_match, narrowed_value, effect_of, step, step_of, step_x86_64}
use Rattle.wild_loader.specs.StepLawsX86_64.{stub_bytes, CallsAreRead, CallsOfValuesAreRead, JumpsAreRead, SlotCallsAreRead, SlotJumpsAreRead, StubsAreRead, IsSigned32, StubsOfValuesAreRead}
use Rattle.wild_loader.proofs.Windows.{window-held}

-- where a template stands at the front of bytes, whatever is behind them, memory that has the bytes does what it does
stepped : (m : Memory) (a : ℕ) (bs : List ℕ) (t : Template) → m.machine ≡ machines.X86_64 → length bs ≤ 22 → Holds m a bs → ((more : List ℕ) → first_match templates_x86_64 (bs ++ more) ≡ Some t)
    → (more : List ℕ) × (step m a ≡ effect_of m a (bs ++ more) t)
unfolding step_x86_64
stepped m a bs t machine short h stands =
    let w = window-held m a bs 22 short h in
    let front : first_match templates_x86_64 (window m a 22) ≡ Some t = ap (λ (xs : List ℕ). first_match templates_x86_64 xs) w.1 ∙ stands w.0 in
    let run : step m a ≡ step_x86_64 m a = ap (λ (k : Machine). step_of k m a) machine in
    let does : step_x86_64 m a ≡ effect_of m a (window m a 22) t = rw front refl in
    (w.0, run ∙ does ∙ ap (λ (xs : List ℕ). effect_of m a xs t) w.1)

-- four bytes
four_are : (bs : List ℕ) → length bs ≡ 4 → get_or bs 0 0 ∷ get_or bs 1 0 ∷ get_or bs 2 0 ∷ get_or bs 3 0 ∷ [] ≡ bs
four_are [] n = absurd (omega (arith, n))
four_are (a ∷ []) n = absurd (omega (arith, n))
four_are (a ∷ b ∷ []) n = absurd (omega (arith, n))
four_are (a ∷ b ∷ c ∷ []) n = absurd (omega (arith, n))
four_are (a ∷ b ∷ c ∷ d ∷ []) n = refl
four_are (a ∷ b ∷ c ∷ d ∷ e ∷ bs) n = absurd (omega (arith, n))

-- what holds of four bytes each, holds of a field of four
of_four : (P : List ℕ → Type 0) → ((a b c d : ℕ) → P (a ∷ b ∷ c ∷ d ∷ [])) → (bs : List ℕ) → length bs ≡ 4 → P bs
of_four P each bs n = subst P (four_are bs n) (each (get_or bs 0 0) (get_or bs 1 0) (get_or bs 2 0) (get_or bs 3 0))

-- ---- instructions

-- code of so many bytes that does that with a number
abbrev done : ℕ → Deed → ℕ → Option Effect
done size deed n = Some (record { length = size; width = 64; deed = deed; value = values.Number n })

-- the same with what memory has
abbrev done_with : ℕ → Deed → Option ℕ → Option Effect
done_with size deed o = option_map (λ (v : Value). record { length = size; width = 64; deed = deed; value = narrowed_value 64 v }) (option_map values.Number o)

call_four : (m : Memory) (x b c d e : ℕ) → m.machine ≡ machines.X86_64 → Holds m x (0xe8 ∷ b ∷ c ∷ d ∷ e ∷ []) → step m x ≡ done 5 Call ((x + 5 + signed_32 (number (b ∷ c ∷ d ∷ e ∷ []))) % 2 ^ 64)
unfolding first_match
call_four m x b c d e machine h = (stepped m x (0xe8 ∷ b ∷ c ∷ d ∷ e ∷ []) (branch (0xe8 ∷ []) Number Call) machine (omega arith) h (λ more. refl)).1

jump_four : (m : Memory) (x b c d e : ℕ) → m.machine ≡ machines.X86_64 → Holds m x (0xe9 ∷ b ∷ c ∷ d ∷ e ∷ []) → step m x ≡ done 5 Jump ((x + 5 + signed_32 (number (b ∷ c ∷ d ∷ e ∷ []))) % 2 ^ 64)
unfolding first_match
jump_four m x b c d e machine h = (stepped m x (0xe9 ∷ b ∷ c ∷ d ∷ e ∷ []) (branch (0xe9 ∷ []) Number Jump) machine (omega arith) h (λ more. refl)).1

slot_call_four : (m : Memory) (x b c d e : ℕ) → m.machine ≡ machines.X86_64 → Holds m x (0xff ∷ 0x15 ∷ b ∷ c ∷ d ∷ e ∷ []) → step m x ≡ done_with 6 Call (number_in m ((x + 6 + signed_32 (number (b ∷ c ∷ d ∷ e ∷ []))) % 2 ^ 64) 8)
unfolding first_match
slot_call_four m x b c d e machine h = (stepped m x (0xff ∷ 0x15 ∷ b ∷ c ∷ d ∷ e ∷ []) (branch (0xff ∷ 0x15 ∷ []) Word Call) machine (omega arith) h (λ more. refl)).1

slot_jump_four : (m : Memory) (x b c d e : ℕ) → m.machine ≡ machines.X86_64 → Holds m x (0xff ∷ 0x25 ∷ b ∷ c ∷ d ∷ e ∷ []) → step m x ≡ done_with 6 Jump (number_in m ((x + 6 + signed_32 (number (b ∷ c ∷ d ∷ e ∷ []))) % 2 ^ 64) 8)
unfolding first_match
slot_jump_four m x b c d e machine h = (stepped m x (0xff ∷ 0x25 ∷ b ∷ c ∷ d ∷ e ∷ []) (branch (0xff ∷ 0x25 ∷ []) Word Jump) machine (omega arith) h (λ more. refl)).1

stub_four : (m : Memory) (x b c d e : ℕ) → m.machine ≡ machines.X86_64 → Holds m x (stub_bytes (b ∷ c ∷ d ∷ e ∷ [])) → step m x ≡ done_with 16 Jump (number_in m ((x + 11 + signed_32 (number (b ∷ c ∷ d ∷ e ∷ []))) % 2 ^ 64) 8)
unfolding first_match
stub_four m x b c d e machine h = (stepped m x (stub_bytes (b ∷ c ∷ d ∷ e ∷ [])) stub machine (omega arith) h (λ more. refl)).1

pub call-held : CallsAreRead
call-held = λ m a field machine n h.
    of_four (λ (bs : List ℕ). Holds m a (0xe8 ∷ bs) → step m a ≡ done 5 Call ((a + 5 + signed_32 (number bs)) % 2 ^ 64)) (λ b c d e held. call_four m a b c d e machine held) field n h

pub call-of_value : CallsOfValuesAreRead
call-of_value = λ m a v machine h. call-held m a (word 4 v) machine (length-word 4 v) h ∙ ap (λ (x : ℕ). done 5 Call ((a + 5 + signed_32 x) % 2 ^ 64)) (number-word_4 v)

pub jump-held : JumpsAreRead
jump-held = λ m a field machine n h.
    of_four (λ (bs : List ℕ). Holds m a (0xe9 ∷ bs) → step m a ≡ done 5 Jump ((a + 5 + signed_32 (number bs)) % 2 ^ 64)) (λ b c d e held. jump_four m a b c d e machine held) field n h

pub slot_call-held : SlotCallsAreRead
slot_call-held = λ m a v field machine n h w.
    of_four (λ (bs : List ℕ). Holds m a (0xff ∷ 0x15 ∷ bs) → step m a ≡ done_with 6 Call (number_in m ((a + 6 + signed_32 (number bs)) % 2 ^ 64) 8)) (λ b c d e held. slot_call_four m a b c d e machine held) field n h
    ∙ ap (λ (o : Option ℕ). done_with 6 Call o) w

pub slot_jump-held : SlotJumpsAreRead
slot_jump-held = λ m a v field machine n h w.
    of_four (λ (bs : List ℕ). Holds m a (0xff ∷ 0x25 ∷ bs) → step m a ≡ done_with 6 Jump (number_in m ((a + 6 + signed_32 (number bs)) % 2 ^ 64) 8)) (λ b c d e held. slot_jump_four m a b c d e machine held) field n h
    ∙ ap (λ (o : Option ℕ). done_with 6 Jump o) w

pub stub-held : StubsAreRead
stub-held = λ m a v field machine n h w.
    of_four (λ (bs : List ℕ). Holds m a (stub_bytes bs) → step m a ≡ done_with 16 Jump (number_in m ((a + 11 + signed_32 (number bs)) % 2 ^ 64) 8)) (λ b c d e held. stub_four m a b c d e machine held) field n h
    ∙ ap (λ (o : Option ℕ). done_with 16 Jump o) w

-- four bytes of a signed number of 32 bits are read as it
signed-value : (d : ℕ) → IsSigned32 d → signed_32 (d % 2 ^ 32) ≡ d
signed-value d (inl low) =
    elim (cases_Bool (nat_lt (d % 2 ^ 32) (2 ^ 31))) [
      | inl t ↦ rw t (omega (arith, low))
      | inr f ↦ absurd (let l = ltb-false _ _ f in omega (arith, l, low))
    ]
signed-value d (inr high) =
    let above = high.0 in
    let below = high.1 in
    elim (cases_Bool (nat_lt (d % 2 ^ 32) (2 ^ 31))) [
      | inl t ↦ absurd (let l = ltb-true _ _ t in omega (arith, l, above, below))
      | inr f ↦ rw f (omega (arith, above, below))
    ]

pub stub-of_value : StubsOfValuesAreRead
stub-of_value = λ m a d v machine range h w.
    let e : signed_32 (number (word 4 d)) ≡ d = ap (λ (x : ℕ). signed_32 x) (number-word_4 d) ∙ signed-value d range in
    stub-held m a v (word 4 d) machine (length-word 4 d) h (subst (λ (x : ℕ). number_in m ((a + 11 + x) % 2 ^ 64) 8 ≡ Some v) (sym e) w)
