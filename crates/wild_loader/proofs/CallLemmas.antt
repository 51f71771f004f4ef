-- A call of five bytes, read back into its bytes.
use Rattle.std.proofs.Common.{◌≡◌, ℕ, ◌+◌, ◌%◌, ◌^◌, inl, inr, true, false, List, [], ◌∷◌, ◌++◌, length, take, refl, sym, ap, ◌∙◌, subst}
use Rattle.std.specs.Prelude.{◌==◌, not, Option, Some, None, option_map, option_and_then}
use Rattle.std.specs.Option.{option_or}
use Rattle.std.proofs.lemmas.Bool.{cases_Bool, eqb-true, and_parts}
use Rattle.wild_words.specs.Words.{number}
use Rattle.wild_loader.specs.declared.memory.Machine.{Machine}
use Rattle.wild_loader.specs.declared.memory.Memory.{Memory}
use Rattle.wild_loader.specs.declared.effect.Effect.{Effect}
use Rattle.wild_loader.specs.declared.effect.Value.{Value}
use Rattle.wild_loader.specs.declared.effect.Value.TheVariants as values
use Rattle.wild_loader.specs.Memory.{byte_in, number_in, Holds}
use Rattle.wild_loader.specs.declared.instruction.Operand.TheVariants.{Number, Word}
use Rattle.wild_loader.specs.declared.instruction.Action.{Action}
use Rattle.wild_loader.specs.declared.instruction.Deed.TheVariants.{Call, Jump}
use Rattle.wild_loader.specs.Instruction.{Template, matches_cells, signed_32}
use Rattle.wild_loader.specs.CodeX86_64.{branch, no_prefix, rex, rex2, with_prefix}
use Rattle.wild_loader.specs.InstructionX86_64.{whole_sequences, short}
use Rattle.wild_loader.specs.Effect.{window, first_match, narrowed_value, operand_value, effect_of, step, step_of, step_x86_64}
use Rattle.wild_loader.specs.StepLawsX86_64.{CallsAreNear}
use Rattle.wild_loader.proofs.HeldBytes.{held-first, held-rest, number-front}
use Rattle.wild_loader.proofs.StandLemmas.{standing-append, standing_passes}
use Rattle.wild_loader.proofs.Windows.{held-window}

abbrev call_to : ℕ → Effect
call_to t = record { length = 5; width = 64; deed = Call; value = values.Number t }

abbrev call_near : Template
call_near = branch (0xe8 ∷ []) Number Call

abbrev jump_near : Template
jump_near = branch (0xe9 ∷ []) Number Jump

-- the templates in front of the two of five bytes
abbrev before : List Template
before = whole_sequences ++ (with_prefix rex2 ++ (with_prefix rex ++ (with_prefix no_prefix ++ (branch (0x67 ∷ 0xe8 ∷ []) Number Call ∷ branch (0xff ∷ 0x15 ∷ []) Word Call ∷ branch (0xff ∷ 0x25 ∷ []) Word Jump ∷ []))))

-- ---- effects

-- the length and the deed of an effect are the code's
sized : (m : Memory) (size : ℕ) (act : Action) (o : Option Value) (e : Effect) → option_map (λ (v : Value). record { length = size; width = act.width; deed = act.deed; value = narrowed_value act.width v }) o ≡ Some e → (e.length ≡ size) × (e.deed ≡ act.deed)
sized m size act None e h = cc
sized m size act (Some v) e h =
    let same : record { length = size; width = act.width; deed = act.deed; value = narrowed_value act.width v } ≡ e = cc in
    (ap (λ (x : Effect). x.length) (sym same), ap (λ (x : Effect). x.deed) (sym same))

pub of_size : (m : Memory) (a : ℕ) (bs : List ℕ) (t : Template) (e : Effect) → effect_of m a bs t ≡ Some e → (e.length ≡ length t.cells) × (e.deed ≡ (t.action a (take (length t.cells) bs)).deed)
of_size m a bs t e h = sized m (length t.cells) (t.action a (take (length t.cells) bs)) (operand_value m (t.action a (take (length t.cells) bs)).operand) e h

-- ---- the template

none_is_five : (t : Template) → not (length t.cells == 5) ≡ true → length t.cells ≡ 5 → ⊥
none_is_five t h e = (let f : not (5 == 5) ≡ true = subst (λ (n : ℕ). not (n == 5) ≡ true) e h in cc)

-- what stands is none of other templates
not_other : (m : Memory) (a t : ℕ) (bs : List ℕ) (x : Template) → not (length x.cells == 5) ≡ true → effect_of m a bs x ≡ Some (call_to t) → ⊥
not_other m a t bs x other h = (let e : 5 ≡ length x.cells = (of_size m a bs x (call_to t) h).0 in none_is_five x other (sym e))

not_jump : (m : Memory) (a t : ℕ) (bs : List ℕ) → effect_of m a bs jump_near ≡ Some (call_to t) → ⊥
not_jump m a t bs h = (let e : Call ≡ Jump = (of_size m a bs jump_near (call_to t) h).1 in cc)

abbrev Found : Memory → ℕ → ℕ → List ℕ → Option Template → Type 0
Found m a t bs found = option_and_then (effect_of m a bs) found ≡ Some (call_to t)

-- behind the call
after : (m : Memory) (a t : ℕ) (bs : List ℕ) → Found m a t bs (first_match (jump_near ∷ short) bs) → ⊥
unfolding first_match
after m a t bs h =
    elim (cases_Bool (matches_cells jump_near.cells bs)) [
      | inl y ↦ not_jump m a t bs (rw y at h)
      | inr n ↦ last (first_match short bs) (rw n at h) (λ x e. standing_passes (λ (t : Template). not (length t.cells == 5)) short bs x refl e)
    ]
  where
    last : (found : Option Template) → Found m a t bs found → ((x : Template) → found ≡ Some x → not (length x.cells == 5) ≡ true) → ⊥
    last None h other = cc
    last (Some x) h other = not_other m a t bs x (other x refl) h

stands_call : (m : Memory) (a t : ℕ) (bs : List ℕ) → Found m a t bs (first_match (call_near ∷ (jump_near ∷ short)) bs) → (matches_cells call_near.cells bs ≡ true) × (effect_of m a bs call_near ≡ Some (call_to t))
unfolding first_match
stands_call m a t bs h =
    elim (cases_Bool (matches_cells call_near.cells bs)) [
      | inl y ↦ (y, rw y at h)
      | inr n ↦ absurd (after m a t bs (rw n at h))
    ]

by_call : (m : Memory) (a t : ℕ) (bs : List ℕ) (found : Option Template) → found ≡ first_match before bs → Found m a t bs (option_or found (first_match (call_near ∷ (jump_near ∷ short)) bs)) → (matches_cells call_near.cells bs ≡ true) × (effect_of m a bs call_near ≡ Some (call_to t))
by_call m a t bs None e h = stands_call m a t bs h
by_call m a t bs (Some x) e h = absurd (not_other m a t bs x (standing_passes (λ (t : Template). not (length t.cells == 5)) before bs x refl (sym e)) h)

-- ---- bytes

abbrev IsNear : Memory → ℕ → ℕ → Type 0
IsNear m a t = (byte_in m a ≡ Some 0xe8) × (displacement : ℕ) × (number_in m (a + 1) 4 ≡ Some displacement) × ((a + 5 + signed_32 displacement) % 2 ^ 64 ≡ t)

near : (m : Memory) (a t : ℕ) (bs : List ℕ) → Holds m a bs → matches_cells call_near.cells bs ≡ true → effect_of m a bs call_near ≡ Some (call_to t) → IsNear m a t
near m a t [] held s h = cc
near m a t (x ∷ []) held s h = absurd (let f : false ≡ true = (and_parts (x == 0xe8) false s).1 in cc)
near m a t (x ∷ b ∷ []) held s h = absurd (let f : false ≡ true = (and_parts (x == 0xe8) false s).1 in cc)
near m a t (x ∷ b ∷ c ∷ []) held s h = absurd (let f : false ≡ true = (and_parts (x == 0xe8) false s).1 in cc)
near m a t (x ∷ b ∷ c ∷ d ∷ []) held s h = absurd (let f : false ≡ true = (and_parts (x == 0xe8) false s).1 in cc)
near m a t (x ∷ b ∷ c ∷ d ∷ e ∷ more) held s h =
    let opcode : x ≡ 0xe8 = eqb-true x 0xe8 (and_parts (x == 0xe8) true s).0 in
    let first : byte_in m a ≡ Some x = held-first m a x (b ∷ c ∷ d ∷ e ∷ more) held in
    let behind = number-front m (a + 1) (b ∷ c ∷ d ∷ e ∷ []) more (held-rest m a x (b ∷ c ∷ d ∷ e ∷ more) held) in
    let same : record { length = 5; width = 64; deed = Call; value = values.Number ((a + 5 + signed_32 (number (b ∷ c ∷ d ∷ e ∷ []))) % 2 ^ 64) } ≡ call_to t = cc in
    let value : values.Number ((a + 5 + signed_32 (number (b ∷ c ∷ d ∷ e ∷ []))) % 2 ^ 64) ≡ values.Number t = ap (λ (e : Effect). e.value) same in
    (first ∙ ap (λ (n : ℕ). Some n) opcode, number (b ∷ c ∷ d ∷ e ∷ []), behind, (let target : (a + 5 + signed_32 (number (b ∷ c ∷ d ∷ e ∷ []))) % 2 ^ 64 ≡ t = cc in target))

pub call-near : CallsAreNear
unfolding step_x86_64
call-near = λ m a t machine h.
    let bs = window m a 22 in
    let run : step m a ≡ step_x86_64 m a = ap (λ (k : Machine). step_of k m a) machine in
    let found : Found m a t bs (first_match (before ++ (call_near ∷ (jump_near ∷ short))) bs) = sym run ∙ h in
    let turn : Found m a t bs (option_or (first_match before bs) (first_match (call_near ∷ (jump_near ∷ short)) bs)) = subst (λ (o : Option Template). Found m a t bs o) (standing-append before (call_near ∷ (jump_near ∷ short)) bs) found in
    let call = by_call m a t bs (first_match before bs) refl turn in
    near m a t bs (held-window m a 22) call.0 call.1
