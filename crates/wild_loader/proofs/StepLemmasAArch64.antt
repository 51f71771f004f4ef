-- What words of code in memory of an AArch64 image do.
use Rattle.std.proofs.Common.{◌≡◌, ℕ, zero, suc, ◌+◌, ◌-◌, ◌*◌, ◌/◌, ◌%◌, ◌^◌, ◌<◌, ◌≤◌, inl, inr, List, [], ◌∷◌, ◌++◌, length, refl, ap, ◌∙◌, arith, subst}
use Rattle.std.specs.Prelude.{⊤, Option, Some, option_map, option_and_then}
use Rattle.wild_words.specs.Words.{word, number}
use Rattle.wild_words.proofs.WordLemmas.{length-word, number-word_4}
use Rattle.wild_aarch64.specs.Immediate.{Imm12, Imm21, insert_bits, word_with_immediate}
use Rattle.wild_aarch64.specs.Machine.{page, jump_to, jump_through}
use Rattle.wild_aarch64.specs.declared.template.Step as run
use Rattle.wild_aarch64.specs.Template as longest
use Rattle.wild_aarch64.specs.Template.{sized_step}
use Rattle.wild_aarch64.specs.Row.{distance}
use Rattle.wild_aarch64.specs.Stub.{stub, marked_stub, thunk}
use Rattle.wild_aarch64.proofs.StubLemmas as steps
use Rattle.wild_loader.specs.declared.memory.Machine.{Machine}
use Rattle.wild_loader.specs.declared.memory.Machine.TheVariants as machines
use Rattle.wild_loader.specs.declared.memory.Memory.{Memory}
use Rattle.wild_loader.specs.declared.effect.Effect.{Effect}
use Rattle.wild_loader.specs.declared.effect.Value.{Value}
use Rattle.wild_loader.specs.declared.effect.Value.TheVariants as values
use Rattle.wild_loader.specs.declared.instruction.Deed.TheVariants.{Jump}
use Rattle.wild_loader.specs.Memory.{number_in, Holds}
use Rattle.wild_loader.specs.InstructionAArch64.{action_of}
use Rattle.wild_loader.specs.Effect.{words_at, narrowed_value, effect_in, step, step_of, step_aarch64}
use Rattle.wild_loader.specs.StepLawsAArch64.{bytes_of_words, StubsAreRead, MarkedStubsAreRead, ThunksAreRead, JumpsReach}
use Rattle.wild_loader.proofs.HeldBytes.{held-after, number-front}

-- ---- words that memory has

-- each is one of 32 bits
abbrev AreWords : List ℕ → Type 0
AreWords [] = ⊤
AreWords (w ∷ ws) = (w < 2 ^ 32) × AreWords ws

word-front : (m : Memory) (a w : ℕ) (more : List ℕ) → w < 2 ^ 32 → Holds m a (word 4 w ++ more) → (number_in m a 4 ≡ Some w) × Holds m (a + 4) more
word-front m a w more small h =
    let long = length-word 4 w in
    let first : number_in m a 4 ≡ Some (number (word 4 w)) = subst (λ (n : ℕ). number_in m a n ≡ Some (number (word 4 w))) long (number-front m a (word 4 w) more h) in
    let is : number (word 4 w) ≡ w = number-word_4 w ∙ omega arith in
    (first ∙ ap (λ (n : ℕ). Some n) is, subst (λ (n : ℕ). Holds m (a + n) more) long (held-after m a (word 4 w) more h))

-- words that memory has are the first
words-held : (m : Memory) (a : ℕ) (ws : List ℕ) (n : ℕ) → length ws ≤ n → AreWords ws → Holds m a (bytes_of_words ws) → (more : List ℕ) × (words_at m a n ≡ ws ++ more)
unfolding words_at
words-held m a [] n short small h = (words_at m a n, refl)
words-held m a (w ∷ ws) zero short small h = absurd (omega (arith, short))
words-held m a (w ∷ ws) (suc n) short small h =
    let front = word-front m a w (bytes_of_words ws) small.0 h in
    let rest = words-held m (a + 4) ws n (omega (arith, short)) small.1 front.1 in
    (rest.0, rw front.0 (ap (λ (xs : List ℕ). w ∷ xs) rest.1))

-- where the longest run in front of words is known, whatever stands behind them, memory that has the words does what it does
stepped : (m : Memory) (a : ℕ) (ws : List ℕ) (s : run.Step) → m.machine ≡ machines.AArch64 → length ws ≤ 4 → AreWords ws → Holds m a (bytes_of_words ws) → ((more : List ℕ) → longest.step_of a (ws ++ more) ≡ Some s)
    → step m a ≡ option_and_then (effect_in m (4 * s.words)) (action_of s.action)
unfolding step_aarch64
stepped m a ws s machine short small h known =
    let loaded = words-held m a ws 4 short small h in
    let front : longest.step_of a (words_at m a 4) ≡ Some s = ap (λ (xs : List ℕ). longest.step_of a xs) loaded.1 ∙ known loaded.0 in
    let here : step m a ≡ step_aarch64 m a = ap (λ (k : Machine). step_of k m a) machine in
    let does : step_aarch64 m a ≡ option_and_then (effect_in m (4 * s.words)) (action_of s.action) = ap (λ (o : Option run.Step). option_and_then (λ (t : run.Step). option_and_then (effect_in m (4 * t.words)) (action_of t.action)) o) front in
    here ∙ does

-- ---- stubs and thunks

-- with an immediate a word has as many bits
imm21-small : (x w : ℕ) → w < 2 ^ 32 → word_with_immediate Imm21 x w < 2 ^ 32
unfolding insert_bits
imm21-small x w l = omega (arith, l)

imm12-small : (x w : ℕ) → w < 2 ^ 32 → word_with_immediate Imm12 x w < 2 ^ 32
unfolding insert_bits
imm12-small x w l = omega (arith, l)

-- a jump to what memory has in a word
abbrev jump_with : Option ℕ → Option Effect
jump_with o = option_map (λ (v : Value). record { length = 16; width = 64; deed = Jump; value = narrowed_value 64 v }) (option_map values.Number o)

pub stubs-read : StubsAreRead
stubs-read = λ m base p g v machine slot at held read.
    let k = g - page p in
    let small : AreWords (stub p g) = (imm21-small (k / 4096) 0x90000010 (omega arith), (imm12-small (k % 4096 / 8) 0xf9400211 (omega arith), (omega arith, (omega arith, tt)))) in
    stepped m (base + p) (stub p g) (sized_step 4 (jump_through (base + g))) machine (omega arith) small held (λ more. steps.stubs_are_steps base p g more slot at)
    ∙ ap (λ (o : Option ℕ). jump_with o) read

pub bti_stubs-read : MarkedStubsAreRead
bti_stubs-read = λ m base p g v machine slot at held read.
    let k = g - page (p + 4) in
    let small : AreWords (marked_stub p g) = (omega arith, (imm21-small (k / 4096) 0x90000010 (omega arith), (imm12-small (k % 4096 / 8) 0xf9400211 (omega arith), (omega arith, tt)))) in
    stepped m (base + p) (marked_stub p g) (sized_step 4 (jump_through (base + g))) machine (omega arith) small held (λ more. steps.marked_stubs_are_steps base p g more slot at)
    ∙ ap (λ (o : Option ℕ). jump_with o) read

pub thunks-read : ThunksAreRead
thunks-read = λ m base p t machine near pages code held.
    let small : AreWords (thunk p t) = (imm21-small (distance (page p) (page t) / 4096 % 2 ^ 21) 0x90000010 (omega arith), (imm12-small (t % 4096) 0x91000210 (omega arith), (omega arith, tt))) in
    stepped m (base + p) (thunk p t) (sized_step 3 (jump_to ((base + t) % 2 ^ 64))) machine (omega arith) small held (λ more. steps.thunks_are_steps base p t more near pages code)

pub jumps-reach : JumpsReach
jumps-reach = λ m a v e known goes. inr (v, record { effect = e; known = known; jump = goes }, inl refl)
