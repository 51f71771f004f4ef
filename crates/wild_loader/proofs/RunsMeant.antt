-- What a run of words in memory does is what its words mean.
use Rattle.std.proofs.Common.{◌≡◌, ℕ, zero, suc, ◌+◌, ◌*◌, ◌<◌, ◌≤◌, inl, inr, Bool, true, false, List, [], ◌∷◌, ◌++◌, length, map, take, refl, sym, ap, ◌∙◌, arith, subst}
use Rattle.std.specs.Prelude.{◌&&◌, Option, Some, None, option_map, option_and_then}
use Rattle.std.proofs.lemmas.Bool.{cases_Bool, and_parts}
use Rattle.std.proofs.lemmas.List.{length-map}
use Rattle.wild_words.specs.Words.{number}
use Rattle.wild_aarch64.specs.declared.code.Code.{Code}
use Rattle.wild_aarch64.specs.declared.operand.Action as run-action
use Rattle.wild_aarch64.specs.declared.template.Template as runs
use Rattle.wild_aarch64.specs.declared.template.Template.TheVariants as kinds
use Rattle.wild_aarch64.specs.declared.template.Step as run
use Rattle.wild_aarch64.specs.Code.{read}
use Rattle.wild_aarch64.specs.Machine.{meaning}
use Rattle.wild_aarch64.specs.Effect.{words_of}
use Rattle.wild_aarch64.specs.Template as longest
use Rattle.wild_aarch64.specs.Template.{codes_of, size_of, begins, fits, register_in, sized_step, templates}
use Rattle.wild_loader.specs.declared.memory.Memory.{Memory}
use Rattle.wild_loader.specs.declared.effect.Effect as running
use Rattle.wild_loader.specs.declared.instruction.Action.{Action}
use Rattle.wild_loader.specs.declared.instruction.Operand.{Operand}
use Rattle.wild_loader.specs.Memory.{byte_in, number_in, Holds}
use Rattle.wild_loader.specs.Instruction.{Reader, effect}
use Rattle.wild_loader.specs.InstructionAArch64.{action_of}
use Rattle.wild_loader.specs.Effect.{with_first_loaded, words_at, operand_value, effect_in, step_aarch64}
use Rattle.wild_loader.specs.StepLaws.{ReadsMemory, effect_read_by}
use Rattle.wild_loader.specs.StepLawsAArch64.{ReadsDescriptors, IsRun, RunsAreMeant}
use Rattle.wild_loader.proofs.Windows.{held_more}
use Rattle.wild_loader.proofs.MeantLemmas.{told_by, sized}

-- ---- the longest run

-- what a step says of words: it takes some of them, and does what they mean
abbrev Means : ℕ → List ℕ → run.Step → Type 0
Means a ws s = (s.words ≤ length ws) × (meaning a (take s.words ws) ≡ Some s.action)

begins_long : (ts : List Code) (cs : List (Option Code)) → begins ts cs ≡ true → length ts ≤ length cs
begins_long [] cs h = omega arith
begins_long (t ∷ ts) [] h = cc
begins_long (t ∷ ts) (c ∷ cs) h = (let rest = begins_long ts cs (and_parts (fits t c) (begins ts cs) h).1 in omega (arith, rest))

size_is : (t : runs.Template) (r : ℕ) → length (codes_of t r) ≡ size_of t
size_is kinds.Stub r = refl
size_is kinds.MarkedStub r = refl
size_is kinds.DescriptorCall r = refl
size_is kinds.OffsetForCall r = refl
size_is kinds.SlotForCall r = refl
size_is kinds.Thunk r = refl
size_is kinds.SlotPair r = refl
size_is kinds.OffsetPair r = refl
size_is kinds.AddressPair r = refl
size_is kinds.NearAddress r = refl

taken : (n a : ℕ) (ws : List ℕ) (s : run.Step) (o : Option run-action.Action) → n ≤ length ws → meaning a (take n ws) ≡ o → option_map (sized_step n) o ≡ Some s → Means a ws s
taken n a ws s None short m h = cc
taken n a ws s (Some act) short m h =
    let same : sized_step n act ≡ s = cc in
    subst (λ (t : run.Step). Means a ws t) same (short, m)

by_template : (t : runs.Template) (a : ℕ) (ws : List ℕ) (s : run.Step) → longest.template_step t a ws ≡ Some s → Means a ws s
by_template t a ws s h =
    elim (cases_Bool (begins (codes_of t (register_in ws)) (map read ws))) [
      | inl y ↦
          (let long = begins_long (codes_of t (register_in ws)) (map read ws) y in
          let n = size_is t (register_in ws) in
          let k = length-map ws read in
          taken (size_of t) a ws s (meaning a (take (size_of t) ws)) (omega (arith, long, n, k)) refl (rw y at h))
      | inr f ↦ absurd (none_is (rw f at h))
    ]
  where
    none_is : None ≡ Some s → ⊥
    none_is e = cc

by_one : (a : ℕ) (ws : List ℕ) (s : run.Step) → longest.single_step a ws ≡ Some s → Means a ws s
by_one a [] s h = cc
by_one a (w ∷ ws) s h = taken 1 a (w ∷ ws) s (meaning a (w ∷ [])) (omega arith) refl h

first_means : (ts : List runs.Template) (a : ℕ) (ws : List ℕ) (s : run.Step) → longest.first_step ts a ws ≡ Some s → Means a ws s
first_means [] a ws s h = by_one a ws s h
first_means (t ∷ ts) a ws s h = by (longest.template_step t a ws) refl h (λ k. first_means ts a ws s k)
  where
    by : (o : Option run.Step) → longest.template_step t a ws ≡ o → longest.step_or o (longest.first_step ts a ws) ≡ Some s → (longest.first_step ts a ws ≡ Some s → Means a ws s) → Means a ws s
    by None e k rest = rest k
    by (Some x) e k rest = by_template t a ws s (e ∙ k)

-- ---- bytes of words

-- the bytes of a number that is loaded
record AreBytes (m : Memory) (a n w : ℕ) : Type 0 where
  bytes : List ℕ
  long : length bytes ≡ n
  held : Holds m a bytes
  is : number bytes ≡ w

bytes_are : (m : Memory) (a n w : ℕ) → number_in m a n ≡ Some w → AreBytes m a n w
unfolding number
bytes_are m a zero w h = (let same : 0 ≡ w = cc in record { bytes = []; long = refl; held = λ k lt. absurd (omega (arith, lt)); is = same })
bytes_are m a (suc n) w h = by (byte_in m a) (number_in m (a + 1) n) refl refl h (λ r e. bytes_are m (a + 1) n r e)
  where
    by : (o rest : Option ℕ) → byte_in m a ≡ o → number_in m (a + 1) n ≡ rest → option_and_then (λ b. option_map (λ r. b + 256 * r) rest) o ≡ Some w → ((r : ℕ) → number_in m (a + 1) n ≡ Some r → AreBytes m (a + 1) n r) → AreBytes m a (suc n) w
    by None rest e f k behind = cc
    by (Some b) None e f k behind = cc
    by (Some b) (Some r) e f k behind =
        let more = behind r f in
        let long = more.long in
        let same : b + 256 * r ≡ w = cc in
        record { bytes = b ∷ more.bytes; long = ap (λ (i : ℕ). suc i) long; held = held_more m a b more.bytes e more.held; is = ap (λ (x : ℕ). b + 256 * x) more.is ∙ same }

-- the bytes of words that are loaded
record AreWords (m : Memory) (a : ℕ) (ws : List ℕ) : Type 0 where
  bytes : List ℕ
  long : length bytes ≡ 4 * length ws
  held : Holds m a bytes
  are : words_of bytes ≡ ws

with_word : (m : Memory) (a w : ℕ) (ws bytes : List ℕ) → length bytes ≡ 4 → Holds m a bytes → number bytes ≡ w → AreWords m (a + 4) ws → AreWords m a (w ∷ ws)
with_word m a w ws [] n held is rest = absurd (omega (arith, n))
with_word m a w ws (b ∷ []) n held is rest = absurd (omega (arith, n))
with_word m a w ws (b ∷ c ∷ []) n held is rest = absurd (omega (arith, n))
with_word m a w ws (b ∷ c ∷ d ∷ []) n held is rest = absurd (omega (arith, n))
with_word m a w ws (b ∷ c ∷ d ∷ e ∷ []) n held is rest =
    let long = rest.long in
    record {
      bytes = b ∷ c ∷ d ∷ e ∷ rest.bytes;
      long = omega (arith, long);
      held = four;
      are = rw (is, rest.are) refl;
    }
  where
    at_1 : a + 1 + 1 ≡ a + 2
    at_1 = omega arith

    at_2 : a + 2 + 1 ≡ a + 3
    at_2 = omega arith

    at_3 : a + 3 + 1 ≡ a + 4
    at_3 = omega arith

    first : byte_in m a ≡ Some b
    first = (let z : a + 0 ≡ a = omega arith in subst (λ (x : ℕ). byte_in m x ≡ Some b) z (held 0 (omega arith)))

    four : Holds m a (b ∷ c ∷ d ∷ e ∷ rest.bytes)
    four =
        let last : Holds m (a + 3) (e ∷ rest.bytes) = held_more m (a + 3) e rest.bytes (held 3 (omega arith)) (subst (λ (x : ℕ). Holds m x rest.bytes) (sym at_3) rest.held) in
        let third : Holds m (a + 2) (d ∷ e ∷ rest.bytes) = held_more m (a + 2) d (e ∷ rest.bytes) (held 2 (omega arith)) (subst (λ (x : ℕ). Holds m x (e ∷ rest.bytes)) (sym at_2) last) in
        let second : Holds m (a + 1) (c ∷ d ∷ e ∷ rest.bytes) = held_more m (a + 1) c (d ∷ e ∷ rest.bytes) (held 1 (omega arith)) (subst (λ (x : ℕ). Holds m x (d ∷ e ∷ rest.bytes)) (sym at_1) third) in
        held_more m a b (c ∷ d ∷ e ∷ rest.bytes) first second
with_word m a w ws (b ∷ c ∷ d ∷ e ∷ f ∷ more) n held is rest = absurd (omega (arith, n))

no_words : (m : Memory) (a : ℕ) → AreWords m a []
no_words m a = record { bytes = []; long = refl; held = λ k lt. absurd (omega (arith, lt)); are = refl }

words_are : (m : Memory) (a n k : ℕ) → k ≤ length (words_at m a n) → AreWords m a (take k (words_at m a n))
unfolding words_at
words_are m a n zero short = no_words m a
words_are m a zero (suc k) short = absurd (omega (arith, short))
words_are m a (suc n) (suc k) short = by (number_in m a 4) refl short (λ l. words_are m (a + 4) n k l)
  where
    by : (o : Option ℕ) → number_in m a 4 ≡ o → suc k ≤ length (with_first_loaded o (words_at m (a + 4) n)) → (k ≤ length (words_at m (a + 4) n) → AreWords m (a + 4) (take k (words_at m (a + 4) n)))
        → AreWords m a (take (suc k) (with_first_loaded o (words_at m (a + 4) n)))
    by None e l rest = absurd (omega (arith, l))
    by (Some w) e l rest = (let b = bytes_are m a 4 w e in with_word m a w (take k (words_at m (a + 4) n)) b.bytes b.long b.held b.is (rest (omega (arith, l))))

-- ---- in memory

take_length : (n : ℕ) (ws : List ℕ) → n ≤ length ws → length (take n ws) ≡ n
take_length zero ws l = refl
take_length (suc n) [] l = absurd (omega (arith, l))
take_length (suc n) (w ∷ ws) l = ap (λ (k : ℕ). suc k) (take_length n ws (omega (arith, l)))

by_action : (m : Memory) (a : ℕ) (e : running.Effect) (s : run.Step) (ws : List ℕ) (act : Option Action) → action_of s.action ≡ act → Means a ws s → AreWords m a (take s.words ws) → option_and_then (effect_in m (4 * s.words)) act ≡ Some e → IsRun m a e
by_action m a e s ws None f means words h = cc
by_action m a e s ws (Some act) f means words h =
    let n = take_length s.words ws means.0 in
    let long = words.long in
    let bytes : length words.bytes ≡ 4 * s.words = omega (arith, n, long) in
    record {
      bytes = words.bytes;
      held = words.held;
      long = bytes ∙ sized m (4 * s.words) act (operand_value m act.operand) e h;
      means = λ read reads offsets.
          (let run_is : meaning a (words_of words.bytes) ≡ Some s.action = ap (λ (xs : List ℕ). meaning a xs) words.are ∙ means.1 in
          ap (λ (o : Option run-action.Action). option_and_then (effect read) (option_and_then action_of o)) run_is ∙ ap (λ (o : Option Action). option_and_then (effect read) o) f
          ∙ told_by m (4 * s.words) act e read reads (λ x same. ap read same ∙ offsets x) h);
    }

by_step : (m : Memory) (a : ℕ) (e : running.Effect) (o : Option run.Step) → longest.step_of a (words_at m a 4) ≡ o → option_and_then (λ (s : run.Step). option_and_then (effect_in m (4 * s.words)) (action_of s.action)) o ≡ Some e → IsRun m a e
by_step m a e None f h = cc
by_step m a e (Some s) f h =
    let means = first_means templates a (words_at m a 4) s f in
    by_action m a e s (words_at m a 4) (action_of s.action) refl means (words_are m a 4 s.words means.0) h

pub runs-meant : RunsAreMeant
unfolding step_aarch64
runs-meant = λ m a e h. by_step m a e (longest.step_of a (words_at m a 4)) refl h
