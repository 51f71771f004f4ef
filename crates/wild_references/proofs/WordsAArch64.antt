-- The words that bytes are, in the input and in memory.
use Rattle.wild_references.proofs.Common.{◌≡◌, ℕ, zero, suc, ◌+◌, ◌-◌, ◌≤◌, inl, inr, List, [], ◌∷◌, length, refl, sym, ap, ◌∙◌, subst, arith, ⊤, take, drop, slice_range, slice_index, Some, option_and_then, cases_lt, number, Machine, Layout, Item, run, meaning, shapes, words_of, Memory, World, byte_in, Holds, Reader, Effect, effect, as_value, action_of, Instruction, size_of, place_at, effect_of, demand_of, IsDemanded, old_bytes}
use Rattle.std.proofs.lemmas.List.{drop-drop, length-drop}
use Rattle.wild_types.specs.declared.kind.Machine.TheVariants as machine
use Rattle.wild_loader.proofs.HeldBytes.{held-first, held-rest}
use Rattle.wild_meaning.specs.Template.{DoesWith}
use Rattle.wild_references.proofs.Does.{read_all, length_read, AreThere, read_holds}
use Rattle.wild_references.proofs.RunsAArch64.{RunDoes}

-- ---- words in bytes

abbrev pub fours : ℕ → ℕ
fours zero = zero
fours (suc n) = suc (suc (suc (suc (fours n))))

-- so many words from a place on
abbrev pub words_from : ℕ → ℕ → List ℕ → List ℕ
words_from zero at bs = []
words_from (suc n) at bs = number (slice_range bs at (at + 4)) ∷ words_from n (at + 4) bs

first_word : (n : ℕ) (bs : List ℕ) → 4 ≤ length bs → words_of (take (suc (suc (suc (suc n)))) bs) ≡ number (take 4 bs) ∷ words_of (take n (drop 4 bs))
first_word n [] h = absurd (omega (arith, h))
first_word n (a ∷ []) h = absurd (omega (arith, h))
first_word n (a ∷ b ∷ []) h = absurd (omega (arith, h))
first_word n (a ∷ b ∷ c ∷ []) h = absurd (omega (arith, h))
first_word n (a ∷ b ∷ c ∷ e ∷ bs) h = refl

pub words_read : (n at : ℕ) (bs : List ℕ) → at + fours n ≤ length bs → words_of (slice_range bs at (at + fours n)) ≡ words_from n at bs
words_read zero at bs h = (let e : at + 0 - at ≡ 0 = omega arith in ap (λ (k : ℕ). words_of (take k (drop at bs))) e)
words_read (suc n) at bs h =
    let long = length-drop at bs in
    let e : at + fours (suc n) - at ≡ suc (suc (suc (suc (fours n)))) = omega arith in
    let f : 4 ≡ at + 4 - at = omega arith in
    let g : fours n ≡ at + 4 + fours n - (at + 4) = omega arith in
    let enough : 4 ≤ length (drop at bs) = omega (arith, long, h) in
    let rest = ap (λ (xs : List ℕ). words_of (take (fours n) xs)) (drop-drop 4 at bs) ∙ ap (λ (k : ℕ). words_of (take k (drop (at + 4) bs))) g ∙ words_read n (at + 4) bs (omega (arith, h)) in
    ap (λ (k : ℕ). words_of (take k (drop at bs))) e ∙ first_word (fours n) (drop at bs) enough ∙ ap (λ (k : ℕ). number (take k (drop at bs)) ∷ words_of (take (fours n) (drop 4 (drop at bs)))) f ∙ ap (λ (ws : List ℕ). number (slice_range bs at (at + 4)) ∷ ws) rest

-- ---- words in memory

pub record IsWordThere (m : Memory) (a u : ℕ) : Type 0 where
  pub bytes : List ℕ
  pub whole : length bytes ≡ 4
  pub held : Holds m a bytes
  pub is : number bytes ≡ u

abbrev pub AreWordsThere : Memory → ℕ → List ℕ → Type 0
AreWordsThere m a [] = ⊤
AreWordsThere m a (u ∷ us) = IsWordThere m a u × AreWordsThere m (a + 4) us

pub read_is : (m : Memory) (a : ℕ) (bs : List ℕ) → Holds m a bs → read_all m a (length bs) ≡ bs
read_is m a [] h = refl
read_is m a (b ∷ bs) h =
    let first = held-first m a b bs h in
    let rest = read_is m (a + 1) bs (held-rest m a b bs h) in
    rw (first, rest) refl

pub words_there : (m : Memory) (us : List ℕ) (a : ℕ) → AreWordsThere m a us → words_of (read_all m a (fours (length us))) ≡ us
words_there m [] a h = refl
words_there m (u ∷ us) a h =
    let e : a + 4 ≡ a + 1 + 1 + 1 + 1 = omega arith in
    let rest = words_there m us (a + 1 + 1 + 1 + 1) (subst (λ (k : ℕ). AreWordsThere m k us) e h.1) in
    let word : number (read_all m a 4) ≡ u = ap (λ (n : ℕ). number (read_all m a n)) (sym h.0.whole) ∙ ap number (read_is m a h.0.bytes h.0.held) ∙ h.0.is in
    ap (λ (x : ℕ). x ∷ words_of (read_all m (a + 1 + 1 + 1 + 1) (fours (length us)))) word ∙ ap (λ (ws : List ℕ). u ∷ ws) rest

all_loaded : (m : Memory) (us : List ℕ) (a : ℕ) → AreWordsThere m a us → AreThere m a (fours (length us))
all_loaded m [] a h k lt = absurd (omega (arith, lt))
all_loaded m (u ∷ us) a h k lt =
    elim (cases_lt k 4) [
      | inl below ↦ (let whole = h.0.whole in (slice_index h.0.bytes k, h.0.held k (omega (arith, below, whole))))
      | inr above ↦
          (let r = all_loaded m us (a + 4) h.1 (k - 4) (omega (arith, lt, above)) in
          let e : a + 4 + (k - 4) ≡ a + k = omega (arith, above) in
          (r.0, subst (λ (p : ℕ). byte_in m p ≡ Some r.0) e r.1))
    ]

-- words in memory that do what those of the input ask for
pub by_words : (read : Reader) (l : Layout) (w : World) (m : Memory) (s : Item) (start : ℕ) (o : Instruction) (v : ℕ) (us : List ℕ) → l.machine ≡ machine.AArch64 → size_of o ≡ fours (length us) → start + size_of o ≤ length s.bytes
    → ((e : Effect) → demand_of l.machine v (place_at w s start) (old_bytes s start o) ≡ Some e → IsDemanded o.sort l s v (place_at w s start) (old_bytes s start o) e) → AreWordsThere m (place_at w s start) us
    → RunDoes read (place_at w s start) v (words_from (length us) start s.bytes) us → DoesWith read l w m s start o v
by_words read l w m s start o v us on size inside plain there does =
    let a = place_at w s start in
    let old : words_of (old_bytes s start o) ≡ words_from (length us) start s.bytes =
    ap (λ (n : ℕ). words_of (slice_range s.bytes start (start + n))) size ∙ words_read (length us) start s.bytes (subst (λ (n : ℕ). start + n ≤ length s.bytes) size inside) in
    let new : words_of (read_all m a (size_of o)) ≡ us = ap (λ (n : ℕ). words_of (read_all m a n)) size ∙ words_there m us a there in
    let asked : demand_of machine.AArch64 v a (old_bytes s start o) ≡ Some does.0 = ap (λ (ws : List ℕ). option_and_then (effect (as_value v)) (option_and_then action_of (run (shapes ws) a []))) old ∙ does.1 in
    let done : effect_of machine.AArch64 read a (read_all m a (size_of o)) ≡ Some does.0 = ap (λ (ws : List ℕ). option_and_then (effect read) (option_and_then action_of (meaning a ws))) new ∙ does.2 in
    record {
      effect = does.0;
      demanded = plain does.0 (subst (λ (k : Machine). demand_of k v a (old_bytes s start o) ≡ Some does.0) (sym on) asked);
      bytes = read_all m a (size_of o);
      whole = length_read m (size_of o) a;
      held = read_holds m a (size_of o) (subst (AreThere m a) (sym size) (all_loaded m us a there));
      does = subst (λ (k : Machine). effect_of k read a (read_all m a (size_of o)) ≡ Some does.0) (sym on) done;
    }
