-- A world that answers for each resolver of a layout once.
use Rattle.wild_worlds.proofs.Common.{◌≡◌, ℕ, ◌+◌, ◌%◌, ◌^◌, inl, inr, Bool, true, false, List, [], ◌∷◌, refl, sym, ap, ◌∙◌, subst, eq-eqb, ◌==◌, not, if◌then◌else◌, Option, Some, None, Ok, All, cases_Bool, eqb-true, All-nil, All-weaker, Resolution, Symbol, Layout, has_flag, ifunc, World, answer_at, HasResolver, AreAddresses}
use Rattle.std.specs.List.{filter}
use Rattle.std.proofs.lemmas.List.Elements.{All-cons}
use Rattle.wild_loader.specs.declared.fault.LoadFault.TheVariants as faults
use Rattle.wild_loader.specs.Outcome.{known}
use Rattle.wild_loader.specs.Changes.{first_value}
use Rattle.wild_worlds.specs.Worlds.{HasResolvers, AreAnswered, NoResolversNeeded}

-- ---- one pair for a key

-- the pairs of a key
abbrev pairs_at : List (ℕ × ℕ) → ℕ → List (ℕ × ℕ)
pairs_at ps a = filter (λ (p : ℕ × ℕ). p.0 == a) ps

abbrev others : List (ℕ × ℕ) → ℕ → List (ℕ × ℕ)
others ps a = filter (λ (p : ℕ × ℕ). not (p.0 == a)) ps

-- there is one, with the answer for it
abbrev pub IsOnce : (ℕ → ℕ) → List (ℕ × ℕ) → ℕ → Type 0
IsOnce f ps a = pairs_at ps a ≡ (a, f a) ∷ []

abbrev with_pair : (ℕ → ℕ) → ℕ → List (ℕ × ℕ) → List (ℕ × ℕ)
with_pair f a ps = (a, f a) ∷ others ps a

none_left : (a : ℕ) (ps : List (ℕ × ℕ)) → pairs_at (others ps a) a ≡ []
none_left a [] = refl
none_left a (p ∷ ps) =
    elim (cases_Bool (p.0 == a)) [
      | inl t ↦ rw t (none_left a ps)
      | inr f ↦ rw (f, f) (none_left a ps)
    ]

not_same : (a b c : ℕ) → (a == b) ≡ false → (c == a) ≡ true → (c == b) ≡ false
not_same a b c n t =
    elim (cases_Bool (c == b)) [
      | inr f ↦ f
      | inl u ↦ (let e : a ≡ b = sym (eqb-true c a t) ∙ eqb-true c b u in let same : (a == b) ≡ true = eq-eqb a b e in let both : true ≡ false = sym same ∙ n in cc)
    ]

others_kept : (a b : ℕ) (ps : List (ℕ × ℕ)) → (a == b) ≡ false → pairs_at (others ps a) b ≡ pairs_at ps b
others_kept a b [] n = refl
others_kept a b (p ∷ ps) n =
    elim (cases_Bool (p.0 == a)) [
      | inl t ↦ (let f = not_same a b p.0 n t in rw (t, f) (others_kept a b ps n))
      | inr f ↦ rw f (kept p ps b (others ps a) (others_kept a b ps n))
    ]
  where
    kept : (p : ℕ × ℕ) (ps : List (ℕ × ℕ)) (b : ℕ) (qs : List (ℕ × ℕ)) → pairs_at qs b ≡ pairs_at ps b → pairs_at (p ∷ qs) b ≡ pairs_at (p ∷ ps) b
    kept p ps b qs e = ap (λ (xs : List (ℕ × ℕ)). if p.0 == b then p ∷ xs else xs) e

once_here : (f : ℕ → ℕ) (a : ℕ) (ps : List (ℕ × ℕ)) → IsOnce f (with_pair f a ps) a
once_here f a ps = let t : (a == a) ≡ true = eq-eqb a a refl in rw t (ap (λ (xs : List (ℕ × ℕ)). (a, f a) ∷ xs) (none_left a ps))

once_there : (f : ℕ → ℕ) (a b : ℕ) (ps : List (ℕ × ℕ)) → IsOnce f ps b → IsOnce f (with_pair f a ps) b
once_there f a b ps h =
    elim (cases_Bool (a == b)) [
      | inl t ↦ subst (λ (c : ℕ). IsOnce f (with_pair f a ps) c) (eqb-true a b t) (once_here f a ps)
      | inr n ↦ rw n (others_kept a b ps n ∙ h)
    ]

-- ---- the pairs of symbols

abbrev with_resolution : (ℕ → ℕ) → ℕ → Option Resolution → List (ℕ × ℕ) → List (ℕ × ℕ)
with_resolution f base None ps = ps
with_resolution f base (Some r) ps = with_pair f ((base + r.raw_value) % 2 ^ 64) ps

-- a pair for the address of each symbol that was decided
abbrev pub pairs_of : (ℕ → ℕ) → ℕ → List Symbol → List (ℕ × ℕ)
pairs_of f base [] = []
pairs_of f base (s ∷ ss) = with_resolution f base s.resolution (pairs_of f base ss)

abbrev HasPair : (ℕ → ℕ) → ℕ → List (ℕ × ℕ) → Symbol → Type 0
HasPair f base ps s = (r : Resolution) → s.resolution ≡ Some r → IsOnce f ps ((base + r.raw_value) % 2 ^ 64)

more : (f : ℕ → ℕ) (base : ℕ) (o : Option Resolution) (ps : List (ℕ × ℕ)) (a : ℕ) → IsOnce f ps a → IsOnce f (with_resolution f base o ps) a
more f base None ps a h = h
more f base (Some r) ps a h = once_there f ((base + r.raw_value) % 2 ^ 64) a ps h

own : (f : ℕ → ℕ) (base : ℕ) (o : Option Resolution) (ps : List (ℕ × ℕ)) (r : Resolution) → o ≡ Some r → IsOnce f (with_resolution f base o ps) ((base + r.raw_value) % 2 ^ 64)
own f base o ps r e = subst (λ (q : Option Resolution). IsOnce f (with_resolution f base q ps) ((base + r.raw_value) % 2 ^ 64)) (sym e) (once_here f ((base + r.raw_value) % 2 ^ 64) ps)

each_pair : (f : ℕ → ℕ) (base : ℕ) (ss : List Symbol) → All (HasPair f base (pairs_of f base ss)) ss
each_pair f base [] = All-nil (HasPair f base [])
each_pair f base (s ∷ ss) =
    All-cons (HasPair f base (pairs_of f base (s ∷ ss))) s ss
    (λ r e. own f base s.resolution (pairs_of f base ss) r e)
    (All-weaker (HasPair f base (pairs_of f base ss)) (HasPair f base (pairs_of f base (s ∷ ss))) (λ (t : Symbol) h r e. more f base s.resolution (pairs_of f base ss) ((base + r.raw_value) % 2 ^ 64) (h r e)) ss (each_pair f base ss))

-- ---- the world

-- the only pair for a key is the first one
only_pair : (ps : List (ℕ × ℕ)) (a v : ℕ) → pairs_at ps a ≡ (a, v) ∷ [] → first_value ps a ≡ Some v
only_pair [] a v h = cc
only_pair (p ∷ ps) a v h = by_test p ps a v (p.0 == a) h (only_pair ps a v)
  where
    by_test : (p : ℕ × ℕ) (ps : List (ℕ × ℕ)) (a v : ℕ) (b : Bool) → (if b then p ∷ pairs_at ps a else pairs_at ps a) ≡ (a, v) ∷ [] → (pairs_at ps a ≡ (a, v) ∷ [] → first_value ps a ≡ Some v) → (if b then Some p.1 else first_value ps a) ≡ Some v
    by_test p ps a v true h again = (let e : p ≡ (a, v) = cc in ap (λ (x : ℕ × ℕ). Some x.1) e)
    by_test p ps a v false h again = again h

pub once_answered : (w : World) (a v : ℕ) → pairs_at w.resolvers a ≡ (a, v) ∷ [] → answer_at w a ≡ Ok v
once_answered w a v h = ap (λ (o : Option ℕ). known o (faults.NoAnswer a)) (only_pair w.resolvers a v h)

-- a world with the pairs of a layout's symbols
pub record HasPairs (l : Layout) (w : World) (f : ℕ → ℕ) : Type 0 where
  pub pairs : w.resolvers ≡ pairs_of f w.base l.symbols

there : (l : Layout) (w : World) (f : ℕ → ℕ) → HasPairs l w f → All (HasPair f w.base w.resolvers) l.symbols
there l w f h = subst (λ (ps : List (ℕ × ℕ)). All (HasPair f w.base ps) l.symbols) (sym h.pairs) (each_pair f w.base l.symbols)

pub has_resolvers : (l : Layout) (w : World) (f : ℕ → ℕ) → AreAddresses f → HasPairs l w f → HasResolvers l w
has_resolvers l w f small h = All-weaker (HasPair f w.base w.resolvers) (HasResolver w) (λ (s : Symbol) p chosen r e. record { answer = f ((w.base + r.raw_value) % 2 ^ 64); fits = small ((w.base + r.raw_value) % 2 ^ 64); pair = p r e }) l.symbols (there l w f h)

pub are_answered : (l : Layout) (w : World) (f : ℕ → ℕ) → HasPairs l w f → AreAnswered l w f
are_answered l w f h = All-weaker (HasPair f w.base w.resolvers) (λ (s : Symbol). (r : Resolution) → s.resolution ≡ Some r → answer_at w ((w.base + r.raw_value) % 2 ^ 64) ≡ Ok (f ((w.base + r.raw_value) % 2 ^ 64))) (λ (s : Symbol) p r e. once_answered w ((w.base + r.raw_value) % 2 ^ 64) (f ((w.base + r.raw_value) % 2 ^ 64)) (p r e)) l.symbols (there l w f h)

pub none_needed : NoResolversNeeded
none_needed = λ l w none. All-weaker (λ (s : Symbol). has_flag s.flags ifunc ≡ false) (HasResolver w) (λ (s : Symbol) f t r e. absurd (let both : true ≡ false = sym t ∙ f in cc)) l.symbols none
