-- The words of one command are not those of another.
use Rattle.wild_program.proofs.Common.{◌≡◌, ℕ, List, [], ◌∷◌, length, sym, ap, ◌∙◌, subst, inl, inr, arith, String, Global, decimal, codes, IsLinkCommand, IsRelinkCommand, IsPlaceCommand, IsSpace, IsVerify, IsReading, Answer, usage, read_fault, too_long, of_plan, of_make, of_relink, of_place, of_space, of_verify, status, text, SourceChange, SinkChange, IsRightAnswer, IsWritten, IsAnsweredBy}
use Rattle.std.proofs.lemmas.Fmt.{decimal_injective}
use Rattle.wild_program.specs.Exit as exit
use Rattle.wild_program.specs.Program.{IsMake, made_text, NothingRead}
use Rattle.wild_program.specs.Clauses.{IsMadeBy}

-- `link` has two words, `make` three
pub two_commands : {X : Type 0} (words : List (String Global)) (n : ℕ) → IsLinkCommand words → (w : ℕ) × IsMake words n w → X
two_commands words n l m = absurd (clash (ap length l.1.0) (ap length m.1.0))
  where
    clash : {k : ℕ} → k ≡ 2 → k ≡ 3 → ⊥
    clash a b = omega arith

-- `space` has one word
pub link_or_space : {X : Type 0} (words : List (String Global)) → IsLinkCommand words → IsSpace words → X
link_or_space words l s = absurd (clash (ap length l.1.0) (ap length s))
  where
    clash : {k : ℕ} → k ≡ 2 → k ≡ 1 → ⊥
    clash a b = omega arith

pub make_or_space : {X : Type 0} (words : List (String Global)) (n w : ℕ) → IsMake words n w → IsSpace words → X
make_or_space words n w m s = absurd (clash (ap length m.0) (ap length s))
  where
    clash : {k : ℕ} → k ≡ 3 → k ≡ 1 → ⊥
    clash a b = omega arith

-- the first words of `link` and `relink` differ
pub link_or_relink : {X : Type 0} (words : List (String Global)) → IsLinkCommand words → IsRelinkCommand words → X
link_or_relink words l r =
    let same : codes "link" ∷ decimal l.0 ∷ [] ≡ codes "relink" ∷ decimal r.0 ∷ [] = sym l.1.0 ∙ r.1.0 in
    absurd cc

pub relink_or_space : {X : Type 0} (words : List (String Global)) → IsRelinkCommand words → IsSpace words → X
relink_or_space words r s = absurd (clash (ap length r.1.0) (ap length s))
  where
    clash : {k : ℕ} → k ≡ 2 → k ≡ 1 → ⊥
    clash a b = omega arith

pub make_or_relink : {X : Type 0} (words : List (String Global)) (n w : ℕ) → IsMake words n w → IsRelinkCommand words → X
make_or_relink words n w m r = absurd (clash (ap length m.0) (ap length r.1.0))
  where
    clash : {k : ℕ} → k ≡ 3 → k ≡ 2 → ⊥
    clash a b = omega arith

pub link_or_place : {X : Type 0} (words : List (String Global)) → IsLinkCommand words → IsPlaceCommand words → X
link_or_place words l p =
    let same : codes "link" ∷ decimal l.0 ∷ [] ≡ codes "place" ∷ decimal p.0 ∷ [] = sym l.1.0 ∙ p.1.0 in
    absurd cc

pub relink_or_place : {X : Type 0} (words : List (String Global)) → IsRelinkCommand words → IsPlaceCommand words → X
relink_or_place words r p =
    let same : codes "relink" ∷ decimal r.0 ∷ [] ≡ codes "place" ∷ decimal p.0 ∷ [] = sym r.1.0 ∙ p.1.0 in
    absurd cc

pub place_or_space : {X : Type 0} (words : List (String Global)) → IsPlaceCommand words → IsSpace words → X
place_or_space words p s = absurd (clash (ap length p.1.0) (ap length s))
  where
    clash : {k : ℕ} → k ≡ 2 → k ≡ 1 → ⊥
    clash a b = omega arith

pub make_or_place : {X : Type 0} (words : List (String Global)) (n w : ℕ) → IsMake words n w → IsPlaceCommand words → X
make_or_place words n w m p = absurd (clash (ap length m.0) (ap length p.1.0))
  where
    clash : {k : ℕ} → k ≡ 3 → k ≡ 2 → ⊥
    clash a b = omega arith

-- `verify` has one word too
pub link_or_verify : {X : Type 0} (words : List (String Global)) → IsLinkCommand words → IsVerify words → X
link_or_verify words l v = absurd (clash (ap length l.1.0) (ap length v))
  where
    clash : {k : ℕ} → k ≡ 2 → k ≡ 1 → ⊥
    clash a b = omega arith

pub relink_or_verify : {X : Type 0} (words : List (String Global)) → IsRelinkCommand words → IsVerify words → X
relink_or_verify words r v = absurd (clash (ap length r.1.0) (ap length v))
  where
    clash : {k : ℕ} → k ≡ 2 → k ≡ 1 → ⊥
    clash a b = omega arith

pub place_or_verify : {X : Type 0} (words : List (String Global)) → IsPlaceCommand words → IsVerify words → X
place_or_verify words p v = absurd (clash (ap length p.1.0) (ap length v))
  where
    clash : {k : ℕ} → k ≡ 2 → k ≡ 1 → ⊥
    clash a b = omega arith

pub make_or_verify : {X : Type 0} (words : List (String Global)) (n w : ℕ) → IsMake words n w → IsVerify words → X
make_or_verify words n w m v = absurd (clash (ap length m.0) (ap length v))
  where
    clash : {k : ℕ} → k ≡ 3 → k ≡ 1 → ⊥
    clash a b = omega arith

pub space_or_verify : {X : Type 0} (words : List (String Global)) → IsSpace words → IsVerify words → X
space_or_verify words s v =
    let same : codes "space" ∷ [] ≡ codes "verify" ∷ [] = sym s ∙ v in
    absurd cc

-- `make` reads nothing
pub make_or_reading : {X : Type 0} (words : List (String Global)) (n w : ℕ) → IsMake words n w → IsReading words → X
make_or_reading words n w m (inl l) = two_commands words n l (w, m)
make_or_reading words n w m (inr (inl r)) = make_or_relink words n w m r
make_or_reading words n w m (inr (inr (inl p))) = make_or_place words n w m p
make_or_reading words n w m (inr (inr (inr (inl s)))) = make_or_space words n w m s
make_or_reading words n w m (inr (inr (inr (inr v)))) = make_or_verify words n w m v

one_make : (words : List (String Global)) (m n v w : ℕ) → IsMake words m v → IsMake words n w → m ≡ n
one_make words m n v w h k =
    let same : codes "make" ∷ decimal m ∷ decimal v ∷ [] ≡ codes "make" ∷ decimal n ∷ decimal w ∷ [] = sym h.0 ∙ k.0 in
    let e : decimal m ≡ decimal n = cc in
    let a = h.2 in
    let b = k.2 in
    decimal_injective m n (omega arith) (omega arith) e

of_answer : (words : List (String Global)) (t : SourceChange) (u : SinkChange) (said : ℕ) (a : Answer) → IsRightAnswer words t a → IsWritten u (status a) (text a) said → (n w : ℕ) → IsMake words n w → NothingRead t × IsWritten u exit.linked (made_text n) said
of_answer words t u said usage due h n w m = absurd (due.0 (inr (n, w, m)))
of_answer words t u said read_fault due h n w m = make_or_reading words n w m due.0
of_answer words t u said too_long due h n w m = make_or_reading words n w m due.0
of_answer words t u said (of_plan meaning) due h n w m = two_commands words n due.0 (w, m)
of_answer words t u said (of_relink meaning) due h n w m = make_or_relink words n w m due.0
of_answer words t u said (of_place meaning) due h n w m = make_or_place words n w m due.0
of_answer words t u said (of_space meaning) due h n w m = make_or_space words n w m due.0
of_answer words t u said (of_verify meaning v) due h n w m = make_or_verify words n w m due.0
of_answer words t u said (of_make k) due h n w m =
    (due.1, subst (λ (i : ℕ). IsWritten u exit.linked (made_text i) said) (one_make words k n due.0.0 w due.0.1 m) h)

pub made_by : (words : List (String Global)) (t : SourceChange) (u : SinkChange) (said : ℕ) → IsAnsweredBy words t u said → IsMadeBy words t u said
made_by words t u said h = of_answer words t u said h.answer h.due h.told_as
