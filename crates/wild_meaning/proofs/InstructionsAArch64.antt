-- Which instruction of AArch64 a reference belongs to, by its relocation type.
--   single_is        the one that the type fills alone
--   numbered         a relocation of a sequence has one of its types
--   sequence_is      the sequences that have a type
--   alone_template   the instruction of a type that fills one alone, where it stands
--   alone_only       and no other is a reference's of that type
use Rattle.wild_meaning.proofs.Common.{◌≡◌, ℕ, zero, suc, ◌+◌, ◌<◌, ◌≤◌, inl, inr, Bool, true, false, List, [], ◌∷◌, length, get_or, refl, sym, ap, ◌∙◌, subst, arith, ◌&&◌, ◌||◌, ◌++◌, ◌==◌, Contains, Machine, InputRelocation, Layout, Item, Partner, Instruction, size_of, instructions_of, IsInstruction, IsSequence, IsOfSequence, IsTemplate}
use Rattle.wild_types.specs.declared.kind.Machine.TheVariants as machine
use Rattle.wild_meaning.specs.Partners.{HasPartners}
use Rattle.wild_meaning.proofs.AmongLemmas.{Among, pick}
use Rattle.wild_meaning.proofs.OneReference.{has, has_is, fills, fills_is}
use Rattle.wild_meaning.proofs.PairLemmas.{are_several, some}

-- an instruction of the machine's table
known_there : (l : Layout) (item : Item) (r : InputRelocation) (start : ℕ) (o : Instruction) → l.machine ≡ machine.AArch64 → IsInstruction l item r start o → Contains (instructions_of machine.AArch64) o
known_there l item r start o x s = subst (λ (k : Machine). Contains (instructions_of k) o) x s.known

-- ---- alone

pub single_is : (P : Instruction → Type 0) (l : Layout) (item : Item) (r : InputRelocation) (start : ℕ) (o : Instruction) → l.machine ≡ machine.AArch64 → Among (fills r.number) P (instructions_of machine.AArch64) → o.partners ≡ [] → IsInstruction l item r start o → P o
single_is P l item r start o x all single stands = pick (fills r.number) P (instructions_of machine.AArch64) all o (known_there l item r start o x stands) (fills_is r.number o stands.number single)

-- ---- in a sequence

abbrev pub all_numbers : List Partner → List ℕ
all_numbers [] = []
all_numbers (p ∷ ps) = p.numbers ++ all_numbers ps

abbrev pub numbers_in : Instruction → List ℕ
numbers_in o = o.numbers ++ all_numbers o.partners

-- a sequence that has the type
abbrev pub takes : ℕ → Instruction → Bool
takes n o = are_several o.partners && has n (numbers_in o)

in_front : (n : ℕ) (xs ys : List ℕ) → has n xs ≡ true → has n (xs ++ ys) ≡ true
in_front n [] ys h = absurd (let both : false ≡ true = h in cc)
in_front n (x ∷ xs) ys h = by (x == n) (has n xs) (has n (xs ++ ys)) h (λ e. in_front n xs ys e)
  where
    by : (a b c : Bool) → (a || b) ≡ true → (b ≡ true → c ≡ true) → (a || c) ≡ true
    by true b c h f = refl
    by false b c h f = f h

has-append : (n : ℕ) (xs ys : List ℕ) → has n ys ≡ true → has n (xs ++ ys) ≡ true
has-append n [] ys h = h
has-append n (x ∷ xs) ys h = by (x == n) (has n (xs ++ ys)) (has-append n xs ys h)
  where
    by : (a c : Bool) → c ≡ true → (a || c) ≡ true
    by true c h = refl
    by false c h = h

partner_numbered : (l : Layout) (item : Item) (first : InputRelocation) (start index : ℕ) (ps : List Partner) (rs : List InputRelocation) → HasPartners l item first start index ps rs → (r : InputRelocation) (k : ℕ) → k < length rs → get_or rs k r ≡ r → has r.number (all_numbers ps) ≡ true
partner_numbered l item first start index [] [] h r k lt e = absurd (omega (arith, lt))
partner_numbered l item first start index [] (q ∷ rs) h r k lt e = absurd h
partner_numbered l item first start index (p ∷ ps) [] h r k lt e = absurd h
partner_numbered l item first start index (p ∷ ps) (q ∷ rs) h r zero lt e = in_front r.number p.numbers (all_numbers ps) (has_is r.number p.numbers (subst (λ (u : InputRelocation). Contains p.numbers u.number) e h.0.number))
partner_numbered l item first start index (p ∷ ps) (q ∷ rs) h r (suc k) lt e = has-append r.number p.numbers (all_numbers ps) (partner_numbered l item first start (index + 1) ps rs h.1 r k (omega (arith, lt)) e)

pub numbered : (l : Layout) (item : Item) (r : InputRelocation) (start : ℕ) (o : Instruction) (first : InputRelocation) → IsOfSequence l item r start o first → has r.number (numbers_in o) ≡ true
numbered l item r start o first h = by l item r start o first h.rest h.sequence h.one.0 h.one.1 h.one.2
  where
    by : (l : Layout) (item : Item) (r : InputRelocation) (start : ℕ) (o : Instruction) (first : InputRelocation) (rest : List InputRelocation) → IsSequence l item first rest start o → (k : ℕ) → k < length (first ∷ rest) → get_or (first ∷ rest) k r ≡ r → has r.number (numbers_in o) ≡ true
    by l item r start o first rest q zero lt e = in_front r.number o.numbers (all_numbers o.partners) (has_is r.number o.numbers (subst (λ (u : InputRelocation). Contains o.numbers u.number) e q.stands.number))
    by l item r start o first rest q (suc k) lt e = has-append r.number o.numbers (all_numbers o.partners) (partner_numbered l item first start (q.index + 1) o.partners rest q.has r k (omega (arith, lt)) e)

pub sequence_is : (P : Instruction → Type 0) (l : Layout) (item : Item) (r : InputRelocation) (start : ℕ) (o : Instruction) (first : InputRelocation) → l.machine ≡ machine.AArch64 → Among (takes r.number) P (instructions_of machine.AArch64) → IsOfSequence l item r start o first → P o
sequence_is P l item r start o first x all h =
    let several = some o.partners h.sequence.several in
    let number = numbered l item r start o first h in
    let both : takes r.number o ≡ true = rw (several, number) refl in
    pick (takes r.number) P (instructions_of machine.AArch64) all o (known_there l item first start o x h.sequence.stands) both

-- ---- a type that fills one instruction, and none of a sequence

abbrev pub Nothing : Instruction → Type 0
Nothing o = ⊥

pub record IsAlone (n : ℕ) (p : Instruction) : Type 0 where
  pub single : p.partners ≡ []
  pub at : p.field ≡ 0
  pub one : Among (fills n) (λ (o : Instruction). o ≡ p) (instructions_of machine.AArch64)
  pub none : Among (takes n) Nothing (instructions_of machine.AArch64)

-- where it stands, the relocation belongs to it
pub alone_template : (l : Layout) (item : Item) (r : InputRelocation) (p : Instruction) → l.machine ≡ machine.AArch64 → IsAlone r.number p → IsInstruction l item r r.offset p → IsTemplate l item r r.offset p r
alone_template l item r p x a s = inl (
  record {
    single = a.single;
    stands = s;
    longest = λ from o none there. (let same : o ≡ p = single_is (λ (q : Instruction). q ≡ p) l item r from o x a.one none there in subst (λ (q : Instruction). size_of q ≤ size_of p) (sym same) (omega arith));
    free = λ first rest from o q c. of_none l item r from o first x a.none (record { rest = rest; sequence = q; one = behind_first first rest r c });
  },
  refl,
)
  where
    of_none : (l : Layout) (item : Item) (r : InputRelocation) (start : ℕ) (o : Instruction) (first : InputRelocation) → l.machine ≡ machine.AArch64 → Among (takes r.number) Nothing (instructions_of machine.AArch64) → IsOfSequence l item r start o first → ⊥
    of_none l item r start o first x none h = sequence_is Nothing l item r start o first x none h

    behind_first : (first : InputRelocation) (rest : List InputRelocation) (r : InputRelocation) → Contains rest r → Contains (first ∷ rest) r
    behind_first first rest r c = (suc c.0, omega (arith, c.1), c.2)

-- and to nothing else
pub alone_only : (P : ℕ → Instruction → InputRelocation → Type 0) (l : Layout) (item : Item) (r : InputRelocation) (p : Instruction) → l.machine ≡ machine.AArch64 → IsAlone r.number p → P r.offset p r → (start : ℕ) (o : Instruction) (first : InputRelocation) → IsTemplate l item r start o first → P start o first
alone_only P l item r p x a h start o first (inl t) =
    let same : o ≡ p = single_is (λ (q : Instruction). q ≡ p) l item r start o x a.one t.0.single t.0.stands in
    let field : o.field ≡ 0 = ap (λ (q : Instruction). q.field) same ∙ a.at in
    let at : r.offset ≡ start = omega (arith, t.0.stands.field, field) in
    subst (λ (f : InputRelocation). P start o f) (sym t.1) (subst (λ (q : Instruction). P start q r) (sym same) (subst (λ (k : ℕ). P k p r) at h))
alone_only P l item r p x a h start o first (inr q) = absurd (sequence_is Nothing l item r start o first x a.none q)
