-- References to symbols that stand for no merged strings: what stands for the symbol is what is asked.
use Rattle.wild_meaning.proofs.Common.{◌≡◌, ℕ, ◌%◌, inl, inr, true, sym, ◌∙◌, subst, Bool, not, ◌==◌, Some, None, list_all, Value, Formula, StubDistance, InputRelocation, Symbol, Layout, Machine, Memory, World, Item, TakesString, IsReferent, formula_of}
use Rattle.wild_words.proofs.Basics.{listed_at, listed_passes}
use Rattle.wild_records.specs.Abi.Symbol.{stt_section}
use Rattle.wild_meaning.specs.Strings.{NamesStrings}
use Rattle.wild_meaning.specs.Formula.{IsReferentOnMachine}
use Rattle.wild_meaning.specs.Template.{GoesToString, IsBranchReferent}

-- a symbol that stands for no section
abbrev pub is_no_section : Symbol → Bool
is_no_section s = not (s.info % 16 == stt_section)

-- a layout without such symbols has no merged strings
pub nothing_named : (l : Layout) → list_all is_no_section l.symbols ≡ true → (r : InputRelocation) → NamesStrings l r → ⊥
nothing_named l none r n =
    let passes : not (n.has.symbol.info % 16 == stt_section) ≡ true = listed_passes is_no_section l.symbols n.has.symbol none (listed_at l.symbols n.symbol n.has.symbol n.has.listed) in
    let there : not (stt_section == stt_section) ≡ true = subst (λ (k : ℕ). not (k == stt_section) ≡ true) n.has.of_section passes in
    cc

-- a reference without a symbol names none
pub nameless : (l : Layout) (r : InputRelocation) → r.symbol ≡ None → NamesStrings l r → ⊥
nameless l r none n = (let both : Some n.symbol ≡ None = sym n.named ∙ none in cc)

-- of a reference that takes no string what stands for its symbol is S, or L
pub plain_referent : (k : Machine) (v : Value) (l : Layout) (w : World) (m : Memory) (item : Item) (r : InputRelocation) (a : ℕ) → (TakesString v l r → ⊥) → IsReferentOnMachine k v l w m item r a → IsReferent k v l w m item r a
plain_referent k v l w m item r a none h = inr (none, h)

pub referent_by : (k : Machine) (v : Value) (l : Layout) (w : World) (m : Memory) (item : Item) (r : InputRelocation) (a : ℕ) → (TakesString v l r → ⊥) → IsReferent k v l w m item r a → IsReferentOnMachine k v l w m item r a
referent_by k v l w m item r a none (inl h) = absurd (none h.0)
referent_by k v l w m item r a none (inr h) = h.1

-- ---- branches

-- of a reference that names none, or takes no S, L or S is what stands for the symbol
pub branch_referent : (l : Layout) (w : World) (m : Memory) (item : Item) (r : InputRelocation) (a : ℕ) → (GoesToString l r → ⊥) → IsReferent l.machine StubDistance l w m item r a → IsBranchReferent l w m item r a
branch_referent l w m item r a none h = inr (none, h)

pub branch_stands : (l : Layout) (w : World) (m : Memory) (item : Item) (r : InputRelocation) (a : ℕ) → (GoesToString l r → ⊥) → IsBranchReferent l w m item r a → IsReferent l.machine StubDistance l w m item r a
branch_stands l w m item r a none (inl h) = absurd (none h.0)
branch_stands l w m item r a none (inr h) = h.1

-- a type whose formula takes no S goes to no string
pub goes_to_none : (l : Layout) (r : InputRelocation) (f : Formula) → formula_of l.machine r.number ≡ Some f → (TakesString f.value l r → ⊥) → GoesToString l r → ⊥
goes_to_none l r f known none g =
    let both : Some g.formula ≡ Some f = sym g.known ∙ known in
    let same : g.formula ≡ f = cc in
    none (subst (λ (h : Formula). TakesString h.value l r) same g.takes)
