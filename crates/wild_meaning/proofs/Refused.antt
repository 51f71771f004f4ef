-- What memory has of a reference in data: its field reads as its formula.
use Rattle.wild_meaning.proofs.Common.{◌≡◌, ℕ, inl, inr, true, false, sym, ◌∙◌, subst, ◌≢◌, Some, Contains, r_x86_64_none, shf_execinstr, Formula, InputRelocation, Symbol, Layout, has_flag, absolute, Memory, World, IsSet, HasFlag, IsReplaceable, may_be_replaced, Item, formula_of, FieldReads, Gives, Instruction, IsTemplate, ReferenceHolds, UsesOwnSymbolOnly, UsesOwnDefinition, ItemHolds}
use Rattle.wild_meaning.specs.Section.{IsForDebuggers}
use Rattle.wild_meaning.specs.Reference.{HoldsPlain, IsCheckedAtZeroOnly}
use Rattle.wild_meaning.proofs.SymbolUnique.{defining_symbol, flag_of, owner_of}

-- ---- which references are asked

pub not_excepted : (l : Layout) (item : Item) (r : InputRelocation) (i : ℕ) (t : Symbol) → r.symbol ≡ Some i → defining_symbol l i ≡ Some t → has_flag t.flags absolute ≡ false → IsCheckedAtZeroOnly l item r → ⊥
not_excepted l item r i t named e moves h =
    let both : Some i ≡ Some h.symbol = sym named ∙ h.named in
    let same : h.symbol ≡ i = cc in
    let still : HasFlag l i absolute true = subst (λ (k : ℕ). HasFlag l k absolute true) same h.absolute in
    let flags : true ≡ false = sym (flag_of l i absolute true t e still) ∙ moves in
    cc

pub not_alone : (l : Layout) (item : Item) (r : InputRelocation) (f : Formula) (i : ℕ) (t : Symbol) → formula_of l.machine r.number ≡ Some f → r.symbol ≡ Some i → defining_symbol l i ≡ Some t → (may_be_replaced l.kind t.flags ≡ true → UsesOwnDefinition l item i f → ⊥) → UsesOwnSymbolOnly l item r → ⊥
not_alone l item r f i t known named e takes h =
    let both : Some i ≡ Some h.symbol = sym named ∙ h.named in
    let same : h.symbol ≡ i = cc in
    let formulas : Some h.formula ≡ Some f = sym h.known ∙ known in
    let one : h.formula ≡ f = cc in
    let other : IsReplaceable l i true = subst (λ (k : ℕ). IsReplaceable l k true) same h.replaceable in
    let there : UsesOwnDefinition l item i h.formula = subst (λ (k : ℕ). UsesOwnDefinition l item k h.formula) same h.takes in
    takes (owner_of l i true t e other) (subst (λ (g : Formula). UsesOwnDefinition l item i g) one there)

-- ---- in data

-- a field of data belongs to no instruction
pub no_template : (l : Layout) (item : Item) (r : InputRelocation) (start : ℕ) (o : Instruction) (first : InputRelocation) → (IsSet item.flags shf_execinstr → ⊥) → IsTemplate l item r start o first → ⊥
no_template l item r start o first plain (inl h) = plain h.0.stands.code
no_template l item r start o first plain (inr h) = plain h.sequence.stands.code

-- what memory has of a reference in data
pub record HasValueThere (l : Layout) (w : World) (m : Memory) (item : Item) (r : InputRelocation) (f : Formula) : Type 0 where
  pub value : ℕ
  pub gives : Gives f.value l w m item r value
  pub field : FieldReads w m item r f.form value

pub plain_there : (l : Layout) (w : World) (m : Memory) (item : Item) (r : InputRelocation) (f : Formula) → formula_of l.machine r.number ≡ Some f → HoldsPlain l w m item r → HasValueThere l w m item r f
plain_there l w m item r f known h = let both : Some h.formula ≡ Some f = sym h.known ∙ known in let same : h.formula ≡ f = cc in subst (λ (g : Formula). HasValueThere l w m item r g) same (record { value = h.value; gives = h.gives; field = h.field })

pub data_there : (l : Layout) (w : World) (m : Memory) (item : Item) (r : InputRelocation) (f : Formula) → (IsSet item.flags shf_execinstr → ⊥) → formula_of l.machine r.number ≡ Some f → ReferenceHolds l w m item r → HasValueThere l w m item r f
data_there l w m item r f plain known (inl h) = plain_there l w m item r f known h
data_there l w m item r f plain known (inr h) = absurd (no_template l item r h.start h.instruction h.first plain h.template)

-- it has its value where it is asked, and the image is for more than debuggers
pub value_there : (l : Layout) (w : World) (m : Memory) (item : Item) (r : InputRelocation) (f : Formula) (i : ℕ) (t : Symbol) → (IsForDebuggers l → ⊥) → ItemHolds l w m item → (IsSet item.flags shf_execinstr → ⊥) → Contains item.relocations r → r.number ≢ r_x86_64_none → formula_of l.machine r.number ≡ Some f → r.symbol ≡ Some i → defining_symbol l i ≡ Some t → has_flag t.flags absolute ≡ false → (may_be_replaced l.kind t.flags ≡ true → UsesOwnDefinition l item i f → ⊥) → HasValueThere l w m item r f
value_there l w m item r f i t whole holds plain listed refers known named e moves takes =
    data_there l w m item r f plain known
    (holds.references r (record { listed = listed; refers = refers }) (λ left. whole left.0) (λ x. absurd (not_excepted l item r i t named e moves x)) (λ x. not_alone l item r f i t known named e takes x))
