-- What a formula gives of an address or a distance, and what that is of a symbol that no resolver answers for.
use Rattle.wild_laws.proofs.Common.{◌≡◌, ℕ, ◌+◌, ◌-◌, ◌%◌, ◌^◌, ◌⊎◌, inl, inr, Bool, false, true, refl, sym, ap, ◌∙◌, subst, arith, Option, Some, None, Machine, InputRelocation, Layout, is_listed, SymbolAddress, Distance, StubDistance, Memory, World, Item, place_at, branch_types, HasFormula}
use Rattle.wild_types.specs.declared.kind.Machine.TheVariants as machine
use Rattle.wild_types.specs.Flags.{ifunc}
use Rattle.wild_reloc.specs.Formula.{Value, StubFromTable}
use Rattle.wild_meaning.specs.Value.{HasFlag, HasOwnValue, IsReplaceable, with_base}
use Rattle.wild_meaning.specs.Denotes.{HasStub, IsAddressOf, Denotes}
use Rattle.wild_meaning.specs.ReferentAArch64.{IsUndefinedWeak, own_place}
use Rattle.wild_meaning.specs.Formula.{IsSymbolAddress, IsTarget, Gives, TakesAddress, IsReferent, IsReferentOnMachine, IsReferentOnX86_64, IsReferentOnAArch64}
use Rattle.wild_meaning.specs.Reference.{HoldsPlain}
use Rattle.wild_laws.specs.FirstPath.{IsAddress, IsGoal, Demands, NamesAreAddresses, RepresentsSymbol, IsNamed}
use Rattle.wild_laws.proofs.Symbols.{own_value, plain_value}

-- ---- symbols

address : (l : Layout) (w : World) (i a : ℕ) → HasFlag l i ifunc false → HasOwnValue l w i a → IsAddress l w i a
address l w i a f h = record {
  raw = h.raw;
  given = h.given;
  definition = h.absolute.definition;
  defined = h.absolute.defined;
  symbol = h.absolute.symbol;
  listed = h.absolute.listed;
  moves = plain_value l w i a h f ∙ ap (λ (b : Bool). with_base b w.base h.raw) (sym h.absolute.flagged);
}

alone : (l : Layout) (w : World) (m : Memory) (i a : ℕ) → IsReplaceable l i false → HasFlag l i ifunc false → ((p : ℕ) → HasStub l i p → ⊥) → Denotes l w m i a → IsAddress l w i a
alone l w m i a own f none (inl h) = address l w i a f (own_value l w i a own h)
alone l w m i a own f none (inr s) = absurd (none s.stub s.given)

-- what represents a symbol leads to it
reached : (l : Layout) (w : World) (m : Memory) (i a : ℕ) → Denotes l w m i a → IsGoal l w m (Some i) a
reached l w m i a (inl h) = (a, h, inl refl)
reached l w m i a (inr h) = (h.value, h.is, inr (h.value, h.code.jumps, inl refl))

pub target_reached : (l : Layout) (w : World) (m : Memory) (symbol : Option ℕ) (a : ℕ) → IsTarget l w m symbol a → IsGoal l w m symbol a
target_reached l w m None a h = h
target_reached l w m (Some i) a h = reached l w m i a h

pub names_addresses : NamesAreAddresses
names_addresses = record {
  stands = reached;
  alone = alone;
  goals = λ l w m i a own f h. (h.0, address l w i h.0 f (own_value l w i h.0 own h.1), h.2);
}

-- ---- what S is

-- on AArch64 a field that is no branch's has its own place
own_is : (w : World) (s : Item) (r : InputRelocation) → is_listed r.number branch_types ≡ false → own_place w s r ≡ place_at w s r.offset % 2 ^ 64
own_is w s r none = let z : place_at w s r.offset + 0 ≡ place_at w s r.offset = omega arith in rw none (ap (λ (n : ℕ). n % 2 ^ 64) z)

-- the value is an address or a distance
abbrev pub IsKnown : Value → Type 0
IsKnown v = (v ≡ SymbolAddress) ⊎ (v ≡ Distance)

one_symbol : {i j : ℕ} → Some i ≡ Some j → i ≡ j
one_symbol {i} {j} e = cc

-- what is S by the judge's expression stands for the symbol
address_stands : (l : Layout) (w : World) (m : Memory) (s : Item) (r : InputRelocation) (a : ℕ) (o : Option ℕ) → r.symbol ≡ o → IsReferentOnAArch64 SymbolAddress l w m s r o a → RepresentsSymbol machine.AArch64 SymbolAddress l w m s r a
address_stands l w m s r a None e h = inr ((λ d. cc d.distance), subst (λ (p : Option ℕ). IsSymbolAddress l w m p a) (sym e) h)
address_stands l w m s r a (Some i) e (inl t) = absurd t.0.0
address_stands l w m s r a (Some i) e (inr t) = inr ((λ d. cc d.distance), subst (λ (p : Option ℕ). IsSymbolAddress l w m p a) (sym e) t.1)

distance_stands : (l : Layout) (w : World) (m : Memory) (s : Item) (r : InputRelocation) (a : ℕ) (o : Option ℕ) → is_listed r.number branch_types ≡ false → r.symbol ≡ o → IsReferentOnAArch64 Distance l w m s r o a → RepresentsSymbol machine.AArch64 Distance l w m s r a
distance_stands l w m s r a None none e h = inr ((λ d. (let both : Some d.symbol.symbol ≡ None = sym d.symbol.named ∙ e in cc)), subst (λ (p : Option ℕ). IsSymbolAddress l w m p a) (sym e) h)
distance_stands l w m s r a (Some i) none e (inl t) = inl (record { distance = refl; symbol = record { symbol = i; named = e; absent = t.0.1 } }, t.1 ∙ own_is w s r none)
distance_stands l w m s r a (Some i) none e (inr t) = inr ((λ d. t.0 (tt, subst (λ (j : ℕ). IsUndefinedWeak l j) (one_symbol (sym d.symbol.named ∙ e)) d.symbol.absent)), subst (λ (p : Option ℕ). IsSymbolAddress l w m p a) (sym e) (no_branch t.1))
  where
    no_branch : IsAddressOf l w m i a ⊎ ((is_listed r.number branch_types ≡ true) × Denotes l w m i a) → IsAddressOf l w m i a
    no_branch (inl h) = h
    no_branch (inr h) = absurd (let both : true ≡ false = sym h.0 ∙ none in cc)

-- on x86-64 an expression that takes the address takes S
takes_address : (v : Value) (l : Layout) (w : World) (m : Memory) (symbol : Option ℕ) (a : ℕ) → TakesAddress v → IsReferentOnX86_64 v l w m symbol a → IsSymbolAddress l w m symbol a
takes_address StubDistance l w m symbol a takes h = absurd takes
takes_address StubFromTable l w m symbol a takes h = absurd takes
takes_address other l w m symbol a takes h = h

stands_by : (k : Machine) (v : Value) (l : Layout) (w : World) (m : Memory) (s : Item) (r : InputRelocation) (a : ℕ) → IsKnown v → TakesAddress v → (k ≡ machine.AArch64 → is_listed r.number branch_types ≡ false) → IsReferentOnMachine k v l w m s r a → RepresentsSymbol k v l w m s r a
stands_by machine.X86_64 v l w m s r a known takes none h = takes_address v l w m r.symbol a takes h
stands_by machine.AArch64 v l w m s r a (inl e) takes none h = subst (λ (u : Value). IsReferentOnAArch64 u l w m s r r.symbol a → RepresentsSymbol machine.AArch64 u l w m s r a) (sym e) (λ t. address_stands l w m s r a r.symbol refl t) h
stands_by machine.AArch64 v l w m s r a (inr e) takes none h = subst (λ (u : Value). IsReferentOnAArch64 u l w m s r r.symbol a → RepresentsSymbol machine.AArch64 u l w m s r a) (sym e) (λ t. distance_stands l w m s r a r.symbol (none refl) refl t) h

named_by : (v : Value) (l : Layout) (w : World) (m : Memory) (s : Item) (r : InputRelocation) (a : ℕ) → IsKnown v → TakesAddress v → (l.machine ≡ machine.AArch64 → is_listed r.number branch_types ≡ false) → IsReferent l.machine v l w m s r a → IsNamed v l w m s r a
named_by v l w m s r a known takes none (inl t) = inl (t.0.1, t.1)
named_by v l w m s r a known takes none (inr t) = inr ((λ n. t.0 (takes, n)), stands_by l.machine v l w m s r a known takes none t.1)

-- ---- formulas

record IsDemanded (l : Layout) (w : World) (m : Memory) (s : Item) (r : InputRelocation) (v : Value) (x : ℕ) : Type 0 where
  target : ℕ
  denoted : IsNamed v l w m s r target
  demanded : Demands v target r.addend (place_at w s r.offset) x

demanded_of : (l : Layout) (w : World) (m : Memory) (s : Item) (r : InputRelocation) (v : Value) (x : ℕ) → (l.machine ≡ machine.AArch64 → is_listed r.number branch_types ≡ false) → IsKnown v → Gives v l w m s r x → IsDemanded l w m s r v x
demanded_of l w m s r SymbolAddress x none k g = record { target = g.symbol; denoted = named_by SymbolAddress l w m s r g.symbol k tt none g.denoted; demanded = g.sum }
demanded_of l w m s r Distance x none k g = record { target = g.1.symbol; denoted = named_by Distance l w m s r g.1.symbol k tt none g.1.denoted; demanded = g.2 ∙ ap (λ (n : ℕ). (n + (2 ^ 64 - place_at w s r.offset)) % 2 ^ 64) g.1.sum }
demanded_of l w m s r other x none k g =
    elim k [
      | inl e ↦ cc
      | inr e ↦ cc
    ]

-- a reference whose field reads as the judge's formula has the formula of an address or a distance
pub plain_has : (l : Layout) (w : World) (m : Memory) (s : Item) (r : InputRelocation) → (p : HoldsPlain l w m s r) → IsKnown p.formula.value → (l.machine ≡ machine.AArch64 → is_listed r.number branch_types ≡ false) → HasFormula l w m s r
plain_has l w m s r p known none =
    let d = demanded_of l w m s r p.formula.value p.value none known p.gives in
    record {
      formula = p.formula;
      known = p.known;
      target = d.target;
      denoted = d.denoted;
      value = p.value;
      demanded = d.demanded;
      field = record { bytes = p.field.bytes; wide = p.field.wide; held = p.field.held; reads = p.field.reads };
    }
