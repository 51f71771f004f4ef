-- The definition of a symbol, as the judge and as the writer find it.
use Rattle.wild_meaning.proofs.Common.{◌≡◌, ℕ, ◌⊎◌, inl, inr, refl, sym, ap, ◌∙◌, subst, Option, Some, None, option_and_then, slice_get, Value, Distance, StubDistance, Machine, InputRelocation, Symbol, Layout, World, Memory, IsDefinedBy, Item, TakesString, IsReferent}
use Rattle.std.specs.Prelude.{unwrap_or}
use Rattle.wild_reloc.specs.Formula.{StubFromTable}
use Rattle.wild_types.specs.declared.kind.Machine.TheVariants as machine
use Rattle.wild_types.specs.Lookups.{canonical}
use Rattle.wild_loader.specs.Reach.{ReachesWithin}
use Rattle.wild_meaning.specs.Jump.{GoesTo}
use Rattle.wild_meaning.specs.Denotes.{IsAddressOf, Denotes}
use Rattle.wild_meaning.specs.ReferentAArch64.{IsOneAddress, RepresentsOnAArch64}
use Rattle.wild_meaning.specs.Slot.{IsInAddressSlot}
use Rattle.wild_meaning.specs.Template.{IsSlotAddress}
use Rattle.wild_meaning.specs.Formula.{IsSymbolAddress, IsTarget, IsOwnTarget, TakesAddress, IsReferentOnX86_64, IsOwnReferent}
use Rattle.wild_meaning.proofs.StringLemmas.{referent_by}

-- the symbol that defines another is the one that the layout looks up
pub canonical_is : (l : Layout) (i c : ℕ) → IsDefinedBy l i c → canonical l i ≡ c
canonical_is l i c d = ap (λ (o : Option Symbol). unwrap_or (option_and_then (λ (s : Symbol). s.definition) o) i) d.listed ∙ by_case d.defined
  where
    by_case : (d.symbol.definition ≡ Some c) ⊎ ((d.symbol.definition ≡ None) × (c ≡ i)) → unwrap_or d.symbol.definition i ≡ c
    by_case (inl e) = rw e refl
    by_case (inr e) = rw e.0 (sym e.1)

-- and the one that the layout looks up defines it
pub own_definition : (l : Layout) (i : ℕ) (s : Symbol) → slice_get l.symbols (canonical l i) ≡ Some s → IsDefinedBy l i (canonical l i)
own_definition l i s e = by_symbol (slice_get l.symbols i) refl
  where
    by_definition : (x : Symbol) → slice_get l.symbols i ≡ Some x → (o : Option ℕ) → x.definition ≡ o → IsDefinedBy l i (canonical l i)
    by_definition x there None is =
        let same : canonical l i ≡ i = ap (λ (o : Option Symbol). unwrap_or (option_and_then (λ (y : Symbol). y.definition) o) i) there ∙ ap (λ (o : Option ℕ). unwrap_or o i) is in
        record { symbol = x; listed = there; defined = inr (is, same) }
    by_definition x there (Some c) is =
        let same : canonical l i ≡ c = ap (λ (o : Option Symbol). unwrap_or (option_and_then (λ (y : Symbol). y.definition) o) i) there ∙ ap (λ (o : Option ℕ). unwrap_or o i) is in
        record { symbol = x; listed = there; defined = inl (is ∙ ap (λ (k : ℕ). Some k) (sym same)) }

    by_symbol : (o : Option Symbol) → slice_get l.symbols i ≡ o → IsDefinedBy l i (canonical l i)
    by_symbol (Some x) there = by_definition x there x.definition refl
    by_symbol None there =
        let same : canonical l i ≡ i = ap (λ (o : Option Symbol). unwrap_or (option_and_then (λ (y : Symbol). y.definition) o) i) there in
        let both : Some s ≡ None = sym e ∙ ap (λ (k : ℕ). slice_get l.symbols k) same ∙ there in
        cc

-- a thunk is at most one jump
pub goes_within : (l : Layout) (m : Memory) (a v : ℕ) → GoesTo l m a v → ReachesWithin 1 m a v
goes_within l m a v (inl e) = inl e
goes_within l m a v (inr h) = inr (v, h.jumps, refl)

-- ---- S and L

-- what is S is L
pub address_denotes : (l : Layout) (w : World) (m : Memory) (i a : ℕ) → IsAddressOf l w m i a → Denotes l w m i a
address_denotes l w m i a (inl h) = inl h
address_denotes l w m i a (inr h) = inr h.3

-- and so is what a slot for an address has
pub in_slot_denotes : (l : Layout) (w : World) (m : Memory) (i a : ℕ) → IsInAddressSlot l w m i a → Denotes l w m i a
in_slot_denotes l w m i a (inl h) = address_denotes l w m i a h
in_slot_denotes l w m i a (inr h) = inr h.1

-- the one address is S
pub one_is_address : (l : Layout) (w : World) (m : Memory) (i a : ℕ) → IsOneAddress l w m i a → IsAddressOf l w m i a
one_is_address l w m i a (inr h) = inl h.1
one_is_address l w m i a (inl h) = by h.3
  where
    by : Denotes l w m i a → IsAddressOf l w m i a
    by (inl v) = inl v
    by (inr s) = inr (h.0, h.1, h.2, s)

-- S in a distance on AArch64 is L
pub distance_denotes : (l : Layout) (w : World) (m : Memory) (r : InputRelocation) (i a : ℕ) → RepresentsOnAArch64 Distance l w m r i a → Denotes l w m i a
distance_denotes l w m r i a (inl h) = address_denotes l w m i a h
distance_denotes l w m r i a (inr h) = h.1

pub target_of : (l : Layout) (w : World) (m : Memory) (symbol : Option ℕ) (a : ℕ) → IsSymbolAddress l w m symbol a → IsTarget l w m symbol a
target_of l w m None a h = h
target_of l w m (Some i) a h = address_denotes l w m i a h

pub slot_address_of : (l : Layout) (w : World) (m : Memory) (symbol : Option ℕ) (a : ℕ) → IsSymbolAddress l w m symbol a → IsSlotAddress l w m symbol a
slot_address_of l w m None a h = h
slot_address_of l w m (Some i) a h = inl h

pub on_x86_64 : (v : Value) (l : Layout) (w : World) (m : Memory) (symbol : Option ℕ) (a : ℕ) → IsSymbolAddress l w m symbol a → IsReferentOnX86_64 v l w m symbol a
on_x86_64 StubDistance l w m symbol a h = target_of l w m symbol a h
on_x86_64 StubFromTable l w m symbol a h = target_of l w m symbol a h
on_x86_64 other l w m symbol a h = h

pub target_on_x86_64 : (v : Value) (l : Layout) (w : World) (m : Memory) (symbol : Option ℕ) (a : ℕ) → IsReferentOnX86_64 v l w m symbol a → IsTarget l w m symbol a
target_on_x86_64 StubDistance l w m symbol a h = h
target_on_x86_64 StubFromTable l w m symbol a h = h
target_on_x86_64 other l w m symbol a h = target_of l w m symbol a h

address_on_x86_64 : (v : Value) (l : Layout) (w : World) (m : Memory) (symbol : Option ℕ) (a : ℕ) → TakesAddress v → IsReferentOnX86_64 v l w m symbol a → IsSymbolAddress l w m symbol a
address_on_x86_64 StubDistance l w m symbol a takes h = absurd takes
address_on_x86_64 StubFromTable l w m symbol a takes h = absurd takes
address_on_x86_64 other l w m symbol a takes h = h

-- ---- S on x86-64, of a reference that takes no string

pub referent_is : (v : Value) (l : Layout) (w : World) (m : Memory) (item : Item) (r : InputRelocation) (a : ℕ) → l.machine ≡ machine.X86_64 → (TakesString v l r → ⊥) → IsSymbolAddress l w m r.symbol a → IsReferent l.machine v l w m item r a
referent_is v l w m item r a x none h = subst (λ (k : Machine). IsReferent k v l w m item r a) (sym x) (inr (none, on_x86_64 v l w m r.symbol a h))

-- L may be any stub
pub stub_referent_is : (l : Layout) (w : World) (m : Memory) (item : Item) (r : InputRelocation) (a : ℕ) → l.machine ≡ machine.X86_64 → IsTarget l w m r.symbol a → IsReferent l.machine StubDistance l w m item r a
stub_referent_is l w m item r a x h = subst (λ (k : Machine). IsReferent k StubDistance l w m item r a) (sym x) (inr ((λ t. t.0), h))

pub referent_stands : (v : Value) (l : Layout) (w : World) (m : Memory) (item : Item) (r : InputRelocation) (a : ℕ) → l.machine ≡ machine.X86_64 → (TakesString v l r → ⊥) → IsReferent l.machine v l w m item r a → IsTarget l w m r.symbol a
referent_stands v l w m item r a x none h = target_on_x86_64 v l w m r.symbol a (referent_by machine.X86_64 v l w m item r a none (subst (λ (k : Machine). IsReferent k v l w m item r a) x h))

pub referent_address : (v : Value) (l : Layout) (w : World) (m : Memory) (item : Item) (r : InputRelocation) (a : ℕ) → TakesAddress v → l.machine ≡ machine.X86_64 → (TakesString v l r → ⊥) → IsReferent l.machine v l w m item r a → IsSymbolAddress l w m r.symbol a
referent_address v l w m item r a takes x none h = address_on_x86_64 v l w m r.symbol a takes (referent_by machine.X86_64 v l w m item r a none (subst (λ (k : Machine). IsReferent k v l w m item r a) x h))

pub own_referent_is : (v : Value) (l : Layout) (w : World) (item : Item) (r : InputRelocation) (a : ℕ) → l.machine ≡ machine.X86_64 → IsOwnTarget l w r.symbol a → IsOwnReferent l.machine v l w item r a
own_referent_is v l w item r a x h = subst (λ (k : Machine). IsOwnReferent k v l w item r a) (sym x) h
