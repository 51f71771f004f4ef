-- The address that a loader moves is what its expression gives.
use Rattle.wild_references.proofs.Common.{◌≡◌, ℕ, ◌+◌, ◌%◌, ◌^◌, Bool, true, false, not, Option, Some, refl, sym, ap, ◌∙◌, arith, subst, inl, ◌&&◌, Ok, FitsSigned, InputRelocation, Layout, KeepsAll, has_flag, absolute, is_position_independent, flags_at, moves, RelativeAddress, SymbolAddress, decided, address_of, decided_moved, World, Memory, with_base, IsReplaceable, IsSum, Item, HasStubAddress, IsPlaced, IsFollowed, signed_fits, w64}
use Rattle.wild_layout.proofs.DecideLemmas.{IsMoved}
use Rattle.wild_meaning.specs.Formula.{IsOwnSum}
use Rattle.wild_references.proofs.Targets.{addressed, linked}
use Rattle.wild_references.proofs.Referents.{follows, address_referent, own_address_referent}
use Rattle.wild_references.proofs.ValueKinds.{more}
use Rattle.wild_references.proofs.StubCode.{StubLaws}
use Rattle.wild_references.proofs.MergedStrings.{names_none, plain_address, string_found, string_named, replaceable_none, IsFor, OfStrings, OfSymbol, address_is_for}

not_absolute : (l : Layout) (i : ℕ) → moves l i ≡ true → has_flag (flags_at l i) absolute ≡ false
not_absolute l i h = by_tests (is_position_independent l.kind) (has_flag (flags_at l i) absolute) h
  where
    by_tests : (a b : Bool) → (a && not b) ≡ true → b ≡ false
    by_tests true false h = refl
    by_tests true true h = cc
    by_tests false b h = cc

-- what moves is more by the base
moved_here : (base a c x still_base : ℕ) → (a + c) % 2 ^ 64 ≡ x → still_base ≡ (base + a) % 2 ^ 64 → (x + base) % 2 ^ 64 ≡ (still_base + c) % 2 ^ 64
moved_here base a c x still_base e f = omega (arith, e, f)

pub gives_moved : StubLaws → (l : Layout) (w : World) (m : Memory) (s : Item) (r : InputRelocation) (x : ℕ) (packed : Bool) → KeepsAll l → IsPlaced l w m → FitsSigned w64 r.addend → decided l s r ≡ Ok (RelativeAddress x packed) → IsFollowed l r SymbolAddress → IsSum SymbolAddress l w m s r ((x + w.base) % 2 ^ 64)
gives_moved law l w m s r x packed all p fits made f = (let v = decided_moved l s r x packed made in by_for v (address_is_for l r v.address v.given))
  where
    by_for : (v : IsMoved l s r x packed) → IsFor l r v.address → IsSum SymbolAddress l w m s r ((x + w.base) % 2 ^ 64)
    by_for v (OfSymbol none given) =
        let t = addressed law l w m r.symbol v.address p (λ i named. inl all) (follows l r SymbolAddress tt f) given in
        let still : t.still ≡ false = sym (t.flag v.by.number v.by.named) ∙ not_absolute l v.by.number v.by.moves in
        let target : with_base t.still w.base v.address ≡ (w.base + v.address) % 2 ^ 64 = ap (λ (b : Bool). with_base b w.base v.address) still in
        record { symbol = with_base t.still w.base v.address; denoted = address_referent l w m s r (with_base t.still w.base v.address) (names_none l r none) t.denoted; sum = moved_here w.base v.address (more r) x (with_base t.still w.base v.address) v.value target }
    by_for v (OfStrings i strings named is some) =
        let a = (w.base + v.address) % 2 ^ 64 in
        let found = string_found l w r i v.address strings p.symbols.named named is (signed_fits w64 r.addend fits) v.given in
        record { symbol = a; denoted = inl ((tt, string_named l w r a found), found); sum = moved_here w.base v.address (more r) x a v.value refl }

-- the same with the own symbol
pub links_moved : (l : Layout) (w : World) (m : Memory) (s : Item) (r : InputRelocation) (x i : ℕ) (packed : Bool) → IsPlaced l w m → decided l s r ≡ Ok (RelativeAddress x packed) → r.symbol ≡ Some i → IsReplaceable l i true → (HasStubAddress l i → ⊥) → IsOwnSum SymbolAddress l w s r ((x + w.base) % 2 ^ 64)
links_moved l w m s r x i packed p made named whose alone =
    let v = decided_moved l s r x packed made in
    let t = linked l w m i v.address p alone (subst (λ (o : Option ℕ). address_of l o ≡ Ok v.address) named (sym (plain_address l r (replaceable_none l r i p.symbols.named named whose)) ∙ v.given)) in
    let one : v.by.number ≡ i = (let e : Some v.by.number ≡ Some i = sym v.by.named ∙ named in cc) in
    let still : t.still ≡ false = sym t.flag ∙ not_absolute l i (subst (λ (k : ℕ). moves l k ≡ true) one v.by.moves) in
    let target : with_base t.still w.base v.address ≡ (w.base + v.address) % 2 ^ 64 = ap (λ (b : Bool). with_base b w.base v.address) still in
    record { symbol = with_base t.still w.base v.address; denoted = own_address_referent l w s r i (with_base t.still w.base v.address) named t.value; sum = moved_here w.base v.address (more r) x (with_base t.still w.base v.address) v.value target }
