-- What a thunk goes on to stands for the symbol of the branch that goes by it.
use Rattle.wild_references.proofs.Common.{◌≡◌, ℕ, ◌+◌, ◌%◌, ◌^◌, ◌⊎◌, inl, inr, Bool, true, false, Option, Some, None, refl, sym, ap, ◌∙◌, arith, subst, Ok, option_and_then, option_map, slice_get, Resolution, Symbol, Thunk, Layout, KeepsAll, raw_value, canonical, raw_address, symbol_is_ifunc, resolution_of, stub_of, address_of, Memory, World, Denotes, IsStub, IsAbsolute, with_base, address_denotes, IsPlaced}
use Rattle.wild_types.specs.declared.fault.Missing.TheVariants as missing
use Rattle.wild_types.specs.Addresses.{placed_value, resolved_or}
use Rattle.wild_layout.specs.Geometry.{DefinitionsAreFinal}
use Rattle.wild_layout.specs.Thunks.{stub_or, thunk_target}
use Rattle.wild_references.proofs.StubCode.{StubLaws}
use Rattle.wild_references.proofs.SymbolStubs.{stub_stands, stub_is}
use Rattle.wild_references.proofs.Targets.{Follows, IsAddressed, addressed}
use Rattle.wild_references.proofs.WrittenFields.{address_given, given_some}

-- the thunk is of the symbol's definition, which has the symbol's address
pub record IsThunkOf (l : Layout) (i : ℕ) (t : Thunk) : Type 0 where
  pub symbol : t.symbol ≡ canonical l i
  pub same : (canonical l i ≡ i) ⊎ ((r : Resolution) × (resolution_of l i ≡ Some r))

-- code that comes to the thunk's target is at what stands for the symbol
pub record IsTargeted (l : Layout) (w : World) (m : Memory) (i target : ℕ) : Type 0 where
  pub symbol : ℕ
  pub denoted : Denotes l w m i symbol
  pub at : (w.base + target) % 2 ^ 64 ≡ symbol % 2 ^ 64

-- ---- the definition's

resolution_is : (l : Layout) (i : ℕ) → DefinitionsAreFinal l → resolution_of l (canonical l i) ≡ resolution_of l i
resolution_is l i final = ap (λ (c : ℕ). option_and_then (λ (s : Symbol). s.resolution) (slice_get l.symbols c)) (final i)

stub_of_definition : (l : Layout) (i : ℕ) → DefinitionsAreFinal l → stub_of l (canonical l i) ≡ stub_of l i
stub_of_definition l i final = ap (λ (o : Option Resolution). option_and_then (λ (r : Resolution). r.plt_address) o) (resolution_is l i final)

-- the address that was decided of it
address_decided : (l : Layout) (i : ℕ) (r : Resolution) → resolution_of l i ≡ Some r → raw_value l i ≡ Some r.raw_value
unfolding raw_value
address_decided l i r h = by_symbol (slice_get l.symbols (canonical l i)) refl h
  where
    by_symbol : (o : Option Symbol) → slice_get l.symbols (canonical l i) ≡ o → option_and_then (λ (s : Symbol). s.resolution) o ≡ Some r → resolved_or (option_and_then (λ (s : Symbol). option_map (λ r. r.raw_value) s.resolution) (slice_get l.symbols (canonical l i))) (placed_value l i) ≡ Some r.raw_value
    by_symbol None e h = cc
    by_symbol (Some s) e h = rw (e, h) refl

address_of_definition : (l : Layout) (i a : ℕ) (t : Thunk) → DefinitionsAreFinal l → IsThunkOf l i t → raw_value l i ≡ Some a → raw_value l t.symbol ≡ Some a
address_of_definition l i a t final of given = by_case of.same
  where
    by_case : (canonical l i ≡ i) ⊎ ((r : Resolution) × (resolution_of l i ≡ Some r)) → raw_value l t.symbol ≡ Some a
    by_case (inl own) = ap (raw_value l) (of.symbol ∙ own) ∙ given
    by_case (inr r) =
        let mine : raw_value l i ≡ Some r.0.raw_value = address_decided l i r.0 r.1 in
        ap (raw_value l) of.symbol ∙ (address_decided l (canonical l i) r.0 (resolution_is l i final ∙ r.1) ∙ (sym mine ∙ given))

-- ---- a stub

stub_target : (l : Layout) (i stub target : ℕ) (t : Thunk) → DefinitionsAreFinal l → IsThunkOf l i t → thunk_target l t ≡ Ok target → stub_of l i ≡ Some stub → stub ≡ target
stub_target l i stub target t final of known is =
    let there : stub_of l t.symbol ≡ Some stub = ap (stub_of l) of.symbol ∙ (stub_of_definition l i final ∙ is) in
    let e : Ok stub ≡ Ok target = ap (λ (o : Option ℕ). stub_or o (raw_address l (Some t.symbol))) (sym there) ∙ known in
    cc

pub stub_targeted : StubLaws → (l : Layout) (w : World) (m : Memory) (i stub target : ℕ) (t : Thunk) → IsPlaced l w m → KeepsAll l → IsThunkOf l i t → thunk_target l t ≡ Ok target → stub_of l i ≡ Some stub → IsTargeted l w m i target
stub_targeted law l w m i stub target t p all of known is =
    let same = stub_target l i stub target t p.symbols.final of known is in
    let twice : (w.base + target) % 2 ^ 64 ≡ (w.base + target) % 2 ^ 64 % 2 ^ 64 = omega arith in
    record {
      symbol = (w.base + target) % 2 ^ 64;
      denoted = inr (subst (λ (a : ℕ). IsStub l w m i ((w.base + a) % 2 ^ 64)) same (stub_is l w m i stub (stub_stands law l w m i stub p all is)));
      at = twice;
    }

-- ---- the symbol itself

-- at base 0, or where the symbol moves
moves_so : (b : Bool) (base a : ℕ) → (base ≡ 0) ⊎ (b ≡ false) → (base + a) % 2 ^ 64 ≡ with_base b base a % 2 ^ 64
moves_so true base a (inl zero) = omega (arith, zero)
moves_so true base a (inr f) = cc
moves_so false base a h = omega arith

plain_target : (l : Layout) (i a target : ℕ) (t : Thunk) → DefinitionsAreFinal l → IsThunkOf l i t → thunk_target l t ≡ Ok target → stub_of l i ≡ None → raw_value l i ≡ Some a → a ≡ target
plain_target l i a target t final of known none given =
    let bare : stub_of l t.symbol ≡ None = ap (stub_of l) of.symbol ∙ (stub_of_definition l i final ∙ none) in
    let there : raw_address l (Some t.symbol) ≡ Ok a = rw (address_of_definition l i a t final of given) refl in
    let e : Ok a ≡ Ok target = sym there ∙ (ap (λ (o : Option ℕ). stub_or o (raw_address l (Some t.symbol))) (sym bare) ∙ known) in
    cc

-- what the writer takes for S is what the thunk goes on to, or this goes by its stub
pub symbol_targeted : StubLaws → (l : Layout) (w : World) (m : Memory) (i a target : ℕ) (t : Thunk) → IsPlaced l w m → KeepsAll l → IsThunkOf l i t → thunk_target l t ≡ Ok target → Follows l i → address_of l (Some i) ≡ Ok a → (IsAbsolute l i → w.base ≡ 0) → IsTargeted l w m i target
symbol_targeted law l w m i a target t p all of known f given still = by_stub (stub_of l i) refl
  where
    plain : stub_of l i ≡ None → (b : Bool) → symbol_is_ifunc l i ≡ b → raw_value l i ≡ Some a
    plain none b chosen = by_choice b chosen given
      where
        by_choice : (b : Bool) → symbol_is_ifunc l i ≡ b → address_of l (Some i) ≡ Ok a → raw_value l i ≡ Some a
        by_choice true chosen h = (let e : None ≡ Some a = sym none ∙ given_some missing.Stub i (stub_of l i) a (rw chosen at h) in cc)
        by_choice false chosen h = address_given l (Some i) a (rw chosen at h)

    here : IsAddressed l w m (Some i) a
    here = addressed law l w m (Some i) a p (λ j e. inl all) (λ j e. (let same : i ≡ j = cc in subst (Follows l) same f)) given

    by_stub : (o : Option ℕ) → stub_of l i ≡ o → IsTargeted l w m i target
    by_stub (Some stub) is = stub_targeted law l w m i stub target t p all of known is
    by_stub None none =
        let same = plain_target l i a target t p.symbols.final of known none (plain none (symbol_is_ifunc l i) refl) in
        let rests : (w.base ≡ 0) ⊎ (here.still ≡ false) = resting here.still refl in
        record { symbol = with_base here.still w.base a; denoted = address_denotes l w m i (with_base here.still w.base a) here.denoted; at = ap (λ (n : ℕ). (w.base + n) % 2 ^ 64) (sym same) ∙ moves_so here.still w.base a rests }
      where
        resting : (b : Bool) → here.still ≡ b → (w.base ≡ 0) ⊎ (here.still ≡ false)
        resting true e = inl (still (here.absolute i refl e))
        resting false e = inr e
