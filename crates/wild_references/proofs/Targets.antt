-- What the writer takes for S stands for the symbol: its value, or its stub.
use Rattle.wild_references.proofs.Common.{◌≡◌, ℕ, ◌+◌, ◌%◌, ◌^◌, ◌⊎◌, inl, inr, Bool, true, false, Option, Some, None, refl, sym, ap, ◌∙◌, subst, Ok, cases_Bool, ValueFlags, Layout, KeepsAll, has_flag, absolute, ifunc, flags_at, raw_address, symbol_is_ifunc, address_of, stub_of, Memory, World, IsSymbolAddress, address_denotes, HasStubAddress, HasRaw, HasFlag, HasOwnValue, HasValue, IsAbsolute, IsReplaceable, with_base, HasStub, IsOneAddress, flag_is, IsPlaced}
use Rattle.wild_types.specs.declared.fault.Missing.TheVariants as missing
use Rattle.wild_meaning.specs.Denotes.{IsAddressStub, IsAddressOf}
use Rattle.wild_references.proofs.SlotFlags.{symbol_fits, resolver_not_absolute, listed_at}
use Rattle.wild_references.proofs.Symbols.{definition_listed, flags_are}
use Rattle.wild_references.proofs.StubAddresses.{raw_is, stub_given, one_stub, stubbed_or_not}
use Rattle.wild_references.proofs.SymbolStubs.{stub_there, stub_stands, stub_is}
use Rattle.wild_references.proofs.Values.{has_raw}
use Rattle.wild_references.proofs.WrittenFields.{address_given, given_some}
use Rattle.wild_references.proofs.StubCode.{StubLaws}

-- an address in the world: the layout's own, or that moved with the base
pub record IsAddressed (l : Layout) (w : World) (m : Memory) (symbol : Option ℕ) (a : ℕ) : Type 0 where
  pub still : Bool
  pub denoted : IsSymbolAddress l w m symbol (with_base still w.base a)
  pub flag : (i : ℕ) → symbol ≡ Some i → has_flag (flags_at l i) absolute ≡ still
  pub absolute : (i : ℕ) → symbol ≡ Some i → still ≡ true → IsAbsolute l i

-- whichever module has the symbol, this output's address is right for it: the symbol is its own, or the address is its stub's
abbrev pub Follows : Layout → ℕ → Type 0
Follows l i = IsReplaceable l i false ⊎ HasStubAddress l i

-- its stub is written, or the address is no stub's
abbrev pub StubIsWritten : Layout → ℕ → Type 0
StubIsWritten l i = KeepsAll l ⊎ (HasStubAddress l i → ⊥)

-- the own symbol's value
pub record IsOwnAddressed (l : Layout) (w : World) (i a : ℕ) : Type 0 where
  pub still : Bool
  pub value : HasOwnValue l w i (with_base still w.base a)
  pub flag : has_flag (flags_at l i) absolute ≡ still
  pub absolute : still ≡ true → IsAbsolute l i

-- the symbol's own address
pub raw_addressed : (l : Layout) (w : World) (m : Memory) (i a : ℕ) → IsPlaced l w m → symbol_is_ifunc l i ≡ false → raw_address l (Some i) ≡ Ok a → IsOwnAddressed l w i a
raw_addressed l w m i a p chosen h =
    let raw = has_raw l i a (address_given l (Some i) a h) in
    let d = definition_listed l i raw.definition p.symbols.named raw.defined in
    let still = has_flag d.0.flags absolute in
    let flags = flags_are l i raw.definition d.0 raw.defined d.1 in
    let direct : has_flag d.0.flags ifunc ≡ false = sym (ap (λ (f : ValueFlags). has_flag f ifunc) flags) ∙ chosen in
    record {
      still = still;
      value = record {
        raw = a;
        given = raw;
        indirect = false;
        resolved = record { definition = raw.definition; defined = raw.defined; symbol = d.0; listed = d.1; flagged = direct };
        still = still;
        absolute = record { definition = raw.definition; defined = raw.defined; symbol = d.0; listed = d.1; flagged = refl };
        is = refl;
      };
      flag = ap (λ (f : ValueFlags). has_flag f absolute) flags;
      absolute = λ t. record { definition = raw.definition; defined = raw.defined; symbol = d.0; listed = d.1; flagged = t };
    }

-- of an own symbol that is its value
own_addressed : (l : Layout) (w : World) (m : Memory) (i a : ℕ) → IsReplaceable l i false → IsOwnAddressed l w i a → IsAddressed l w m (Some i) a
own_addressed l w m i a own t = record {
  still = t.still;
  denoted = inl (inr (own, t.value));
  flag = λ j e. (let same : i ≡ j = cc in subst (λ (k : ℕ). has_flag (flags_at l k) absolute ≡ t.still) same t.flag);
  absolute = λ j e still. (let same : i ≡ j = cc in subst (λ (k : ℕ). IsAbsolute l k) same (t.absolute still));
}

-- the output uses it as the symbol's address
address_stub : (l : Layout) (i a : ℕ) → stub_of l i ≡ Some a → HasStubAddress l i → IsAddressStub l i a
address_stub l i a h st = subst (λ (p : ℕ). IsAddressStub l i p) (sym (one_stub l i a h st)) (record { stub = st.there; stands = st.stands; moves = st.moves })

-- the stub's, which moves with the base
stub_moves : StubLaws → (l : Layout) (w : World) (m : Memory) (i a : ℕ) → IsPlaced l w m → KeepsAll l → has_flag (flags_at l i) absolute ≡ false → stub_of l i ≡ Some a → HasStubAddress l i → IsAddressed l w m (Some i) a
stub_moves law l w m i a p all moves h st = record {
  still = false;
  denoted = inr (a, address_stub l i a h st, refl, stub_is l w m i a (stub_stands law l w m i a p all h));
  flag = λ j e. (let same : i ≡ j = cc in subst (λ (k : ℕ). has_flag (flags_at l k) absolute ≡ false) same moves);
  absolute = λ j e t. cc;
}

-- where a resolver chooses the function
chosen_moves : (l : Layout) (w : World) (m : Memory) (i a : ℕ) → IsPlaced l w m → symbol_is_ifunc l i ≡ true → stub_of l i ≡ Some a → HasStub l i a × (has_flag (flags_at l i) absolute ≡ false)
chosen_moves l w m i a p chosen h =
    let given = stub_there l i a h in
    let s = given.symbol in
    let flags = flags_are l i given.definition s given.defined given.listed in
    let fits = symbol_fits l i s p.symbols (listed_at l i given.definition s given.defined given.listed) in
    let moves : has_flag s.flags absolute ≡ false = resolver_not_absolute s fits.moves (sym (ap (λ (f : ValueFlags). has_flag f ifunc) flags) ∙ chosen) in
    (given, ap (λ (f : ValueFlags). has_flag f absolute) flags ∙ moves)

-- whose address is the stub's
pub chosen_stubbed : (l : Layout) (w : World) (m : Memory) (i a : ℕ) → IsPlaced l w m → symbol_is_ifunc l i ≡ true → stub_of l i ≡ Some a → HasStubAddress l i
chosen_stubbed l w m i a p chosen h =
    let c = chosen_moves l w m i a p chosen h in
    let g = c.0 in
    record {
      stub = a;
      there = g;
      stands = inl (record { definition = g.definition; defined = g.defined; symbol = g.symbol; listed = g.listed; flagged = sym (ap (λ (f : ValueFlags). has_flag f ifunc) (flags_are l i g.definition g.symbol g.defined g.listed)) ∙ chosen });
      moves = record { definition = g.definition; defined = g.defined; symbol = g.symbol; listed = g.listed; flagged = sym (ap (λ (f : ValueFlags). has_flag f absolute) (flags_are l i g.definition g.symbol g.defined g.listed)) ∙ c.1 };
    }

-- the address that was decided of a symbol whose stub stands for it
stubbed_address : (l : Layout) (i a : ℕ) → symbol_is_ifunc l i ≡ false → raw_address l (Some i) ≡ Ok a → HasStubAddress l i → stub_of l i ≡ Some a
stubbed_address l i a plain h st = by_case st.stands
  where
    by_case : HasFlag l i ifunc true ⊎ HasRaw l i st.stub → stub_of l i ≡ Some a
    by_case (inl chosen) = (let f = flag_is l i ifunc true chosen in let g : false ≡ true = sym plain ∙ f in cc)
    by_case (inr raw) =
        let t = st.there in
        let mine = raw_is l i a t.definition t.symbol t.resolution (has_raw l i a (address_given l (Some i) a h)) t.defined t.listed t.decided in
        let stubs = raw_is l i st.stub t.definition t.symbol t.resolution raw t.defined t.listed t.decided in
        stub_given l i st.stub t ∙ ap (λ (n : ℕ). Some n) (stubs ∙ sym mine)

followed_by : StubLaws → (l : Layout) (w : World) (m : Memory) (i a : ℕ) → IsPlaced l w m → StubIsWritten l i → Follows l i → address_of l (Some i) ≡ Ok a → IsAddressed l w m (Some i) a
followed_by law l w m i a p stands f h =
    elim (cases_Bool (symbol_is_ifunc l i)) [
      | inl t ↦ (let there = given_some missing.Stub i (stub_of l i) a (rw t at h) in by_stub stands (chosen_moves l w m i a p t there).1 there (chosen_stubbed l w m i a p t there))
      | inr n ↦ plain n f (rw n at h)
    ]
  where
    by_stub : StubIsWritten l i → has_flag (flags_at l i) absolute ≡ false → stub_of l i ≡ Some a → HasStubAddress l i → IsAddressed l w m (Some i) a
    by_stub (inl all) moves there st = stub_moves law l w m i a p all moves there st
    by_stub (inr none) moves there st = absurd (none st)

    plain : symbol_is_ifunc l i ≡ false → Follows l i → raw_address l (Some i) ≡ Ok a → IsAddressed l w m (Some i) a
    plain n (inl own) h = own_addressed l w m i a own (raw_addressed l w m i a p n h)
    plain n (inr st) h = by_stub stands (flag_is l i absolute false st.moves) (stubbed_address l i a n h st) st

-- it is the one address that stands for the symbol
pub one_addressed : (l : Layout) (w : World) (m : Memory) (i a : ℕ) (still : Bool) → IsPlaced l w m → Follows l i → address_of l (Some i) ≡ Ok a → has_flag (flags_at l i) absolute ≡ still → IsAddressOf l w m i (with_base still w.base a) → IsOneAddress l w m i (with_base still w.base a)
one_addressed l w m i a still p f h flag denoted = by_stub (stubbed_or_not l i)
  where
    given : HasStubAddress l i → stub_of l i ≡ Some a
    given st =
        elim (cases_Bool (symbol_is_ifunc l i)) [
          | inl t ↦ given_some missing.Stub i (stub_of l i) a (rw t at h)
          | inr n ↦ stubbed_address l i a n (rw n at h) st
        ]

    value : (HasStubAddress l i → ⊥) → Follows l i → HasValue l w i (with_base still w.base a)
    value none (inr st) = absurd (none st)
    value none (inl own) =
        elim (cases_Bool (symbol_is_ifunc l i)) [
          | inl t ↦ absurd (none (chosen_stubbed l w m i a p t (given_some missing.Stub i (stub_of l i) a (rw t at h))))
          | inr n ↦
              (let o = raw_addressed l w m i a p n (rw n at h) in
              let same : o.still ≡ still = sym o.flag ∙ flag in
              subst (λ (b : Bool). HasValue l w i (with_base b w.base a)) same (inr (own, o.value)))
        ]

    by_stub : HasStubAddress l i ⊎ (HasStubAddress l i → ⊥) → IsOneAddress l w m i (with_base still w.base a)
    by_stub (inl st) =
        let same = one_stub l i a (given st) st in
        let moves : still ≡ false = sym flag ∙ flag_is l i absolute false st.moves in
        let at : with_base still w.base a ≡ (w.base + a) % 2 ^ 64 = ap (λ (b : Bool). with_base b w.base a) moves in
        inl (st.stub, record { stub = st.there; stands = st.stands; moves = st.moves }, at ∙ ap (λ (n : ℕ). (w.base + n) % 2 ^ 64) same, address_denotes l w m i (with_base still w.base a) denoted)
    by_stub (inr none) = inr (λ q s. none (record { stub = q; there = s.stub; stands = s.stands; moves = s.moves }), value none f)

pub addressed : StubLaws → (l : Layout) (w : World) (m : Memory) (symbol : Option ℕ) (a : ℕ) → IsPlaced l w m → ((i : ℕ) → symbol ≡ Some i → StubIsWritten l i) → ((i : ℕ) → symbol ≡ Some i → Follows l i) → address_of l symbol ≡ Ok a → IsAddressed l w m symbol a
addressed law l w m None a p stands f h = record { still = true; denoted = address_given l None a h; flag = λ i e. cc; absolute = λ i e t. cc }
addressed law l w m (Some i) a p stands f h = followed_by law l w m i a p (stands i refl) (f i refl) h

-- of a symbol without such a stub it is the own symbol's
pub linked : (l : Layout) (w : World) (m : Memory) (i a : ℕ) → IsPlaced l w m → (HasStubAddress l i → ⊥) → address_of l (Some i) ≡ Ok a → IsOwnAddressed l w i a
linked l w m i a p alone h =
    elim (cases_Bool (symbol_is_ifunc l i)) [
      | inl t ↦ absurd (alone (chosen_stubbed l w m i a p t (given_some missing.Stub i (stub_of l i) a (rw t at h))))
      | inr n ↦ raw_addressed l w m i a p n (rw n at h)
    ]
