-- Whether the output's address for a symbol is its stub's.
use Rattle.wild_references.proofs.Common.{◌≡◌, ℕ, ◌⊎◌, inl, inr, Bool, true, false, Option, Some, None, refl, sym, ap, ◌∙◌, subst, ◌==◌, option_and_then, cases_Bool, eqb-true, eq-eqb, Resolution, Symbol, ValueFlags, Layout, has_flag, absolute, ifunc, canonical, flags_at, resolution_of, stub_of, HasStubAddress, IsSymbol, IsDefinedBy, IsResolved, IsUnresolved, IsLocatedAt, HasRaw, HasFlag, HasStub, canonical_is, flag_is}
use Rattle.wild_references.proofs.Symbols.{IsResolvedBy, resolved, resolved_raw, resolved_flag, flags_are}

-- ---- what is one of its kind

same_symbol : (l : Layout) (c : ℕ) (s t : Symbol) → IsSymbol l c s → IsSymbol l c t → s ≡ t
same_symbol l c s t a b = let e : Some s ≡ Some t = sym a ∙ b in cc

-- the address of a symbol of whose definition something was decided
pub raw_is : (l : Layout) (i a c : ℕ) (s : Symbol) (r : Resolution) → HasRaw l i a → IsDefinedBy l i c → IsSymbol l c s → s.resolution ≡ Some r → a ≡ r.raw_value
raw_is l i a c s r h d listed decided =
    let same : h.definition ≡ c = sym (canonical_is l i h.definition h.defined) ∙ canonical_is l i c d in
    by_case (subst (λ (k : ℕ). IsResolved l k a ⊎ (IsUnresolved l k × IsLocatedAt l i a)) same h.given)
  where
    by_case : IsResolved l c a ⊎ (IsUnresolved l c × IsLocatedAt l i a) → a ≡ r.raw_value
    by_case (inl by) =
        let one = same_symbol l c by.symbol s by.listed listed in
        let e : Some by.resolution ≡ Some r = sym by.decided ∙ (ap (λ (x : Symbol). x.resolution) one ∙ decided) in
        let two : by.resolution ≡ r = cc in
        by.value ∙ ap (λ (x : Resolution). x.raw_value) two
    by_case (inr un) = (let e : None ≡ Some r = sym (un.0 s listed) ∙ decided in cc)

-- so is its stub
pub stub_known : (l : Layout) (i p : ℕ) → (h : HasStub l i p) → resolution_of l i ≡ Some h.resolution
stub_known l i p h = let e = canonical_is l i h.definition h.defined in rw (e, h.listed, h.decided) refl

pub stub_given : (l : Layout) (i p : ℕ) → HasStub l i p → stub_of l i ≡ Some p
stub_given l i p h = ap (λ (o : Option Resolution). option_and_then (λ (r : Resolution). r.plt_address) o) (stub_known l i p h) ∙ h.stub

-- ---- the test

no_resolution : (l : Layout) (i : ℕ) → resolution_of l i ≡ None → HasStubAddress l i → ⊥
no_resolution l i none h = let e : None ≡ Some h.there.resolution = sym none ∙ stub_known l i h.stub h.there in cc

no_stub : (l : Layout) (i : ℕ) → stub_of l i ≡ None → HasStubAddress l i → ⊥
no_stub l i none h = let e : None ≡ Some h.stub = sym none ∙ stub_given l i h.stub h.there in cc

pub one_stub : (l : Layout) (i p : ℕ) → stub_of l i ≡ Some p → (h : HasStubAddress l i) → p ≡ h.stub
one_stub l i p e h = let f : Some p ≡ Some h.stub = sym e ∙ stub_given l i h.stub h.there in cc

has_stub : (l : Layout) (i p : ℕ) (r : Resolution) → IsResolvedBy l i r → r.plt_address ≡ Some p → HasStub l i p
has_stub l i p r d e = record { definition = canonical l i; defined = d.defined; symbol = d.symbol; listed = d.listed; resolution = r; decided = d.decided; stub = e }

resolved_flags : (l : Layout) (i : ℕ) (r : Resolution) → (d : IsResolvedBy l i r) → flags_at l i ≡ d.symbol.flags
resolved_flags l i r d = flags_are l i (canonical l i) d.symbol d.defined d.listed

flag_by : (l : Layout) (i flag : ℕ) (r : Resolution) (b : Bool) → IsResolvedBy l i r → has_flag (flags_at l i) flag ≡ b → HasFlag l i flag b
flag_by l i flag r b d e = subst (λ (x : Bool). HasFlag l i flag x) (sym (ap (λ (f : ValueFlags). has_flag f flag) (resolved_flags l i r d)) ∙ e) (resolved_flag l i flag r d)

-- of a symbol with a stub: it does not move, a resolver chooses it, it is the stub's, or none of these
by_stub : (l : Layout) (i p : ℕ) (r : Resolution) → IsResolvedBy l i r → r.plt_address ≡ Some p → resolution_of l i ≡ Some r → HasStubAddress l i ⊎ (HasStubAddress l i → ⊥)
by_stub l i p r d e known =
    elim (cases_Bool (has_flag (flags_at l i) absolute)) [
      | inl still ↦ inr (λ h. (let f = flag_is l i absolute false h.moves in let g : true ≡ false = sym still ∙ f in cc))
      | inr moves ↦ elim (cases_Bool (has_flag (flags_at l i) ifunc)) [
        | inl chosen ↦ inl (record { stub = p; there = has_stub l i p r d e; stands = inl (flag_by l i ifunc r true d chosen); moves = flag_by l i absolute r false d moves })
        | inr plain ↦ elim (cases_Bool (r.raw_value == p)) [
          | inl same ↦ inl (record { stub = p; there = has_stub l i p r d e; stands = inr (subst (λ (a : ℕ). HasRaw l i a) (eqb-true r.raw_value p same) (resolved_raw l i r d)); moves = flag_by l i absolute r false d moves })
          | inr other ↦ inr (λ h. not_stubbed other plain h h.stands)
        ]
      ]
    ]
  where
    not_stubbed : (r.raw_value == p) ≡ false → has_flag (flags_at l i) ifunc ≡ false → (h : HasStubAddress l i) → HasFlag l i ifunc true ⊎ HasRaw l i h.stub → ⊥
    not_stubbed other plain h (inl chosen) = (let f = flag_is l i ifunc true chosen in let g : false ≡ true = sym plain ∙ f in cc)
    not_stubbed other plain h (inr raw) =
        let there : stub_of l i ≡ Some p = ap (λ (o : Option Resolution). option_and_then (λ (r : Resolution). r.plt_address) o) known ∙ e in
        let one = one_stub l i p there h in
        let is : h.stub ≡ r.raw_value = raw_is l i h.stub (canonical l i) d.symbol r raw d.defined d.listed d.decided in
        let same : r.raw_value ≡ p = sym (one ∙ is) in
        let t : (r.raw_value == p) ≡ true = eq-eqb r.raw_value p same in
        let g : true ≡ false = sym t ∙ other in
        cc

pub stubbed_or_not : (l : Layout) (i : ℕ) → HasStubAddress l i ⊎ (HasStubAddress l i → ⊥)
stubbed_or_not l i = by_resolution (resolution_of l i) refl
  where
    by_address : (r : Resolution) (o : Option ℕ) → resolution_of l i ≡ Some r → r.plt_address ≡ o → HasStubAddress l i ⊎ (HasStubAddress l i → ⊥)
    by_address r None known e = inr (no_stub l i (ap (λ (o : Option Resolution). option_and_then (λ (r : Resolution). r.plt_address) o) known ∙ e))
    by_address r (Some p) known e = by_stub l i p r (resolved l i r known) e known

    by_resolution : (o : Option Resolution) → resolution_of l i ≡ o → HasStubAddress l i ⊎ (HasStubAddress l i → ⊥)
    by_resolution None e = inr (no_resolution l i e)
    by_resolution (Some r) e = by_address r r.plt_address e refl
