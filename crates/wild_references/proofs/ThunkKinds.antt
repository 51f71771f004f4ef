-- The distance of a thunk is what the expression of a branch gives.
use Rattle.wild_references.proofs.Common.{◌≡◌, ℕ, ◌+◌, ◌-◌, ◌%◌, ◌^◌, ◌<◌, ◌≤◌, ◌⊎◌, inl, inr, Bool, true, false, List, [], Option, Some, None, refl, sym, ap, ◌∙◌, arith, subst, ◌==◌, Ok, Contains, is_some, if◌then◌else◌, unwrap_or, slice_get, w64, cast_unsigned, cases_Bool, or_cases, eqb-true, slice_get_within, get_or_from_slice_get, Machine, InputRelocation, Resolution, Thunk, Layout, KeepsAll, Item, is_position_independent, canonical, place_of, is_listed, contains, expression_of, subtrahend_of, Value, Distance, StubDistance, Subtrahend, RelocationKind, RelocationKindInfo, resolution_of, stub_of, stub_address, address_of, term_of, subtract, is_undefined_weak_without_stub, adds_symbol, subtracts_place, weak_resolves_to_place, undefined_weak_target, term_by, Memory, World, Number, JumpsBy, IsReferent, IsReferentOnAArch64, Gives, IsPlaceRelative, TakesAddress, IsAbsolute, value_by_row, HasTerm, IsFollowed, EachThunkJumps, AllowsThunks, names_merged}
use Rattle.wild_types.specs.declared.fault.Missing.TheVariants as missing
use Rattle.wild_types.specs.declared.kind.Machine.TheVariants as machine
use Rattle.wild_reloc.specs.BarredTypes.{branches_aarch64}
use Rattle.wild_reloc.specs.declared.expression.Subtrahend.TheVariants as subtrahend
use Rattle.wild_reloc.specs.declared.info.RelocationKind.TheVariants as kinds
use Rattle.wild_layout.specs.Decide.{addend_bits}
use Rattle.wild_layout.specs.SymbolValues.{minus}
use Rattle.wild_layout.specs.Thunks.{thunk_target, uses_definition, thunk_for}
use Rattle.wild_layout.proofs.ThunkFieldLemmas.{thunk_found}
use Rattle.wild_types.specs.FileThunks.{thunk_size}
use Rattle.wild_meaning.specs.Jump.{GoesTo}
use Rattle.wild_references.specs.Thunks.{JumpsToTarget, ThunksGive}
use Rattle.wild_references.proofs.Referents.{sized_is, present, not_own, follows}
use Rattle.wild_references.proofs.StubCode.{StubLaws}
use Rattle.wild_references.proofs.ThunkTargets.{IsThunkOf, IsTargeted, stub_targeted, symbol_targeted}
use Rattle.wild_references.proofs.ValueKinds.{more, value_is, taken_is}
use Rattle.wild_references.proofs.WrittenFields.{given_some}
use Rattle.wild_layout.proofs.MergedLemmas.{term_plain}

-- ---- the thunk

-- its block
record IsOfBlock (l : Layout) (i : ℕ) (t : Thunk) : Type 0 where
  of : IsThunkOf l i t
  block : List Thunk
  listed : Contains l.thunk_blocks block
  holds : Contains block t

some_resolution : (o : Option Resolution) → is_some o ≡ true → (r : Resolution) × (o ≡ Some r)
some_resolution None h = cc
some_resolution (Some r) h = (r, refl)

by_definition : (l : Layout) (i : ℕ) → uses_definition l i ≡ true → (canonical l i ≡ i) ⊎ ((r : Resolution) × (resolution_of l i ≡ Some r))
by_definition l i h = elim (or_cases (canonical l i == i) (is_some (resolution_of l i)) h) [ inl e ↦ inl (eqb-true (canonical l i) i e) | inr s ↦ inr (some_resolution (resolution_of l i) s) ]

of_block : (l : Layout) (k i : ℕ) (t : Thunk) → thunk_for l k (Some i) ≡ Some t → IsOfBlock l i t
of_block l k i t h =
    let f = thunk_found l k (Some i) t h in
    let same : f.symbol ≡ i = (let e = f.named in cc) in
    in_block (by_definition l i (subst (λ (j : ℕ). uses_definition l j ≡ true) same f.definition)) (f.is ∙ ap (canonical l) same) (slice_get l.thunk_blocks k) refl f.listed
  where
    in_block : (canonical l i ≡ i) ⊎ ((r : Resolution) × (resolution_of l i ≡ Some r)) → t.symbol ≡ canonical l i → (o : Option (List Thunk)) → slice_get l.thunk_blocks k ≡ o → Contains (unwrap_or o []) t → IsOfBlock l i t
    in_block d own None is c = absurd (omega (arith, c.1))
    in_block d own (Some b) is c = record { of = record { symbol = own; same = d }; block = b; listed = (k, slice_get_within l.thunk_blocks k b is, get_or_from_slice_get l.thunk_blocks k b b is); holds = c }

-- ---- the row

-- what it takes, and its value
pub record IsBranchRow (info : RelocationKindInfo) (v : Value) : Type 0 where
  pub taken : subtrahend_of info.kind info.mask ≡ subtrahend.Place
  pub value : value_by_row info ≡ v

pub symbol_row : (info : RelocationKindInfo) → info.mask ≡ None → info.kind ≡ kinds.Relative → IsBranchRow info Distance
symbol_row info whole k = record {
  taken = taken_is info kinds.Relative None k whole;
  value = value_is info kinds.Relative None k whole ∙ sized_is info.size Distance refl;
}

pub stub_row : (info : RelocationKindInfo) → info.mask ≡ None → info.kind ≡ kinds.PltRelative → IsBranchRow info StubDistance
stub_row info whole k = record {
  taken = taken_is info kinds.PltRelative None k whole;
  value = value_is info kinds.PltRelative None k whole ∙ sized_is info.size StubDistance refl;
}

-- ---- a symbol that is not there

near : (p d c x : ℕ) → p < 2 ^ 64 → c ≡ 0 → (((p + d) % 2 ^ 64 + c) % 2 ^ 64 + (2 ^ 64 - p)) % 2 ^ 64 ≡ x → d < 2 ^ 64 → x ≡ d
near p d c x low none e small = omega (arith, low, none, e, small)

-- the next instruction is no far target
pub not_far : (l : Layout) (w : World) (m : Memory) (s : Item) (r : InputRelocation) (info : RelocationKindInfo) (x : ℕ) → (h : HasTerm l w m s r info x) → AllowsThunks info → subtrahend_of info.kind info.mask ≡ subtrahend.Place → cast_unsigned w64 r.addend ≡ 0 → undefined_weak_target r.number (place_of s.address r) ≡ h.term → contains info.range x ≡ false → ⊥
not_far l w m s r info x h c minus none term far = by_branch (is_listed r.number branches_aarch64) refl
  where
    p : ℕ
    p = place_of s.address r

    value : ((h.term + more r) % 2 ^ 64 + (2 ^ 64 - p)) % 2 ^ 64 ≡ x
    value = subst (λ (u : Subtrahend). subtract l u h.term r.addend p ≡ x) minus h.value

    at : (d : ℕ) → (p + d) % 2 ^ 64 ≡ h.term → d < 2 ^ 64 → contains info.range d ≡ true → ⊥
    at d e small there =
        let low : p < 2 ^ 64 = omega arith in
        let same = near p d (more r) x low none (subst (λ (n : ℕ). ((n + more r) % 2 ^ 64 + (2 ^ 64 - p)) % 2 ^ 64 ≡ x) (sym e) value) small in
        let both : true ≡ false = sym there ∙ subst (λ (n : ℕ). contains info.range n ≡ false) same far in
        cc

    by_branch : (b : Bool) → is_listed r.number branches_aarch64 ≡ b → ⊥
    by_branch true e = at 4 (subst (λ (b : Bool). (p + (if b then 4 else 0)) % 2 ^ 64 ≡ h.term) e term) (omega arith) c.next
    by_branch false e = at 0 (subst (λ (b : Bool). (p + (if b then 4 else 0)) % 2 ^ 64 ≡ h.term) e term) (omega arith) c.here

-- ---- the target

-- what a relocation with such a row goes to, where that is no place of its own
record IsThere (l : Layout) (w : World) (m : Memory) (i target : ℕ) : Type 0 where
  present : is_undefined_weak_without_stub l (Some i) ≡ false
  targeted : IsTargeted l w m i target

targeted_by : StubLaws → (l : Layout) (w : World) (m : Memory) (s : Item) (r : InputRelocation) (info : RelocationKindInfo) (x i target : ℕ) (t : Thunk) → KeepsAll l → (h : HasTerm l w m s r info x) → AllowsThunks info → IsFollowed l r (value_by_row info) → r.symbol ≡ Some i → IsThunkOf l i t → thunk_target l t ≡ Ok target → term_of l (Some i) info.kind ≡ Ok h.term → IsTargeted l w m i target
targeted_by law l w m s r info x i target t all h c f named of known given = by_kind c.kind
  where
    still : IsPlaceRelative (value_by_row info) → IsAbsolute l i → w.base ≡ 0
    still relative a = elim (cases_Bool (is_position_independent l.kind)) [
      | inl moves ↦ h.asked relative (h.placed.movable moves) i named a
      | inr fixed ↦ h.placed.still fixed
    ]

    by_kind : (info.kind ≡ kinds.Relative) ⊎ (info.kind ≡ kinds.PltRelative) → IsTargeted l w m i target
    by_kind (inl k) =
        let row = symbol_row info c.whole k in
        let address : address_of l (Some i) ≡ Ok h.term = subst (λ (k : RelocationKind). term_of l (Some i) k ≡ Ok h.term) k given in
        symbol_targeted law l w m i h.term target t h.placed all of known (follows l r (value_by_row info) (subst TakesAddress (sym row.value) tt) f i named) address (still (subst IsPlaceRelative (sym row.value) tt))
    by_kind (inr k) =
        let stub : stub_address l (Some i) ≡ Ok h.term = subst (λ (k : RelocationKind). term_of l (Some i) k ≡ Ok h.term) k given in
        stub_targeted law l w m i h.term target t h.placed all of known (given_some missing.Stub i (stub_of l i) h.term stub)

is_branch : (k : RelocationKind) → (k ≡ kinds.Relative) ⊎ (k ≡ kinds.PltRelative) → adds_symbol (expression_of k).term ≡ true
is_branch k (inl e) = ap (λ (k : RelocationKind). adds_symbol (expression_of k).term) e
is_branch k (inr e) = ap (λ (k : RelocationKind). adds_symbol (expression_of k).term) e

pub from_place : (info : RelocationKindInfo) → AllowsThunks info → subtrahend_of info.kind info.mask ≡ subtrahend.Place
from_place info c = by_kind c.kind
  where
    by_kind : (info.kind ≡ kinds.Relative) ⊎ (info.kind ≡ kinds.PltRelative) → subtrahend_of info.kind info.mask ≡ subtrahend.Place
    by_kind (inl k) = (symbol_row info c.whole k).taken
    by_kind (inr k) = (stub_row info c.whole k).taken

-- S or L of a branch that a thunk may carry is the symbol's
term_carried : (l : Layout) (r : InputRelocation) (info : RelocationKindInfo) → (info.kind ≡ kinds.Relative) ⊎ (info.kind ≡ kinds.PltRelative) → (info.kind ≡ kinds.Relative → names_merged l r.symbol ≡ false) → term_by l r (expression_of info.kind).term ≡ term_of l r.symbol info.kind
term_carried l r info (inl k) plain = term_plain l r (expression_of info.kind).term (plain k)
term_carried l r info (inr k) plain = subst (λ (j : RelocationKind). term_by l r (expression_of j).term ≡ term_of l r.symbol j) (sym k) refl

there : StubLaws → (l : Layout) (w : World) (m : Memory) (s : Item) (r : InputRelocation) (info : RelocationKindInfo) (x i target : ℕ) (t : Thunk) → l.machine ≡ machine.AArch64 → KeepsAll l → (h : HasTerm l w m s r info x) → AllowsThunks info → (info.kind ≡ kinds.Relative → names_merged l r.symbol ≡ false) → IsFollowed l r (value_by_row info) → contains info.range x ≡ false → cast_unsigned w64 r.addend ≡ 0 → r.symbol ≡ Some i → IsThunkOf l i t → thunk_target l t ≡ Ok target → IsThere l w m i target
there law l w m s r info x i target t on all h c plain f far none named of known = by_own (weak_resolves_to_place l.machine l r info) refl h.given
  where
    by_own : (b : Bool) → weak_resolves_to_place l.machine l r info ≡ b → (if b then Ok (undefined_weak_target r.number (place_of s.address r)) else term_by l r (expression_of info.kind).term) ≡ Ok h.term → IsThere l w m i target
    by_own true e g =
        let term : undefined_weak_target r.number (place_of s.address r) ≡ h.term = cc in
        absurd (not_far l w m s r info x h c (from_place info c) none term far)
    by_own false e g = record {
      present = subst (λ (o : Option ℕ). is_undefined_weak_without_stub l o ≡ false) named (not_own l.machine l r info e on (is_branch info.kind c.kind) (ap subtracts_place (from_place info c)));
      targeted = targeted_by law l w m s r info x i target t all h c f named of known (subst (λ (o : Option ℕ). term_of l o info.kind ≡ Ok h.term) named (sym (term_carried l r info c.kind plain) ∙ g));
    }

-- ---- the distance

added_none : (a c : ℕ) → c ≡ 0 → a < 2 ^ 64 → a ≡ (a + c) % 2 ^ 64
added_none a c none low = omega (arith, none, low)

landed : (b c s : ℕ) → c ≡ 0 → b ≡ s % 2 ^ 64 → b ≡ (s + c) % 2 ^ 64
landed b c s none e = omega (arith, none, e)

distance_moved : (base a p c : ℕ) → c ≡ 0 → base + p ≤ 2 ^ 64 → (a + (2 ^ 64 - p)) % 2 ^ 64 ≡ (base + a + c + (2 ^ 64 - (base + p))) % 2 ^ 64
distance_moved base a p c none ends = omega (arith, none, ends)

comes : (l : Layout) (w : World) (m : Memory) (r : InputRelocation) (t : Thunk) (symbol : ℕ) → (g : JumpsToTarget l w m t) → cast_unsigned w64 r.addend ≡ 0 → (w.base + g.target) % 2 ^ 64 ≡ symbol % 2 ^ 64 → GoesTo l m ((w.base + t.address + cast_unsigned w64 r.addend) % 2 ^ 64) ((symbol + cast_unsigned w64 r.addend) % 2 ^ 64)
comes l w m r t symbol g none at =
    let ends = g.ends in
    let low : w.base + t.address < 2 ^ 64 = omega (arith, ends) in
    let b = (w.base + g.target) % 2 ^ 64 in
    inr (subst (λ (v : ℕ). JumpsBy l m ((w.base + t.address + cast_unsigned w64 r.addend) % 2 ^ 64) thunk_size (Number v) v) (landed b (cast_unsigned w64 r.addend) symbol none at) (subst (λ (a : ℕ). JumpsBy l m a thunk_size (Number b) b) (added_none (w.base + t.address) (cast_unsigned w64 r.addend) none low) g.code))

referent_by : (l : Layout) (w : World) (m : Memory) (s : Item) (r : InputRelocation) (i : ℕ) (t : Thunk) → l.machine ≡ machine.AArch64 → r.symbol ≡ Some i → cast_unsigned w64 r.addend ≡ 0 → (g : JumpsToTarget l w m t) → IsThere l w m i g.target → IsReferent l.machine StubDistance l w m s r (w.base + t.address)
referent_by l w m s r i t on named none g h =
    subst (λ (k : Machine). IsReferent k StubDistance l w m s r (w.base + t.address)) (sym on)
    (inr (
      (λ u. u.0),
      subst (λ (o : Option ℕ). IsReferentOnAArch64 StubDistance l w m s r o (w.base + t.address)) (sym named)
          (inr (λ own. present l i h.present own.1, record { symbol = h.targeted.symbol; denoted = h.targeted.denoted; comes = comes l w m r t h.targeted.symbol g none h.targeted.at })),
    ))

pub thunks_give : StubLaws → ThunksGive
thunks_give law = λ info c l w m s r x t on all h goes plain f far found none. by_symbol info c l w m s r x t on all h goes plain f far none r.symbol refl found
  where
    by_symbol : (info : RelocationKindInfo) → AllowsThunks info → (l : Layout) (w : World) (m : Memory) (s : Item) (r : InputRelocation) (x : ℕ) (t : Thunk) → l.machine ≡ machine.AArch64 → KeepsAll l → HasTerm l w m s r info x → EachThunkJumps l w m → (info.kind ≡ kinds.Relative → names_merged l r.symbol ≡ false) → IsFollowed l r (value_by_row info) → contains info.range x ≡ false → addend_bits r ≡ 0 → (o : Option ℕ) → r.symbol ≡ o → thunk_for l s.thunk_block o ≡ Some t → Gives StubDistance l w m s r (minus t.address (place_of s.address r))
    by_symbol info c l w m s r x t on all h goes plain f far none None named found = cc
    by_symbol info c l w m s r x t on all h goes plain f far none (Some i) named found =
        let b = of_block l s.thunk_block i t found in
        let g = goes b.block t b.listed b.holds in
        let a = w.base + t.address in
        let at = ap (λ (p : ℕ). (a + more r + (2 ^ 64 - p)) % 2 ^ 64) (sym h.place) in
        (a, referent_by l w m s r i t on named none g (there law l w m s r info x i g.target t on all h c plain f far none named b.of g.known), distance_moved w.base t.address (place_of s.address r) (more r) none h.ends ∙ at)
