-- What a field gets for a value: the value, or of a branch that it is too far for the distance to a thunk.
--   IsCarried l s r row w v   the branch goes by a thunk
--   ComesTo l s r row w v     v is written for the value w
--   IsReached l s r row w d   so d is decided
--   IsThunkFor l k o t        t is the thunk of the symbol's definition
use Rattle.std.proofs.Common.{◌≡◌, ℕ, suc, ◌⊎◌, Bool, true, false, ◌==◌, ◌&&◌, not, if◌then◌else◌, inl, inr, List, [], ◌∷◌, Some, refl, subst, arith}
use Rattle.std.specs.Prelude.{Contains, Option, None, Ok, Err}
use Rattle.std.proofs.lemmas.Bool.{cases_Bool, eqb-true}
use Rattle.wild_types.specs.declared.fault.Fault.TheVariants as faults
use Rattle.wild_types.specs.declared.input.InputRelocation.{InputRelocation}
use Rattle.wild_types.specs.declared.layout.Thunk.{Thunk}
use Rattle.wild_types.specs.declared.layout.Layout.{Layout}
use Rattle.wild_types.specs.FileThunks.{block_of}
use Rattle.wild_types.specs.Item.{Item}
use Rattle.wild_types.specs.Lookups.{place_of, canonical}
use Rattle.wild_reloc.specs.declared.info.RelocationKindInfo.{RelocationKindInfo}
use Rattle.wild_reloc.specs.Field.{allows}
use Rattle.wild_reloc.specs.Range.{contains}
use Rattle.wild_layout.specs.declared.decision.Decision.{Decision}
use Rattle.wild_layout.specs.declared.decision.Decision.TheVariants.{Field}
use Rattle.wild_layout.specs.SymbolValues.{minus}
use Rattle.wild_layout.specs.Thunks.{thunk_of, uses_definition, thunk_for}
use Rattle.wild_layout.specs.Decide.{field, addend_bits, field_by_thunk, field_or_thunk}

-- the value is out of the branch's range, and there is a thunk, to which it has nothing to add
pub record IsCarried (l : Layout) (s : Item) (r : InputRelocation) (row : RelocationKindInfo) (w v : ℕ) : Type 0 where
  pub thunkable : row.thunkable ≡ true
  pub far : contains row.range w ≡ false
  pub thunk : Thunk
  pub found : thunk_for l s.thunk_block r.symbol ≡ Some thunk
  pub alone : addend_bits r ≡ 0
  pub distance : minus thunk.address (place_of s.address r) ≡ v

abbrev pub ComesTo : Layout → Item → InputRelocation → RelocationKindInfo → ℕ → ℕ → Type 0
ComesTo l s r row w v = (w ≡ v) ⊎ IsCarried l s r row w v

-- a field of the row, which takes it
pub record IsReached (l : Layout) (s : Item) (r : InputRelocation) (row : RelocationKindInfo) (w : ℕ) (d : Decision) : Type 0 where
  pub value : ℕ
  pub comes : ComesTo l s r row w value
  pub allowed : allows row value ≡ true
  pub is : Field row.size value ≡ d

pub reached_by : (l : Layout) (s : Item) (r : InputRelocation) (row : RelocationKindInfo) (w : ℕ) (d : Decision) → field_or_thunk l s r row w ≡ Ok d → IsReached l s r row w d
unfolding field_or_thunk
reached_by l s r row w d h = by_test row.thunkable (contains row.range w) refl refl h
  where
    in_field : (v : ℕ) → ComesTo l s r row w v → field row v ≡ Ok d → IsReached l s r row w d
    in_field v comes e =
        elim (cases_Bool (allows row v)) [
          | inr f ↦ cc (rw f at e)
          | inl t ↦ (let same : Ok (Field row.size v) ≡ Ok d = rw t at e in let is : Field row.size v ≡ d = cc in record { value = v; comes = comes; allowed = t; is = is })
        ]

    near : (t : Thunk) (b c : Bool) → row.thunkable ≡ true → contains row.range w ≡ false → thunk_for l s.thunk_block r.symbol ≡ Some t → contains row.range (minus t.address (place_of s.address r)) ≡ b → (addend_bits r == 0) ≡ c
        → (if b then (if c then field row (minus t.address (place_of s.address r)) else Err (faults.ThunkAddend r.addend)) else Err (faults.ThunkOutOfRange (minus t.address (place_of s.address r)))) ≡ Ok d → IsReached l s r row w d
    near t false c thunkable far found b_is c_is e = cc
    near t true false thunkable far found b_is c_is e = cc
    near t true true thunkable far found b_is c_is e =
        in_field (minus t.address (place_of s.address r)) (inr (record { thunkable = thunkable; far = far; thunk = t; found = found; alone = eqb-true _ _ c_is; distance = refl })) e

    by_thunk : (o : Option Thunk) → row.thunkable ≡ true → contains row.range w ≡ false → thunk_for l s.thunk_block r.symbol ≡ o → field_by_thunk r row (place_of s.address r) w o ≡ Ok d → IsReached l s r row w d
    by_thunk None thunkable far found e = cc
    by_thunk (Some t) thunkable far found e = near t (contains row.range (minus t.address (place_of s.address r))) (addend_bits r == 0) thunkable far found refl refl e

    by_test : (b c : Bool) → row.thunkable ≡ b → contains row.range w ≡ c
        → (if b && not c then field_by_thunk r row (place_of s.address r) w (thunk_for l s.thunk_block r.symbol) else field row w) ≡ Ok d → IsReached l s r row w d
    by_test false c thunkable far e = in_field w (inl refl) e
    by_test true true thunkable far e = in_field w (inl refl) e
    by_test true false thunkable far e = by_thunk (thunk_for l s.thunk_block r.symbol) thunkable far refl e

-- where no thunk may carry it, it is the value
pub comes_alone : (l : Layout) (s : Item) (r : InputRelocation) (row : RelocationKindInfo) (w v : ℕ) → row.thunkable ≡ false → ComesTo l s r row w v → w ≡ v
comes_alone l s r row w v h (inl e) = e
comes_alone l s r row w v h (inr c) = let t = c.thunkable in cc

pub reached_alone : (l : Layout) (s : Item) (r : InputRelocation) (row : RelocationKindInfo) (v : ℕ) → row.thunkable ≡ false → field_or_thunk l s r row v ≡ field row v
unfolding field_or_thunk
reached_alone l s r row v h = rw h refl

-- ---- thunks that are found

pub record IsThunkFor (l : Layout) (block : ℕ) (o : Option ℕ) (t : Thunk) : Type 0 where
  pub symbol : ℕ
  pub named : o ≡ Some symbol
  pub definition : uses_definition l symbol ≡ true
  pub listed : Contains (block_of l block) t
  pub is : t.symbol ≡ canonical l symbol

-- a thunk that is found is one of these, of that symbol
pub thunk_of-found : (c : ℕ) (ts : List Thunk) (t : Thunk) → thunk_of c ts ≡ Some t → Contains ts t × (t.symbol ≡ c)
thunk_of-found c [] t h = cc
thunk_of-found c (u ∷ ts) t h =
    elim (cases_Bool (u.symbol == c)) [
      | inl e ↦ (let same : Some u ≡ Some t = rw e at h in let is : u ≡ t = cc in ((0, omega arith, is), subst (λ (x : Thunk). x.symbol ≡ c) is (eqb-true _ _ e)))
      | inr f ↦ (let rest = thunk_of-found c ts t (rw f at h) in let low = rest.0.1 in ((suc rest.0.0, omega (arith, low), rest.0.2), rest.1))
    ]

pub thunk_found : (l : Layout) (block : ℕ) (o : Option ℕ) (t : Thunk) → thunk_for l block o ≡ Some t → IsThunkFor l block o t
thunk_found l block None t h = cc
thunk_found l block (Some i) t h =
    elim (cases_Bool (uses_definition l i)) [
      | inr f ↦ cc (rw f at h)
      | inl g ↦ (let found = thunk_of-found (canonical l i) (block_of l block) t (rw g at h) in record { symbol = i; named = refl; definition = g; listed = found.0; is = found.1 })
    ]
