-- What is decided of a relocation, and its faults, where it is read.
use Rattle.std.proofs.Common.{◌≡◌, ℕ, suc, ◌+◌, ◌<◌, Bool, List, [], false, length, get_or, refl, sym, ap, ◌∙◌, arith}
use Rattle.std.specs.Prelude.{Option, Some, None, Result, Ok, Err, slice_get}
use Rattle.std.proofs.lemmas.Option.{slice_get_read}
use Rattle.wild_records.specs.Abi.Relocation.{r_x86_64_pc32}
use Rattle.wild_types.specs.declared.input.InputRelocation.{InputRelocation}
use Rattle.wild_types.specs.Item.{Item}
use Rattle.wild_types.specs.declared.layout.Layout.{Layout}
use Rattle.wild_types.specs.declared.fault.Fault.{Fault}
use Rattle.wild_types.specs.Faults.{Refuses}
use Rattle.wild_relax.specs.declared.reference.UnknownSequence.{UnknownSequence}
use Rattle.wild_relax.specs.declared.row.Row.{Row}
use Rattle.wild_layout.specs.declared.decision.Decision.{Decision}
use Rattle.wild_layout.specs.Choice.{choice, is_partner, may_take_next, takes_along, may_be_partner}
use Rattle.wild_layout.specs.Decide.{decided, decide_with, decide}
use Rattle.wild_layout.specs.Faults.{at_offset, refusal_at, relocation_errors}
use Rattle.wild_layout.proofs.QuestionLemmas.{none_before, no_choice}
use Rattle.wild_sections.proofs.FaultLemmas.{Refuses-head}

-- a distance that no sequence takes along keeps its instruction
pub common_keeps : (l : Layout) (s : Item) (i : ℕ) (r : InputRelocation) → slice_get s.relocations i ≡ Some r → r.number ≡ r_x86_64_pc32 → may_be_partner s.relocations i ≡ false → decide l s i ≡ decided l s r
unfolding decide
common_keeps l s i r listed number before =
    let alone = none_before l s i before in
    let none = no_choice l s i r listed number in
    rw (alone, listed, none) refl

-- the next one may be taken along where this one's type has rows for that
pub partner_next : (rs : List InputRelocation) (i : ℕ) (r : InputRelocation) (told : Bool) → slice_get rs i ≡ Some r → told ≡ may_take_next r.number → told ≡ may_be_partner rs (i + 1)
partner_next rs i r told listed is =
    let e : suc i ≡ i + 1 = omega arith in
    is ∙ sym (ap takes_along listed) ∙ ap (may_be_partner rs) e

-- ---- the relocation that is asked about

pub read_at : {X : Type 0} (xs : List X) (i : ℕ) (x : X) → i < length xs → x ≡ get_or xs i x → slice_get xs i ≡ Some x
read_at xs i x h read = slice_get_read xs (length xs) i x refl h read

pub no_symbol : (o : Option ℕ) → ((n : ℕ) → o ≡ Some n → ⊥) → o ≡ None
no_symbol None h = refl
no_symbol (Some n) h = absurd (h n refl)

-- ---- what is decided

-- by the row that stands
pub decided_with : (l : Layout) (s : Item) (i : ℕ) (r : InputRelocation) (c : Result (Option Row) UnknownSequence) → is_partner l s i ≡ false → slice_get s.relocations i ≡ Some r → choice l s i ≡ c → decide l s i ≡ decide_with l s r c
unfolding decide
decided_with l s i r c alone listed is = rw (alone, listed) (ap (decide_with l s r) (rw listed at is))

-- ---- faults

pub ok_has_none : (l : Layout) (g f k : ℕ) (s : Item) (os : List InputRelocation) (i : ℕ) (d : Decision) → decide l s i ≡ Ok d → relocation_errors l g f k s os i ≡ []
unfolding relocation_errors
ok_has_none l g f k s os i d is = rw is (by g f k d (slice_get os i))
  where
    by : (g f k : ℕ) (d : Decision) (o : Option InputRelocation) → refusal_at g f k (Ok d) o ≡ []
    by g f k d None = refl
    by g f k d (Some r) = refl

pub err_is_first : (l : Layout) (g f k : ℕ) (s : Item) (os : List InputRelocation) (i : ℕ) (r : InputRelocation) (fault : Fault) → slice_get os i ≡ Some r → decide l s i ≡ Err fault → Refuses (record { fault = fault; at = at_offset g f k r.offset }) (relocation_errors l g f k s os i)
unfolding relocation_errors
err_is_first l g f k s os i r fault listed is = rw (listed, is) (Refuses-head (record { fault = fault; at = at_offset g f k r.offset }) [])
