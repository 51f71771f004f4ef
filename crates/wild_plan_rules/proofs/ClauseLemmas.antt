-- What an answer of the clauses says of their tests.
use Rattle.std.proofs.Common.{◌≡◌, ℕ, Option, Some, None, Ok, refl, Bool, true, false, Result, Err, inl, inr}
use Rattle.std.specs.Prelude.{not, ◌&&◌, is_some, option_map}
use Rattle.std.proofs.lemmas.Bool.{and_parts, or_cases, not-true}
use Rattle.wild_types.specs.Lists.{unless}
use Rattle.wild_types.specs.declared.fault.Clause.{Clause}
use Rattle.wild_types.specs.declared.symbol.Symbol.{Symbol}
use Rattle.wild_types.specs.Flags.{has_flag, ifunc}
use Rattle.wild_types.specs.SymbolSlots.{plt_of, has_thread_slot}
use Rattle.wild_plan_rules.specs.ClauseTests.{fails, first_error}
use Rattle.wild_plan_rules.specs.SlotFlags.{thread_slot_alone}

-- a clause that holds fails nowhere
pub None-from_fails : (n : ℕ) (o : Option ℕ) → fails n o ≡ Ok tt → o ≡ None
None-from_fails n None h = refl
None-from_fails n (Some i) h = cc

pub None-from_map : {A B : Type 0} (f : A → B) (o : Option A) → option_map f o ≡ None → o ≡ None
None-from_map f None h = refl
None-from_map f (Some a) h = cc

pub test_holds : (b : Bool) → fails 2 (unless b) ≡ Ok tt → b ≡ true
test_holds true h = refl
test_holds false h = cc

-- of two that hold each holds
pub first_holds : (r s : Result (Unit {0}) Clause) → first_error r s ≡ Ok tt → r ≡ Ok tt
first_holds (Ok x) s h = refl
first_holds (Err c) s h = cc

pub rest_holds : (r s : Result (Unit {0}) Clause) → first_error r s ≡ Ok tt → s ≡ Ok tt
rest_holds (Ok x) s h = h
rest_holds (Err c) s h = cc

-- a symbol whose stub has a place has no slot for thread-local data
pub not_thread : (s : Symbol) (p : ℕ) → thread_slot_alone s ≡ true → plt_of s ≡ Some p → has_thread_slot s.flags ≡ false
not_thread s p h e =
    elim (or_cases (not (has_thread_slot s.flags)) (not (has_flag s.flags ifunc) && not (is_some (plt_of s))) h) [
      | inl a ↦ not-true (has_thread_slot s.flags) a
      | inr b ↦ (let n = (and_parts (not (has_flag s.flags ifunc)) (not (is_some (plt_of s))) b).1 in cc (rw e at n))
    ]
