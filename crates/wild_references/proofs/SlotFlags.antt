-- What is known of a symbol's flags, its slots and its stub.
use Rattle.wild_references.proofs.Common.{◌≡◌, ◌≢◌, ℕ, ◌^◌, ◌<◌, Bool, true, false, Option, Some, None, refl, arith, subst, sym, ◌&&◌, ◌||◌, not, is_some, slice_get, canonical_is, IsDefinedBy, canonical, holds_at, Resolution, Symbol, Layout, has_flag, interposable, absolute, dynamic, ifunc, HasItsFlags, got_of, plt_of, has_thread_slot, SymbolsFit}
use Rattle.wild_plan_rules.specs.SlotFlags.{dynamic_is_interposable, stub_has_slot, thread_slot_alone, resolver_is_own, resolver_moves}
use Rattle.wild_layout.specs.Numbers.{SymbolNumbers}

-- a definition of the layout
pub record SymbolFits (s : Symbol) : Type 0 where
  pub flags : HasItsFlags s
  pub number : (r : Resolution) → s.resolution ≡ Some r → r.raw_value < 2 ^ 64
  pub stub : stub_has_slot s ≡ true
  pub alone : thread_slot_alone s ≡ true
  pub moves : resolver_moves s ≡ true
  pub interposable : dynamic_is_interposable s ≡ true
  pub chosen : resolver_is_own s ≡ true
  pub index : (r : Resolution) (d : ℕ) → s.resolution ≡ Some r → r.dynamic_symbol_index ≡ Some d → d ≢ 0

-- the definition of a symbol is where the layout looks it up
pub listed_at : (l : Layout) (i c : ℕ) (s : Symbol) → IsDefinedBy l i c → slice_get l.symbols c ≡ Some s → slice_get l.symbols (canonical l i) ≡ Some s
listed_at l i c s d e = subst (λ (k : ℕ). slice_get l.symbols k ≡ Some s) (sym (canonical_is l i c d)) e

pub symbol_fits : (l : Layout) (i : ℕ) (s : Symbol) → SymbolsFit l → slice_get l.symbols (canonical l i) ≡ Some s → SymbolFits s
symbol_fits l i s fit listed =
    let t = fit.flags.defined i s listed in
    record {
      flags = holds_at HasItsFlags l.symbols (canonical l i) s listed fit.own;
      number = λ r e. (holds_at SymbolNumbers l.symbols (canonical l i) s listed fit.numbers r e).value;
      stub = t.stub;
      alone = t.alone;
      moves = t.moves;
      interposable = t.interposable;
      chosen = t.chosen;
      index = λ r d e told. (let n = (fit.dynsyms.indexed (canonical l i) d s r listed e told).1 in λ z. absurd (omega (arith, n, z)));
    }

-- ---- what the tests say

-- a stub has a slot
pub slot_of_stub : (s : Symbol) (p : ℕ) → stub_has_slot s ≡ true → plt_of s ≡ Some p → (at : ℕ) × (got_of s ≡ Some at)
slot_of_stub s p h e = some (got_of s) (rw e at h)
  where
    some : (o : Option ℕ) → is_some o ≡ true → (at : ℕ) × (o ≡ Some at)
    some None h = cc
    some (Some at) h = (at, refl)

-- nor is a symbol with a thread-local slot one that a resolver chooses
pub thread_not_chosen : (s : Symbol) → thread_slot_alone s ≡ true → has_thread_slot s.flags ≡ true → has_flag s.flags ifunc ≡ false
thread_not_chosen s h e = by_tests (has_flag s.flags ifunc) (is_some (plt_of s)) (rw e at h)
  where
    by_tests : (chosen stub : Bool) → (not true || (not chosen && not stub)) ≡ true → chosen ≡ false
    by_tests false stub h = refl
    by_tests true stub h = cc

-- a resolver's address moves
pub resolver_not_absolute : (s : Symbol) → resolver_moves s ≡ true → has_flag s.flags ifunc ≡ true → has_flag s.flags absolute ≡ false
resolver_not_absolute s h e = by_tests (has_flag s.flags absolute) (rw e at h)
  where
    by_tests : (b : Bool) → not b ≡ true → b ≡ false
    by_tests false h = refl
    by_tests true h = cc

-- another module's symbol may be replaced
pub dynamic_interposable : (s : Symbol) → dynamic_is_interposable s ≡ true → has_flag s.flags dynamic ≡ true → interposable s.flags ≡ true
dynamic_interposable s h e = by_tests (interposable s.flags) (rw e at h)
  where
    by_tests : (b : Bool) → (false || b) ≡ true → b ≡ true
    by_tests b h = h

-- a resolver is the output's own
pub resolver_own : (s : Symbol) → resolver_is_own s ≡ true → has_flag s.flags ifunc ≡ true → has_flag s.flags dynamic ≡ false
resolver_own s h e = by_tests (has_flag s.flags dynamic) (rw e at h)
  where
    by_tests : (b : Bool) → not b ≡ true → b ≡ false
    by_tests false h = refl
    by_tests true h = cc
