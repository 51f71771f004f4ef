-- In a layout without faults no IFUNC is absolute.
use Rattle.wild_worlds.proofs.Common.{◌≡◌, Bool, true, false, sym, ap, ◌∙◌, subst, ℕ, ◌||◌, not, slice_get, Some, Symbol, has_flag, absolute, ifunc, LayoutsAreLaidOut, one_symbol}
use Rattle.wild_meaning.proofs.SymbolLemmas.{canonical_is}
use Rattle.wild_plan_rules.specs.SlotFlags.{resolver_moves}
use Rattle.wild_layout.proofs.FaultLemmas.{laid_out}
use Rattle.wild_worlds.specs.References.{ResolversAreNotAbsolute}

never_both : (s : Symbol) → resolver_moves s ≡ true → has_flag s.flags ifunc ≡ true → has_flag s.flags absolute ≡ true → ⊥
never_both s h i a = by_flags (has_flag s.flags ifunc) (has_flag s.flags absolute) h i a
  where
    by_flags : (i a : Bool) → (not i || not a) ≡ true → i ≡ true → a ≡ true → ⊥
    by_flags true true h e f = cc
    by_flags true false h e f = cc
    by_flags false a h e f = cc

pub not_absolute : LayoutsAreLaidOut → ResolversAreNotAbsolute
not_absolute laws = λ l i none f a.
    let moves = ((laid_out laws l none).slot_flags.defined i f.symbol (subst (λ (k : ℕ). slice_get l.symbols k ≡ Some f.symbol) (sym (canonical_is l i f.definition f.defined)) f.listed)).moves in
    let same = one_symbol l i a.definition f.definition a.symbol f.symbol a.defined f.defined a.listed f.listed in
    never_both f.symbol moves f.flagged (sym (ap (λ (s : Symbol). has_flag s.flags absolute) same) ∙ a.flagged)
