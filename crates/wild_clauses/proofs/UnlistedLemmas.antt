-- Where no symbol carries an index of the dynamic symbol table and none is listed, none is out of its position.
use Rattle.std.proofs.Common.{◌≡◌, ℕ, ◌+◌, Bool, true, List, [], ◌∷◌, length, Ok, None, refl}
use Rattle.std.specs.Prelude.{Option, Some, not, is_some}
use Rattle.std.specs.List.{list_all}
use Rattle.std.proofs.lemmas.Bool.{and_parts}
use Rattle.wild_types.specs.declared.symbol.Symbol.{Symbol}
use Rattle.wild_types.specs.declared.layout.DynamicSymbol.{DynamicSymbol}
use Rattle.wild_types.specs.declared.layout.Layout.{Layout}
use Rattle.wild_needs.specs.DynamicSymbols.{dynamic_symbols, dynsym_of, position_fits, misplaced, first_misplaced_listed, first_listed}
use Rattle.wild_clauses.specs.Positions.{is_unlisted}
use Rattle.wild_plan_rules.specs.ClauseTests.{check_dynsyms}

fits_without : (table : List ℕ) (i : ℕ) (p : Option ℕ) → not (is_some p) ≡ true → position_fits table i p ≡ true
fits_without table i None h = refl
fits_without table i (Some p) h = cc

none_misplaced : (table : List ℕ) (i : ℕ) (ss : List Symbol) → list_all is_unlisted ss ≡ true → misplaced table i ss ≡ None
none_misplaced table i [] h = refl
none_misplaced table i (s ∷ ss) h =
    let both = and_parts (is_unlisted s) (list_all is_unlisted ss) h in
    rw (fits_without table i (dynsym_of s) both.0) (none_misplaced table (i + 1) ss both.1)

none_listed : (l : Layout) (p i : ℕ) (ds : List DynamicSymbol) → length ds ≡ 0 → first_misplaced_listed l p i ds ≡ None
none_listed l p i [] h = refl
none_listed l p i (d ∷ ds) h = cc

pub unlisted_fit : (l : Layout) → length l.dynsyms ≡ 0 → list_all is_unlisted l.symbols ≡ true → check_dynsyms l ≡ Ok tt
unfolding check_dynsyms
unlisted_fit l none h = rw (none_misplaced (dynamic_symbols l) 0 l.symbols h, none_listed l (first_listed l) 0 l.dynsyms none) refl
