use Rattle.wild_names.proofs.Common.{◌≡◌, ◌<◌, ◌^◌, take, arith, subst, List, All, take_all, All-more, Symbol}
use Rattle.wild_names.proofs.numbers.symbols_fit.Goals as goal

-- one of them fits
abbrev Fits : Symbol → Type 0
Fits x = x.version < 2 ^ 16

pub loop-symbol-preserved : goal.loop-symbol-preserved
loop-symbol-preserved c = All-more Fits _ _ c.symbol-item.result c.loop-symbol-test.true c.loop-symbol.invariant (subst Fits c.symbol-item.is c.symbol_fits.ensures)

pub returns : goal.returns
returns c =
    let e : take c.loop-symbol.symbol-index c.args.symbols.now ≡ c.args.symbols.now = take_all _ _ (omega arith) in
    let P : List Symbol → Type 0 = λ xs. All Fits xs in
    subst P e c.loop-symbol.invariant
