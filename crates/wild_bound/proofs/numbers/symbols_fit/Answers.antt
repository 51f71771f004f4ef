use Rattle.wild_bound.proofs.Common.{◌≡◌, take, arith, subst, List, All, SymbolNumbers, Symbol}
use Rattle.std.proofs.lemmas.List.{take_all}
use Rattle.std.proofs.lemmas.List.Elements.{All-more}
use Rattle.wild_bound.proofs.numbers.symbols_fit.Goals as goal

abbrev Fits : Symbol → Type 0
Fits x = SymbolNumbers x

pub loop-symbol-preserved : goal.loop-symbol-preserved
loop-symbol-preserved c = All-more Fits _ _ c.symbol-item.result c.loop-symbol-test.true c.loop-symbol.invariant (subst Fits c.symbol-item.is c.symbol_fits.ensures)

pub returns : goal.returns
returns c =
    let e : take c.loop-symbol.symbol-index c.args.symbols.now ≡ c.args.symbols.now = take_all _ _ (omega arith) in
    let P : List Symbol → Type 0 = λ xs. All Fits xs in
    subst P e c.loop-symbol.invariant
