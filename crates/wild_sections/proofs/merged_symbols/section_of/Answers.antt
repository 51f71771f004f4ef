use Rattle.std.proofs.Common.{◌≡◌, ap, arith, length, sym}
use Rattle.std.proofs.lemmas.Bool.{ltb-false}
use Rattle.std.proofs.lemmas.Option.{slice_get_past}
use Rattle.wild_sections.proofs.DefiningFileLemmas.{merged_missing}
use Rattle.wild_sections.proofs.merged_symbols.section_of.Goals as goal

pub returns-in-None : goal.returns-in-None
returns-in-None c =
    let past = ltb-false _ _ (sym c.in-None.ensures.lookup.0) in
    let e : c.symbol.inside.0 ≡ c.args.symbol = c.symbol.view_is in
    let n = ap length c.as_slice.ensures in
    merged_missing c.args.layout.now c.args.symbol (slice_get_past c.args.layout.now.symbols c.args.symbol (omega (arith, past, e, n)))
