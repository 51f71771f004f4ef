use Rattle.std.proofs.Common.{◌≡◌, rules, refl}
use Rattle.std.specs.Prelude.{None, slice_get}
use Rattle.std.proofs.lemmas.Option.{slice_get_past}
use Rattle.wild_needs.specs.TableSymbols.{thunk_item}
use Rattle.wild_words.proofs.RunLemmas.{ran_none}
use Rattle.wild_needs.proofs.walk.give_thunk.Goals as goal

pub returns-in-None : goal.returns-in-None
returns-in-None g c =
    let e : slice_get c.args.layout.now.symbols c.args.thunk.symbol ≡ None = search (rules, slice_get_past) in
    ran_none (thunk_item c.args.layout.now c.args.thunk) (rw e refl)
