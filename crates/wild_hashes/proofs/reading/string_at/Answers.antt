use Rattle.std.proofs.Common.{sym}
use Rattle.std.proofs.lemmas.List.{take_rest}
use Rattle.wild_hashes.proofs.StringLemmas.{string_cut, string_ends}
use Rattle.wild_hashes.proofs.reading.string_at.Goals as goal

pub returns-in-Some : goal.returns-in-Some
returns-in-Some c =
    let e = take_rest c.args.strings.now c.args.at in
    let a = rw e at c.in-Some.ensures.first in
    rw e (string_ends c.args.strings.now c.args.at c.in-Some.end (sym a))

pub returns-in-None : goal.returns-in-None
returns-in-None c =
    let e = take_rest c.args.strings.now c.args.at in
    let a = rw e at c.in-None.ensures.first in
    string_cut c.args.strings.now c.args.at (sym a)
