use Rattle.wild_program.proofs.Common.{sym, ◌∙◌, arith, bytes_eq, codes, bytes_eq-Decides}
use Rattle.std.proofs.lemmas.Bool.{not-false}
use Rattle.wild_program.proofs.TwoWords.{three_of, is_make}
use Rattle.wild_program.proofs.words.make_of.Goals as goal

pub returns-in-Some-2 : goal.returns-in-Some-2
returns-in-Some-2 c =
    let all = three_of c.args.words.now c.name-item.result c.groups-item.result c.workers-item.result (omega arith) (omega arith) c.name-item.is c.groups-item.is c.workers-item.is in
    let make = (bytes_eq-Decides c.as_str.result.now (codes "make")).0 (not-false (bytes_eq c.as_str.result.now (codes "make")) (sym c.ne.ensures ∙ c.if-ne.false)) in
    let n = rw c.in-Some.is at c.in_ok-groups-in-len3.ensures in
    let w = rw c.in-Some-2.is at c.in_ok-workers-in-len3.ensures in
    is_make c.args.words.now c.name-item.result c.groups-item.result c.workers-item.result c.in-Some.groups c.in-Some-2.workers all (sym c.as_str.ensures.value ∙ make)
    (sym c.as_str-in-len3.ensures.value ∙ n.0) (sym c.as_str-in-len3-2.ensures.value ∙ w.0) (n.1, n.2) (w.1, w.2)
