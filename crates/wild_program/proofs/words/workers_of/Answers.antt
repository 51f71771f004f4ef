use Rattle.wild_program.proofs.Common.{sym, ◌∙◌, arith, bytes_eq, bytes_eq-Decides}
use Rattle.std.proofs.lemmas.Bool.{not-false}
use Rattle.wild_program.proofs.TwoWords.{two_of, has_workers, first_is_name, not_both}
use Rattle.wild_program.proofs.words.workers_of.Goals as goal

pub returns-then-ne : goal.returns-then-ne
returns-then-ne c = λ n h.
    let both = two_of c.args.words.now c.first-item.result c.workers-item.result (omega arith) (omega arith) c.first-item.is c.workers-item.is in
    let same = c.as_str.ensures.value ∙ first_is_name c.args.name.now c.args.words.now c.first-item.result c.workers-item.result n both h in
    not_both (bytes_eq c.as_str.result.now c.args.name.now) (sym c.ne.ensures ∙ c.if-ne.true) ((bytes_eq-Decides c.as_str.result.now c.args.name.now).1 same)

pub returns-in-Some : goal.returns-in-Some
returns-in-Some c =
    let both = two_of c.args.words.now c.first-item.result c.workers-item.result (omega arith) (omega arith) c.first-item.is c.workers-item.is in
    let same = (bytes_eq-Decides c.as_str.result.now c.args.name.now).0 (not-false (bytes_eq c.as_str.result.now c.args.name.now) (sym c.ne.ensures ∙ c.if-ne.false)) in
    let n = rw c.in-Some.is at c.in_ok-workers-in-len2.ensures in
    has_workers c.args.name.now c.args.words.now c.first-item.result c.workers-item.result c.in-Some.workers both (sym c.as_str.ensures.value ∙ same) (sym c.as_str-in-len2.ensures.value ∙ n.0) n.1 n.2
