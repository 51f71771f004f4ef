use Rattle.std.proofs.Common.{sym}
use Rattle.std.specs.Prelude.{Ok, Err}
use Rattle.std.proofs.lemmas.List.Sorted.{searched}
use Rattle.wild_terms.proofs.ListLemmas.{any_at, any_none}
use Rattle.wild_terms.proofs.outline.contains.Goals as goal

pub returns-in-Ok : goal.returns-in-Ok
returns-in-Ok c =
    let s = searched c.args.numbers.now c.args.n (Ok c.in-Ok.field-0) c.in-Ok.ensures.position (λ i j l m. c.requires i j 0 l m) in
    sym (any_at c.args.numbers.now c.args.n c.in-Ok.field-0 s.0 s.1)

pub returns-in-Err : goal.returns-in-Err
returns-in-Err c =
    let s = searched c.args.numbers.now c.args.n (Err c.in-Err.field-0) c.in-Err.ensures.position (λ i j l m. c.requires i j 0 l m) in
    sym (any_none c.args.numbers.now c.args.n c.in-Err.field-0 s.1 s.2)
