use Rattle.std.proofs.Common.{rules, ◌≡◌, ◌+◌, suc, replicate, arith}
use Rattle.wild_crew.proofs.CloseLemmas.{opens}
use Rattle.wild_crew.proofs.gathering.make_table.Goals as goal

pub of_words-requires : goal.of_words-requires
of_words-requires c =
    let many : c.args.shape.now.sections + 1 ≡ suc c.args.shape.now.sections = omega arith in
    let words : c.as_slice.result.now ≡ replicate (c.args.shape.now.sections + 1) 0 = search rules in
    rw words (rw many (opens c.args.shape.now.workers c.args.shape.now.groups c.args.shape.now.sections (c.requires.1) (c.requires.0)))
