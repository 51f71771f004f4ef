use Rattle.wild_program.proofs.Common.{ap, ◌∙◌, arith, bytes_eq}
use Rattle.wild_program.proofs.TwoWords.{one_of, is_word}
use Rattle.wild_program.proofs.words.is_word.Goals as goal

pub returns-in-len1 : goal.returns-in-len1
returns-in-len1 c =
    let one = one_of c.args.words.now c.word-item.result (omega arith) (omega arith) c.word-item.is in
    is_word c.args.name.now c.args.words.now c.word-item.result c.eq.result one (c.eq.ensures ∙ ap (λ bs. bytes_eq bs c.args.name.now) c.as_str.ensures.value)
