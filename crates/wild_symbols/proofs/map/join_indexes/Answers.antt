use Rattle.std.proofs.Common.{◌<◌, arith, ap, ◌∙◌, length, get_or, None}
use Rattle.std.specs.Option.{option_or}
use Rattle.wild_symbols.proofs.NoteLemmas.{number_more}
use Rattle.wild_symbols.proofs.map.join_indexes.Goals as goal

pub loop-i-preserved : goal.loop-i-preserved
loop-i-preserved c =
    let i = c.loop-i.i in
    let own = c.args.own.now in
    let notes = c.args.notes.now in
    let low : i < length own = omega (arith, c.loop-i-test.true) in
    let noted : i < length notes = omega (arith, low, c.requires.own.count, c.requires.count) in
    number_more c.args.layout.now i c.loop-i.numbers.items c.push.new.self.items (get_or own i None) c.or.result (get_or notes i None) c.loop-i.invariant c.in_ok-push.ensures.items
    (c.requires.own.all i low) (c.requires.notes i noted) (c.or.ensures ∙ ap (option_or (get_or own i None)) c.flatten.ensures)
