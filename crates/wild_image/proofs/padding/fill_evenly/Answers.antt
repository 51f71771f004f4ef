use Rattle.wild_image.proofs.Common.{◌≡◌, ℕ, ◌-◌, length, take, drop, replicate, arith, rules, ap, ◌∙◌, length-take-le}
use Rattle.std.proofs.lemmas.List.{length-drop}
use Rattle.wild_image.proofs.PaddingLemmas.{range_filled}
use Rattle.wild_image.proofs.padding.fill_evenly.Goals as goal

pub returns-clause-filled : goal.returns-clause-filled
returns-clause-filled c = λ k low.
    let out = c.args.out.now in
    let at = c.args.at in
    let end = c.args.end in
    let rest = length-drop at out in
    let long = length-take-le (end - at) (drop at out) (omega (arith, rest, c.requires.room)) in
    let filled : c.fill.new.self ≡ replicate (length (take (end - at) (drop at out))) c.args.byte = search rules in
    range_filled at end c.args.byte out c.fill.new.self c.requires.room.0 c.requires.room.1 (filled ∙ ap (λ (n : ℕ). replicate n c.args.byte) long) k
