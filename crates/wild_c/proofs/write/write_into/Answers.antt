use Rattle.std.proofs.Common.{rules, ◌≡◌, ℕ, List, sym, subst}
use Rattle.wild_layout.specs.Image.{bytes}
use Rattle.wild_meaning.specs.LinkedImage.{IsSound}
use Rattle.wild_c.proofs.write.write_into.Goals as goal

pub returns-clause-headline : goal.returns-clause-headline
returns-clause-headline c =
    let written : c.copy_from_slice.new.self ≡ bytes c.args.layout.now = search rules in
    λ is flags. subst (λ (image : List ℕ). IsSound c.args.layout.now image) (sym written)
    (c.images_are_sound.ensures c.args.layout.now c.numbers_fit.ensures flags c.in-Ok.ensures.made.faultless)
