use Rattle.std.proofs.Common.{ℕ, List, sym, subst}
use Rattle.wild_types.specs.ResolvedFlags.{HaveTheirFlags}
use Rattle.wild_meaning.specs.LinkedImage.{IsSound}
use Rattle.wild_relinker.specs.Linked.{LinkedImage}
use Rattle.wild_relinker.proofs.laws.linked_images_are_sound.Goals as goal

pub returns-clause-sound : goal.returns-clause-sound
returns-clause-sound c =
    let k = c.linked.inside.image in
    let P : LinkedImage → Type 0 = λ v. HaveTheirFlags v.layout → IsSound v.layout v.out in
    subst P c.linked.view_is (λ flags. subst (λ (out : List ℕ). IsSound k.layout out) (sym c.linked.invariant.image.written.bytes) (c.images_are_sound.ensures k.layout c.numbers_fit.ensures flags c.linked.invariant.image.faultless))
