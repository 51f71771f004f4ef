use Rattle.wild_image.proofs.Common.{sym, ap, ◌∙◌, List, option_copied, slice_get, Group}
use Rattle.wild_image.proofs.PlainLemmas.{others_have_none}
use Rattle.wild_image.proofs.shares.first_has_all.Goals as goal

pub returns-in-Some : goal.returns-in-Some
returns-in-Some c = λ told.
    (let is = sym (ap (λ (gs : List Group). slice_get gs 0) c.as_slice.ensures) ∙ sym c.first.ensures.value ∙ ap option_copied c.in-Some.is in
    others_have_none c.args.layout.now c.in-Some.group.now c.requires is (c.has_all_parts.ensures told))
