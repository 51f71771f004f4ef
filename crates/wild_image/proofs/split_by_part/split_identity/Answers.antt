use Rattle.wild_image.proofs.Common.{◌∙◌, ◌++◌, [], List, ℕ, get_or, ap, sym, subst, SomeLies, front_in}
use Rattle.wild_image.proofs.AppendLemmas.{cut_off}
use Rattle.wild_image.proofs.split_by_part.split_identity.Goals as goal

pub split_at-requires : goal.split_at-requires
split_at-requires c = (cut_off c.args.layout.now.identity.bytes c.args.bytes.now _ (sym c.len.ensures) c.requires.own).within

pub add_front-requires-clause-lies : goal.add_front-requires-clause-lies
add_front-requires-clause-lies c =
    let cut = cut_off c.args.layout.now.identity.bytes c.args.bytes.now _ (sym c.len.ensures) c.requires.own in
    subst (SomeLies c.args.layout.now c.args.layout.now.identity.part) (sym (c.split_at.ensures.front ∙ cut.front)) c.requires.lies

pub returns-clause-owned : goal.returns-clause-owned
returns-clause-owned c =
    let cut = cut_off c.args.layout.now.identity.bytes c.args.bytes.now _ (sym c.len.ensures) c.requires.own in
    λ k low. c.in_ok-add_front.ensures k low ∙ ap (λ (own : List ℕ). get_or c.args.parts.now k [] ++ front_in c.args.layout.now k c.args.layout.now.identity.part own) (c.split_at.ensures.front ∙ cut.front)

pub returns-clause-rest : goal.returns-clause-rest
returns-clause-rest c =
    let cut = cut_off c.args.layout.now.identity.bytes c.args.bytes.now _ (sym c.len.ensures) c.requires.own in
    λ rest e. c.split_at.ensures.back ∙ cut.back rest e
