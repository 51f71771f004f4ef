use Rattle.wild_image.proofs.Common.{◌∙◌, ◌++◌, [], List, ℕ, get_or, ap, sym, subst, merged_bytes, SomeLies, front_in}
use Rattle.wild_image.proofs.AppendLemmas.{cut_off}
use Rattle.wild_image.proofs.split_by_part.split_merged.Goals as goal

pub split_at-requires : goal.split_at-requires
split_at-requires c = (cut_off (merged_bytes c.args.merged.now) c.args.bytes.now _ (sym c.merged_size.ensures) c.requires.own).within

pub add_front-requires-clause-lies : goal.add_front-requires-clause-lies
add_front-requires-clause-lies c =
    let cut = cut_off (merged_bytes c.args.merged.now) c.args.bytes.now _ (sym c.merged_size.ensures) c.requires.own in
    subst (SomeLies c.args.layout.now c.args.merged.now.part) (sym (c.split_at.ensures.front ∙ cut.front)) c.requires.lies.front

pub returns-clause-owned : goal.returns-clause-owned
returns-clause-owned c =
    let cut = cut_off (merged_bytes c.args.merged.now) c.args.bytes.now _ (sym c.merged_size.ensures) c.requires.own in
    λ k low. c.in_ok-add_front.ensures k low ∙ ap (λ (own : List ℕ). get_or c.args.parts.now k [] ++ front_in c.args.layout.now k c.args.merged.now.part own) (c.split_at.ensures.front ∙ cut.front)

pub returns-clause-rest : goal.returns-clause-rest
returns-clause-rest c =
    let cut = cut_off (merged_bytes c.args.merged.now) c.args.bytes.now _ (sym c.merged_size.ensures) c.requires.own in
    λ rest e. c.split_at.ensures.back ∙ cut.back rest e
