use Rattle.wild_image.proofs.Common.{◌∙◌, List, ℕ, ap, sym, subst, Piece, overlay_prefix, merged_bytes, front_piece, SomeLies}
use Rattle.wild_image.proofs.AppendLemmas.{cut_off}
use Rattle.wild_image.proofs.append.append_merged.Goals as goal

pub split_at-requires : goal.split_at-requires
split_at-requires c = (cut_off (merged_bytes c.args.merged.now) c.args.bytes.now _ (sym c.merged_size.ensures) c.requires.own).within

pub put_front-requires : goal.put_front-requires
put_front-requires c =
    let cut = cut_off (merged_bytes c.args.merged.now) c.args.bytes.now _ (sym c.merged_size.ensures) c.requires.own in
    subst (SomeLies c.args.layout.now c.args.merged.now.part) (sym (c.split_at.ensures.front ∙ cut.front)) c.requires.lies.front

pub returns-clause-image : goal.returns-clause-image
returns-clause-image c =
    let cut = cut_off (merged_bytes c.args.merged.now) c.args.bytes.now _ (sym c.merged_size.ensures) c.requires.own in
    c.put_front.ensures ∙ ap (λ (own : List ℕ). overlay_prefix (front_piece c.args.layout.now c.args.merged.now.part own) c.args.out.now) (c.split_at.ensures.front ∙ cut.front)

pub returns-clause-rest : goal.returns-clause-rest
returns-clause-rest c =
    let cut = cut_off (merged_bytes c.args.merged.now) c.args.bytes.now _ (sym c.merged_size.ensures) c.requires.own in
    λ rest e. c.split_at.ensures.back ∙ cut.back rest e
