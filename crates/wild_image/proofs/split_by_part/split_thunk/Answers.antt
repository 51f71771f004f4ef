use Rattle.wild_image.proofs.Common.{◌++◌, List, ℕ, get_or, ap, ◌∙◌, arith, slice_get_within, thunk_bytes}
use Rattle.wild_layout.proofs.ThunkLemmas.{length-thunk_bytes}
use Rattle.wild_image.proofs.AppendLemmas.{cut_off}
use Rattle.wild_image.proofs.OwnedLemmas.{part_taken}
use Rattle.wild_image.proofs.split_by_part.split_thunk.Goals as goal

pub split_at-requires : goal.split_at-requires
split_at-requires c =
    let l = c.args.layout.now in
    let t = c.args.thunk.now in
    (cut_off (thunk_bytes l t) c.args.bytes.now _ (length-thunk_bytes l t) c.requires.own).within

pub returns-clause-owned : goal.returns-clause-owned
returns-clause-owned c =
    let l = c.args.layout.now in
    let t = c.args.thunk.now in
    let cut = cut_off (thunk_bytes l t) c.args.bytes.now _ (length-thunk_bytes l t) c.requires.own in
    let d = c.index-parts-layout.result in
    let inside = slice_get_within l.parts l.primary_part c.requires.lies.stands.0 c.requires.lies.stands.1.listed in
    let room = c.requires.room in
    part_taken l.primary_part (thunk_bytes l t) c.args.parts.now d _ (omega (arith, inside, room)) (c.in_ok-extend.ensures ∙ ap (λ (ys : List ℕ). get_or c.args.parts.now l.primary_part d ++ ys) (c.split_at.ensures.front ∙ cut.front))

pub returns-clause-rest : goal.returns-clause-rest
returns-clause-rest c =
    let l = c.args.layout.now in
    let t = c.args.thunk.now in
    let cut = cut_off (thunk_bytes l t) c.args.bytes.now _ (length-thunk_bytes l t) c.requires.own in
    λ rest e. c.split_at.ensures.back ∙ cut.back rest e
