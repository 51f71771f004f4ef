use Rattle.wild_image.proofs.Common.{◌∙◌, thunk_bytes}
use Rattle.wild_layout.proofs.ThunkLemmas.{length-thunk_bytes}
use Rattle.wild_image.proofs.AppendLemmas.{cut_off, thunk_appended}
use Rattle.wild_image.proofs.append.append_thunk.Goals as goal

pub split_at-requires : goal.split_at-requires
split_at-requires c =
    let l = c.args.layout.now in
    let t = c.args.thunk.now in
    (cut_off (thunk_bytes l t) c.args.bytes.now _ (length-thunk_bytes l t) c.requires.own).within

pub returns-clause-image : goal.returns-clause-image
returns-clause-image c =
    let l = c.args.layout.now in
    let t = c.args.thunk.now in
    let cut = cut_off (thunk_bytes l t) c.args.bytes.now _ (length-thunk_bytes l t) c.requires.own in
    thunk_appended l t c.offset_of-at.result _ c.args.out.now c.put_in_prefix.new.out (rw c.as_slice.ensures at c.offset_of-at.ensures) (c.split_at.ensures.front ∙ cut.front) c.put_in_prefix.ensures

pub returns-clause-rest : goal.returns-clause-rest
returns-clause-rest c =
    let l = c.args.layout.now in
    let t = c.args.thunk.now in
    let cut = cut_off (thunk_bytes l t) c.args.bytes.now _ (length-thunk_bytes l t) c.requires.own in
    λ rest e. c.split_at.ensures.back ∙ cut.back rest e
