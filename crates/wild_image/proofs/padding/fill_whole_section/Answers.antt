use Rattle.wild_image.proofs.Common.{◌≡◌, ℕ, List, true, rules, ap, slice_index, fills_file}
use Rattle.wild_image.proofs.PaddingLemmas.{section_covered}
use Rattle.wild_image.proofs.padding.fill_whole_section.Goals as goal

pub returns-clause-filled : goal.returns-clause-filled
returns-clause-filled c =
    let l = c.args.layout.now in
    let s = c.args.section.now in
    let has : fills_file l s ≡ true = search rules in
    section_covered l s _ _ _ c.args.out.now c.fill_evenly.new.out has c.range_within-at.ensures.0 c.range_within-at.ensures.1 (ap (λ (xs : List ℕ). slice_index xs 0) c.filling_of-bytes.ensures) c.fill_evenly.ensures.filled
