use Rattle.std.proofs.Common.{◌≡◌, take, length, arith, subst, List, ◌∙◌, ap}
use Rattle.std.specs.Prelude.{All}
use Rattle.std.proofs.lemmas.List.{take_all}
use Rattle.std.proofs.lemmas.List.Elements.{All-more}
use Rattle.wild_needs.specs.declared.dynamic.DynamicTag.{DynamicTag}
use Rattle.wild_needs.specs.Dynamic.{TagFits}
use Rattle.wild_needs.proofs.DynamicLemmas.{length_all_tags}
use Rattle.wild_needs.proofs.dynamic.tags_fit.Goals as goal

pub loop-tag-preserved : goal.loop-tag-preserved
loop-tag-preserved c =
    let P : DynamicTag → Type 0 = TagFits c.args.layout.now in
    let n : length c.all-tag-items.result ≡ 37 = ap length c.loop-tag.invariant.all ∙ length_all_tags in
    record {
      each = All-more P c.all-tag-items.result c.loop-tag.tag-index _ (omega (arith, n, c.loop-tag-test.true)) c.loop-tag.invariant.each c.entry_fits.ensures;
      all = c.loop-tag.invariant.all;
    }

pub returns : goal.returns
returns c =
    let n : length c.all-tag-items.result ≡ 37 = ap length c.loop-tag.invariant.all ∙ length_all_tags in
    let e : take c.loop-tag.tag-index c.all-tag-items.result ≡ c.all-tag-items.result = take_all _ _ (omega (arith, n, c.loop-tag-test.false)) in
    let P : List DynamicTag → Type 0 = λ xs. All (TagFits c.args.layout.now) xs in
    subst P (e ∙ c.loop-tag.invariant.all) c.loop-tag.invariant.each
