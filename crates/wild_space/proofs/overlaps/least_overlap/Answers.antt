use Rattle.std.proofs.Common.{◌≡◌, ℕ, ◌<◌, ◌≤◌, List, length, arith, ap, ◌∙◌, get_or}
use Rattle.std.proofs.lemmas.List.{take_all}
use Rattle.wild_words.specs.declared.extents.Extent.{Extent}
use Rattle.wild_words.specs.Extents.{least_extent, total}
use Rattle.wild_space.specs.Counts.{has_number, count}
use Rattle.wild_space.specs.Overlaps.{extents_in, placed}
use Rattle.wild_space.proofs.CountLemmas.{count_more, found_is}
use Rattle.wild_space.proofs.overlaps.least_overlap.Goals as goal

pub loop-n-preserved : goal.loop-n-preserved
loop-n-preserved c = λ a.
    let xs = c.args.space.now.images.now in
    let order = c.args.space.now.order in
    let test = c.loop-n-test.true in
    let below : c.loop-n.n < length order = omega (arith, test) in
    let own : has_number c.in_ok-list.list.items a ≡ has_number (extents_in xs (get_or order c.loop-n.n 0)) a = ap (λ (q : List Extent). has_number q a) c.in_ok-list.ensures.is in
    let before = c.loop-n.invariant a in
    let more = count_more xs a c.loop-n.n order below in
    c.in_ok-add_list.ensures a ∙ omega (arith, own, before, more)

pub returns : goal.returns
returns c =
    let xs = c.args.space.now.images.now in
    let order = c.args.space.now.order in
    let test = c.loop-n-test.false in
    let many = c.len-n-end.ensures in
    let past : length order ≤ c.loop-n.n = omega (arith, test, many) in
    let same : (a : ℕ) → total a c.loop-n.all.items ≡ count a (placed xs order) = λ a. c.loop-n.invariant a ∙ ap (λ (q : List ℕ). count a (placed xs q)) (take_all c.loop-n.n order past) in
    c.least_shared.ensures.least ∙ ap least_extent c.as_mut_slice.ensures.value ∙ found_is c.loop-n.all.items (placed xs order) same
