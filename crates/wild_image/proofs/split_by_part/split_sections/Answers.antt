use Rattle.wild_image.proofs.Common.{◌≡◌, ◌+◌, ◌++◌, ◌<◌, ◌≤◌, ◌∙◌, [], ℕ, length, ap, arith, get_or, List, ranged_owned, ranged_in, RangedLies}
use Rattle.wild_image.proofs.AppendLemmas.{next_begins, stands_more, lies_read, ranged_taken}
use Rattle.wild_image.proofs.OwnedLemmas.{owned_read}
use Rattle.wild_image.proofs.split_by_part.split_sections.Goals as goal

pub split_own-requires-clause-own : goal.split_own-requires-clause-own
split_own-requires-clause-own c =
    let l = c.args.layout.now in
    let f = c.args.file.now in
    let i = c.loop-section.section-index in
    let s = c.section-item.result in
    let h = rw c.as_slice-section-items.ensures at c.loop-section-test.true in
    let read = rw c.as_slice-section-items.ensures at c.section-item.is in
    let own = next_begins (ranged_owned l f) f.sections i s c.args.bytes.now c.loop-section.rest.now h read c.requires.own c.loop-section.invariant.1 in
    let taken = ranged_taken l f s c.owns_range.result c.loop-section.rest.now (lies_read (RangedLies l f) f.sections i s h read c.requires.lies) c.owns_range.ensures own in
    λ e. taken.within e

pub split_own-requires-clause-part : goal.split_own-requires-clause-part
split_own-requires-clause-part c =
    let l = c.args.layout.now in
    let f = c.args.file.now in
    let i = c.loop-section.section-index in
    let s = c.section-item.result in
    let h = rw c.as_slice-section-items.ensures at c.loop-section-test.true in
    let read = rw c.as_slice-section-items.ensures at c.section-item.is in
    let own = next_begins (ranged_owned l f) f.sections i s c.args.bytes.now c.loop-section.rest.now h read c.requires.own c.loop-section.invariant.1 in
    let taken = ranged_taken l f s c.owns_range.result c.loop-section.rest.now (lies_read (RangedLies l f) f.sections i s h read c.requires.lies) c.owns_range.ensures own in
    λ e. (let n = taken.there e in let z = c.requires.room in let k = c.loop-section.auto.parts in omega (arith, n, z, k))

pub loop-section-preserved : goal.loop-section-preserved
loop-section-preserved c =
    let l = c.args.layout.now in
    let f = c.args.file.now in
    let i = c.loop-section.section-index in
    let s = c.section-item.result in
    let h = rw c.as_slice-section-items.ensures at c.loop-section-test.true in
    let read = rw c.as_slice-section-items.ensures at c.section-item.is in
    let own = next_begins (ranged_owned l f) f.sections i s c.args.bytes.now c.loop-section.rest.now h read c.requires.own c.loop-section.invariant.1 in
    let taken = ranged_taken l f s c.owns_range.result c.loop-section.rest.now (lies_read (RangedLies l f) f.sections i s h read c.requires.lies) c.owns_range.ensures own in (
      owned_read (ranged_in l f) f.sections i s c.args.parts.now c.loop-section.parts c.split_own.new.parts h read c.split_own.auto.parts c.loop-section.invariant.0 (λ k low. c.in_ok-rest.ensures.owned k low ∙ ap (λ (bs : List ℕ). get_or c.loop-section.parts k [] ++ bs) (taken.part k)),
      stands_more (ranged_owned l f) f.sections i s c.args.bytes.now c.loop-section.rest.now _ h read c.loop-section.invariant.1 (λ rest e. c.in_ok-rest.ensures.rest ∙ taken.rest rest e),
    )
