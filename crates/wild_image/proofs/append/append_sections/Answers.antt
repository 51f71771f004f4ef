use Rattle.wild_image.proofs.Common.{◌+◌, ◌≤◌, ◌∙◌, length, arith, subst, ℕ, List, ranged_piece, ranged_owned, RangedLies, HasRest}
use Rattle.wild_image.proofs.PrefixLemmas.{overlay_prefix_read}
use Rattle.wild_image.proofs.AppendLemmas.{next_begins, stands_more, lies_read, ranged_taken}
use Rattle.wild_image.proofs.append.append_sections.Goals as goal

pub append_own-rest-requires-clause-own : goal.append_own-rest-requires-clause-own
append_own-rest-requires-clause-own c =
    let l = c.args.layout.now in
    let f = c.args.file.now in
    let i = c.loop-section.section-index in
    let s = c.section-item.result in
    let h = rw c.as_slice-section-items.ensures at c.loop-section-test.true in
    let read = rw c.as_slice-section-items.ensures at c.section-item.is in
    let own = next_begins (ranged_owned l f) f.sections i s c.args.bytes.now c.loop-section.rest.now h read c.requires.own c.loop-section.invariant.1 in
    let taken = ranged_taken l f s c.owns_range.result c.loop-section.rest.now (lies_read (RangedLies l f) f.sections i s h read c.requires.lies) c.owns_range.ensures own in
    λ e. taken.within e

pub append_own-rest-requires-clause-offset : goal.append_own-rest-requires-clause-offset
append_own-rest-requires-clause-offset c =
    let l = c.args.layout.now in
    let f = c.args.file.now in
    let i = c.loop-section.section-index in
    let s = c.section-item.result in
    let h = rw c.as_slice-section-items.ensures at c.loop-section-test.true in
    let read = rw c.as_slice-section-items.ensures at c.section-item.is in
    let own = next_begins (ranged_owned l f) f.sections i s c.args.bytes.now c.loop-section.rest.now h read c.requires.own c.loop-section.invariant.1 in
    let taken = ranged_taken l f s c.owns_range.result c.loop-section.rest.now (lies_read (RangedLies l f) f.sections i s h read c.requires.lies) c.owns_range.ensures own in
    λ e. (let n = taken.ends e in let z = c.requires.fits in omega (arith, n, z))

pub loop-section-preserved : goal.loop-section-preserved
loop-section-preserved c =
    let l = c.args.layout.now in
    let f = c.args.file.now in
    let i = c.loop-section.section-index in
    let s = c.section-item.result in
    let h = rw c.as_slice-section-items.ensures at c.loop-section-test.true in
    let read = rw c.as_slice-section-items.ensures at c.section-item.is in
    let own = next_begins (ranged_owned l f) f.sections i s c.args.bytes.now c.loop-section.rest.now h read c.requires.own c.loop-section.invariant.1 in
    let taken = ranged_taken l f s c.owns_range.result c.loop-section.rest.now (lies_read (RangedLies l f) f.sections i s h read c.requires.lies) c.owns_range.ensures own in (
      overlay_prefix_read (ranged_piece l f) f.sections i s c.args.out.now c.loop-section.out c.append_own-rest.new.out h read c.loop-section.invariant.0 (c.append_own-rest.ensures.image ∙ taken.put c.loop-section.out),
      stands_more (ranged_owned l f) f.sections i s c.args.bytes.now c.loop-section.rest.now c.append_own-rest.result.now h read c.loop-section.invariant.1 (λ rest e. c.append_own-rest.ensures.rest ∙ taken.rest rest e),
    )
