use Rattle.wild_image.proofs.Common.{List, ◌-◌, length, drop, get_or, arith, ap, ◌∙◌}
use Rattle.wild_types.specs.declared.section.Section.{Section}
use Rattle.wild_image.proofs.PaddingLemmas.{fills_from_end, fills_from_before, filled_whole}
use Rattle.wild_image.proofs.padding.fill_whole_sections.Goals as goal

pub loop-i-init : goal.loop-i-init
loop-i-init c =
    let l = c.args.layout.now in
    let same = c.all_but_first-sections.ensures ∙ ap (drop 1) c.as_slice.ensures in
    fills_from_end l (drop 1 l.sections) (length c.all_but_first-sections.result.now) (length c.args.out.now) c.args.out.now (ap length same) c.requires.zeros

pub loop-i-preserved : goal.loop-i-preserved
loop-i-preserved c =
    let l = c.args.layout.now in
    let i = c.loop-i.i in
    let s = c.index-sections-i.result in
    let same = c.all_but_first-sections.ensures ∙ ap (drop 1) c.as_slice.ensures in
    let read = c.index-sections-i.is ∙ ap (λ (xs : List Section). get_or xs (i - 1) s) same in
    let next = c.fill_whole_section-blank in
    let some = c.loop-i-test.true in
    fills_from_before l (drop 1 l.sections) i (i - 1) c.loop-i.blank next.result s c.loop-i.out next.new.out (omega (arith, some)) read c.loop-i.invariant next.auto.out next.ensures.filled next.ensures.blank

pub returns : goal.returns
returns c =
    let l = c.args.layout.now in
    let none = c.loop-i-test.false in
    filled_whole l c.loop-i.i c.loop-i.blank (length c.args.out.now) c.loop-i.out (omega (arith, none)) c.loop-i.auto.out c.requires.size c.requires.even c.loop-i.invariant
