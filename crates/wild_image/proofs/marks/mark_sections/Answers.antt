use Rattle.wild_layout.specs.Image.{section_owns}
use Rattle.wild_image.proofs.PaddingLemmas.{marks_more}
use Rattle.wild_image.proofs.marks.mark_sections.Goals as goal

pub loop-section-preserved : goal.loop-section-preserved
loop-section-preserved c =
    let h = rw c.as_slice-section-items.ensures at c.loop-section-test.true in
    let read = rw c.as_slice-section-items.ensures at c.section-item.is in
    marks_more (section_owns c.args.layout.now) c.args.file.now.sections c.loop-section.section-index c.section-item.result c.args.taken.now c.loop-section.taken c.mark_section.new.taken h read c.loop-section.invariant c.mark_section.ensures
