use Rattle.std.proofs.Common.{arith}
use Rattle.wild_table_formats.proofs.HeaderLemmas.{named_fits, total_read, names_read}
use Rattle.wild_headers.proofs.section_names.write_section_names.Goals as goal

pub put_name-requires : goal.put_name-requires
put_name-requires c =
    let fits = named_fits _ _ c.loop-section.section-index c.loop-section.at c.section-item.result c.loop-section-test.true c.section-item.is c.loop-section.invariant.0 c.as_slice-section-items.ensures in
    omega (arith, fits, c.requires.room)

pub overflow_add-at-in-loop-section : goal.overflow_add-at-in-loop-section
overflow_add-at-in-loop-section c =
    let fits = named_fits _ _ c.loop-section.section-index c.loop-section.at c.section-item.result c.loop-section-test.true c.section-item.is c.loop-section.invariant.0 c.as_slice-section-items.ensures in
    omega (arith, fits, c.requires.room, c.len.ensures)

pub loop-section-preserved : goal.loop-section-preserved
loop-section-preserved c =
    let fits = named_fits _ _ c.loop-section.section-index c.loop-section.at c.section-item.result c.loop-section-test.true c.section-item.is c.loop-section.invariant.0 c.as_slice-section-items.ensures in (
      total_read _ c.loop-section.section-index c.loop-section.at _ c.section-item.result c.loop-section-test.true c.section-item.is c.loop-section.invariant.0 c.len.ensures,
      rw c.put_name.ensures (names_read _ c.loop-section.section-index c.loop-section.at c.len.result c.section-item.result c.loop-section.out c.loop-section-test.true c.section-item.is c.loop-section.invariant.0 c.len.ensures (omega (arith, fits, c.requires.room, c.len.ensures)) c.loop-section.invariant.1),
    )

pub overflow_add-at : goal.overflow_add-at
overflow_add-at c =
    let fits = named_fits _ _ c.loop-section.section-index c.loop-section.at c.section-item.result c.loop-section-test.true c.section-item.is c.loop-section.invariant.0 c.as_slice-section-items.ensures in
    omega (arith, fits, c.requires.room, c.len.ensures)
