use Rattle.std.proofs.Common.{arith}
use Rattle.wild_table_formats.proofs.HeaderLemmas.{named_fits, total_read, section_table_read}
use Rattle.wild_headers.proofs.section_headers.write_section_headers.Goals as goal

pub put_section_header-requires-clause-name : goal.put_section_header-requires-clause-name
put_section_header-requires-clause-name c =
    let fits = named_fits _ _ c.loop-i.i c.loop-i.name c.section-item.result c.loop-i-test.true c.section-item.is c.loop-i.invariant.1 c.as_slice-section-items.ensures in
    omega (arith, fits, c.requires.names)

pub overflow_add-name : goal.overflow_add-name
overflow_add-name c =
    let fits = named_fits _ _ c.loop-i.i c.loop-i.name c.section-item.result c.loop-i-test.true c.section-item.is c.loop-i.invariant.1 c.as_slice-section-items.ensures in
    omega (arith, fits, c.requires.names, c.len.ensures)

pub overflow_add-name-in-loop-i : goal.overflow_add-name-in-loop-i
overflow_add-name-in-loop-i c =
    let fits = named_fits _ _ c.loop-i.i c.loop-i.name c.section-item.result c.loop-i-test.true c.section-item.is c.loop-i.invariant.1 c.as_slice-section-items.ensures in
    omega (arith, fits, c.requires.names, c.len.ensures)

pub loop-i-preserved : goal.loop-i-preserved
loop-i-preserved c = (
  omega arith,
  total_read _ c.loop-i.i c.loop-i.name _ c.section-item.result c.loop-i-test.true c.section-item.is c.loop-i.invariant.1 c.len.ensures,
  rw c.put_section_header.ensures (section_table_read _ c.loop-i.i c.loop-i.name _ c.section-item.result c.loop-i.out c.loop-i-test.true c.section-item.is c.loop-i.invariant.1 c.loop-i.invariant.0 c.loop-i.invariant.2),
)
