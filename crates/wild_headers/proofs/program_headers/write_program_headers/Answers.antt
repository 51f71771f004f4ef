use Rattle.std.proofs.Common.{ℕ, List, arith}
use Rattle.wild_words.specs.Record.{spell}
use Rattle.wild_records.specs.ProgramHeader.{program_header_fields}
use Rattle.wild_types.specs.declared.section.Segment.{Segment}
use Rattle.wild_table_formats.specs.Headers.{program_header}
use Rattle.wild_table_formats.proofs.HeaderLemmas.{table-more, length-program_header}
use Rattle.wild_headers.proofs.program_headers.write_program_headers.Goals as goal

pub loop-i-preserved : goal.loop-i-preserved
loop-i-preserved c =
    let f : Segment → List ℕ = λ g. spell (program_header_fields (program_header c.args.layout.now g)) in
    (omega arith, rw c.put_program_header.ensures (table-more f 56 c.loop-i.i c.as_slice-segment-items.result.now _ c.loop-i.out c.loop-i-test.true (length-program_header _) (omega arith) c.loop-i.invariant.1))
