use Rattle.std.proofs.Common.{◌≡◌, ◌*◌, length, take}
use Rattle.std.specs.List.{flat_map}
use Rattle.wild_words.specs.Record.{spell}
use Rattle.wild_records.specs.ProgramHeader.{program_header_size, program_header_fields}
use Rattle.wild_table_formats.specs.Headers.{program_header}
use Rattle.wild_headers.proofs.program_headers.write_program_headers.Given as goal

abbrev pub invariant-loop-i : goal.invariant-loop-i
invariant-loop-i l =
    (length l.out ≡ program_header_size * length l.segment-items)
    × (take (program_header_size * l.i) l.out ≡ flat_map (λ g. spell (program_header_fields (program_header l.layout g))) (take l.i l.segment-items))
