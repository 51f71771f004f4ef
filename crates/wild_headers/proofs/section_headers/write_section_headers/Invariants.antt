use Rattle.std.proofs.Common.{◌≡◌, ◌+◌, ◌*◌, length, take}
use Rattle.std.specs.List.{flat_map}
use Rattle.wild_words.specs.Record.{spell}
use Rattle.wild_types.specs.Lists.{total}
use Rattle.wild_records.specs.SectionHeader.{section_header_size, section_header_fields}
use Rattle.wild_table_formats.specs.Headers.{section_headers_of}
use Rattle.wild_headers.proofs.section_headers.write_section_headers.Given as goal

abbrev pub invariant-loop-i : goal.invariant-loop-i
invariant-loop-i l =
    (length l.out ≡ section_header_size * length l.section-items)
    × (l.name ≡ total (λ s. length s.name + 1) (take l.i l.section-items))
    × (take (section_header_size * l.i) l.out ≡ flat_map (λ h. spell (section_header_fields h)) (section_headers_of l.layout (take l.i l.section-items)))
