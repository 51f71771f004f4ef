-- An image of the worked program with merged strings, which is right at one base.
--   strings_image   the image
use Rattle.std.specs.Prelude.{ℕ, List, ◌++◌, replicate}
use Rattle.wild_words.specs.Record.{spell}
use Rattle.wild_records.specs.Abi.Section.{sht_null, sht_progbits, shf_alloc}
use Rattle.wild_records.specs.Abi.Segment.{pt_load}
use Rattle.wild_records.specs.FileHeader.{file_header_fields}
use Rattle.wild_records.specs.ProgramHeader.{program_header_fields}
use Rattle.wild_records.specs.SectionHeader.{section_header_fields}
use Rattle.wild_records.specs.declared.file_header.FileHeader.{FileHeader}
use Rattle.wild_records.specs.declared.program_header.ProgramHeader.{ProgramHeader}
use Rattle.wild_records.specs.declared.section_header.SectionHeader.{SectionHeader}
use Rattle.wild_meaning.specs.Worked.StaticImage.{static_header}
use Rattle.wild_meaning.specs.Worked.Strings.{strings_content}

-- it has no entry
abbrev pub strings_header : FileHeader
strings_header = record static_header { entry = 0; section_offset = 0x112c; section_count = 2 }

-- the headers of its two sections
abbrev pub strings_null : SectionHeader
strings_null = record { name = 0; kind = sht_null; flags = 0; address = 0; offset = 0; size = 0; link = 0; info = 0; align = 0; entry_size = 0 }

abbrev pub strings_section : SectionHeader
strings_section = record strings_null { kind = sht_progbits; flags = shf_alloc; address = 0x1100; offset = 0x1100; size = 0x2c; align = 8 }

abbrev pub strings_segment : ProgramHeader
strings_segment = record { kind = pt_load; flags = 7; offset = 0x1100; address = 0x1100; physical = 0x1100; file_size = 0x2c; mem_size = 0x2c; align = 0x1000 }

-- the bytes after the file header: the program header, zeros, the data and the section headers
abbrev pub strings_rest : List ℕ
strings_rest = spell (program_header_fields strings_segment) ++ (replicate 4232 0 ++ (strings_content ++ (spell (section_header_fields strings_null) ++ spell (section_header_fields strings_section))))

abbrev pub strings_image : List ℕ
strings_image = spell (file_header_fields strings_header) ++ strings_rest
