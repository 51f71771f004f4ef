-- An image of the worked program without a dynamic linker, which is right at one base.
--   static_content   its code and data
--   static_image     the image
--   static_memory    the memory into which a loader turns it
--   padded_image     the same for the program with one input section, which has no data
use Rattle.std.specs.Prelude.{ℕ, List, [], ◌∷◌, ◌++◌, replicate}
use Rattle.wild_words.specs.Record.{spell}
use Rattle.wild_records.specs.Abi.Header.{elfmag, elfclass64, elfdata2lsb, et_dyn, em_x86_64}
use Rattle.wild_records.specs.Abi.Section.{sht_progbits}
use Rattle.wild_records.specs.Abi.Segment.{pt_load}
use Rattle.wild_records.specs.FileHeader.{file_header_fields}
use Rattle.wild_records.specs.ProgramHeader.{program_header_fields}
use Rattle.wild_records.specs.SectionHeader.{section_header_fields}
use Rattle.wild_records.specs.declared.file_header.FileHeader.{FileHeader}
use Rattle.wild_records.specs.declared.program_header.ProgramHeader.{ProgramHeader}
use Rattle.wild_records.specs.declared.section_header.SectionHeader.{SectionHeader}
use Rattle.wild_loader.specs.declared.memory.Machine.TheVariants as processors
use Rattle.wild_loader.specs.declared.memory.Memory.{Memory}

abbrev pub static_header : FileHeader
static_header = record {
  magic = elfmag;
  class = elfclass64;
  encoding = elfdata2lsb;
  ident_version = 1;
  os_abi = 0;
  abi_version = 0;
  file_type = et_dyn;
  machine = em_x86_64;
  version = 1;
  entry = 0x1000;
  program_offset = 64;
  section_offset = 0;
  flags = 0;
  header_size = 64;
  program_entry_size = 56;
  program_count = 1;
  section_entry_size = 64;
  section_count = 0;
  name_table = 0;
}

-- one segment, of the code and the data
abbrev pub static_segment : ProgramHeader
static_segment = record { kind = pt_load; flags = 7; offset = 0x1000; address = 0x1000; physical = 0x1000; file_size = 0x110; mem_size = 0x110; align = 0x1000 }

-- `call first`; `lea rax, [rip + first]`; `mov rax, fs:0` and `lea rax, [rax - 8]`; `mov rax, -8`; followed by the address of the
-- second function at base 0x40000, and the offset
abbrev pub static_content : List ℕ
static_content =
    0xe8 ∷ 0xfb ∷ 0x01 ∷ 0 ∷ 0 ∷ 0xc3 ∷ 0xc3 ∷ 0 ∷ 0 ∷ 0 ∷ 0 ∷ 0 ∷ 0 ∷ 0 ∷ 0 ∷ 0
    ∷ 0x48 ∷ 0x8d ∷ 0x05 ∷ 0xe9 ∷ 0x01 ∷ 0 ∷ 0 ∷ 0xc3 ∷ 0xc3 ∷ 0 ∷ 0 ∷ 0 ∷ 0 ∷ 0 ∷ 0 ∷ 0
    ∷ 0x64 ∷ 0x48 ∷ 0x8b ∷ 0x04 ∷ 0x25 ∷ 0 ∷ 0 ∷ 0 ∷ 0 ∷ 0x48 ∷ 0x8d ∷ 0x80 ∷ 0xf8 ∷ 0xff ∷ 0xff ∷ 0xff
    ∷ 0 ∷ 0 ∷ 0 ∷ 0 ∷ 0 ∷ 0 ∷ 0 ∷ 0 ∷ 0 ∷ 0 ∷ 0 ∷ 0 ∷ 0 ∷ 0 ∷ 0 ∷ 0
    ∷ 0x48 ∷ 0xc7 ∷ 0xc0 ∷ 0xf8 ∷ 0xff ∷ 0xff ∷ 0xff ∷ 0xc3 ∷ 0xc3 ∷ 0 ∷ 0 ∷ 0 ∷ 0 ∷ 0 ∷ 0 ∷ 0
    ∷ 0 ∷ 0 ∷ 0 ∷ 0 ∷ 0 ∷ 0 ∷ 0 ∷ 0 ∷ 0 ∷ 0 ∷ 0 ∷ 0 ∷ 0 ∷ 0 ∷ 0 ∷ 0
    ∷ 0 ∷ 0 ∷ 0 ∷ 0 ∷ 0 ∷ 0 ∷ 0 ∷ 0 ∷ 0 ∷ 0 ∷ 0 ∷ 0 ∷ 0 ∷ 0 ∷ 0 ∷ 0
    ∷ 0 ∷ 0 ∷ 0 ∷ 0 ∷ 0 ∷ 0 ∷ 0 ∷ 0 ∷ 0 ∷ 0 ∷ 0 ∷ 0 ∷ 0 ∷ 0 ∷ 0 ∷ 0
    ∷ 0 ∷ 0 ∷ 0 ∷ 0 ∷ 0 ∷ 0 ∷ 0 ∷ 0 ∷ 0 ∷ 0 ∷ 0 ∷ 0 ∷ 0 ∷ 0 ∷ 0 ∷ 0
    ∷ 0 ∷ 0 ∷ 0 ∷ 0 ∷ 0 ∷ 0 ∷ 0 ∷ 0 ∷ 0 ∷ 0 ∷ 0 ∷ 0 ∷ 0 ∷ 0 ∷ 0 ∷ 0
    ∷ 0 ∷ 0 ∷ 0 ∷ 0 ∷ 0 ∷ 0 ∷ 0 ∷ 0 ∷ 0 ∷ 0 ∷ 0 ∷ 0 ∷ 0 ∷ 0 ∷ 0 ∷ 0
    ∷ 0 ∷ 0 ∷ 0 ∷ 0 ∷ 0 ∷ 0 ∷ 0 ∷ 0 ∷ 0 ∷ 0 ∷ 0 ∷ 0 ∷ 0 ∷ 0 ∷ 0 ∷ 0
    ∷ 0 ∷ 0 ∷ 0 ∷ 0 ∷ 0 ∷ 0 ∷ 0 ∷ 0 ∷ 0 ∷ 0 ∷ 0 ∷ 0 ∷ 0 ∷ 0 ∷ 0 ∷ 0
    ∷ 0 ∷ 0 ∷ 0 ∷ 0 ∷ 0 ∷ 0 ∷ 0 ∷ 0 ∷ 0 ∷ 0 ∷ 0 ∷ 0 ∷ 0 ∷ 0 ∷ 0 ∷ 0
    ∷ 0 ∷ 0 ∷ 0 ∷ 0 ∷ 0 ∷ 0 ∷ 0 ∷ 0 ∷ 0 ∷ 0 ∷ 0 ∷ 0 ∷ 0 ∷ 0 ∷ 0 ∷ 0
    ∷ 0 ∷ 0 ∷ 0 ∷ 0 ∷ 0 ∷ 0 ∷ 0 ∷ 0 ∷ 0 ∷ 0 ∷ 0 ∷ 0 ∷ 0 ∷ 0 ∷ 0 ∷ 0
    ∷ 0x10 ∷ 0x12 ∷ 0x04 ∷ 0 ∷ 0 ∷ 0 ∷ 0 ∷ 0 ∷ 0xf8 ∷ 0xff ∷ 0xff ∷ 0xff ∷ 0xff ∷ 0xff ∷ 0xff ∷ 0xff
    ∷ []

-- the bytes after the file header: the program header and, a page after the file header, the content. It has no relocation entry,
-- so the image is right at one base only.
abbrev pub static_rest : List ℕ
static_rest = spell (program_header_fields static_segment) ++ (replicate 3976 0 ++ static_content)

abbrev pub static_image : List ℕ
static_image = spell (file_header_fields static_header) ++ static_rest

abbrev pub static_memory : Memory
static_memory = record { machine = processors.X86_64; runs = record { start = 0x41000; bytes = static_content } ∷ []; descriptors = [] }

-- with zeros in place of code and data, followed by two section headers
abbrev pub padded_header : FileHeader
padded_header = record static_header { section_offset = 0x1110; section_count = 2 }

abbrev pub padded_section_header : SectionHeader
padded_section_header = record { name = 0; kind = sht_progbits; flags = 3; address = 0x1000; offset = 0x1000; size = 0x110; link = 0; info = 0; align = 16; entry_size = 0 }

abbrev pub padded_rest : List ℕ
padded_rest = spell (program_header_fields static_segment) ++ (replicate 4248 0 ++ (spell (section_header_fields padded_section_header) ++ spell (section_header_fields padded_section_header)))

abbrev pub padded_image : List ℕ
padded_image = spell (file_header_fields padded_header) ++ padded_rest

abbrev pub padded_memory : Memory
padded_memory = record { machine = processors.X86_64; runs = record { start = 0x41000; bytes = replicate 272 0 } ∷ []; descriptors = [] }
