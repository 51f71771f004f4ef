-- An image of the worked program with a copied symbol, which is right at one base.
--   copying_image    the image
--   copying_memory   the memory into which a loader turns it
use Rattle.std.specs.Prelude.{ℕ, List, [], ◌∷◌, ◌++◌, replicate}
use Rattle.wild_words.specs.Record.{spell}
use Rattle.wild_records.specs.Abi.Header.{elfmag, elfclass64, elfdata2lsb, et_dyn, em_x86_64}
use Rattle.wild_records.specs.Abi.Segment.{pt_load, pt_dynamic}
use Rattle.wild_records.specs.FileHeader.{file_header_fields}
use Rattle.wild_records.specs.ProgramHeader.{program_header_fields}
use Rattle.wild_records.specs.declared.file_header.FileHeader.{FileHeader}
use Rattle.wild_records.specs.declared.program_header.ProgramHeader.{ProgramHeader}
use Rattle.wild_loader.specs.declared.memory.Machine.TheVariants as processors
use Rattle.wild_loader.specs.declared.memory.Memory.{Memory}
use Rattle.wild_meaning.specs.Worked.Copy.{copied_bytes}

abbrev pub copying_header : FileHeader
copying_header = record {
  magic = elfmag;
  class = elfclass64;
  encoding = elfdata2lsb;
  ident_version = 1;
  os_abi = 0;
  abi_version = 0;
  file_type = et_dyn;
  machine = em_x86_64;
  version = 1;
  entry = 0x1100;
  program_offset = 64;
  section_offset = 0;
  flags = 0;
  header_size = 64;
  program_entry_size = 56;
  program_count = 3;
  section_entry_size = 64;
  section_count = 0;
  name_table = 0;
}

-- the data, the part without file bytes, and the dynamic section
abbrev pub copying_first : ProgramHeader
copying_first = record { kind = pt_load; flags = 7; offset = 0x1000; address = 0x1000; physical = 0x1000; file_size = 0x80; mem_size = 0x80; align = 0x1000 }

abbrev pub copying_second : ProgramHeader
copying_second = record { kind = pt_load; flags = 7; offset = 0x1000; address = 0x3000; physical = 0x3000; file_size = 0; mem_size = 0x200; align = 0x1000 }

abbrev pub copying_third : ProgramHeader
copying_third = record { kind = pt_dynamic; flags = 6; offset = 0x1020; address = 0x1020; physical = 0x1020; file_size = 0x60; mem_size = 0x60; align = 8 }

-- the address of the copy at base 0x20000
abbrev pub copying_words : List ℕ
copying_words = 0 ∷ 0x31 ∷ 2 ∷ 0 ∷ 0 ∷ 0 ∷ 0 ∷ 0 ∷ []

-- the entry at 0x1008 that copies the bytes of symbol 1 to 0x3100 (R_X86_64_COPY is 5); and DT_RELA (7), DT_RELASZ (8), DT_RELAENT (9),
-- DT_FLAGS (30) with DF_BIND_NOW (8), DT_FLAGS_1 (0x6ffffffb) with DF_1_NOW (1), and DT_NULL
abbrev pub copying_tables : List ℕ
copying_tables =
    0 ∷ 0x31 ∷ 0 ∷ 0 ∷ 0 ∷ 0 ∷ 0 ∷ 0 ∷ 5 ∷ 0 ∷ 0 ∷ 0 ∷ 1 ∷ 0 ∷ 0 ∷ 0 ∷ 0 ∷ 0 ∷ 0 ∷ 0 ∷ 0 ∷ 0 ∷ 0 ∷ 0
    ∷ 7 ∷ 0 ∷ 0 ∷ 0 ∷ 0 ∷ 0 ∷ 0 ∷ 0 ∷ 8 ∷ 0x10 ∷ 0 ∷ 0 ∷ 0 ∷ 0 ∷ 0 ∷ 0
    ∷ 8 ∷ 0 ∷ 0 ∷ 0 ∷ 0 ∷ 0 ∷ 0 ∷ 0 ∷ 24 ∷ 0 ∷ 0 ∷ 0 ∷ 0 ∷ 0 ∷ 0 ∷ 0
    ∷ 9 ∷ 0 ∷ 0 ∷ 0 ∷ 0 ∷ 0 ∷ 0 ∷ 0 ∷ 24 ∷ 0 ∷ 0 ∷ 0 ∷ 0 ∷ 0 ∷ 0 ∷ 0
    ∷ 30 ∷ 0 ∷ 0 ∷ 0 ∷ 0 ∷ 0 ∷ 0 ∷ 0 ∷ 8 ∷ 0 ∷ 0 ∷ 0 ∷ 0 ∷ 0 ∷ 0 ∷ 0
    ∷ 0xfb ∷ 0xff ∷ 0xff ∷ 0x6f ∷ 0 ∷ 0 ∷ 0 ∷ 0 ∷ 1 ∷ 0 ∷ 0 ∷ 0 ∷ 0 ∷ 0 ∷ 0 ∷ 0
    ∷ 0 ∷ 0 ∷ 0 ∷ 0 ∷ 0 ∷ 0 ∷ 0 ∷ 0 ∷ 0 ∷ 0 ∷ 0 ∷ 0 ∷ 0 ∷ 0 ∷ 0 ∷ 0
    ∷ []

-- the bytes after the file header: the program headers and, a page after the file header, the data and the tables
abbrev pub copying_rest : List ℕ
copying_rest = spell (program_header_fields copying_first) ++ (spell (program_header_fields copying_second) ++ (spell (program_header_fields copying_third) ++ (replicate 3864 0 ++ (copying_words ++ copying_tables))))

abbrev pub copying_image : List ℕ
copying_image = spell (file_header_fields copying_header) ++ copying_rest

abbrev pub copying_memory : Memory
copying_memory = record {
  machine = processors.X86_64;
  runs = record { start = 0x21000; bytes = copying_words ++ copying_tables } ∷ record { start = 0x23000; bytes = replicate 256 0 ++ (copied_bytes ++ replicate 248 0) } ∷ [];
  descriptors = [];
}
