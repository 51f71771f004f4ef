-- An image of the worked shared object, which is right at one base.
--   shared_front, shared_back   its data and code; its slots, dynamic section and relocation table
--   shared_image                the image
--   shared_memory               the memory into which a loader turns it
use Rattle.std.specs.Prelude.{ℕ, ◌-◌, ◌^◌, List, [], ◌∷◌, ◌++◌, replicate}
use Rattle.wild_words.specs.Record.{spell}
use Rattle.wild_records.specs.Abi.Segment.{pt_load, pt_dynamic}
use Rattle.wild_records.specs.FileHeader.{file_header_fields}
use Rattle.wild_records.specs.ProgramHeader.{program_header_fields}
use Rattle.wild_records.specs.declared.file_header.FileHeader.{FileHeader}
use Rattle.wild_records.specs.declared.program_header.ProgramHeader.{ProgramHeader}
use Rattle.wild_loader.specs.declared.memory.Machine.TheVariants as processors
use Rattle.wild_loader.specs.declared.memory.Memory.{Memory}
use Rattle.wild_meaning.specs.Worked.StaticImage.{static_header}

abbrev pub shared_header : FileHeader
shared_header = record static_header { entry = 0; program_count = 3 }

-- data and code; slots and tables; the dynamic section
abbrev pub shared_first : ProgramHeader
shared_first = record { kind = pt_load; flags = 7; offset = 0x1000; address = 0x1000; physical = 0x1000; file_size = 0x90; mem_size = 0x90; align = 0x1000 }

abbrev pub shared_second : ProgramHeader
shared_second = record { kind = pt_load; flags = 7; offset = 0x2000; address = 0x2000; physical = 0x2000; file_size = 0x110; mem_size = 0x110; align = 0x1000 }

abbrev pub shared_third : ProgramHeader
shared_third = record { kind = pt_dynamic; flags = 6; offset = 0x2060; address = 0x2060; physical = 0x2060; file_size = 0x60; mem_size = 0x60; align = 8 }

-- the fields as at base 0x10000, four bytes, a distance, and the code
abbrev pub shared_front : List ℕ
shared_front =
    0 ∷ 0x10 ∷ 0 ∷ 0 ∷ 0 ∷ 0 ∷ 0 ∷ 0 ∷ 0x10 ∷ 0 ∷ 0x70 ∷ 0 ∷ 0 ∷ 0 ∷ 0 ∷ 0
    ∷ 4 ∷ 0x11 ∷ 1 ∷ 0 ∷ 0 ∷ 0 ∷ 0 ∷ 0 ∷ 0xa8 ∷ 0xff ∷ 0xff ∷ 0xff ∷ 0xff ∷ 0xff ∷ 0xff ∷ 0xff
    ∷ 0xf8 ∷ 0xf ∷ 0 ∷ 0 ∷ 0xec ∷ 0xf ∷ 0 ∷ 0 ∷ 0 ∷ 0x10 ∷ 0 ∷ 0 ∷ 0x24 ∷ 0x10 ∷ 0 ∷ 0
    ∷ 0x18 ∷ 0 ∷ 0 ∷ 0 ∷ 0 ∷ 0 ∷ 0 ∷ 0 ∷ 0xd0 ∷ 0xf ∷ 0 ∷ 0 ∷ 0 ∷ 0 ∷ 0 ∷ 0
    ∷ 8 ∷ 0 ∷ 0 ∷ 0 ∷ 0 ∷ 0 ∷ 0 ∷ 0 ∷ 0xf8 ∷ 0xf ∷ 0 ∷ 0 ∷ 0xec ∷ 0xf ∷ 0 ∷ 0
    ∷ 1 ∷ 2 ∷ 3 ∷ 4 ∷ 0 ∷ 0 ∷ 0 ∷ 0 ∷ 0 ∷ 0 ∷ 0 ∷ 0 ∷ 0 ∷ 0 ∷ 0 ∷ 0
    ∷ 0xb0 ∷ 0 ∷ 0 ∷ 0 ∷ 0 ∷ 0 ∷ 0 ∷ 0 ∷ 0 ∷ 0 ∷ 0 ∷ 0 ∷ 0 ∷ 0 ∷ 0 ∷ 0
    ∷ 0 ∷ 0 ∷ 0 ∷ 0 ∷ 0 ∷ 0 ∷ 0 ∷ 0 ∷ 0 ∷ 0 ∷ 0 ∷ 0 ∷ 0 ∷ 0 ∷ 0 ∷ 0
    ∷ 0x48 ∷ 0x8d ∷ 5 ∷ 0xa1 ∷ 0xf ∷ 0 ∷ 0 ∷ 0xc3 ∷ 0xc3 ∷ 0 ∷ 0 ∷ 0 ∷ 0 ∷ 0 ∷ 0 ∷ 0
    ∷ []

-- The slots, with their words as loaded, except for the descriptor. DT_RELA (7), DT_RELASZ (8), DT_RELAENT (9), DT_FLAGS (30) with
-- DF_BIND_NOW (8), DT_FLAGS_1 (0x6ffffffb) with DF_1_NOW (1), and DT_NULL. The entry for the descriptor (R_X86_64_TLSDESC is 36). The
-- function's slot and its stub.
abbrev pub shared_back : List ℕ
shared_back =
    0 ∷ 0x11 ∷ 1 ∷ 0 ∷ 0 ∷ 0 ∷ 0 ∷ 0 ∷ 0x10 ∷ 0 ∷ 0x70 ∷ 0 ∷ 0 ∷ 0 ∷ 0 ∷ 0
    ∷ 0xa8 ∷ 0xff ∷ 0xff ∷ 0xff ∷ 0xff ∷ 0xff ∷ 0xff ∷ 0xff ∷ 2 ∷ 0 ∷ 0 ∷ 0 ∷ 0 ∷ 0 ∷ 0 ∷ 0
    ∷ 8 ∷ 0 ∷ 0 ∷ 0 ∷ 0 ∷ 0 ∷ 0 ∷ 0 ∷ 0 ∷ 0 ∷ 0 ∷ 0 ∷ 0 ∷ 0 ∷ 0 ∷ 0
    ∷ 0 ∷ 0 ∷ 0 ∷ 0 ∷ 0 ∷ 0 ∷ 0 ∷ 0 ∷ 0x20 ∷ 0xe0 ∷ 0xff ∷ 0xff ∷ 0xff ∷ 0xff ∷ 0xff ∷ 0xff
    ∷ 4 ∷ 0 ∷ 0 ∷ 0 ∷ 0 ∷ 0 ∷ 0 ∷ 0 ∷ 0x20 ∷ 0 ∷ 0 ∷ 0 ∷ 0 ∷ 0 ∷ 0 ∷ 0
    ∷ 2 ∷ 0 ∷ 0 ∷ 0 ∷ 0 ∷ 0 ∷ 0 ∷ 0 ∷ 0 ∷ 0 ∷ 0 ∷ 0 ∷ 0 ∷ 0 ∷ 0 ∷ 0
    ∷ 7 ∷ 0 ∷ 0 ∷ 0 ∷ 0 ∷ 0 ∷ 0 ∷ 0 ∷ 0xc0 ∷ 0x20 ∷ 0 ∷ 0 ∷ 0 ∷ 0 ∷ 0 ∷ 0
    ∷ 8 ∷ 0 ∷ 0 ∷ 0 ∷ 0 ∷ 0 ∷ 0 ∷ 0 ∷ 0x18 ∷ 0 ∷ 0 ∷ 0 ∷ 0 ∷ 0 ∷ 0 ∷ 0
    ∷ 9 ∷ 0 ∷ 0 ∷ 0 ∷ 0 ∷ 0 ∷ 0 ∷ 0 ∷ 0x18 ∷ 0 ∷ 0 ∷ 0 ∷ 0 ∷ 0 ∷ 0 ∷ 0
    ∷ 0x1e ∷ 0 ∷ 0 ∷ 0 ∷ 0 ∷ 0 ∷ 0 ∷ 0 ∷ 8 ∷ 0 ∷ 0 ∷ 0 ∷ 0 ∷ 0 ∷ 0 ∷ 0
    ∷ 0xfb ∷ 0xff ∷ 0xff ∷ 0x6f ∷ 0 ∷ 0 ∷ 0 ∷ 0 ∷ 1 ∷ 0 ∷ 0 ∷ 0 ∷ 0 ∷ 0 ∷ 0 ∷ 0
    ∷ 0 ∷ 0 ∷ 0 ∷ 0 ∷ 0 ∷ 0 ∷ 0 ∷ 0 ∷ 0 ∷ 0 ∷ 0 ∷ 0 ∷ 0 ∷ 0 ∷ 0 ∷ 0
    ∷ 0x28 ∷ 0x20 ∷ 0 ∷ 0 ∷ 0 ∷ 0 ∷ 0 ∷ 0 ∷ 0x24 ∷ 0 ∷ 0 ∷ 0 ∷ 0 ∷ 0 ∷ 0 ∷ 0
    ∷ 8 ∷ 0 ∷ 0 ∷ 0 ∷ 0 ∷ 0 ∷ 0 ∷ 0 ∷ 0x88 ∷ 0x10 ∷ 1 ∷ 0 ∷ 0 ∷ 0 ∷ 0 ∷ 0
    ∷ 0xf3 ∷ 0x0f ∷ 0x1e ∷ 0xfa ∷ 0xf2 ∷ 0xff ∷ 0x25 ∷ 0xed ∷ 0xff ∷ 0xff ∷ 0xff ∷ 0x0f ∷ 0x1f ∷ 0x44 ∷ 0 ∷ 0
    ∷ []

-- the bytes after the file header: the program headers, and the two segments
abbrev pub shared_rest : List ℕ
shared_rest =
    spell (program_header_fields shared_first)
    ++ (spell (program_header_fields shared_second) ++ (spell (program_header_fields shared_third) ++ (replicate 3864 0 ++ (shared_front ++ (replicate 3952 0 ++ (shared_back ++ replicate 32 0))))))

abbrev pub shared_image : List ℕ
shared_image = spell (file_header_fields shared_header) ++ shared_rest

-- the loader noted the offset of the descriptor
abbrev pub shared_memory : Memory
shared_memory = record {
  machine = processors.X86_64;
  runs = record { start = 0x11000; bytes = shared_front } ∷ record { start = 0x12000; bytes = shared_back ++ replicate 32 0 } ∷ [];
  descriptors = (0x12028, 2 ^ 64 - 0x58) ∷ [];
}
