-- An image of the worked program of AArch64.
--   words_content   its code and its slot
--   words_image     the image
--   words_memory    the memory into which a loader turns it
use Rattle.std.specs.Prelude.{ℕ, List, [], ◌∷◌, ◌++◌, replicate}
use Rattle.wild_words.specs.Record.{spell}
use Rattle.wild_records.specs.Abi.Header.{et_exec, em_aarch64}
use Rattle.wild_records.specs.Abi.Segment.{pt_load}
use Rattle.wild_records.specs.FileHeader.{file_header_fields}
use Rattle.wild_records.specs.ProgramHeader.{program_header_fields}
use Rattle.wild_records.specs.declared.file_header.FileHeader.{FileHeader}
use Rattle.wild_records.specs.declared.program_header.ProgramHeader.{ProgramHeader}
use Rattle.wild_loader.specs.declared.memory.Machine.TheVariants as processors
use Rattle.wild_loader.specs.declared.memory.Memory.{Memory}
use Rattle.wild_meaning.specs.Worked.StaticImage.{static_header}

abbrev pub words_header : FileHeader
words_header = record static_header { file_type = et_exec; machine = em_aarch64; entry = 0x11000 }

-- one segment, of the code and the slot
abbrev pub words_segment : ProgramHeader
words_segment = record { kind = pt_load; flags = 7; offset = 0x1000; address = 0x11000; physical = 0x11000; file_size = 0x88; mem_size = 0x88; align = 0x1000 }

-- `nop; adr x0` of the function; `adrp x0; ldr x0, [x0]` of its slot; `bl` to the thunk, `bl` to the function's second instruction, `ret`;
-- `nop; nop; movz x0, lsl 16; movk x0, #0x18`; `adrp x0; add x0, x0` of the function; the thunk, `adrp x16; add x16, x16; br x16`; and the slot
abbrev pub words_content : List ℕ
words_content =
    0x1f ∷ 0x20 ∷ 0x03 ∷ 0xd5 ∷ 0xe0 ∷ 0x0f ∷ 0 ∷ 0x10 ∷ 0 ∷ 0 ∷ 0 ∷ 0 ∷ 0 ∷ 0 ∷ 0 ∷ 0
    ∷ 0 ∷ 0 ∷ 0 ∷ 0x90 ∷ 0 ∷ 0x40 ∷ 0x40 ∷ 0xf9 ∷ 0 ∷ 0 ∷ 0 ∷ 0 ∷ 0 ∷ 0 ∷ 0 ∷ 0
    ∷ 0x10 ∷ 0 ∷ 0 ∷ 0x94 ∷ 0x78 ∷ 0 ∷ 0 ∷ 0x94 ∷ 0xc0 ∷ 0x03 ∷ 0x5f ∷ 0xd6 ∷ 0 ∷ 0 ∷ 0 ∷ 0
    ∷ 0x1f ∷ 0x20 ∷ 0x03 ∷ 0xd5 ∷ 0x1f ∷ 0x20 ∷ 0x03 ∷ 0xd5 ∷ 0 ∷ 0 ∷ 0xa0 ∷ 0xd2 ∷ 0 ∷ 0x03 ∷ 0x80 ∷ 0xf2
    ∷ 0 ∷ 0 ∷ 0 ∷ 0x90 ∷ 0 ∷ 0 ∷ 0x08 ∷ 0x91 ∷ 0 ∷ 0 ∷ 0 ∷ 0 ∷ 0 ∷ 0 ∷ 0 ∷ 0
    ∷ 0 ∷ 0 ∷ 0 ∷ 0 ∷ 0 ∷ 0 ∷ 0 ∷ 0 ∷ 0 ∷ 0 ∷ 0 ∷ 0 ∷ 0 ∷ 0 ∷ 0 ∷ 0
    ∷ 0x10 ∷ 0 ∷ 0 ∷ 0x90 ∷ 0x10 ∷ 0x02 ∷ 0x08 ∷ 0x91 ∷ 0 ∷ 0x02 ∷ 0x1f ∷ 0xd6 ∷ 0 ∷ 0 ∷ 0 ∷ 0
    ∷ 0 ∷ 0 ∷ 0 ∷ 0 ∷ 0 ∷ 0 ∷ 0 ∷ 0 ∷ 0 ∷ 0 ∷ 0 ∷ 0 ∷ 0 ∷ 0 ∷ 0 ∷ 0
    ∷ 0 ∷ 0x12 ∷ 0x01 ∷ 0 ∷ 0 ∷ 0 ∷ 0 ∷ 0
    ∷ []

-- the bytes after the file header: the program header and, a page after the file header, the content
abbrev pub words_rest : List ℕ
words_rest = spell (program_header_fields words_segment) ++ (replicate 3976 0 ++ words_content)

abbrev pub words_image : List ℕ
words_image = spell (file_header_fields words_header) ++ words_rest

abbrev pub words_memory : Memory
words_memory = record { machine = processors.AArch64; runs = record { start = 0x11000; bytes = words_content } ∷ []; descriptors = [] }
