-- Images of the worked program without a dynamic linker that are refused in its world.
--   StaticPieWorldIsLegal   the world is legal
--   WrongDataAreRefused     an address that does not move, an offset that does, a wrong entry
--   WrongCodeIsRefused      a branch, a load and a sequence with another effect
--   WrongBlankIsRefused     a byte that is not 0 in a section without data, thread-local or not
--   StaticImageIsLinked     an image that is linked
use Rattle.std.specs.Prelude.{◌≢◌, ℕ, ◌-◌, ◌^◌, false, List, [], ◌∷◌, None}
use Rattle.wild_records.specs.Abi.Section.{sht_progbits}
use Rattle.wild_records.specs.FileHeader.{file_header_at}
use Rattle.wild_types.specs.declared.part.Role.TheVariants as role
use Rattle.wild_types.specs.declared.section.Section.{Section}
use Rattle.wild_types.specs.declared.input.InputSection.{InputSection}
use Rattle.wild_types.specs.declared.layout.Layout.{Layout}
use Rattle.wild_loader.specs.declared.memory.Memory.{Memory}
use Rattle.wild_loader.specs.Memory.{Holds}
use Rattle.wild_meaning.specs.World.{IsLegal}
use Rattle.wild_meaning.specs.LinkedImage.{DescribesOutput}
use Rattle.wild_meaning.specs.Worked.Builders.{IsRightImage, Refuses, section_without_data, one_file}
use Rattle.wild_meaning.specs.Worked.Static.{static_pie, static_pie_world}
use Rattle.wild_meaning.specs.Worked.StaticImage.{static_image, padded_image}
use Rattle.wild_meaning.specs.Worked.Refusals.{HasWrongNumber, HasWrongByte}

abbrev pub StaticPieWorldIsLegal : Type 0
StaticPieWorldIsLegal = IsLegal static_pie static_pie_world

-- memory has these bytes at an address
abbrev pub MemoryHas : ℕ → List ℕ → Memory → Type 0
MemoryHas a bs m = Holds m a bs

-- an address that does not move with the base, an offset from the thread pointer that does, and an entry that does
pub record WrongDataAreRefused : Type 0 where
  pub address : Refuses static_pie static_pie_world (HasWrongNumber 0x41100 8 0x41210)
  pub offset : Refuses static_pie static_pie_world (HasWrongNumber 0x41108 8 (2 ^ 64 - 8))
  pub begin : (image : List ℕ) → DescribesOutput static_pie image → (file_header_at image 0).entry ≢ 0x1000 → ⊥

-- `call second`, where the input calls the first function
abbrev pub another_branch : List ℕ
another_branch = 0xe8 ∷ 0x0b ∷ 0x02 ∷ 0 ∷ 0 ∷ []

-- `lea rax, [rip + first + 1]`, where the input loads the first function's address
abbrev pub load_one_byte_off : List ℕ
load_one_byte_off = 0x48 ∷ 0x8d ∷ 0x05 ∷ 0xea ∷ 0x01 ∷ 0 ∷ 0 ∷ []

-- `mov rax, -8`, a nop, and the original call
abbrev pub half_sequence : List ℕ
half_sequence = 0x48 ∷ 0xc7 ∷ 0xc0 ∷ 0xf8 ∷ 0xff ∷ 0xff ∷ 0xff ∷ 0x90 ∷ 0x66 ∷ 0x66 ∷ 0x48 ∷ 0xe8 ∷ 0xf0 ∷ 0x01 ∷ 0 ∷ 0 ∷ []

-- `mov rax, fs:0` and `lea rax, [rax - 16]`, where the symbol's offset is -8
abbrev pub another_offset : List ℕ
another_offset = 0x64 ∷ 0x48 ∷ 0x8b ∷ 0x04 ∷ 0x25 ∷ 0 ∷ 0 ∷ 0 ∷ 0 ∷ 0x48 ∷ 0x8d ∷ 0x80 ∷ 0xf0 ∷ 0xff ∷ 0xff ∷ 0xff ∷ []

-- `lea rax, [rip + descriptor]`, where the offset itself is required
abbrev pub descriptor_load : List ℕ
descriptor_load = 0x48 ∷ 0x8d ∷ 0x05 ∷ 0xd1 ∷ 0x0f ∷ 0 ∷ 0 ∷ []

-- `mov rax, [rip + data]` of a word that has the offset, but is no slot of the symbol
abbrev pub load_of_data : List ℕ
load_of_data = 0x48 ∷ 0x8b ∷ 0x05 ∷ 0xc1 ∷ 0 ∷ 0 ∷ 0 ∷ []

-- Refused are a branch to another symbol; a load rewritten to one byte past the symbol; a sequence whose first instruction is
-- rewritten but whose call remains, or that is rewritten with another symbol's offset; a descriptor's address where its offset is required; and a load of the offset from a word of the
-- program.
pub record WrongCodeIsRefused : Type 0 where
  pub branch : Refuses static_pie static_pie_world (MemoryHas 0x41000 another_branch)
  pub load : Refuses static_pie static_pie_world (MemoryHas 0x41010 load_one_byte_off)
  pub sequence : Refuses static_pie static_pie_world (MemoryHas 0x41020 half_sequence)
  pub pair : Refuses static_pie static_pie_world (MemoryHas 0x41020 another_offset)
  pub descriptor : Refuses static_pie static_pie_world (MemoryHas 0x41040 descriptor_load)
  pub stored : Refuses static_pie static_pie_world (MemoryHas 0x41040 load_of_data)

-- the same program with two input sections, without data, in a section that has bytes in the file; one is thread-local
abbrev pub padded_section : Section
padded_section = record { name = []; kind = sht_progbits; flags = 3; address = 0x1000; offset = 0x1000; size = 0x110; link = 0; info = 0; align = 16; entsize = 0; fill = None; section_symbol = false }

abbrev pub padded_blank : InputSection
padded_blank = section_without_data 0x1100 16

abbrev pub padded_thread : InputSection
padded_thread = record (section_without_data 0x10f0 16) { flags = 0x403 }

abbrev pub padded_layout : Layout
padded_layout = record static_pie {
  sections = padded_section ∷ padded_section ∷ [];
  parts = record { role = role.Raw; section = 1; offset = 0x1000; address = 0x1000; size = 0x110; align = 16 } ∷ [];
  groups = one_file (padded_blank ∷ padded_thread ∷ []);
}

pub record WrongBlankIsRefused : Type 0 where
  pub plain : Refuses padded_layout static_pie_world (HasWrongByte 0x41104 0)
  pub template : Refuses padded_layout static_pie_world (HasWrongByte 0x410f4 0)

-- an image is linked in the world, so the refusals are not vacuous
abbrev pub StaticImageIsLinked : Type 0
StaticImageIsLinked = IsRightImage static_pie static_pie_world static_image

-- one of the program without data is, too
abbrev pub PaddedImageIsLinked : Type 0
PaddedImageIsLinked = IsRightImage padded_layout static_pie_world padded_image
