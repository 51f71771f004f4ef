-- Whether a section has memory, and whether an input section has an address.
--   IsSet flags flag       the flag is set
--   IsAllocatedPart l n    part n is in a section that has memory
--   IsHeaderOnlySection l s    only the header is written of the section
--   IsHeaderOnly l p           part p is in such a section
--   HasFileBytes l n       part n is in a section with bytes in the file
--   IsPlaced l s           the input section has an address
use Rattle.std.specs.Prelude.{◌≡◌, ◌≢◌, ℕ, ◌/◌, ◌%◌, ◌⊎◌, true, Some, slice_get}
use Rattle.wild_records.specs.Abi.Section.{sht_note, sht_nobits, shn_undef, shf_alloc}
use Rattle.wild_types.specs.declared.part.Part.{Part}
use Rattle.wild_types.specs.declared.section.Section.{Section}
use Rattle.wild_types.specs.declared.input.Slot.TheVariants as slot
use Rattle.wild_types.specs.declared.input.InputSection.{InputSection}
use Rattle.wild_types.specs.declared.layout.Layout.{Layout}

-- the flag, a power of two, is set (gABI, "Section Header", sh_flags)
abbrev pub IsSet : ℕ → ℕ → Type 0
IsSet flags flag = flags / flag % 2 ≡ 1

-- the part is in a section other than section 0 that has memory (gABI, SHF_ALLOC)
pub record IsAllocatedPart (l : Layout) (n : ℕ) : Type 0 where
  pub part : Part
  pub listed : slice_get l.parts n ≡ Some part
  pub named : part.section ≢ shn_undef
  pub section : Section
  pub found : slice_get l.sections part.section ≡ Some section
  pub room : IsSet section.flags shf_alloc

-- the image is only for debuggers, which read the program itself elsewhere (GNU Binutils, "objcopy": `--only-keep-debug`)
abbrev pub IsForDebuggers : Layout → Type 0
IsForDebuggers l = l.options.only_keep_debug ≡ true

-- Only the header is written of the section. The image is only for debuggers; the section has memory and is not a note, by which
-- debuggers find the image (gABI, "Sections": SHT_NOTE).
pub record IsHeaderOnlySection (l : Layout) (s : Section) : Type 0 where
  pub bare : IsForDebuggers l
  pub room : IsSet s.flags shf_alloc
  pub other : s.kind ≢ sht_note

-- the part is in such a section, other than section 0
pub record IsHeaderOnly (l : Layout) (p : Part) : Type 0 where
  pub named : p.section ≢ shn_undef
  pub section : Section
  pub found : slice_get l.sections p.section ≡ Some section
  pub only : IsHeaderOnlySection l section

-- the part is in a section other than section 0 with bytes in the file (gABI, "Section Header", sh_type: SHT_NOBITS)
pub record HasFileBytes (l : Layout) (n : ℕ) : Type 0 where
  pub part : Part
  pub listed : slice_get l.parts n ≡ Some part
  pub named : part.section ≢ shn_undef
  pub section : Section
  pub found : slice_get l.sections part.section ≡ Some section
  pub filled : section.kind ≢ sht_nobits
  pub written : IsHeaderOnly l part → ⊥

-- the input section is not discarded; its address is not 0, or its part has no memory
pub record IsPlaced (l : Layout) (s : InputSection) : Type 0 where
  pub kept : s.slot ≢ slot.Discard
  pub address : (s.address ≢ 0) ⊎ (IsAllocatedPart l s.part → ⊥)
