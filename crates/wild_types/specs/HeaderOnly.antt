-- What a debug file (`--only-keep-debug`) leaves out of an image.
--   is_header_only_role l r   the first part of a role is in a section of which only the header is written
--   is_omitted l s       the input section is omitted
--   KeepsAll l           the image is no debug file: all is written
use Rattle.std.specs.Prelude.{◌≡◌, Bool, false, if◌then◌else◌}
use Rattle.wild_types.specs.declared.input.InputSection.{InputSection}
use Rattle.wild_types.specs.declared.layout.Layout.{Layout}
use Rattle.wild_types.specs.declared.part.Role.{Role}
use Rattle.wild_types.specs.declared.part.Role.TheVariants as role
use Rattle.wild_types.specs.Lookups.{section_of_part, is_header_only_at, is_header_only_part, is_frame}
use Rattle.wild_types.specs.Parts.{part_with}

-- the first part of a role is in a section of which only the header is written
abbrev pub is_header_only_role : Layout → Role → Bool
is_header_only_role l r = is_header_only_at l (section_of_part (part_with r l.parts))

-- only the header is written of the section that contains the input section's part; frames belong to the part of frames
abbrev pub is_omitted : Layout → InputSection → Bool
is_omitted l s = if is_frame s.slot then is_header_only_role l role.EhFrame else is_header_only_part l s.part

-- the image is no debug file: all is written
abbrev pub KeepsAll : Layout → Type 0
KeepsAll l = l.options.only_keep_debug ≡ false
