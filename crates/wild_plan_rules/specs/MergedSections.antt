-- Whether a layout has sections of merged strings.
--   is_unmerged s    the input section is not one of merged strings
--   are_unmerged l   no input section of the layout is one
use Rattle.std.specs.Prelude.{Bool, true, false}
use Rattle.std.specs.List.{list_all}
use Rattle.wild_types.specs.declared.input.Slot.{Slot}
use Rattle.wild_types.specs.declared.input.Slot.TheVariants as slot
use Rattle.wild_types.specs.declared.input.InputSection.{InputSection}
use Rattle.wild_types.specs.declared.file.File.{File}
use Rattle.wild_types.specs.declared.file.Group.{Group}
use Rattle.wild_types.specs.declared.layout.Layout.{Layout}

abbrev pub is_other_slot : Slot → Bool
is_other_slot slot.Merge = false
is_other_slot other = true

-- the section has no merged strings
abbrev pub is_unmerged : InputSection → Bool
is_unmerged s = is_other_slot s.slot

-- no section has merged strings
abbrev pub are_unmerged : Layout → Bool
are_unmerged l = list_all (λ (g : Group). list_all (λ (f : File). list_all is_unmerged f.sections) g.files) l.groups
