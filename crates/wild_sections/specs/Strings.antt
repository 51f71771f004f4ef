-- Merged strings, as the writer searches them.
--   offsets_ascend reach ss   the strings are sorted by offset, and the first begins at `reach` or after it
--   last_string_up_to last s x            string s if it begins at byte x or before it, otherwise the previous one
--   all_ascend l              the strings of each section are sorted by offset
use Rattle.std.specs.Prelude.{ℕ, Bool, true, ◌&&◌, nat_le, if◌then◌else◌, List, [], ◌∷◌, Option, Some}
use Rattle.std.specs.List.{list_all}
use Rattle.wild_types.specs.declared.input.InputSection.{InputSection}
use Rattle.wild_types.specs.declared.input.MergedString.{MergedString}
use Rattle.wild_types.specs.declared.file.File.{File}
use Rattle.wild_types.specs.declared.file.Group.{Group}
use Rattle.wild_types.specs.declared.layout.Layout.{Layout}

-- the strings are sorted by offset, and the first begins at `reach` or after it
abbrev pub offsets_ascend : ℕ → List MergedString → Bool
offsets_ascend reach [] = true
offsets_ascend reach (s ∷ ss) = nat_le reach s.offset && offsets_ascend s.offset ss

abbrev pub section_ascends : InputSection → Bool
section_ascends s = offsets_ascend 0 s.strings

-- the strings of each section are sorted by offset
abbrev pub all_ascend : Layout → Bool
all_ascend l = list_all (λ (g : Group). list_all (λ (f : File). list_all section_ascends f.sections) g.files) l.groups

abbrev pub last_string_up_to : Option MergedString → MergedString → ℕ → Option MergedString
last_string_up_to last s x = if nat_le s.offset x then Some s else last
