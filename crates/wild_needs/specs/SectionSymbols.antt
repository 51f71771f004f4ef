-- The number of section symbols of a relocatable object, file by file (gABI, "Symbol Table": STT_SECTION).
--   singletons_of f      the number of input sections of a file that the object keeps as sections of their own
--   singleton_count l   the number of such sections of all files
use Rattle.std.specs.Prelude.{ℕ, List, length, option_to_list}
use Rattle.wild_types.specs.declared.input.InputSection.{InputSection}
use Rattle.wild_types.specs.declared.file.File.{File}
use Rattle.wild_types.specs.declared.file.Group.{Group}
use Rattle.wild_types.specs.declared.layout.Layout.{Layout}
use Rattle.wild_types.specs.Lists.{total}

abbrev pub singletons_in : List InputSection → ℕ
singletons_in ss = total (λ (s : InputSection). length (option_to_list s.singleton)) ss

abbrev pub singletons_of : File → ℕ
singletons_of f = singletons_in f.sections

abbrev pub singletons_of_group : Group → ℕ
singletons_of_group g = total singletons_of g.files

abbrev pub singleton_count : Layout → ℕ
singleton_count l = total singletons_of_group l.groups
