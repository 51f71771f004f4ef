-- The input sections that a relocatable object keeps as sections of their own, file by file and group by group.
use Rattle.std.specs.Prelude.{ℕ, List, option_to_list}
use Rattle.std.specs.List.{flat_map}
use Rattle.wild_types.specs.declared.input.InputSection.{InputSection}
use Rattle.wild_types.specs.declared.file.File.{File}
use Rattle.wild_types.specs.declared.file.Group.{Group}
use Rattle.wild_types.specs.declared.layout.Layout.{Layout}

abbrev pub singletons_in : File → List ℕ
singletons_in f = flat_map (λ (s : InputSection). option_to_list s.singleton) f.sections

abbrev pub singletons_in_groups : Layout → List ℕ
singletons_in_groups l = flat_map (λ (g : Group). flat_map singletons_in g.files) l.groups
