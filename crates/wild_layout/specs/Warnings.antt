-- The warnings that accompany the image of a layout.
use Rattle.std.specs.Prelude.{List, option_to_list}
use Rattle.wild_types.specs.declared.layout.Layout.{Layout}
use Rattle.wild_types.specs.declared.warning.EntryWarning.{EntryWarning}
use Rattle.wild_needs.specs.EntryPoint.{entry_point}

-- the program starts at an address that the layout does not give (gABI, "ELF Header", e_entry)
abbrev pub warnings : Layout → List EntryWarning
warnings l = option_to_list (entry_point l).warning
