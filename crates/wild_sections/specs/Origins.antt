-- The input of items.
--   ending_errors place e    the fault at which the frames of a section end, if there is one
use Rattle.std.specs.Prelude.{List, map, Option, option_to_list}
use Rattle.wild_types.specs.declared.fault.Error.{Error}
use Rattle.wild_frames.specs.declared.entry.BadFrame.{BadFrame}
use Rattle.wild_layout.specs.Faults.{frame_refusal}
use Rattle.wild_sections.specs.declared.place.InputPlace.{InputPlace}

-- the fault at which the frames of the section at that place end
abbrev pub ending_errors : InputPlace → Option BadFrame → List Error
ending_errors place e = map (frame_refusal place.group place.file place.section) (option_to_list e)
