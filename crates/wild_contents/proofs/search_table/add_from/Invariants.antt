use Rattle.std.proofs.Common.{◌≡◌, ◌++◌, ◌-◌, length}
use Rattle.std.specs.List.{flat_map}
use Rattle.wild_frames.specs.Frames.{start, rest_of}
use Rattle.wild_frames.specs.Walks.{state_of, Fits}
use Rattle.wild_placement.specs.FrameInputs.{frames_of}
use Rattle.wild_contents.specs.SearchTable.{found_fdes}
use Rattle.wild_contents.proofs.search_table.add_from.Given as goal

abbrev pub invariant-loop-walk : goal.invariant-loop-walk
invariant-loop-walk g l = let fs = frames_of l.frames.layout.now l.frames.file.now l.frames.section.now in record {
  fits : Fits fs (state_of l.walk) l.walk.relocation;
  fdes : l.fdes.items ++ flat_map (found_fdes l.resolved.layout.now fs l.at) (rest_of fs (state_of l.walk)) ≡ l.initial.fdes.items ++ flat_map (found_fdes l.resolved.layout.now fs l.at) (rest_of fs start);
}

abbrev pub decreases-loop-walk : goal.decreases-loop-walk
decreases-loop-walk g l = length (frames_of l.frames.layout.now l.frames.file.now l.frames.section.now).bytes - l.walk.at
