use Rattle.std.proofs.Common.{◌-◌, length}
use Rattle.wild_placement.specs.FrameInputs.{frames_of}
use Rattle.wild_placement.proofs.KeepLemmas.{Keeps}
use Rattle.wild_placement.proofs.kept_frames.keep_from.Given as goal

abbrev pub invariant-loop-kept : goal.invariant-loop-kept
invariant-loop-kept l = Keeps (frames_of l.frames.layout.now l.frames.file.now l.frames.section.now) l.walk l.kept.bytes.items l.kept.origins.items l.kept.moved.items l.kept.fault

abbrev pub decreases-loop-kept : goal.decreases-loop-kept
decreases-loop-kept l = length (frames_of l.frames.layout.now l.frames.file.now l.frames.section.now).bytes - l.walk.at
