use Rattle.std.proofs.Common.{◌-◌, length}
use Rattle.wild_placement.specs.FrameInputs.{frames_of}
use Rattle.wild_placement.proofs.FrameLemmas.{Gives}
use Rattle.wild_placement.proofs.give.give_kept.Given as goal

abbrev pub invariant-loop-found : goal.invariant-loop-found
invariant-loop-found g l = Gives g.S.Sink.goes g.S.Sink.refuses (frames_of l.frames.layout.now l.frames.file.now l.frames.section.now) l.initial.sink l.walk l.sink

abbrev pub decreases-loop-found : goal.decreases-loop-found
decreases-loop-found g l = length (frames_of l.frames.layout.now l.frames.file.now l.frames.section.now).bytes - l.walk.at
