use Rattle.std.proofs.Common.{◌≡◌, drop}
use Rattle.wild_frames.specs.Frames.{unsorted_in}
use Rattle.wild_frames.proofs.relocations.unsorted_in.Given as goal

abbrev pub invariant-loop-relocation : goal.invariant-loop-relocation
invariant-loop-relocation l = unsorted_in l.reach (drop l.relocation-index l.relocations) ≡ unsorted_in 0 l.relocations
