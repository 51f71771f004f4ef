use Rattle.std.proofs.Common.{◌≡◌, drop}
use Rattle.wild_frames.specs.Frames.{malformed_in}
use Rattle.wild_frames.proofs.relocations.malformed_in.Given as goal

abbrev pub invariant-loop-relocation : goal.invariant-loop-relocation
invariant-loop-relocation l = malformed_in (drop l.relocation-index l.relocations) ≡ malformed_in l.relocations
