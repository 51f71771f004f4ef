use Rattle.wild_placer.proofs.Common.{◌≡◌, drop, [], load_segments}
use Rattle.wild_placer.proofs.plain.add_segments.Given as goal

abbrev pub invariant-loop-segment : goal.invariant-loop-segment
invariant-loop-segment l = load_segments l.base l.image (drop l.segment-index l.headers) l.runs ≡ load_segments l.base l.image l.headers []
