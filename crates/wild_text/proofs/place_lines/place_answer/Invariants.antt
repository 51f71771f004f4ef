use Rattle.std.proofs.Common.{◌≡◌, ◌≤◌, ◌++◌, drop}
use Rattle.wild_text.specs.PlaceAnswer.{place_lines, place_text}
use Rattle.wild_text.proofs.place_lines.place_answer.Given as goal

abbrev pub invariant-loop-segment : goal.invariant-loop-segment
invariant-loop-segment l = record {
  rest : l.out.items ++ place_lines l.base (drop l.segment-index l.segments) l.place l.runs ≡ place_text l.base l.segments l.runs;
  few : l.place ≤ l.segment-index;
}
