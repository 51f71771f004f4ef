use Rattle.std.proofs.Common.{◌≡◌, ◌++◌, drop, string_bytes}
use Rattle.wild_text.specs.SpaceAnswer.{lines_from, space_text}
use Rattle.wild_text.proofs.space_lines.space_answer.Given as goal

abbrev pub invariant-loop-place : goal.invariant-loop-place
invariant-loop-place l = string_bytes l.out ++ lines_from l.order l.place (drop l.place l.binds) ≡ space_text l.order l.binds
