use Rattle.std.proofs.Common.{◌≡◌, ◌+◌, ◌++◌, drop, string_bytes}
use Rattle.wild_text.specs.SpaceAnswer.{bind_lines}
use Rattle.wild_text.proofs.space_lines.push_binds.Given as goal

abbrev pub invariant-loop-place : goal.invariant-loop-place
invariant-loop-place l = string_bytes l.out ++ bind_lines l.order l.image (l.place + 1) (drop l.place l.binds) ≡ string_bytes l.initial.out ++ bind_lines l.order l.image 1 l.binds
