use Rattle.std.proofs.Common.{◌≡◌, ◌++◌, take, string_bytes, decimal}
use Rattle.std.specs.Prelude.{codes}
use Rattle.std.specs.List.{flat_map}
use Rattle.wild_text.proofs.space_lines.push_order.Given as goal

abbrev pub invariant-loop-image : goal.invariant-loop-image
invariant-loop-image l = string_bytes l.out ≡ string_bytes l.initial.out ++ flat_map (λ image. codes " " ++ decimal image) (take l.image-index l.order)
