use Rattle.wild_image.proofs.Common.{◌≡◌, ◌-◌, ◌^◌, ℕ, List, length, take, min, flat_map}
use Rattle.wild_image.proofs.marks.strings_size.Given as goal

abbrev pub invariant-loop-string : goal.invariant-loop-string
invariant-loop-string l = l.size ≡ min (2 ^ 64 - 1) (length (flat_map (λ (s : List ℕ). s) (take l.string-index l.strings)))
