use Rattle.wild_image.proofs.Common.{◌≡◌, ◌++◌, List, ℕ, take, flat_map}
use Rattle.wild_image.proofs.buffer.add_strings.Given as goal

abbrev pub invariant-loop-string : goal.invariant-loop-string
invariant-loop-string l = l.bytes ≡ l.initial.bytes ++ flat_map (λ (s : List ℕ). s) (take l.string-index l.strings)
