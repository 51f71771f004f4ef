use Rattle.std.proofs.Common.{◌≡◌, ◌+◌, ◌∷◌, [], ◌++◌, length, take}
use Rattle.std.specs.List.{flat_map}
use Rattle.wild_types.specs.Lists.{total}
use Rattle.wild_headers.proofs.section_names.write_section_names.Given as goal

abbrev pub invariant-loop-section : goal.invariant-loop-section
invariant-loop-section l =
    (l.at ≡ total (λ s. length s.name + 1) (take l.section-index l.section-items))
    × (take l.at l.out ≡ flat_map (λ s. s.name ++ 0 ∷ []) (take l.section-index l.section-items))
