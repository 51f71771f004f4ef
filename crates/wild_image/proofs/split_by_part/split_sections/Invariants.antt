use Rattle.wild_image.proofs.Common.{◌≡◌, [], ◌++◌, ℕ, ◌<◌, length, get_or, take, flat_map, ranged_owned, ranged_in}
use Rattle.wild_image.proofs.AppendLemmas.{IsPlacedAfter}
use Rattle.wild_image.proofs.split_by_part.split_sections.Given as goal

abbrev pub invariant-loop-section : goal.invariant-loop-section
invariant-loop-section l =
    ((k : ℕ) → k < length l.parts → get_or l.parts k [] ≡ get_or l.initial.parts k [] ++ flat_map (ranged_in l.layout l.file k) (take l.section-index l.file.sections))
    × IsPlacedAfter (ranged_owned l.layout l.file) l.file.sections l.bytes l.rest l.section-index
