use Rattle.wild_image.proofs.Common.{◌≡◌, map, take, table_given}
use Rattle.wild_image.proofs.AppendLemmas.{IsPlacedAfter}
use Rattle.wild_image.proofs.split_by_part.split_tables.Given as goal

abbrev pub invariant-loop-i : goal.invariant-loop-i
invariant-loop-i l =
    (l.parts.items ≡ map (table_given l.layout l.group) (take l.i l.layout.parts))
    × IsPlacedAfter (table_given l.layout l.group) l.layout.parts l.bytes l.rest l.i
