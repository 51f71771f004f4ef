use Rattle.wild_image.proofs.Common.{◌≡◌, take, overlay_prefix, table_given, table_piece, flat_map_from}
use Rattle.wild_image.proofs.AppendLemmas.{IsPlacedAfter}
use Rattle.wild_image.proofs.TableLemmas.{AreMoved}
use Rattle.wild_image.proofs.append.append_tables.Given as goal

abbrev pub invariant-loop-i : goal.invariant-loop-i
invariant-loop-i l = record {
  image : l.out ≡ overlay_prefix (flat_map_from (table_piece l.layout l.index l.group) 0 (take l.i l.layout.parts)) l.initial.out;
  rest : IsPlacedAfter (table_given l.layout l.group) l.layout.parts l.bytes l.rest l.i;
  starts : AreMoved l.layout l.index l.initial.starts l.i l.starts;
}
