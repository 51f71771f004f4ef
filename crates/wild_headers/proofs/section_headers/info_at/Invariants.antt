use Rattle.std.proofs.Common.{◌≡◌, drop}
use Rattle.wild_table_formats.specs.Headers.{info_at}
use Rattle.wild_headers.proofs.section_headers.info_at.Given as goal

abbrev pub invariant-loop-number : goal.invariant-loop-number
invariant-loop-number l = info_at (drop l.number-index l.infos) l.i l.given ≡ info_at l.infos l.i l.given
