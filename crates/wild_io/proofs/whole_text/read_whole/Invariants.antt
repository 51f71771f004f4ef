use Rattle.std.proofs.Common.{◌≡◌, ◌≤◌, ◌-◌, vec_len}
use Rattle.std.specs.Io.KnownBytes.{Consumes}
use Rattle.wild_io.proofs.whole_text.read_whole.Given as goal

abbrev pub invariant-turns : goal.invariant-turns
invariant-turns g l = record {
  within : vec_len l.bytes ≤ l.limit;
  read : Consumes (g.S.Source.unread_bytes l.initial.source) (g.S.Source.unread_bytes l.source) l.bytes.items;
  calm : g.S.Source.faults l.source ≡ g.S.Source.faults l.initial.source;
}

abbrev pub decreases-turns : goal.decreases-turns
decreases-turns g l = l.limit - vec_len l.bytes
