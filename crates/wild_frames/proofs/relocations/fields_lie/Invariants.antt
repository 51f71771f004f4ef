use Rattle.std.proofs.Common.{◌≡◌, ◌+◌, nat_le, drop}
use Rattle.std.specs.List.{list_all}
use Rattle.wild_frames.proofs.relocations.fields_lie.Given as goal

abbrev pub invariant-loop-relocation : goal.invariant-loop-relocation
invariant-loop-relocation g l =
    list_all (λ r. nat_le (r.offset + (g.F.FrameSource.frames l.frames).width r) l.end) (drop l.relocation-index l.own) ≡ list_all (λ r. nat_le (r.offset + (g.F.FrameSource.frames l.frames).width r) l.end) l.own
