use Rattle.std.proofs.Common.{◌≡◌, ◌≤◌, ◌^◌, ◌+◌, ◌-◌, ◌*◌, ◌++◌}
use Rattle.std.specs.Prelude.{All}
use Rattle.wild_words.specs.declared.extents.Extent.{Extent}
use Rattle.wild_records.specs.ProgramHeader.{program_header_size}
use Rattle.wild_loader.specs.Headers.{program_headers}
use Rattle.wild_space.specs.Overlaps.{extents_of}
use Rattle.wild_space.proofs.overlaps.read_extents.Given as goal

abbrev pub invariant-loop-i : goal.invariant-loop-i
invariant-loop-i l = record {
  same : l.extents.items ++ extents_of l.base (program_headers l.image (l.headers.count - l.i) (l.headers.start + program_header_size * l.i)) ≡ extents_of l.base (program_headers l.image l.headers.count l.headers.start);
  low : All (λ (e : Extent). e.end ≤ 2 ^ 64) l.extents.items;
}
