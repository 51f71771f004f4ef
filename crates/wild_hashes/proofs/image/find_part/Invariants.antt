use Rattle.std.proofs.Common.{◌≡◌, ◌+◌, ◌-◌, ◌*◌}
use Rattle.wild_records.specs.ProgramHeader.{program_header_size}
use Rattle.wild_loader.specs.Headers.{program_headers}
use Rattle.wild_hashes.specs.Image.{part_at}
use Rattle.wild_hashes.proofs.image.find_part.Given as goal

abbrev pub invariant-loop-i : goal.invariant-loop-i
invariant-loop-i l =
    part_at l.image (program_headers l.image (l.headers.count - l.i) (l.headers.start + program_header_size * l.i)) l.address
    ≡ part_at l.image (program_headers l.image l.headers.count l.headers.start) l.address
