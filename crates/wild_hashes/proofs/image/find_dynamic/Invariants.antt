use Rattle.std.proofs.Common.{◌≡◌, ◌+◌, ◌-◌, ◌*◌}
use Rattle.wild_records.specs.ProgramHeader.{program_header_size}
use Rattle.wild_loader.specs.Headers.{program_headers}
use Rattle.wild_loader.specs.Tables.{first_dynamic}
use Rattle.wild_hashes.proofs.image.find_dynamic.Given as goal

abbrev pub invariant-loop-i : goal.invariant-loop-i
invariant-loop-i l =
    first_dynamic (program_headers l.image (l.headers.count - l.i) (l.headers.start + program_header_size * l.i))
    ≡ first_dynamic (program_headers l.image l.headers.count l.headers.start)
