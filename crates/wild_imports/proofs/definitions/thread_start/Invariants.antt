use Rattle.std.proofs.Common.{◌≡◌, ◌+◌, ◌-◌, ◌*◌}
use Rattle.wild_records.specs.ProgramHeader.{program_header_size}
use Rattle.wild_loader.specs.Headers.{program_headers}
use Rattle.wild_imports.specs.Imports.{thread_address}
use Rattle.wild_imports.proofs.definitions.thread_start.Given as goal

abbrev pub invariant-loop-i : goal.invariant-loop-i
invariant-loop-i l =
    thread_address (program_headers l.image (l.tables.headers.count - l.i) (l.tables.headers.start + program_header_size * l.i))
    ≡ thread_address (program_headers l.image l.tables.headers.count l.tables.headers.start)
