use Rattle.std.proofs.Common.{◌≡◌, ◌+◌, ◌-◌, ◌*◌}
use Rattle.wild_records.specs.SectionHeader.{section_header_size}
use Rattle.wild_loader.specs.Headers.{section_headers}
use Rattle.wild_imports.specs.SymbolCount.{dynsym_size}
use Rattle.wild_imports.proofs.count.dynsym_size.Given as goal

abbrev pub invariant-loop-i : goal.invariant-loop-i
invariant-loop-i l =
    dynsym_size (section_headers l.image (l.sections.count - l.i) (l.sections.start + section_header_size * l.i))
    ≡ dynsym_size (section_headers l.image l.sections.count l.sections.start)
