use Rattle.std.proofs.Common.{◌≡◌, drop}
use Rattle.std.specs.Prelude.{bytes_eq, codes, find}
use Rattle.wild_types.specs.declared.section.Section.{Section}
use Rattle.wild_needs.proofs.entry.text_start.Given as goal

abbrev pub invariant-loop-section : goal.invariant-loop-section
invariant-loop-section l = find (λ (s : Section). bytes_eq s.name (codes ".text")) (drop l.section-index l.section-items) ≡ find (λ (s : Section). bytes_eq s.name (codes ".text")) l.layout.sections
