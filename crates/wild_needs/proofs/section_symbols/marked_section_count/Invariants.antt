use Rattle.std.proofs.Common.{◌≡◌, ◌+◌, ◌≤◌, drop, length}
use Rattle.wild_needs.specs.TableSymbols.{marked_sections}
use Rattle.wild_needs.proofs.section_symbols.marked_section_count.Given as goal

abbrev pub invariant-loop-section : goal.invariant-loop-section
invariant-loop-section l = record {
  rest : l.count + length (marked_sections l.section-index (drop l.section-index l.sections)) ≡ length (marked_sections 0 l.sections);
  few : l.count ≤ l.section-index;
}
