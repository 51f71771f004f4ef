use Rattle.std.proofs.Common.{◌≡◌, ◌+◌, ◌≤◌, drop}
use Rattle.wild_needs.specs.SectionSymbols.{singletons_in}
use Rattle.wild_needs.proofs.section_symbols.singletons_of.Given as goal

abbrev pub invariant-loop-section : goal.invariant-loop-section
invariant-loop-section l = record {
  rest : l.count + singletons_in (drop l.section-index l.section-items) ≡ singletons_in l.section-items;
  few : l.count ≤ l.section-index;
}
