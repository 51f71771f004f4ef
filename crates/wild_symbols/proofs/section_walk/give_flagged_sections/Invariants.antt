use Rattle.std.proofs.Common.{drop}
use Rattle.wild_needs.specs.TableSymbols.{marked_sections}
use Rattle.wild_words.specs.Runs.{RestOfWalk}
use Rattle.wild_symbols.proofs.section_walk.give_flagged_sections.Given as goal

abbrev pub invariant-loop-i : goal.invariant-loop-i
invariant-loop-i g l = RestOfWalk g.S.Sink.goes g.S.Sink.refuses l.initial.sink (marked_sections 0 l.sections) l.sink (marked_sections l.i (drop l.i l.sections))
