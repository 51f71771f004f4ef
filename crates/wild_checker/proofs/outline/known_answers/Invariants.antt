use Rattle.wild_checker.proofs.Common.{◌≡◌, drop, replicate}
use Rattle.wild_terms.specs.declared.outline.KnownAnswer.TheVariants.{Foreign}
use Rattle.wild_checker.specs.Outline.{with_symbols}
use Rattle.wild_checker.proofs.outline.known_answers.Given as goal

abbrev pub invariant-loop-i : goal.invariant-loop-i
invariant-loop-i l = with_symbols l.layout l.i (drop l.i l.layout.symbols) l.answers.items ≡ with_symbols l.layout 0 l.layout.symbols (replicate l.count Foreign)
