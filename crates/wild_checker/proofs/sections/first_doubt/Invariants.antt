use Rattle.wild_checker.proofs.Common.{◌≡◌, drop, first_cursor, first_doubt}
use Rattle.wild_checker.specs.Loaded.{loaded_now}
use Rattle.wild_checker.proofs.sections.first_doubt.Given as goal

abbrev pub invariant-loop-i : goal.invariant-loop-i
invariant-loop-i l = first_doubt (loaded_now l.loaded) l.file l.section l.cursor l.i (drop l.i l.section.relocations) ≡ first_doubt (loaded_now l.loaded) l.file l.section first_cursor 0 l.section.relocations
