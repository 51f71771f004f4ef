use Rattle.wild_checker.proofs.Common.{◌≡◌, drop, first_cursor, changed_gap}
use Rattle.wild_checker.specs.Loaded.{loaded_now}
use Rattle.wild_checker.proofs.sections.changed_gap.Given as goal

abbrev pub invariant-loop-relocation : goal.invariant-loop-relocation
invariant-loop-relocation l = changed_gap (loaded_now l.loaded) l.file l.section l.cursor (drop l.relocation-index l.section.relocations) ≡ changed_gap (loaded_now l.loaded) l.file l.section first_cursor l.section.relocations
