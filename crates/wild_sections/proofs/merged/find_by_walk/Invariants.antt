use Rattle.std.proofs.Common.{◌≡◌, drop}
use Rattle.std.specs.Option.{option_or}
use Rattle.wild_layout.specs.Merged.{string_before}
use Rattle.wild_sections.proofs.merged.find_by_walk.Given as goal

abbrev pub invariant-loop-string : goal.invariant-loop-string
invariant-loop-string l = option_or (string_before (drop l.string-index l.strings) l.byte) l.last ≡ string_before l.strings l.byte
