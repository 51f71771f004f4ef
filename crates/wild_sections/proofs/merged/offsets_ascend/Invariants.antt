use Rattle.std.proofs.Common.{◌≡◌, drop}
use Rattle.wild_sections.specs.Strings.{offsets_ascend}
use Rattle.wild_sections.proofs.merged.offsets_ascend.Given as goal

abbrev pub invariant-loop-string : goal.invariant-loop-string
invariant-loop-string l = offsets_ascend l.reach (drop l.string-index l.strings) ≡ offsets_ascend 0 l.strings
