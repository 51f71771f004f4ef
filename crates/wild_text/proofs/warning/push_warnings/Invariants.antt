use Rattle.std.proofs.Common.{◌≡◌, ◌++◌, take, string_bytes}
use Rattle.std.specs.List.{flat_map}
use Rattle.wild_text.specs.Answer.{warning_line}
use Rattle.wild_text.proofs.warning.push_warnings.Given as goal

abbrev pub invariant-loop-warning : goal.invariant-loop-warning
invariant-loop-warning l = string_bytes l.out ≡ string_bytes l.initial.out ++ flat_map (warning_line l.layout) (take l.warning-index l.warnings)
