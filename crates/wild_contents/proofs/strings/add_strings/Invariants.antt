use Rattle.std.proofs.Common.{◌≡◌, ◌++◌, take}
use Rattle.wild_table_formats.specs.Strings.{string_bytes}
use Rattle.wild_contents.proofs.strings.add_strings.Given as goal

abbrev pub invariant-loop-text : goal.invariant-loop-text
invariant-loop-text l = l.bytes ≡ l.initial.bytes ++ string_bytes (take l.text-index l.texts)
