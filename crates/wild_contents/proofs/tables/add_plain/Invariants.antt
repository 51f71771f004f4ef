use Rattle.std.proofs.Common.{◌≡◌, ◌++◌, take}
use Rattle.std.specs.List.{flat_map}
use Rattle.wild_layout.specs.Content.{file_content}
use Rattle.wild_contents.proofs.tables.add_plain.Given as goal

abbrev pub invariant-loop-file : goal.invariant-loop-file
invariant-loop-file g l = l.bytes ≡ l.initial.bytes ++ flat_map (file_content l.resolved.layout.now l.role) (take l.file-index l.files)
