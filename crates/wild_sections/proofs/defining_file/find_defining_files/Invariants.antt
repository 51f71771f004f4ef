use Rattle.std.proofs.Common.{◌≡◌, ℕ, ◌<◌, length, get_or, drop, None}
use Rattle.std.specs.Option.{option_or}
use Rattle.wild_sections.specs.DefiningFiles.{defining_file_among}
use Rattle.wild_sections.proofs.defining_file.find_defining_files.Given as goal

abbrev pub invariant-loop-i : goal.invariant-loop-i
invariant-loop-i l =
    (k : ℕ) → k < length l.owners → option_or (get_or l.owners k None) (defining_file_among l.i (drop l.i l.groups) k) ≡ option_or (get_or l.initial.owners k None) (defining_file_among 0 l.groups k)
