use Rattle.std.proofs.Common.{◌≡◌, ℕ, ◌<◌, length, get_or, drop, None}
use Rattle.std.specs.Option.{option_or}
use Rattle.wild_sections.specs.DefiningFiles.{defining_file_in}
use Rattle.wild_sections.proofs.defining_file.find_in_files.Given as goal

abbrev pub invariant-loop-i : goal.invariant-loop-i
invariant-loop-i l =
    (k : ℕ) → k < length l.owners → option_or (get_or l.owners k None) (defining_file_in l.group l.i (drop l.i l.files) k) ≡ option_or (get_or l.initial.owners k None) (defining_file_in l.group 0 l.files k)
