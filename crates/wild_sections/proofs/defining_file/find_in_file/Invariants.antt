use Rattle.std.proofs.Common.{◌≡◌, ℕ, ◌<◌, ◌&&◌, length, get_or, Some, None, nat_le, nat_lt, if◌then◌else◌}
use Rattle.std.specs.Option.{option_or}
use Rattle.wild_sections.proofs.defining_file.find_in_file.Given as goal

abbrev pub invariant-loop-i : goal.invariant-loop-i
invariant-loop-i l =
    (k : ℕ) → k < length l.owners → get_or l.owners k None ≡ (if nat_le l.file.first_symbol k && nat_lt k l.i then option_or (get_or l.initial.owners k None) (Some l.owner) else get_or l.initial.owners k None)
