-- How many entries there are.
use Rattle.std.proofs.Common.{◌≡◌, ℕ, List, [], ◌∷◌, length, refl, arith}
use Rattle.wild_needs.specs.DynamicStrings.{offset_after_string}
use Rattle.wild_table_formats.specs.DynamicEntries.{NamedFields, entries_at}

pub length-entries_at : (ns : List NamedFields) (at : ℕ) → length (entries_at at ns) ≡ length ns
unfolding entries_at
length-entries_at [] at = refl
length-entries_at (n ∷ ns) at = let e = length-entries_at ns (offset_after_string at n.name) in omega (arith, e)
