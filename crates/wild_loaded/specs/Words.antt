-- The changes of an image's tables in the memory of its loaded segments.
--   value_at w m x        the number in memory at a place
--   place_change w m x    the change at a packed place
--   entry_change w m e    the change of an entry
use Rattle.std.specs.Prelude.{ℕ, Option, Some, None, [], Result, Ok, Err}
use Rattle.wild_words.specs.Words.{word}
use Rattle.wild_records.specs.declared.relocations.Rela.{Rela}
use Rattle.wild_loader.specs.declared.change.Change.TheVariants as changes
use Rattle.wild_loader.specs.declared.change.Patch.{Patch}
use Rattle.wild_loader.specs.declared.fault.LoadFault.{LoadFault}
use Rattle.wild_loader.specs.declared.memory.Memory.{Memory}
use Rattle.wild_loader.specs.declared.world.World.{World}
use Rattle.wild_loader.specs.Changes.{patch_over}
use Rattle.wild_loader.specs.Memory.{number_in}
use Rattle.wild_loader.specs.Relocate.{loaded_at, rela_patch}

abbrev pub number_or : Option ℕ → ℕ
number_or None = 0
number_or (Some n) = n

-- the number of eight bytes in memory at a loaded place; 0 if it is not loaded
abbrev pub value_at : World → Memory → ℕ → ℕ
value_at w m x = number_or (number_in m (loaded_at w x) 8)

-- the base is added to that number
abbrev pub place_change : World → Memory → ℕ → Patch
place_change w m x = patch_over (loaded_at w x) (changes.Add w.base) (word 8 (value_at w m x))

abbrev pub patch_or : Result Patch LoadFault → Patch
patch_or (Ok p) = p
patch_or (Err f) = patch_over 0 (changes.Fill []) []

-- the change of an entry; none if it has a fault
abbrev pub entry_change : World → Memory → Rela → Patch
entry_change w m e = patch_or (rela_patch w m e)
