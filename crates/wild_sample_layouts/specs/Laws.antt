-- Properties of the plan of n groups, for every n from 1 to 65,536, and of the plans that call a function.
--   NoFaults     the layout has no faults
--   ImageSize    the size of its image
--   Counts       how many relocations of each section are read
--   Numbers      the numbers of its headers fit their fields
--   CallingFaults, CallingNumbers   the same for the layouts that call
use Rattle.std.specs.Prelude.{◌≡◌, ℕ, ◌+◌, ◌*◌, ◌≤◌, [], ◌∷◌}
use Rattle.wild_types.specs.Lookups.{image_size}
use Rattle.wild_layout.specs.Image.{counts}
use Rattle.wild_layout.specs.Numbers.{NumbersFit}
use Rattle.wild_layout.specs.Faults.{errors}
use Rattle.wild_sample_layouts.specs.PlanOfGroups.{plan_of_groups}
use Rattle.wild_sample_layouts.specs.CallingPlans.{calling_static, calling_dynamic, calling_shared, calling_words, calling_words_static, calling_words_shared}

-- the allowed numbers of groups
pub record IsCount (n : ℕ) : Type 0 where
  pub some : 1 ≤ n
  pub few : n ≤ 65536

-- the layout has no faults
abbrev pub NoFaults : Type 0
NoFaults = (n : ℕ) → IsCount n → errors (plan_of_groups n) ≡ []

-- the size of its image
abbrev pub ImageSize : Type 0
ImageSize = (n : ℕ) → IsCount n → image_size (plan_of_groups n) ≡ 344 + 64 * n

-- eight relocations of .text are read for each group
abbrev pub Counts : Type 0
Counts = (n : ℕ) → counts (plan_of_groups n) ≡ 0 ∷ 8 * n ∷ 0 ∷ []

-- the numbers of its headers fit their fields
abbrev pub Numbers : Type 0
Numbers = (n : ℕ) → IsCount n → NumbersFit (plan_of_groups n)

-- ---- calls

-- none of the six layouts has a fault
pub record CallingFaults : Type 0 where
  pub static : errors calling_static ≡ []
  pub dynamic : errors calling_dynamic ≡ []
  pub shared : errors calling_shared ≡ []
  pub words : errors calling_words ≡ []
  pub words_static : errors calling_words_static ≡ []
  pub words_shared : errors calling_words_shared ≡ []

-- the numbers of their headers fit their fields
pub record CallingNumbers : Type 0 where
  pub static : NumbersFit calling_static
  pub dynamic : NumbersFit calling_dynamic
  pub shared : NumbersFit calling_shared
  pub words : NumbersFit calling_words
  pub words_static : NumbersFit calling_words_static
  pub words_shared : NumbersFit calling_words_shared
