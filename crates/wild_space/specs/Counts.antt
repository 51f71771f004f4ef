-- How many extents of a list have a number.
--   has_number es a    1 if one of them has it, otherwise 0
--   count a ess        how many of the lists have it
--   cut reach es       extents in order of their starts, each without the numbers of those before it
use Rattle.std.specs.Prelude.{◌≡◌, ℕ, ◌+◌, ◌≤◌, if◌then◌else◌, nat_le, max, min, List, [], ◌∷◌, ◌++◌, Some, None}
use Rattle.wild_words.specs.declared.extents.Extent.{Extent}
use Rattle.wild_words.specs.Extents.{total}
use Rattle.wild_space.specs.Overlaps.{least_in_two}

-- the part of an extent after reach
abbrev pub kept : ℕ → Extent → List Extent
kept reach e = if nat_le e.end reach then [] else (record { start = max e.start reach; end = e.end } ∷ [])

-- extents in order of their starts, each without the numbers of those before it, which end at reach
unfoldable pub cut : ℕ → List Extent → List Extent
cut reach [] = []
cut reach (e ∷ es) = kept reach e ++ cut (max reach e.end) es

-- 1 if one of the extents has a number, otherwise 0
abbrev pub has_number : List Extent → ℕ → ℕ
has_number es a = min 1 (total a es)

-- how many of the lists have a number
abbrev pub count : ℕ → List (List Extent) → ℕ
count a [] = 0
count a (es ∷ ess) = has_number es a + count a ess

-- ---- laws

-- two of the lists have the number, and no two have a lower one
pub record IsLeastInTwo (ess : List (List Extent)) (a : ℕ) : Type 0 where
  pub two : 2 ≤ count a ess
  pub lower : (b : ℕ) → 2 ≤ count b ess → a ≤ b

abbrev pub LeastIsLeast : Type 0
LeastIsLeast = (ess : List (List Extent)) (a : ℕ) → least_in_two ess ≡ Some a → IsLeastInTwo ess a

-- if there is none, no number is in two of the lists
abbrev pub NoneIsInOne : Type 0
NoneIsInOne = (ess : List (List Extent)) → least_in_two ess ≡ None → (a : ℕ) → count a ess ≤ 1
