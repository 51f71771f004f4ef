-- The positions of the symbols' files.
--   defining_file_if o f k          position o, if file f, which is there, has symbol k
--   defining_file_among 0 gs k      the position of the first file of the groups that has symbol k
--   file_at l o             the file at that position
--   layout_needs_owner_files l           relocations depend on the file that defines a symbol
--   HasDefiningFiles l owners      a table of these positions for all symbols, if relocations depend on them
use Rattle.std.specs.Prelude.{◌≡◌, ℕ, ◌+◌, ◌<◌, Bool, true, not, ◌||◌, if◌then◌else◌, List, [], ◌∷◌, length, Option, Some, None, option_and_then, slice_get, slice_index_or}
use Rattle.std.specs.Option.{option_or}
use Rattle.wild_types.specs.declared.file.File.{File}
use Rattle.wild_types.specs.declared.file.Group.{Group}
use Rattle.wild_types.specs.declared.layout.Layout.{Layout}
use Rattle.wild_types.specs.Kinds.{is_partial_link}
use Rattle.wild_placement.specs.FrameInputs.{has_symbol}
use Rattle.wild_sections.specs.declared.defining_file.DefiningFile.{DefiningFile}
use Rattle.wild_plan_rules.specs.MergedSections.{are_unmerged}

-- position o, if the file there has symbol k
abbrev pub defining_file_if : DefiningFile → File → ℕ → Option DefiningFile
defining_file_if o f k = if has_symbol f k then Some o else None

-- the position of the first file of a group that has symbol k, counted from i
abbrev pub defining_file_in : ℕ → ℕ → List File → ℕ → Option DefiningFile
defining_file_in group i [] k = None
defining_file_in group i (f ∷ fs) k = option_or (defining_file_if (record { group = group; file = i }) f k) (defining_file_in group (i + 1) fs k)

-- the same for the groups from number j on
abbrev pub defining_file_among : ℕ → List Group → ℕ → Option DefiningFile
defining_file_among j [] k = None
defining_file_among j (g ∷ gs) k = option_or (defining_file_in j 0 g.files k) (defining_file_among (j + 1) gs k)

-- the file at a position
abbrev pub file_at : Layout → DefiningFile → Option File
file_at l o = option_and_then (λ (g : Group). slice_get g.files o.file) (slice_get l.groups o.group)

-- relocations depend on the file that defines a symbol if there are merged sections, and in a relocatable output
abbrev pub layout_needs_owner_files : Layout → Bool
layout_needs_owner_files l = is_partial_link l.kind || not (are_unmerged l)

-- the table of these positions, if there is one
pub record HasDefiningFiles (l : Layout) (owners : List (Option DefiningFile)) : Type 0 where
  pub count : layout_needs_owner_files l ≡ true → length owners ≡ length l.symbols
  pub all : (k : ℕ) → k < length owners → slice_index_or owners k None ≡ defining_file_among 0 l.groups k
