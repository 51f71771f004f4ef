-- The image, the counts and the faults of a layout after a change.
--   ChangedBytes     the image is as before, with the pieces of the changed group over it
--   changed_counts   the counts of relocations with that of one section corrected
--   ChangedCounts    these are the counts after the change
--   ChangedErrors    a change that may be made has the faults of its own group alone
--   ChangedTotal     the number of all relocations after the change
--   OthersHaveNone   groups that are not changed have no faults if the layout had none
use Rattle.std.specs.Prelude.{◌≡◌, ℕ, ◌+◌, ◌-◌, ◌&&◌, not, if◌then◌else◌, List, [], length, Some, slice_get}
use Rattle.wild_words.specs.Overlay.{overlay}
use Rattle.wild_types.specs.declared.input.InputSection.{InputSection}
use Rattle.wild_types.specs.declared.file.Group.{Group}
use Rattle.wild_types.specs.declared.layout.Layout.{Layout}
use Rattle.wild_types.specs.HeaderOnly.{is_omitted}
use Rattle.wild_types.specs.Kinds.{is_partial_link}
use Rattle.wild_types.specs.Lookups.{is_counted, section_of}
use Rattle.wild_change.specs.declared.change.Change.{Change}
use Rattle.wild_change.specs.Change.{found_section, with_item, changed_group, changed_layout}
use Rattle.wild_plan_rules.specs.Places.{relocation_count}
use Rattle.wild_layout.specs.Faults.{group_errors, errors}
use Rattle.wild_layout.specs.Geometry.{IsLaidOut}
use Rattle.wild_layout.specs.Image.{group_pieces, bytes, counts}
use Rattle.wild_outlines.specs.MayChange.{MayChange}

-- both layouts have everything in its place, and the changed section keeps its length
abbrev pub ChangedBytes : Type 0
ChangedBytes =
    (l : Layout) (c : Change) (s : InputSection) (g : Group) → found_section l c ≡ Some s → length c.bytes ≡ length s.bytes → slice_get l.groups c.group ≡ Some g
    → IsLaidOut l → IsLaidOut (changed_layout l c)
    → bytes (changed_layout l c) ≡ overlay (group_pieces (changed_layout l c) c.group (changed_group c g)) (bytes l)

-- the counts of relocations, where section s is given those of the change: its output section has as many less as s had, and as many
-- more as the change has, unless none is counted of s
abbrev pub changed_counts : Layout → Change → InputSection → List ℕ
changed_counts l c s =
    if not (is_partial_link l.kind) && (is_counted s && not (is_omitted l s))
    then with_item (λ n. n + length c.relocations - length s.relocations) (section_of l s.part) (counts l)
    else counts l

abbrev pub ChangedCounts : Type 0
ChangedCounts = (l : Layout) (c : Change) (s : InputSection) → found_section l c ≡ Some s → counts (changed_layout l c) ≡ changed_counts l c s

-- all sections together have as many relocations less as s had, and as many more as the change has
abbrev pub ChangedTotal : Type 0
ChangedTotal = (l : Layout) (c : Change) (s : InputSection) → found_section l c ≡ Some s → relocation_count (changed_layout l c) + length s.relocations ≡ relocation_count l + length c.relocations

-- in a layout without faults, a group as it was before the change has none after it
abbrev pub OthersHaveNone : Type 0
OthersHaveNone =
    (l : Layout) (c : Change) (s : InputSection) (j : ℕ) (g : Group) → found_section l c ≡ Some s → length c.bytes ≡ length s.bytes → errors l ≡ []
    → slice_get l.groups j ≡ Some g → group_errors (changed_layout l c) j g ≡ []

-- if the layout has no faults and the change may be made, the faults of the changed layout are those of the changed group
abbrev pub ChangedErrors : Type 0
ChangedErrors =
    (l : Layout) (c : Change) (s : InputSection) (g : Group) → errors l ≡ [] → MayChange l c s → slice_get l.groups c.group ≡ Some g
    → errors (changed_layout l c) ≡ group_errors (changed_layout l c) c.group (changed_group c g)
