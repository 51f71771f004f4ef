-- A change of one input section of a layout.
--   is_changeable slot   sections of that slot may be changed: they are loaded, or debug sections
--   found_section l c    the section of the layout that the change names, if it may be changed
--   with_item f i xs     the list with item i replaced by f of it
--   changed_section c s  the section with the bytes and the relocations of the change; changed_file and changed_group likewise
--   changed_layout l c   the layout after the change
use Rattle.std.specs.Prelude.{ℕ, zero, suc, Bool, true, false, if◌then◌else◌, List, [], ◌∷◌, Option, Some, None, option_and_then, slice_get}
use Rattle.wild_types.specs.declared.input.InputSection.{InputSection}
use Rattle.wild_types.specs.declared.input.Slot.{Slot}
use Rattle.wild_types.specs.declared.input.Slot.TheVariants as slot
use Rattle.wild_types.specs.declared.file.File.{File}
use Rattle.wild_types.specs.declared.file.Group.{Group}
use Rattle.wild_types.specs.declared.layout.Layout.{Layout}
use Rattle.wild_change.specs.declared.change.Change.{Change}

-- a loaded section, or one that debuggers read
abbrev pub is_changeable : Slot → Bool
is_changeable slot.Loaded = true
is_changeable slot.Debug = true
is_changeable other = false

abbrev pub if_changeable : InputSection → Option InputSection
if_changeable s = if is_changeable s.slot then Some s else None

abbrev pub section_in_file : Change → File → Option InputSection
section_in_file c f = slice_get f.sections c.section

abbrev pub section_in_group : Change → Group → Option InputSection
section_in_group c g = option_and_then (section_in_file c) (slice_get g.files c.file)

-- the section that the change names, if there is one and it may be changed
abbrev pub found_section : Layout → Change → Option InputSection
found_section l c = option_and_then if_changeable (option_and_then (section_in_group c) (slice_get l.groups c.group))

-- the list with item i replaced by f of it; the list itself if it has no item i
abbrev pub with_item : {X : Type 0} → (X → X) → ℕ → List X → List X
with_item f i [] = []
with_item f zero (x ∷ xs) = f x ∷ xs
with_item f (suc i) (x ∷ xs) = x ∷ with_item f i xs

abbrev pub changed_section : Change → InputSection → InputSection
changed_section c s = record s { bytes = c.bytes; relocations = c.relocations }

abbrev pub changed_file : Change → File → File
changed_file c f = record f { sections = with_item (changed_section c) c.section f.sections }

abbrev pub changed_group : Change → Group → Group
changed_group c g = record g { files = with_item (changed_file c) c.file g.files }

-- the layout after the change: only the bytes and the relocations of that section differ
abbrev pub changed_layout : Layout → Change → Layout
changed_layout l c = record l { groups = with_item (changed_group c) c.group l.groups }
