-- The section at the place that a change names.
--   section_at l c   that section, whatever its slot
--   IsNamed l c x    x is that section, with its file and its group
--   with_contents_of s c   the change that gives the section at its place the contents of s
use Rattle.std.specs.Prelude.{◌≡◌, Option, Some, option_and_then, slice_get}
use Rattle.wild_types.specs.declared.input.InputSection.{InputSection}
use Rattle.wild_types.specs.declared.layout.Layout.{Layout}
use Rattle.wild_change.specs.declared.change.Change.{Change}
use Rattle.wild_change.specs.Change.{section_in_group}
use Rattle.wild_relinker.specs.declared.find.NamedSection.{NamedSection}

-- the section that the change names, whatever its slot
abbrev pub section_at : Layout → Change → Option InputSection
section_at l c = option_and_then (section_in_group c) (slice_get l.groups c.group)

-- the section at the place that the change names, with its file and its group
pub record IsNamed (l : Layout) (c : Change) (x : NamedSection) : Type 0 where
  pub group : slice_get l.groups c.group ≡ Some x.group.now
  pub file : slice_get x.group.now.files c.file ≡ Some x.file.now
  pub section : slice_get x.file.now.sections c.section ≡ Some x.section.now

-- the change that gives the section at its place the contents of s
abbrev pub with_contents_of : InputSection → Change → Change
with_contents_of s c = record c { bytes = s.bytes; relocations = s.relocations }
