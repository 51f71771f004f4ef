-- What no change of a section alters, if the section keeps its length.
--   outline_section s   the section: of one that may be changed, its contents are zeros, and it has no relocations
--   outline_file f, outline_group g   the same of all sections
--   outline l           the layout without the contents of the sections that may be changed
use Rattle.std.specs.Prelude.{ℕ, if◌then◌else◌, [], length, map, replicate}
use Rattle.wild_types.specs.declared.input.InputSection.{InputSection}
use Rattle.wild_types.specs.declared.file.File.{File}
use Rattle.wild_types.specs.declared.file.Group.{Group}
use Rattle.wild_types.specs.declared.layout.Layout.{Layout}
use Rattle.wild_change.specs.Change.{is_changeable}

-- of a section that may be changed the number of bytes is left, but neither their values nor the relocations
abbrev pub outline_section : InputSection → InputSection
outline_section s = record s {
  bytes = if is_changeable s.slot then replicate (length s.bytes) 0 else s.bytes;
  relocations = if is_changeable s.slot then [] else s.relocations;
}

abbrev pub outline_file : File → File
outline_file f = record f { sections = map outline_section f.sections }

abbrev pub outline_group : Group → Group
outline_group g = record g { files = map outline_file g.files }

-- the layout without the contents of the sections that may be changed
abbrev pub outline : Layout → Layout
outline l = record l { groups = map outline_group l.groups }
