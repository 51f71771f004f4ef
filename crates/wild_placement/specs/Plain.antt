-- Files that are placed unchanged.
--   IsPlacedUnchanged s     the section holds no frames, is no table of relocations, and its words are not reversed
--   ArePlacedUnchanged f   this holds for each section of a file
use Rattle.std.specs.Prelude.{◌≡◌, ℕ, false, All}
use Rattle.wild_types.specs.declared.input.InputSection.{InputSection}
use Rattle.wild_types.specs.declared.file.File.{File}
use Rattle.wild_types.specs.declared.file.Group.{Group}
use Rattle.wild_types.specs.declared.layout.Layout.{Layout}
use Rattle.wild_types.specs.Kinds.{is_partial_link}
use Rattle.wild_types.specs.Lookups.{is_frame, is_rela}
use Rattle.wild_placement.specs.PlacedSections.{placed_file, placed_files}

-- the section holds no frames, is no table of relocations, and its words are not reversed
pub record IsPlacedUnchanged (s : InputSection) : Type 0 where
  pub frame : is_frame s.slot ≡ false
  pub table : is_rela s.slot ≡ false
  pub reversed : s.reversed ≡ false

abbrev pub ArePlacedUnchanged : File → Type 0
ArePlacedUnchanged f = All IsPlacedUnchanged f.sections

-- such a file is placed unchanged, unless the output is a relocatable object
abbrev pub PlainFileIsUnchanged : Type 0
PlainFileIsUnchanged = (l : Layout) (at : ℕ) (f : File) → is_partial_link l.kind ≡ false → ArePlacedUnchanged f → placed_file l at f ≡ f

-- the same for the files of a group
abbrev pub PlainFilesAreUnchanged : Type 0
PlainFilesAreUnchanged = (l : Layout) (g : Group) → is_partial_link l.kind ≡ false → All ArePlacedUnchanged g.files → placed_files l g ≡ g.files
