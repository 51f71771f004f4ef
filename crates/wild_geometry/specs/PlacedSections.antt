-- The sections of a layout as placed in the output: reversed ones with their words in reverse order, frames as their kept
-- entries, and the sorted ones after those of the last file.
--   IsSectionOfFile l f owner s   the file writes the section; its branches use the owner's block of thunks
--   IsPlacedSection l s         the section belongs to one of the layout's files
--   IsKeptPlacedSection l s     it has data, is loaded and written
--   KeptItemsArePlaced         an item that the layout keeps comes from such a section, except in a relocatable object
--   file_place l s     the file offset of such a section; for frames, within their part
use Rattle.std.specs.Prelude.{◌≡◌, ℕ, true, false, if◌then◌else◌, Contains, slice_get}
use Rattle.wild_types.specs.declared.part.Part.{Part}
use Rattle.wild_types.specs.declared.part.Role.TheVariants as role
use Rattle.wild_types.specs.declared.input.InputSection.{InputSection}
use Rattle.wild_types.specs.declared.file.File.{File}
use Rattle.wild_types.specs.declared.file.Group.{Group}
use Rattle.wild_types.specs.declared.layout.Layout.{Layout}
use Rattle.wild_types.specs.Item.{Item, item_of}
use Rattle.wild_types.specs.FileRoles.{is_epilogue}
use Rattle.wild_types.specs.HeaderOnly.{is_omitted}
use Rattle.wild_types.specs.Kinds.{is_partial_link}
use Rattle.wild_types.specs.Lookups.{is_read, is_frame, allocated}
use Rattle.wild_types.specs.Parts.{part_with}
use Rattle.wild_placement.specs.ReversedWords.{with_word_order}
use Rattle.wild_placement.specs.PlacedSections.{Input, placed_files, sorted_inputs}
use Rattle.wild_layout.specs.Geometry.{IsLaidOut}
use Rattle.wild_layout.specs.Image.{offset_in}
use Rattle.wild_meaning.specs.Item.{IsKept}

-- the section is the file's own, or a sorted one of the owner, which is written with the last file
pub data IsSectionOfFile (l : Layout) (f owner : File) (s : InputSection) : Type 0 where
  Own : owner ≡ f → Contains f.sections s → IsSectionOfFile l f owner s
  Ordered : is_epilogue f.role ≡ true → (x : Input) → Contains (sorted_inputs l) x → owner ≡ x.file → s ≡ with_word_order x.section → IsSectionOfFile l f owner s

-- the section belongs to a file of the layout
pub record IsPlacedSection (l : Layout) (s : InputSection) : Type 0 where
  pub group : Group
  pub grouped : Contains l.groups group
  pub file : File
  pub filed : Contains (placed_files l group) file
  pub owner : File
  pub listed : IsSectionOfFile l file owner s

-- it has data, is loaded and written; frames are loaded with their part
pub record IsKeptPlacedSection (l : Layout) (s : InputSection) : Type 0 where
  pub input : IsPlacedSection l s
  pub reads : is_read s ≡ true
  pub room : is_frame s.slot ≡ false → allocated s.flags ≡ true
  pub written : is_omitted l s ≡ false

-- an item that the layout keeps comes from such a section, except in a relocatable object, whose sections are written without
-- applying relocations
pub record IsPlacedItem (l : Layout) (item : Item) : Type 0 where
  pub section : InputSection
  pub kept : IsKeptPlacedSection l section
  pub is : item ≡ item_of l kept.input.owner section

abbrev pub KeptItemsArePlaced : Type 0
KeptItemsArePlaced = (l : Layout) (item : Item) → is_partial_link l.kind ≡ false → IsLaidOut l → IsKept l item → IsPlacedItem l item

-- the file offset of a section; for frames, within their part
abbrev pub file_place : Layout → InputSection → ℕ
file_place l s = offset_in (if is_frame s.slot then part_with role.EhFrame l.parts else slice_get l.parts s.part) s.address
