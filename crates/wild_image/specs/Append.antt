-- Bytes that are taken from the front of a list of bytes.
--   BeginsWith own bytes   the list begins with these bytes
--   HasRest own from to     `to` is the rest of `from` after these bytes
--   HasStarts l j starts   the number of bytes that the groups before group j write of each part
--   GivesItsShares l g     the group's content of each table has the length of its share
--   HasRolesOnce l         each role except raw has one part
--   FileLies l f           all bytes of a file are within the image; EachFileLies l says it of all files
--   GroupStands l g        the placed sections of a group's files are within the image
use Rattle.std.specs.Prelude.{◌≡◌, ℕ, ◌<◌, ◌≤◌, ◌^◌, true, false, List, [], ◌∷◌, ◌++◌, length, if◌then◌else◌, All, Contains, Option, Some, None, slice_get, slice_index, slice_index_or}
use Rattle.wild_types.specs.declared.part.Part.{Part}
use Rattle.wild_types.specs.declared.part.Role.{Role}
use Rattle.wild_types.specs.declared.part.Role.TheVariants.{Raw}
use Rattle.wild_types.specs.declared.file.File.{File}
use Rattle.wild_types.specs.declared.file.Group.{Group}
use Rattle.wild_types.specs.declared.layout.Layout.{Layout}
use Rattle.wild_types.specs.declared.input.InputSection.{InputSection}
use Rattle.wild_types.specs.declared.layout.Merged.{Merged}
use Rattle.wild_types.specs.declared.layout.SortedSection.{SortedSection}
use Rattle.wild_types.specs.FileRoles.{is_prelude, is_epilogue}
use Rattle.wild_types.specs.Kinds.{is_partial_link}
use Rattle.wild_types.specs.Lookups.{has_range, is_counted, is_rela, is_debug, is_header_only_part}
use Rattle.wild_placement.specs.ReversedWords.{with_word_order}
use Rattle.wild_placement.specs.PlacedSections.{Input, placed_sections, address_after, file_frames, frames_at, sorted_input}
use Rattle.wild_types.specs.FilePlaces.{given}
use Rattle.wild_types.specs.FileThunks.{thunks_of}
use Rattle.wild_types.specs.Parts.{role_place, part_with, has_role}
use Rattle.wild_layout.specs.Content.{content}
use Rattle.wild_layout.specs.Image.{shares_before}
use Rattle.wild_layout.specs.Image.{merged_bytes}
use Rattle.wild_layout.specs.SectionPlaces.{SectionLies, HasWords, FrontLies, PartLies}
use Rattle.wild_image.specs.Pieces.{placed_in_range, written}
use Rattle.wild_layout.specs.ThunkPlaces.{ThunkLies}

-- the list begins with these bytes
abbrev pub BeginsWith : List ℕ → List ℕ → Type 0
BeginsWith own bytes = (rest : List ℕ) × (bytes ≡ own ++ rest)

-- the rest after these bytes
abbrev pub HasRest : List ℕ → List ℕ → List ℕ → Type 0
HasRest own from to = (rest : List ℕ) → from ≡ own ++ rest → to ≡ rest

-- the number of bytes that the groups before group j write of part k
abbrev pub start_of : Layout → ℕ → ℕ → Option Part → ℕ
start_of l j k None = 0
start_of l j k (Some p) = written l p (shares_before l k j)

-- the same for each part
pub record HasStarts (l : Layout) (j : ℕ) (starts : List ℕ) : Type 0 where
  pub count : length starts ≡ length l.parts
  pub each : (k : ℕ) → k < length starts → slice_index starts k ≡ start_of l j k (slice_get l.parts k)

-- each part's place is in the image, and its groups' shares fit in it
abbrev pub EachPartLies : Layout → Type 0
EachPartLies l = (i : ℕ) (p : Part) → i < length l.parts → PartLies l i (slice_index_or l.parts i p)

-- the group's content of each table has the length of its share; of raw parts it has none
abbrev pub GivesItsShares : Layout → Group → Type 0
GivesItsShares l g = (i : ℕ) (p : Part) → slice_get l.parts i ≡ Some p → length (content l p.role g) ≡ (if has_role Raw p then 0 else given i g)

-- each role except raw has one part
abbrev pub HasRolesOnce : Layout → Type 0
HasRolesOnce l = (r : Role) (p : Part) → (role_place r ≡ 0 → ⊥) → Contains l.parts p → p.role ≡ r → part_with r l.parts ≡ Some p

-- a section of a file that has a range in its part is within the image, as placed
abbrev pub RangedLies : Layout → File → InputSection → Type 0
RangedLies l f s = has_range s.slot ≡ true → SectionLies l (placed_in_range l f s)

-- a sorted input section is within the image
abbrev pub InputLies : Layout → Input → Type 0
InputLies l x = SectionLies l (with_word_order x.section)

abbrev pub SortedLies : Layout → SortedSection → Type 0
SortedLies l x = All (InputLies l) (sorted_input l x)

-- bytes at the front of a part, if there are some, are within the image
abbrev pub SomeLies : Layout → ℕ → List ℕ → Type 0
SomeLies l k bs = 1 ≤ length bs → FrontLies l k bs

pub record MergedLies (l : Layout) (m : Merged) : Type 0 where
  pub front : SomeLies l m.part (merged_bytes m)
  pub small : length (merged_bytes m) < 2 ^ 64

-- all bytes of a file are within the image: its input sections, its thunks, the sorted input sections of the last file, and the
-- merged strings and the identity of the first
pub record FileLies (l : Layout) (f : File) : Type 0 where
  pub sections : All (RangedLies l f) f.sections
  pub sorted : is_epilogue f.role ≡ true → All (SortedLies l) l.sorted
  pub merged : is_prelude f.role ≡ true → All (MergedLies l) l.merged
  pub identity : is_prelude f.role ≡ true → SomeLies l l.identity.part l.identity.bytes
  pub thunks : is_header_only_part l l.primary_part ≡ false → All (ThunkLies l) (thunks_of l f)

abbrev pub EachFileLies : Layout → Type 0
EachFileLies l = All (λ (g : Group). All (FileLies l) g.files) l.groups

-- ---- placed sections

-- a reversed section consists of whole words, and each of its relocations applies to one
abbrev pub CanBeReversed : Layout → InputSection → Type 0
CanBeReversed l s = is_counted s ≡ true → s.reversed ≡ true → HasWords l.machine s

-- relocation tables are in relocatable outputs only, debug sections in others only
pub record IsOfKind (l : Layout) (s : InputSection) : Type 0 where
  pub table : is_rela s.slot ≡ true → is_partial_link l.kind ≡ true
  pub debug : is_debug s.slot ≡ true → is_partial_link l.kind ≡ false

-- a sorted input section is within the image, and can be reversed if it is to be
pub record InputStands (l : Layout) (x : Input) : Type 0 where
  pub lies : InputLies l x
  pub reversed_section : CanBeReversed l x.section

abbrev pub SortedStands : Layout → SortedSection → Type 0
SortedStands l x = All (InputStands l) (sorted_input l x)

-- the placed sections of a file whose frames begin at an address, and the sorted input sections if it is the last file, are within the image
pub record FileStands (l : Layout) (at : ℕ) (f : File) : Type 0 where
  pub lies : All (SectionLies l) (placed_sections l f at f.sections)
  pub reversed_section : All (CanBeReversed l) f.sections
  pub kinds : All (IsOfKind l) f.sections
  pub sorted : is_epilogue f.role ≡ true → All (SortedStands l) l.sorted

-- the same for consecutive files
abbrev pub StandFrom : Layout → ℕ → List File → Type 0
StandFrom l at [] = Unit {0}
StandFrom l at (f ∷ fs) = FileStands l at f × StandFrom l (address_after at (file_frames l f)) fs

unfoldable pub GroupStands : Layout → Group → Type 0
GroupStands l g = StandFrom l (frames_at l g) g.files

abbrev pub EachStands : Layout → Type 0
EachStands l = All (GroupStands l) l.groups
