-- Places of input sections and parts.
--   SectionLies l s  an input section's bytes and fields are within its part, which is within the image
--   HasWords m s     a reversed section consists of whole words, and each relocation applies to one of them
--   FrontLies l k bs bytes at the front of part k are within it
--   PartLies l i p   the groups' shares add up to the part's size; a part that is not raw is within the image
use Rattle.std.specs.Prelude.{◌≡◌, ℕ, ◌+◌, ◌%◌, ◌^◌, ◌<◌, ◌≤◌, true, ◌⊎◌, List, length, All, slice_get, false, Some}
use Rattle.wild_types.specs.declared.kind.Machine.{Machine}
use Rattle.wild_types.specs.declared.part.Part.{Part}
use Rattle.wild_types.specs.declared.part.Role.TheVariants as role
use Rattle.wild_types.specs.declared.input.InputRelocation.{InputRelocation}
use Rattle.wild_types.specs.declared.input.InputSection.{InputSection}
use Rattle.wild_types.specs.declared.file.Group.{Group}
use Rattle.wild_types.specs.declared.layout.Layout.{Layout}
use Rattle.wild_types.specs.Lookups.{image_size, is_filled, has_fields, has_written_relocations, is_header_only_at, has_data, takes_file_bytes}
use Rattle.wild_types.specs.declared.file.File.{File}
use Rattle.wild_layout.specs.Sites.{section_bytes}
use Rattle.wild_types.specs.Rows.{field_bytes}
use Rattle.wild_types.specs.FilePlaces.{given}
use Rattle.wild_types.specs.Lists.{total}
use Rattle.wild_types.specs.Parts.{has_role}
use Rattle.wild_layout.specs.Content.{content}
use Rattle.wild_layout.specs.Image.{offset_in}

-- the relocation writes no field, or one that is within n bytes
abbrev pub FieldLies : Machine → ℕ → InputRelocation → Type 0
FieldLies m n r = (field_bytes m r.number ≡ 0) ⊎ (r.offset + field_bytes m r.number ≤ n)

-- the file ranges of two parts are disjoint
abbrev pub RangesApart : Part → Part → Type 0
RangesApart p q = (p.offset + p.size ≤ q.offset) ⊎ (q.offset + q.size ≤ p.offset)

-- part k is raw, has bytes in the file, and has room for n bytes at the address
pub record HasRoom (l : Layout) (k at n : ℕ) (p : Part) : Type 0 where
  pub listed : slice_get l.parts k ≡ Some p
  pub raw : p.role ≡ role.Raw
  pub takes : takes_file_bytes l p.section ≡ true
  pub from : p.address ≤ at
  pub to : at + n ≤ p.address + p.size

-- the part has room for the input section
abbrev pub StandsIn : Layout → InputSection → Part → Type 0
StandsIn l s p = HasRoom l s.part s.address s.size p

-- an input section with bytes in the image is within its part, and these bytes are within the image
pub record OwnerLies (l : Layout) (s : InputSection) : Type 0 where
  pub part : s.part < length l.parts
  pub stands : (p : Part) × StandsIn l s p
  pub ends : offset_in (slice_get l.parts s.part) s.address + s.size ≤ image_size l

pub record SectionLies (l : Layout) (s : InputSection) : Type 0 where
  pub small : s.address + s.size ≤ 2 ^ 62
  pub bytes : has_written_relocations s ≡ true → length s.bytes ≡ s.size
  pub fields : has_fields s.slot ≡ true → All (FieldLies l.machine s.size) s.relocations
  pub long : is_filled l s ≡ true → (f : File) → length (section_bytes l f s) ≡ s.size
  pub owner : is_filled l s ≡ true → OwnerLies l s
  pub part : s.part < length l.parts

-- the relocation's field is an aligned word of 8 bytes, within n bytes
pub record IsWord (m : Machine) (n : ℕ) (r : InputRelocation) : Type 0 where
  pub begins : r.offset % 8 ≡ 0
  pub wide : field_bytes m r.number ≡ 8
  pub within : r.offset + 8 ≤ n

-- the section consists of words of 8 bytes, and each relocation applies to one
pub record HasWords (m : Machine) (s : InputSection) : Type 0 where
  pub whole : s.size % 8 ≡ 0
  pub bytes : length s.bytes ≡ s.size
  pub fields : All (IsWord m s.size) s.relocations

-- bytes at the front of a raw part are within it, and within the image unless its section is omitted
pub record FrontLies (l : Layout) (k : ℕ) (bs : List ℕ) : Type 0 where
  pub part : Part
  pub listed : slice_get l.parts k ≡ Some part
  pub raw : part.role ≡ role.Raw
  pub holds : 1 ≤ length bs → has_data l part.section ≡ true
  pub within : length bs ≤ part.size
  pub ends : 1 ≤ length bs → is_header_only_at l part.section ≡ false → part.offset + length bs ≤ image_size l

-- the groups' shares add up to the part's size. If the part is not raw, each share is the size of the group's content, and the part
-- is within the image unless its section is omitted
pub record PartLies (l : Layout) (i : ℕ) (p : Part) : Type 0 where
  pub low : p.offset + p.size ≤ 2 ^ 62
  pub address : p.address + p.size ≤ 2 ^ 62
  pub shares : total (given i) l.groups ≡ p.size
  pub tables : has_role role.Raw p ≡ false → All (λ (g : Group). length (content l p.role g) ≡ given i g) l.groups
  pub ends : has_role role.Raw p ≡ false → is_header_only_at l p.section ≡ false → 1 ≤ p.size → p.offset + p.size ≤ image_size l
