-- The places of an image's tables.
--   table_bytes l r  all that the groups contribute to the part of a role
--   IsPiece l at bs  the bytes are a piece of the image at a file offset
--   HasTable l r     the part of a role has exactly these bytes, as consecutive pieces
use Rattle.std.specs.Prelude.{◌≡◌, false, ℕ, ◌+◌, ◌<◌, ◌≤◌, [], length, take, Contains, slice_index_or, List, Some, None}
use Rattle.std.specs.List.{flat_map}
use Rattle.wild_records.specs.FileHeader.{file_header_size}
use Rattle.wild_types.specs.declared.part.Part.{Part}
use Rattle.wild_types.specs.declared.part.Role.{Role}
use Rattle.wild_types.specs.declared.part.Role.TheVariants as role
use Rattle.wild_types.specs.declared.file.Group.{Group}
use Rattle.wild_types.specs.declared.layout.Layout.{Layout}
use Rattle.wild_types.specs.Lookups.{image_size, is_header_only_at}
use Rattle.wild_types.specs.Lists.{total}
use Rattle.wild_types.specs.Parts.{part_with}
use Rattle.wild_needs.specs.DynamicStrings.{needed_entries}
use Rattle.wild_records.specs.declared.dynamic.DynamicEntry.{DynamicEntry}
use Rattle.wild_table_formats.specs.Headers.{offset_of_role, file_header_bytes, program_header_bytes, section_header_bytes}
use Rattle.wild_layout.specs.Content.{content}
use Rattle.wild_layout.specs.Image.{pieces, bytes}

-- all that the groups contribute to the part of a role, consecutively
abbrev pub table_bytes : Layout → Role → List ℕ
table_bytes l r = flat_map (content l r) l.groups

-- the entries of all libraries in the dynamic section, group by group
abbrev pub all_needed : Layout → List DynamicEntry
all_needed l = flat_map (needed_entries l) l.groups

-- the bytes are within the image at a file offset, and are a piece of it if there are some
pub record IsPiece (l : Layout) (at : ℕ) (bs : List ℕ) : Type 0 where
  pub within : at + length bs ≤ image_size l
  pub listed : 1 ≤ length bs → Contains (pieces l) (record { at = at; bytes = bs })

-- the number of these bytes that the groups before number `group` contribute
abbrev pub bytes_before : Layout → Role → ℕ → ℕ
bytes_before l r group = total (λ (g : Group). length (content l r g)) (take group l.groups)

-- the part has that role and the size of these bytes; unless its section is omitted, each group's bytes are a piece of the image after
-- those of the groups before it
pub record TableLies (l : Layout) (r : Role) (p : Part) : Type 0 where
  pub listed : Contains l.parts p
  pub has : p.role ≡ r
  pub size : length (table_bytes l r) ≡ p.size
  pub ends : is_header_only_at l p.section ≡ false → 1 ≤ p.size → p.offset + p.size ≤ image_size l
  pub pieces : is_header_only_at l p.section ≡ false → (j : ℕ) (g : Group) → j < length l.groups → 1 ≤ length (content l r (slice_index_or l.groups j g))
      → Contains (pieces l) (record { at = p.offset + bytes_before l r j; bytes = content l r (slice_index_or l.groups j g) })

-- this holds for the part of a role if there is one; otherwise there are no such bytes
pub record HasTable (l : Layout) (r : Role) : Type 0 where
  pub there : (p : Part) → part_with r l.parts ≡ Some p → TableLies l r p
  pub missing : part_with r l.parts ≡ None → table_bytes l r ≡ []

-- the tables of the image, at the offsets in the file header
pub record HasTables (l : Layout) : Type 0 where
  pub file_header : IsPiece l 0 (file_header_bytes l)
  pub program_headers : IsPiece l file_header_size (program_header_bytes l)
  pub section_headers : IsPiece l (offset_of_role role.SectionHeaders l.parts) (section_header_bytes l)
