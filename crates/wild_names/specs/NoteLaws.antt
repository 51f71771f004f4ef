-- The single items in an image besides its tables of names: the path of the interpreter (gABI, "Program Interpreter"), the notes
-- (gABI, "Note Section"), and the search table of frames (LSB, "The .eh_frame_hdr section").
--   HoldsJust l r bs   the part of a role has exactly these bytes
--   NotesAreWritten         the interpreter's path, the build id and the properties are in their parts
--   SearchTablesAreWritten  the search table has the frames of all files; the search itself is a law about tables of frames
use Rattle.std.specs.Prelude.{◌≡◌, ℕ, ◌≤◌, true, false, List, length, Some}
use Rattle.wild_words.specs.Words.{HasBytesAt}
use Rattle.wild_types.specs.declared.part.Part.{Part}
use Rattle.wild_types.specs.declared.part.Role.{Role}
use Rattle.wild_types.specs.declared.part.Role.TheVariants as role
use Rattle.wild_types.specs.declared.layout.Layout.{Layout}
use Rattle.wild_types.specs.Lookups.{is_header_only_at}
use Rattle.wild_types.specs.Parts.{part_with}
use Rattle.wild_frames.specs.Table.{table_of}
use Rattle.wild_layout.specs.Image.{bytes}
use Rattle.wild_layout.specs.Notes.{build_id_note, property_note}
use Rattle.wild_layout.specs.SearchTable.{address_of_role, layout_fdes}
use Rattle.wild_layout.specs.Geometry.{IsLaidOut}

-- the part of a role, if there is one with bytes that are written, has exactly these bytes
abbrev pub HoldsJust : Layout → Role → List ℕ → Type 0
HoldsJust l r bs = (p : Part) → part_with r l.parts ≡ Some p → is_header_only_at l p.section ≡ false → 1 ≤ p.size → (length bs ≡ p.size) × HasBytesAt (bytes l) p.offset bs

-- the path of the interpreter, the note of the build id, and that of the properties
pub record NotesAreWritten : Type 0 where
  pub interpreter : (l : Layout) → IsLaidOut l → HoldsJust l role.Interp l.interp
  pub build_id : (l : Layout) → IsLaidOut l → HoldsJust l role.BuildId (build_id_note l.build_id)
  pub properties : (l : Layout) → IsLaidOut l → HoldsJust l role.Property (property_note l.properties)

-- the search table of the frames of all files, if the option requires one
abbrev pub SearchTablesAreWritten : Type 0
SearchTablesAreWritten = (l : Layout) → IsLaidOut l → l.options.eh_frame_hdr ≡ true → HoldsJust l role.EhFrameHdr (table_of (address_of_role l role.EhFrameHdr) (address_of_role l role.EhFrame) (layout_fdes l))
