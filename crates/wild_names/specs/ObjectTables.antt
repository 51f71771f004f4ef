-- The relocation tables and the groups of a relocatable object (gABI, "Relocation", "Section Groups").
--   entry_of l t r      the entry of a relocation of an input section, as placed
--   HasTable l f s      each relocation of the table's target has its entry, and there are no others
--   HasGroup l s        the group has its flags, and the section index of each member
--   ObjectTablesAreWritten   this holds in the image of a relocatable object without faults
use Rattle.std.specs.Prelude.{◌≡◌, ℕ, ◌+◌, ◌*◌, ◌%◌, ◌^◌, true, [], take, length, Some, Contains, slice_get}
use Rattle.std.specs.Int.{w64, cast_signed}
use Rattle.wild_words.specs.Words.{word, HasBytesAt}
use Rattle.wild_words.specs.Record.{spell}
use Rattle.wild_records.specs.Relocations.{rela_size, rela_fields}
use Rattle.wild_records.specs.declared.relocations.Rela.{Rela}
use Rattle.wild_types.specs.declared.input.Slot.TheVariants as slot
use Rattle.wild_types.specs.declared.input.InputRelocation.{InputRelocation}
use Rattle.wild_types.specs.declared.input.InputSection.{InputSection}
use Rattle.wild_types.specs.declared.file.File.{File}
use Rattle.wild_types.specs.declared.file.Group.{Group}
use Rattle.wild_types.specs.declared.layout.Layout.{Layout}
use Rattle.wild_types.specs.Kinds.{is_partial_link}
use Rattle.wild_placement.specs.ReversedWords.{with_word_order}
use Rattle.wild_placement.specs.PlacedSections.{base_of}
use Rattle.wild_table_formats.specs.SectionSymbols.{named_index}
use Rattle.wild_layout.specs.SymbolValues.{sum}
use Rattle.wild_layout.specs.Partial.{shift}
use Rattle.wild_layout.specs.Faults.{errors}
use Rattle.wild_layout.specs.Image.{bytes, offset_in}

-- a section of a file of the layout
pub record IsSectionOf (l : Layout) (f : File) (s : InputSection) : Type 0 where
  pub group : Group
  pub grouped : Contains l.groups group
  pub filed : Contains group.files f
  pub listed : Contains f.sections s

-- its offset in the image
abbrev pub place_in : Layout → InputSection → ℕ
place_in l s = offset_in (slice_get l.parts s.part) s.address

-- The entry of a relocation of section t: its field's offset in t's output section, its type, the symbol's number in the object,
-- and the addend. If the input's symbol is a section symbol, the addend is relative to the output's section.
abbrev pub entry_of : Layout → InputSection → InputRelocation → Rela
entry_of l t r = record { offset = (base_of t + r.offset) % 2 ^ 64; number = r.number; symbol = named_index l r.symbol % 2 ^ 32; addend = cast_signed w64 (sum (shift l r.symbol) r.addend) }

-- The table has a target in its file, and entry k is 24 * k bytes after its start. For a target with reversed words the entries
-- have the offsets of the reversed words.
pub record HasTable (l : Layout) (f : File) (s : InputSection) : Type 0 where
  pub target : InputSection
  pub listed : slice_get f.sections s.target ≡ Some target
  pub whole : s.size ≡ rela_size * length target.relocations
  pub each : (k : ℕ) (r : InputRelocation) → slice_get (with_word_order target).relocations k ≡ Some r → HasBytesAt (bytes l) (place_in l s + rela_size * k) (spell (rela_fields (entry_of l target r)))

-- the group's flags are the input's, followed by the section index of each member
pub record HasGroup (l : Layout) (s : InputSection) : Type 0 where
  pub flags : HasBytesAt (bytes l) (place_in l s) (take 4 s.bytes)
  pub whole : s.size ≡ 4 + 4 * length s.members
  pub each : (k m : ℕ) → slice_get s.members k ≡ Some m → HasBytesAt (bytes l) (place_in l s + 4 + 4 * k) (word 4 m)

-- this holds in the image of a relocatable object without faults
pub record ObjectTablesAreWritten : Type 0 where
  pub tables : (l : Layout) (f : File) (s : InputSection) → is_partial_link l.kind ≡ true → errors l ≡ [] → IsSectionOf l f s → s.slot ≡ slot.Rela → HasTable l f s
  pub groups : (l : Layout) (f : File) (s : InputSection) → is_partial_link l.kind ≡ true → errors l ≡ [] → IsSectionOf l f s → s.slot ≡ slot.Group → HasGroup l s
