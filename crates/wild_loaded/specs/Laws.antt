-- The memory that a loader makes of the image of a laid out layout, before any entry is applied.
--   OwnersAreKnown         each byte of the image has one owner, or is padding
--   HeadersAreThere           a reader finds the headers, and a loader accepts them
--   HeadersDescribeOutput            the file header has the output's type and entry
--   SegmentsAreLoadable    the segments can be loaded in a legal world
--   SectionsAreInSegments     a kept section with bytes has them in the file, and each is loaded at its address
--   SectionsAreStored      memory has each kept section as the file has it
--   ZerosAreStored         memory is zero after the file bytes of segments
--   BlanksAreStored        memory is zero in sections without data that are in a section with file bytes
--   SlotsAreThere          the slots of a layout without faults are complete
--   PartsAreStored         memory has the tables of slots and stubs
--   SlotsAreStored         memory has each word, each stub and the pair of the output's own thread-local data
--   TextsAreStored         memory has the merged strings, and the path of the interpreter
--   FileBytesAreStored     memory has the file bytes of segments
--   ThunksAreThere         memory has each thunk, if there are no faults
--   DynamicSectionsAreThere   the dynamic section is where its segment is
--   DynamicSectionsInformLinker    it has the information that a dynamic linker needs
--   TablesAreFound         a loader finds the tables that fill addresses and slots through the dynamic section
--   SectionTablesAreFound  without a dynamic section it finds them through their sections
--   EntriesHaveChanges     the changes of entries of slots, fields and copies in a legal world
--   CopiesAreThere         each copied symbol has an answer
use Rattle.std.specs.Prelude.{◌≡◌, ℕ, ◌+◌, ◌*◌, ◌<◌, ◌≤◌, true, false, [], ◌++◌, length, Some, Ok, Contains, slice_get}
use Rattle.wild_types.specs.declared.input.InputSection.{InputSection}
use Rattle.wild_types.specs.Item.{Item, item_of}
use Rattle.wild_types.specs.declared.part.Part.{Part}
use Rattle.wild_types.specs.declared.part.Role.{Role}
use Rattle.wild_slot.specs.declared.slot.SlotWord.{SlotWord}
use Rattle.wild_types.specs.declared.symbol.Symbol.{Symbol}
use Rattle.wild_types.specs.declared.layout.Layout.{Layout}
use Rattle.wild_types.specs.declared.input.InputRelocation.{InputRelocation}
use Rattle.wild_slot.specs.declared.slot.SlotEntry.{SlotEntry}
use Rattle.wild_types.specs.HeaderOnly.{KeepsAll}
use Rattle.wild_types.specs.Kinds.{needs_dynamic}
use Rattle.wild_types.specs.Lookups.{is_header_only_at}
use Rattle.wild_types.specs.ResolvedFlags.{HaveTheirFlags}
use Rattle.wild_types.specs.Parts.{is_loaded_role, part_with}
use Rattle.wild_needs.specs.SlotShares.{word_size, storage_words}
use Rattle.wild_slot.specs.SymbolWords.{slots_of}
use Rattle.wild_types.specs.SymbolSlots.{got_of, plt_of}
use Rattle.wild_table_formats.specs.Headers.{file_header, section_headers_of}
use Rattle.wild_layout.specs.Image.{bytes}
use Rattle.wild_layout.specs.Numbers.{NumbersFit}
use Rattle.wild_layout.specs.Faults.{flat_map_from, group_errors}
use Rattle.wild_layout.specs.TablePlaces.{all_needed}
use Rattle.wild_layout.specs.Geometry.{IsLaidOut}
use Rattle.wild_geometry.specs.Loaded.{IsDecided, HasItem, InFile}
use Rattle.wild_geometry.specs.Carried.{EachPartIsLoaded}
use Rattle.wild_geometry.specs.Thunks.{HasThunks}
use Rattle.wild_reloc.specs.declared.info.RelocationSize.{RelocationSize}
use Rattle.wild_layout.specs.declared.decision.Decision.TheVariants.{DynamicField}
use Rattle.wild_layout.specs.Decide.{decided}
use Rattle.wild_layout.specs.DynamicRelocations.{copy_entry}
use Rattle.wild_slots.specs.Entries.{entry_in}
use Rattle.wild_loader.specs.declared.world.Answer.{Answer}
use Rattle.wild_loader.specs.declared.world.World.{World}
use Rattle.wild_loader.specs.Headers.{is_loadable_header}
use Rattle.wild_loader.specs.Memory.{byte_in}
use Rattle.wild_loader.specs.SegmentLaws.{HasHeaders, AreLoadable}
use Rattle.wild_loader.specs.Laws.{HasDynamic}
use Rattle.wild_table_formats.specs.DynamicSection.{dynamic_records}
use Rattle.wild_meaning.specs.Section.{HasFileBytes}
use Rattle.wild_meaning.specs.World.{IsLoadable, IsLegal, IsPastFileBytes, IsCopied, HasCopy}
use Rattle.wild_geometry.specs.PlacedSections.{IsKeptPlacedSection}
use Rattle.wild_meaning.specs.DynamicSection.{InformsLinker}
use Rattle.wild_meaning.specs.Unfilled.{IsFileByte}
use Rattle.wild_meaning.specs.LinkedImage.{HasHeader, IsSectionWithoutData, HoldsTexts, processor_of}
use Rattle.wild_loaded.specs.Owners.{HasOneOwnerEach}
use Rattle.wild_loaded.specs.Memory.{IsStored, headers_of, image_memory}
use Rattle.wild_loaded.specs.WholeSlots.{HasWholeSlots}
use Rattle.wild_loaded.specs.StoredTables.{IsPartStored, IsWordStored, IsStubStored, FillsSlot, FillsField, Copies}
use Rattle.wild_loaded.specs.Tables.{HasTablesIn, HasSectionsIn}

-- no byte of the image belongs to two pieces, each piece is in the image, and every other byte is padding
abbrev pub OwnersAreKnown : Type 0
OwnersAreKnown = (l : Layout) → IsLaidOut l → HasOneOwnerEach l

-- the headers are in the image at their offsets, each number is in its field's range, and the loader accepts the file header
pub record HeadersAreThere : Type 0 where
  pub stand : (l : Layout) → IsLoadable l.kind → NumbersFit l → IsLaidOut l → HasHeaders (bytes l) (file_header l) (headers_of l) (section_headers_of l l.sections)
  pub taken : (l : Layout) → IsLoadable l.kind → is_loadable_header (file_header l) ≡ true

-- the file header has what the layout requires
abbrev pub HeadersDescribeOutput : Type 0
HeadersDescribeOutput = (l : Layout) → IsLoadable l.kind → NumbersFit l → IsLaidOut l → HasHeader l (bytes l)

-- in a legal world the segments are in ascending order and do not wrap, and their memory is for the layout's machine
pub record SegmentsAreLoadable : Type 0 where
  pub loadable : (l : Layout) (w : World) → IsLoadable l.kind → IsLegal l w → IsLaidOut l → AreLoadable w.base (bytes l) (headers_of l)
  pub machine : (l : Layout) (w : World) → (image_memory l w).machine ≡ processor_of l.machine

-- a kept section with bytes, as placed, has them in the file, and loaded segments have each at its address
abbrev pub SectionsAreInSegments : Type 0
SectionsAreInSegments = (l : Layout) (s : InputSection) → IsLoadable l.kind → IsLaidOut l → IsKeptPlacedSection l s → 1 ≤ length s.bytes → IsStored l s

-- memory has a kept section as the file has it; for an address that moves with the base, memory has the file's content of its
-- place
abbrev pub SectionsAreStored : Type 0
SectionsAreStored = (l : Layout) (w : World) (s : InputSection) → IsLoadable l.kind → IsLegal l w → IsLaidOut l → (k : IsKeptPlacedSection l s) → IsDecided l (item_of l k.input.owner s) → HasItem l w (image_memory l w) (item_of l k.input.owner s) InFile

-- the memory after the file bytes of a loaded segment is zero
abbrev pub ZerosAreStored : Type 0
ZerosAreStored = (l : Layout) (w : World) (a : ℕ) → IsLoadable l.kind → IsLegal l w → IsLaidOut l → IsPastFileBytes l a → byte_in (image_memory l w) (w.base + a) ≡ Some 0

-- the memory of an input section without data is zero, if its output section has bytes in the file
abbrev pub BlanksAreStored : Type 0
BlanksAreStored = (l : Layout) (w : World) (s : InputSection) (k : ℕ) → IsLoadable l.kind → IsLegal l w → IsLaidOut l → IsSectionWithoutData l s → HasFileBytes l s.part → k < s.size → byte_in (image_memory l w) (w.base + (s.address + k)) ≡ Some 0

-- slots are complete if no group has a fault and all tables are written
abbrev pub SlotsAreThere : Type 0
SlotsAreThere = (l : Layout) → KeepsAll l → HaveTheirFlags l → IsLaidOut l → flat_map_from (group_errors l) 0 l.groups ≡ [] → HasWholeSlots l

-- memory has the table of each role that a program reads, unless only the header of its section is written
abbrev pub PartsAreStored : Type 0
PartsAreStored = (l : Layout) (w : World) (r : Role) (p : Part) → is_loaded_role r ≡ true → IsLoadable l.kind → IsLegal l w → IsLaidOut l → part_with r l.parts ≡ Some p → is_header_only_at l p.section ≡ false → IsPartStored l w r p

-- if all tables are written, memory has each word of the symbols' slots, 8 bytes after the word before it, their stubs, and the
-- pair
pub record SlotsAreStored : Type 0 where
  pub words : (l : Layout) (w : World) (i at k : ℕ) (s : Symbol) (d : SlotWord) → KeepsAll l → IsLoadable l.kind → NumbersFit l → IsLegal l w → IsLaidOut l → HasWholeSlots l → slice_get l.symbols i ≡ Some s → got_of s ≡ Some at
      → slice_get (slots_of l s).words k ≡ Some d → IsWordStored l w (at + word_size * k) d
  pub stubs : (l : Layout) (w : World) (i at stub : ℕ) (s : Symbol) → KeepsAll l → IsLoadable l.kind → IsLegal l w → IsLaidOut l → HasWholeSlots l → slice_get l.symbols i ≡ Some s → got_of s ≡ Some at → plt_of s ≡ Some stub → IsStubStored l w at stub
  pub pair : (l : Layout) (w : World) (at k : ℕ) (d : SlotWord) → KeepsAll l → IsLoadable l.kind → IsLegal l w → IsLaidOut l → HasWholeSlots l → l.tlsld ≡ Some at → slice_get (storage_words l) k ≡ Some d → IsWordStored l w (at + word_size * k) d

-- memory has the merged strings, and the path of the interpreter
abbrev pub TextsAreStored : Type 0
TextsAreStored = (l : Layout) (w : World) → IsLoadable l.kind → IsLegal l w → IsLaidOut l → EachPartIsLoaded l → HoldsTexts l w (image_memory l w)

-- the file bytes of segments
abbrev pub FileBytesAreStored : Type 0
FileBytesAreStored = (l : Layout) (w : World) (a b : ℕ) → IsLoadable l.kind → IsLegal l w → IsLaidOut l → IsFileByte l (bytes l) a b → byte_in (image_memory l w) (w.base + a) ≡ Some b

-- each thunk, if no group has a fault and all tables are written
abbrev pub ThunksAreThere : Type 0
ThunksAreThere = (l : Layout) (w : World) → KeepsAll l → IsLoadable l.kind → IsLegal l w → IsLaidOut l → flat_map_from (group_errors l) 0 l.groups ≡ [] → HasThunks l w (image_memory l w)

-- the image has a dynamic section: the entries of libraries, those of the last file, and zeros up to the end of its part
pub record HasEntries (l : Layout) : Type 0 where
  pub room : ℕ
  pub dynamic : HasDynamic (bytes l) (headers_of l) (all_needed l ++ dynamic_records l room)

-- this is so if the output needs one and all tables are written
abbrev pub DynamicSectionsAreThere : Type 0
DynamicSectionsAreThere = (l : Layout) → KeepsAll l → needs_dynamic l.kind ≡ true → NumbersFit l → IsLaidOut l → HasEntries l

-- its entries have the information that a dynamic linker needs
abbrev pub DynamicSectionsInformLinker : Type 0
DynamicSectionsInformLinker = (l : Layout) → KeepsAll l → IsLoadable l.kind → needs_dynamic l.kind ≡ true → NumbersFit l → IsLaidOut l → HasWholeSlots l → InformsLinker l (processor_of l.machine) (bytes l)

-- the image of an output that needs a dynamic section has one, and through it a loader finds the tables that the groups write
abbrev pub TablesAreFound : Type 0
TablesAreFound = (l : Layout) → KeepsAll l → needs_dynamic l.kind ≡ true → NumbersFit l → IsLaidOut l → HasWholeSlots l → HasTablesIn l

-- any other image has none, and a loader finds the tables through a section
abbrev pub SectionTablesAreFound : Type 0
SectionTablesAreFound = (l : Layout) → KeepsAll l → IsLoadable l.kind → needs_dynamic l.kind ≡ false → NumbersFit l → IsLaidOut l → HasWholeSlots l → HasSectionsIn l

-- The changes of entries in a legal world:
-- - that of a word of a slot, or of the pair, stores a number or notes a descriptor, from the symbol's answer or its resolver's;
-- - that of a field that is left to an entry stores a number there;
-- - that of a copy copies the answer's bytes.
pub record EntriesHaveChanges : Type 0 where
  pub slots : (l : Layout) (w : World) (i k : ℕ) (s : Symbol) (d : SlotWord) (e : SlotEntry) → NumbersFit l → IsLegal l w → IsLaidOut l → HasWholeSlots l
      → slice_get l.symbols i ≡ Some s → slice_get (slots_of l s).words k ≡ Some d → entry_in d ≡ Some e → FillsSlot (processor_of l.machine) w e
  pub pair : (l : Layout) (w : World) (d : SlotWord) (e : SlotEntry) → IsLegal l w → Contains (storage_words l) d → entry_in d ≡ Some e → FillsSlot (processor_of l.machine) w e
  pub left : (l : Layout) (w : World) (s : Item) (r : InputRelocation) (z : RelocationSize) (number symbol addend : ℕ) → NumbersFit l → IsLegal l w → IsLaidOut l
      → decided l s r ≡ Ok (DynamicField z number symbol addend) → FillsField (processor_of l.machine) w z number symbol addend
  pub copies : (l : Layout) (w : World) (i raw : ℕ) (x : Answer) → NumbersFit l → IsLegal l w → IsLaidOut l → HasCopy l w i raw x → Copies (processor_of l.machine) w (copy_entry l i) raw x.bytes

-- if no group has a fault, each copied symbol has an address and an answer
abbrev pub CopiesAreThere : Type 0
CopiesAreThere = (l : Layout) (w : World) (i : ℕ) → IsLegal l w → IsLaidOut l → flat_map_from (group_errors l) 0 l.groups ≡ [] → IsCopied l i → (raw : ℕ) × (x : Answer) × HasCopy l w i raw x
