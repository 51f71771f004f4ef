-- The bytes of .dynamic, and what a loader finds in it (gABI, "Dynamic Section").
--   dynamic_bytes l room      the entries of the last file, and zeros up to the length room
--   dynamic_records l room    these entries, and entries of zeros up to the length room
--   IsNeeded d                the entry is a DT_NEEDED
--   NeededAreOfLibraries      the entries of groups' libraries are DT_NEEDED, and fit in their fields
--   LengthsOfRecords          an entry has 16 bytes
--   LengthsOfDynamic          the bytes fill their share
--   RecordsAreInOrder              a reader finds these entries, after those of libraries
--   RecordsFit                they fit in their fields
--   NothingAfterNullIsRead       nothing after DT_NULL is read
--   EntriesAreFound           the value of a tag is that of its entry, also after entries of libraries
--   TablesAreNamed            the tables that a loader finds by their tags
use Rattle.std.specs.Prelude.{◌≡◌, ◌≢◌, ℕ, ◌+◌, ◌-◌, ◌*◌, ◌/◌, ◌^◌, ◌<◌, ◌≤◌, true, List, [], ◌∷◌, ◌++◌, length, replicate, flat_map, All}
use Rattle.wild_words.specs.Record.{spell}
use Rattle.wild_words.specs.Words.{HasBytesAt}
use Rattle.wild_records.specs.Abi.Dynamic.{dt_needed, dt_rela, dt_relasz, dt_jmprel, dt_pltrelsz, dt_relr, dt_relrsz}
use Rattle.wild_records.specs.Dynamic.{dynamic_entry_size, dynamic_entry_fields, DynamicEntryFits}
use Rattle.wild_records.specs.declared.dynamic.DynamicEntry.{DynamicEntry}
use Rattle.wild_needs.specs.declared.dynamic.DynamicTag.{DynamicTag}
use Rattle.wild_needs.specs.declared.dynamic.DynamicTag.TheVariants as tags
use Rattle.wild_types.specs.declared.file.Group.{Group}
use Rattle.wild_types.specs.declared.layout.Layout.{Layout}
use Rattle.wild_needs.specs.Dynamic.{dynamic_number, dynamic_entry, dynamic_entries, dynamic_count}
use Rattle.wild_needs.specs.DynamicStrings.{NamedString, offset_after_string, needed_entries}
use Rattle.wild_types.specs.Kinds.{needs_dynamic}
use Rattle.wild_loader.specs.Laws.{entries_before_null}
use Rattle.wild_loader.specs.Tables.{value_of_tag}

-- the bytes of entries
abbrev pub entries_bytes : List DynamicEntry → List ℕ
entries_bytes ds = flat_map (λ d. spell (dynamic_entry_fields d)) ds

-- the offset in .dynstr after strings, each with a zero at its end
abbrev pub offset_after_strings : ℕ → List NamedString → ℕ
offset_after_strings at [] = at
offset_after_strings at (s ∷ ss) = offset_after_strings (offset_after_string at s.text) ss

-- the bytes of the entries, and zeros up to the length room
abbrev pub dynamic_bytes : Layout → ℕ → List ℕ
dynamic_bytes l room = entries_bytes (dynamic_entries l) ++ replicate (room - dynamic_entry_size * dynamic_count l) 0

-- an entry of zeros, which is a DT_NULL
abbrev pub null_entry : DynamicEntry
null_entry = record { tag = 0; value = 0 }

-- the entries, and entries of zeros up to the length room; trailing bytes that are no whole entry are not read
abbrev pub dynamic_records : Layout → ℕ → List DynamicEntry
dynamic_records l room = dynamic_entries l ++ replicate (room / dynamic_entry_size - dynamic_count l) null_entry

-- ---- entries of libraries

-- the entry is a DT_NEEDED (gABI, "Shared Object Dependencies")
abbrev pub IsNeeded : DynamicEntry → Type 0
IsNeeded d = d.tag ≡ dt_needed

-- the entries of groups' libraries are DT_NEEDED; they fit in their fields if the groups' strings begin below 2^64
pub record NeededAreOfLibraries : Type 0 where
  pub names : (l : Layout) (gs : List Group) → All IsNeeded (flat_map (needed_entries l) gs)
  pub fit : (l : Layout) (gs : List Group) → All (λ (g : Group). g.dynstr_start < 2 ^ 64) gs → All DynamicEntryFits (flat_map (needed_entries l) gs)

-- ---- lengths, and the records in the bytes

-- an entry has 16 bytes
abbrev pub LengthsOfRecords : Type 0
LengthsOfRecords = (ds : List DynamicEntry) → length (entries_bytes ds) ≡ dynamic_entry_size * length ds

-- the bytes fill their share
abbrev pub LengthsOfDynamic : Type 0
LengthsOfDynamic = (l : Layout) (room : ℕ) → dynamic_entry_size * dynamic_count l ≤ room → length (dynamic_bytes l room) ≡ room

-- after entries of libraries: a reader finds as many entries as the bytes have whole ones, and their bytes from the start
pub record RecordsAt (l : Layout) (front : List DynamicEntry) (room : ℕ) : Type 0 where
  pub count : (dynamic_entry_size * length front + room) / dynamic_entry_size ≡ length (front ++ dynamic_records l room)
  pub stand : HasBytesAt (entries_bytes front ++ dynamic_bytes l room) 0 (entries_bytes (front ++ dynamic_records l room))

abbrev pub RecordsAreInOrder : Type 0
RecordsAreInOrder = (l : Layout) (front : List DynamicEntry) (room : ℕ) → dynamic_entry_size * dynamic_count l ≤ room → RecordsAt l front room

-- they fit in their fields if the entries of the layout do
abbrev pub RecordsFit : Type 0
RecordsFit = (l : Layout) (room : ℕ) → All DynamicEntryFits (dynamic_entries l) → All DynamicEntryFits (dynamic_records l room)

-- nothing after DT_NULL is read
abbrev pub NothingAfterNullIsRead : Type 0
NothingAfterNullIsRead = (l : Layout) (rest : List DynamicEntry) → needs_dynamic l.kind ≡ true → entries_before_null (dynamic_entries l ++ rest) ≡ entries_before_null (dynamic_entries l)

-- ---- what a reader finds

-- the value of a tag, as a reader finds it, is that of its entry; none if the layout has no value for it
abbrev pub EntriesAreFound : Type 0
EntriesAreFound = (l : Layout) (front rest : List DynamicEntry) (tag : DynamicTag) → All IsNeeded front → needs_dynamic l.kind ≡ true → tag ≢ tags.Null
    → value_of_tag (dynamic_number tag) (entries_before_null (front ++ (dynamic_entries l ++ rest))) ≡ dynamic_entry l tag

-- the tables that a loader finds by their tags: .rela.dyn, .relr.dyn and .rela.plt
pub record NamesTables (l : Layout) (ds : List DynamicEntry) : Type 0 where
  pub entries : value_of_tag dt_rela (entries_before_null ds) ≡ dynamic_entry l tags.Rela
  pub entries_size : value_of_tag dt_relasz (entries_before_null ds) ≡ dynamic_entry l tags.RelaSize
  pub words : value_of_tag dt_relr (entries_before_null ds) ≡ dynamic_entry l tags.Relr
  pub words_size : value_of_tag dt_relrsz (entries_before_null ds) ≡ dynamic_entry l tags.RelrSize
  pub jumps : value_of_tag dt_jmprel (entries_before_null ds) ≡ dynamic_entry l tags.JmpRel
  pub jumps_size : value_of_tag dt_pltrelsz (entries_before_null ds) ≡ dynamic_entry l tags.PltRelSize

abbrev pub TablesAreNamed : Type 0
TablesAreNamed = (l : Layout) (front : List DynamicEntry) (room : ℕ) → All IsNeeded front → needs_dynamic l.kind ≡ true → NamesTables l (front ++ dynamic_records l room)
