-- Statements about loading an image whose entries all store words.
--   AreWords w before t v u        tables whose entries store numbers and whose packed places hold numbers
--   IsFilled w before t v u m      memory with these numbers
--   HasImage, HasStaticImage ..    the contents of an image with, and without, a dynamic section
use Rattle.std.specs.Prelude.{◌≡◌, ℕ, ◌+◌, ◌%◌, ◌^◌, ◌<◌, List, [], ◌++◌, length, map, ◌⊎◌, Some, Ok, All, AllPairs, ◌≤◌, true, slice_get}
use Rattle.std.specs.List.Sorted.{IsPermutation}
use Rattle.wild_words.specs.Words.{word}
use Rattle.wild_records.specs.declared.relocations.Rela.{Rela}
use Rattle.wild_records.specs.declared.dynamic.DynamicEntry.{DynamicEntry}
use Rattle.wild_records.specs.declared.file_header.FileHeader.{FileHeader}
use Rattle.wild_records.specs.declared.program_header.ProgramHeader.{ProgramHeader}
use Rattle.wild_records.specs.declared.section_header.SectionHeader.{SectionHeader}
use Rattle.wild_loader.specs.Load.{load}
use Rattle.wild_loader.specs.Headers.{is_loadable_header, machine_of}
use Rattle.wild_loader.specs.declared.memory.Machine.{Machine}
use Rattle.wild_loader.specs.declared.memory.Memory.{Memory}
use Rattle.wild_loader.specs.declared.world.World.{World}
use Rattle.wild_loader.specs.declared.kind.DynamicKind.{DynamicKind}
use Rattle.wild_loader.specs.declared.kind.DynamicKind.TheVariants as kinds
use Rattle.wild_loader.specs.declared.change.Change.TheVariants as changes
use Rattle.wild_loader.specs.declared.change.Patch.{Patch}
use Rattle.wild_loader.specs.declared.tables.Tables.{Tables}
use Rattle.wild_loader.specs.Memory.{byte_in, Holds}
use Rattle.wild_loader.specs.Places.{places}
use Rattle.wild_loader.specs.Changes.{kind_of, change_of, sum_with_addend, answer_at}
use Rattle.wild_loader.specs.Relocate.{runs_of_patches, relocate, loaded_at}
use Rattle.wild_loader.specs.Tables.{has_entries}
use Rattle.wild_loader.specs.SegmentLaws.{DoesNotOverlap, HasHeaders, AreLoadable, loaded_memory}
use Rattle.wild_loader.specs.Laws.{HasDynamic, HasTables, HoldsEntries, IsStatic, IsLocatedAt}
use Rattle.wild_loader.specs.EntryLaws.{HasMade, patches_of, IsApplied}

-- ---- tables whose entries store words

-- an entry stores a number, over eight bytes that memory has
pub record StoresWord (w : World) (before : Memory) (u : Rela → ℕ) (r : Rela) : Type 0 where
  pub kind : DynamicKind
  pub known : kind_of before.machine r.number ≡ Some kind
  pub change : change_of w kind r ≡ Ok (changes.Word (u r))
  pub old : List ℕ
  pub wide : length old ≡ 8
  pub held : Holds before (loaded_at w r.offset) old

-- a relative entry stores the base plus its addend
abbrev pub RelativesStoreWords : Type 0
RelativesStoreWords = (w : World) (r : Rela) → change_of w kinds.Relative r ≡ Ok (changes.Word (sum_with_addend w.base r))

-- an entry with a resolver stores the resolver's answer
abbrev pub ResolvedStoreWords : Type 0
ResolvedStoreWords = (w : World) (r : Rela) (v : ℕ) → answer_at w (sum_with_addend w.base r) ≡ Ok v → change_of w kinds.Resolved r ≡ Ok (changes.Word v)

-- two places of 8 bytes do not overlap
abbrev pub DoNotOverlap : ℕ → ℕ → Type 0
DoNotOverlap a b = (a + 8 ≤ b) ⊎ (b + 8 ≤ a)

-- the loaded places of the tables, in the order in which they are applied
abbrev pub loaded_places : World → Tables → List ℕ
loaded_places w t = map (λ x. loaded_at w x) (places t.words) ++ map (λ r. loaded_at w r.offset) t.entries ++ map (λ r. loaded_at w r.offset) t.jumps

-- each place of the packed relative relocations holds a known number, and each entry stores one; all places are on loaded bytes
-- and do not overlap, in whatever order they are listed
pub record AreWords (w : World) (before : Memory) (t : Tables) (v : ℕ → ℕ) (u : Rela → ℕ) : Type 0 where
  pub numbers : All (λ x. (v x < 2 ^ 64) × Holds before (loaded_at w x) (word 8 (v x))) (places t.words)
  pub entries : All (StoresWord w before u) t.entries
  pub jumps : All (StoresWord w before u) t.jumps
  pub order : List ℕ
  pub ordered : IsPermutation order (loaded_places w t)
  pub beside : AllPairs DoNotOverlap order

-- in memory m each packed place holds its number plus the base, and each entry's place holds the number that the entry stores;
-- every other byte is as before
pub record IsFilled (w : World) (before : Memory) (t : Tables) (v : ℕ → ℕ) (u : Rela → ℕ) (m : Memory) : Type 0 where
  pub is : relocate w before t ≡ Ok m
  pub machine : m.machine ≡ before.machine
  pub numbers : All (λ x. Holds m (loaded_at w x) (word 8 ((v x + w.base) % 2 ^ 64))) (places t.words)
  pub entries : All (λ r. Holds m (loaded_at w r.offset) (word 8 (u r))) t.entries
  pub jumps : All (λ r. Holds m (loaded_at w r.offset) (word 8 (u r))) t.jumps
  pub others : (a : ℕ) → All (λ b. (a < b) ⊎ (b + 8 ≤ a)) (loaded_places w t) → byte_in m a ≡ byte_in before a

-- such tables can be applied
abbrev pub TablesAreFilled : Type 0
TablesAreFilled = (w : World) (before : Memory) (t : Tables) (v : ℕ → ℕ) (u : Rela → ℕ) → AreWords w before t v u → (m : Memory) × IsFilled w before t v u m

-- ---- images

-- bytes in the file bytes of a segment are in memory at their loaded address
abbrev pub PlacesAreLoaded : Type 0
PlacesAreLoaded = (machine : Machine) (w : World) (image : List ℕ) (hs : List ProgramHeader) (a : ℕ) (part : List ℕ) → AreLoadable w.base image hs → IsLocatedAt image hs a part → Holds (loaded_memory machine w.base image hs) (loaded_at w a) part

-- the image contains the headers and the tables that its dynamic section names, and its segments can be loaded
pub record HasImage (w : World) (image : List ℕ) (e : FileHeader) (hs : List ProgramHeader) (ss : List SectionHeader) (ds : List DynamicEntry) (t : Tables) : Type 0 where
  pub headers : HasHeaders image e hs ss
  pub loadable_header : is_loadable_header e ≡ true
  pub loadable : AreLoadable w.base image hs
  pub dynamic : HasDynamic image hs ds
  pub tables : HasTables image hs ds t

-- an image whose tables make known changes that share no address can be loaded, and has these changes
abbrev pub ImagesAreApplied : Type 0
ImagesAreApplied = (w : World) (image : List ℕ) (e : FileHeader) (hs : List ProgramHeader) (ss : List SectionHeader) (ds : List DynamicEntry) (t : Tables) (g : ℕ → Patch) (f : Rela → Patch) → HasImage w image e hs ss ds t
    → HasMade w (loaded_memory (machine_of e) w.base image hs) t g f → AllPairs DoesNotOverlap (runs_of_patches (patches_of t g f))
    → (m : Memory) × (load w image ≡ Ok m) × IsApplied w (loaded_memory (machine_of e) w.base image hs) t g f m

-- an image whose tables' entries store words can be loaded, and holds these words
abbrev pub ImagesAreFilled : Type 0
ImagesAreFilled = (w : World) (image : List ℕ) (e : FileHeader) (hs : List ProgramHeader) (ss : List SectionHeader) (ds : List DynamicEntry) (t : Tables) (v : ℕ → ℕ) (u : Rela → ℕ) → HasImage w image e hs ss ds t
    → AreWords w (loaded_memory (machine_of e) w.base image hs) t v u
    → (m : Memory) × (load w image ≡ Ok m) × IsFilled w (loaded_memory (machine_of e) w.base image hs) t v u m

-- only the section with this index has entries; its bytes are these entries
pub record HasSectionTable (image : List ℕ) (ss : List SectionHeader) (rs : List Rela) : Type 0 where
  pub index : ℕ
  pub each : (k : ℕ) (s : SectionHeader) → slice_get ss k ≡ Some s → has_entries s ≡ true → (k ≡ index) × HoldsEntries image s rs
  pub some : 0 < length rs → (s : SectionHeader) × (slice_get ss index ≡ Some s) × (has_entries s ≡ true)

-- the image contains the headers; no dynamic section; its segments can be loaded; at most one section has entries, those of the
-- tables, in the order in which they are applied
pub record HasStaticImage (w : World) (image : List ℕ) (e : FileHeader) (hs : List ProgramHeader) (ss : List SectionHeader) (t : Tables) : Type 0 where
  pub headers : HasHeaders image e hs ss
  pub loadable_header : is_loadable_header e ≡ true
  pub loadable : AreLoadable w.base image hs
  pub static : All IsStatic hs
  pub words : t.words ≡ []
  pub entries : HasSectionTable image ss (t.entries ++ t.jumps)
  pub sections : 0 < length (t.entries ++ t.jumps) → 0 < e.section_offset

-- such an image whose entries store words can be loaded, and holds these words
abbrev pub StaticImagesAreFilled : Type 0
StaticImagesAreFilled = (w : World) (image : List ℕ) (e : FileHeader) (hs : List ProgramHeader) (ss : List SectionHeader) (t : Tables) (v : ℕ → ℕ) (u : Rela → ℕ) → HasStaticImage w image e hs ss t
    → AreWords w (loaded_memory (machine_of e) w.base image hs) t v u
    → (m : Memory) × (load w image ≡ Ok m) × IsFilled w (loaded_memory (machine_of e) w.base image hs) t v u m
