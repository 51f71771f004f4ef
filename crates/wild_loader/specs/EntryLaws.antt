-- Statements about the definitions of relocation entries, places and changes.
--   HasMade w before t g f         each place and each entry makes a known change
--   patches_of t g f               these changes, in the order in which they are applied
--   IsRelocated ..                 memory after these changes
use Rattle.std.specs.Prelude.{◌≡◌, ℕ, ◌+◌, ◌*◌, ◌/◌, ◌%◌, ◌^◌, ◌<◌, ◌==◌, if◌then◌else◌, List, [], ◌∷◌, ◌++◌, length, map, ◌⊎◌, Some, Ok, All, AllPairs, Contains}
use Rattle.std.specs.List.Sorted.{IsPermutation}
use Rattle.wild_records.specs.declared.relocations.Rela.{Rela}
use Rattle.wild_loader.specs.declared.memory.Memory.{Memory}
use Rattle.wild_loader.specs.declared.memory.Run.{Run}
use Rattle.wild_loader.specs.declared.world.World.{World}
use Rattle.wild_loader.specs.declared.kind.DynamicKind.{DynamicKind}
use Rattle.wild_loader.specs.declared.change.Change.{Change}
use Rattle.wild_loader.specs.declared.change.Change.TheVariants as changes
use Rattle.wild_loader.specs.declared.change.Patch.{Patch}
use Rattle.wild_loader.specs.declared.tables.Tables.{Tables}
use Rattle.wild_loader.specs.Memory.{byte_in, Holds}
use Rattle.wild_loader.specs.Places.{places, places_from, marked}
use Rattle.wild_loader.specs.Changes.{kind_of, size_of, patch_over, patch_at, change_of}
use Rattle.wild_loader.specs.Relocate.{rela_patch, place_patch, runs_of_patches, memory_with_patches, relocate, loaded_at, notes}
use Rattle.wild_loader.specs.SegmentLaws.{DoesNotOverlap, IsOutsideRun}

-- ---- places

-- a bitmap names each place whose bit is set
abbrev pub BitsArePlaces : Type 0
BitsArePlaces = (next bits n i : ℕ) → next < 2 ^ 64 → i < n → bits / 2 ^ i % 2 ≡ 1 → Contains (marked next bits n) ((next + 8 * i) % 2 ^ 64)

-- a bitmap names no place whose bit is clear
abbrev pub PlacesAreBits : Type 0
PlacesAreBits = (next bits n : ℕ) → next < 2 ^ 64 → All (λ a. (i : ℕ) × (i < n) × (bits / 2 ^ i % 2 ≡ 1) × (a ≡ (next + 8 * i) % 2 ^ 64)) (marked next bits n)

-- the start of the range that a bitmap after these words covers
abbrev pub next_range_start : ℕ → List ℕ → ℕ
next_range_start next [] = next
next_range_start next (w ∷ ws) = if w % 2 == 0 then next_range_start ((w + 8) % 2 ^ 64) ws else next_range_start ((next + 504) % 2 ^ 64) ws

-- further words: their places follow those of the words before
abbrev pub MoreWords : Type 0
MoreWords = (next : ℕ) (ws vs : List ℕ) → places_from next (ws ++ vs) ≡ places_from next ws ++ places_from (next_range_start next ws) vs

-- ---- changes

-- a change over bytes that memory has
abbrev pub ChangesAreMade : Type 0
ChangesAreMade = (m : Memory) (place : ℕ) (c : Change) (old : List ℕ) → Holds m place old → length old ≡ size_of c → patch_at m place c ≡ Ok (patch_over place c old)

-- at a place of the packed relative relocations (RELR), the base is added to the word
abbrev pub PlacesAddBase : Type 0
PlacesAddBase = (w : World) (m : Memory) (place : ℕ) (old : List ℕ) → Holds m (loaded_at w place) old → length old ≡ 8
    → place_patch w m place ≡ Ok (patch_over (loaded_at w place) (changes.Add w.base) old)

-- the change of an entry is that of its kind
abbrev pub EntriesMakeChanges : Type 0
EntriesMakeChanges = (w : World) (m : Memory) (r : Rela) (kind : DynamicKind) (c : Change) (old : List ℕ) → kind_of m.machine r.number ≡ Some kind → change_of w kind r ≡ Ok c → Holds m (loaded_at w r.offset) old → length old ≡ size_of c
    → rela_patch w m r ≡ Ok (patch_over (loaded_at w r.offset) c old)

-- ---- tables

-- each place and each entry makes a known change
pub record HasMade (w : World) (before : Memory) (t : Tables) (g : ℕ → Patch) (f : Rela → Patch) : Type 0 where
  pub words : All (λ x. place_patch w before x ≡ Ok (g x)) (places t.words)
  pub entries : All (λ r. rela_patch w before r ≡ Ok (f r)) t.entries
  pub jumps : All (λ r. rela_patch w before r ≡ Ok (f r)) t.jumps

-- these changes, in the order in which they are applied
abbrev pub patches_of : Tables → (ℕ → Patch) → (Rela → Patch) → List Patch
patches_of t g f = map g (places t.words) ++ map f t.entries ++ map f t.jumps

-- memory with these changes: it is the result of `relocate`, has the bytes of each place's and each entry's change, and every
-- other byte is as before
pub record IsApplied (w : World) (before : Memory) (t : Tables) (g : ℕ → Patch) (f : Rela → Patch) (m : Memory) : Type 0 where
  pub is : relocate w before t ≡ Ok m
  pub words : All (λ x. Holds m (g x).run.start (g x).run.bytes) (places t.words)
  pub entries : All (λ r. Holds m (f r).run.start (f r).run.bytes) t.entries
  pub jumps : All (λ r. Holds m (f r).run.start (f r).run.bytes) t.jumps
  pub others : (a : ℕ) → All (IsOutsideRun a) (runs_of_patches (patches_of t g f)) → byte_in m a ≡ byte_in before a
  pub descriptors : m.descriptors ≡ notes (patches_of t g f)

-- tables whose changes are known and share no address can be applied
abbrev pub TablesAreApplied : Type 0
TablesAreApplied = (w : World) (before : Memory) (t : Tables) (g : ℕ → Patch) (f : Rela → Patch) → HasMade w before t g f → AllPairs DoesNotOverlap (runs_of_patches (patches_of t g f))
    → IsApplied w before t g f (memory_with_patches before (patches_of t g f))

-- whether runs share an address does not depend on their order
abbrev pub OrderDoesNotMatter : Type 0
OrderDoesNotMatter = (xs ys : List Run) → IsPermutation xs ys → AllPairs DoesNotOverlap xs → AllPairs DoesNotOverlap ys

-- ---- what is relocated

-- a change made by a place or an entry
abbrev pub IsMadeBy : World → Memory → Tables → Patch → Type 0
IsMadeBy w before t p =
    ((x : ℕ) × Contains (places t.words) x × (place_patch w before x ≡ Ok p))
    ⊎ (((r : Rela) × Contains t.entries r × (rela_patch w before r ≡ Ok p)) ⊎ ((r : Rela) × Contains t.jumps r × (rela_patch w before r ≡ Ok p)))

-- memory that `relocate` returned: each place and each entry made a change, and no two changes share an address. Memory has the
-- changed bytes, and every other byte is as before.
pub record IsRelocated (w : World) (before : Memory) (t : Tables) (m : Memory) : Type 0 where
  pub words : All (λ x. (p : Patch) × (place_patch w before x ≡ Ok p) × Holds m p.run.start p.run.bytes) (places t.words)
  pub entries : All (λ r. (p : Patch) × (rela_patch w before r ≡ Ok p) × Holds m p.run.start p.run.bytes) t.entries
  pub jumps : All (λ r. (p : Patch) × (rela_patch w before r ≡ Ok p) × Holds m p.run.start p.run.bytes) t.jumps
  pub others : (a : ℕ) → ((p : Patch) → IsMadeBy w before t p → IsOutsideRun a p.run) → byte_in m a ≡ byte_in before a

-- every result of `relocate` has this property
abbrev pub RelocatedIsApplied : Type 0
RelocatedIsApplied = (w : World) (before : Memory) (t : Tables) (m : Memory) → relocate w before t ≡ Ok m → IsRelocated w before t m
