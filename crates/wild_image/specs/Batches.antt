-- Batches of groups.
--   AreBatches gs bs       the batches are consecutive and have these groups
--   IsWithin gs b          the batch's groups are those of the list from number `first` on
--   batch_errors l b       the faults of its groups; batch_pieces, batch_tables, batch_files and batch_pairs likewise
--   GivesBatch l bs i r    r is all bytes of batch i, or its first fault
--   pairs_at l bs i        the relocation counts of batch i
use Rattle.std.specs.Prelude.{◌≡◌, ℕ, ◌+◌, true, List, [], ◌∷◌, map, length, Option, Some, None, slice_get, Result, IfOk}
use Rattle.std.specs.List.{flat_map}
use Rattle.wild_words.specs.Overlay.{Piece}
use Rattle.wild_types.specs.declared.fault.Error.{Error}
use Rattle.wild_types.specs.declared.file.Group.{Group}
use Rattle.wild_types.specs.declared.layout.Layout.{Layout}
use Rattle.wild_types.specs.Faults.{Answers}
use Rattle.wild_layout.specs.Faults.{flat_map_from, group_errors}
use Rattle.wild_layout.specs.Image.{group_pieces}
use Rattle.wild_image.specs.Pieces.{group_tables, group_files, group_pairs}
use Rattle.wild_image.specs.RelocationCounts.{with_pairs}
use Rattle.wild_image.specs.declared.batch.Batch.{Batch}
use Rattle.wild_image.specs.declared.buffer.GroupBytes.{GroupBytes}

-- the numbers of the batches' first groups; the first of them is i
abbrev pub firsts : ℕ → List Batch → List ℕ
firsts i [] = []
firsts i (b ∷ bs) = i ∷ firsts (i + length b.groups.now) bs

-- the batches are consecutive and have these groups
pub record AreBatches (gs : List Group) (bs : List Batch) : Type 0 where
  pub groups : flat_map (λ (b : Batch). b.groups.now) bs ≡ gs
  pub numbers : map (λ (b : Batch). b.first) bs ≡ firsts 0 bs

-- the batch's groups are those of the list from number `first` on
abbrev pub IsWithin : List Group → Batch → Type 0
IsWithin gs b = (j : ℕ) (g : Group) → slice_get b.groups.now j ≡ Some g → slice_get gs (b.first + j) ≡ Some g

abbrev pub batch_errors : Layout → Batch → List Error
batch_errors l b = flat_map_from (group_errors l) b.first b.groups.now

abbrev pub batch_pieces : Layout → Batch → List Piece
batch_pieces l b = flat_map_from (group_pieces l) b.first b.groups.now

-- what its groups contribute to the tables, and the bytes of their files
abbrev pub batch_tables : Layout → Batch → List ℕ
batch_tables l b = flat_map (group_tables l) b.groups.now

abbrev pub batch_files : Layout → Batch → List ℕ
batch_files l b = flat_map (group_files l) b.groups.now

pub record HasBatch (l : Layout) (b : Batch) (bytes : GroupBytes) : Type 0 where
  pub tables : bytes.tables ≡ batch_tables l b
  pub files : bytes.files ≡ batch_files l b

-- its relocation counts; consecutive counts of one section are added up
abbrev pub batch_pairs : Layout → Batch → List (ℕ × ℕ)
batch_pairs l b = with_pairs true [] (flat_map (group_pairs l) b.groups.now)

-- all bytes of batch i, or its first fault
abbrev pub GivesBatch : Layout → List Batch → ℕ → Result GroupBytes Error → Type 0
GivesBatch l bs i r = (b : Batch) → slice_get bs i ≡ Some b → Answers r (batch_errors l b) × IfOk r (HasBatch l b)

abbrev pub pairs_of : Layout → Option Batch → List (ℕ × ℕ)
pairs_of l None = []
pairs_of l (Some b) = batch_pairs l b

-- the relocation counts of batch i
unfoldable pub pairs_at : Layout → List Batch → ℕ → List (ℕ × ℕ)
pairs_at l bs i = pairs_of l (slice_get bs i)
