-- A reader of frames that follows the lengths (LSB, "The .eh_frame section").
--   IsRead bytes e             an entry of that size and id is at its offset
--   AreRead bytes at es end    the entries follow each other from there to an end
use Rattle.std.specs.Prelude.{◌≡◌, ℕ, ◌+◌, ◌<◌, ◌≤◌, ◌⊎◌, ◌==◌, ◌||◌, Bool, true, false, List, [], ◌∷◌, length, map, take, drop, All, Contains, slice_index}
use Rattle.std.specs.List.{filter, flat_map}
use Rattle.wild_words.specs.Words.{number_at, HasBytesAt}
use Rattle.wild_types.specs.Lists.{total}
use Rattle.wild_frames.specs.declared.frames.Target.{Target}
use Rattle.wild_frames.specs.declared.frames.Target.TheVariants as target
use Rattle.wild_frames.specs.declared.entry.KeptEntry.{KeptEntry}
use Rattle.wild_frames.specs.declared.entry.Found.{Found}
use Rattle.wild_frames.specs.declared.entry.Found.TheVariants as finds
use Rattle.wild_frames.specs.Frames.{Frames, target_first, relocations_in, entry_bytes, tail_of, found_in, kept_in, frame_bytes}
use Rattle.wild_frames.specs.Faults.{frame_errors}

pub record Entry : Type 0 where
  pub at : ℕ
  pub size : ℕ
  pub id : ℕ

pub record IsRead (bytes : List ℕ) (e : Entry) : Type 0 where
  pub least : 8 ≤ e.size
  pub within : e.at + e.size ≤ length bytes
  pub size : 4 + number_at bytes e.at 4 ≡ e.size
  pub id : number_at bytes (e.at + 4) 4 ≡ e.id

pub record Next (bytes : List ℕ) (at : ℕ) (e : Entry) (rest : Type 0) : Type 0 where
  pub place : e.at ≡ at
  pub read : IsRead bytes e
  pub others : rest

abbrev pub AreRead : List ℕ → ℕ → List Entry → ℕ → Type 0
AreRead bytes at [] end = at ≡ end
AreRead bytes at (e ∷ es) end = Next bytes at e (AreRead bytes (at + e.size) es end)

-- a zero length, or too few bytes for an entry
abbrev pub Ends : List ℕ → ℕ → Type 0
Ends bytes at = (length bytes < at + 8) ⊎ (number_at bytes at 4 ≡ 0)

-- ---- which entries are kept

-- an entry of the input
abbrev pub entry_at : Frames → ℕ → ℕ → Entry
entry_at s at size = record { at = at; size = size; id = number_at s.bytes (at + 4) 4 }

abbrev pub is_loaded : Target → Bool
is_loaded target.Loaded = true
is_loaded _ = false

-- a CIE is kept, and an FDE whose first relocation is at its PC Begin and has a loaded target
abbrev pub is_kept : Frames → Entry → Bool
is_kept s e = (e.id == 0) || is_loaded (target_first s.target (e.at + 8) (relocations_in e.at (e.at + e.size) s.relocations))

-- of the entries that a reader of the input finds, those are kept for which is_kept holds; if there is no fault, the reader finds all
-- entries
pub record AreFiltered (s : Frames) : Type 0 where
  pub entries : List Entry
  pub end : ℕ
  pub read : AreRead s.bytes 0 entries end
  pub filtered : map (λ k. entry_at s k.from k.size) (kept_in s) ≡ filter (is_kept s) entries
  pub ends : frame_errors s ≡ [] → Ends s.bytes end

abbrev pub KeptAreFiltered : Type 0
KeptAreFiltered = (s : Frames) → AreFiltered s

-- ---- their offsets

-- consecutive entries, from an offset on
abbrev pub AreConsecutiveFrom : ℕ → List KeptEntry → Type 0
AreConsecutiveFrom to [] = Unit {0}
AreConsecutiveFrom to (k ∷ ks) = (k.to ≡ to) × AreConsecutiveFrom (to + k.size) ks

abbrev pub tail_found : Frames → Found → List ℕ
tail_found s (finds.Tail from) = tail_of (drop from s.bytes)
tail_found s _ = []

-- kept entries have no gap between them, and only the last bytes follow them
pub record HaveNoGaps (s : Frames) : Type 0 where
  pub lie : AreConsecutiveFrom 0 (kept_in s)
  pub sum : length (frame_bytes s) ≡ total (λ k. k.size) (kept_in s) + length (flat_map (tail_found s) (found_in s))
  pub stand : All (λ k. HasBytesAt (frame_bytes s) k.to (entry_bytes s k)) (kept_in s)

abbrev pub EntriesHaveNoGaps : Type 0
EntriesHaveNoGaps = (s : Frames) → HaveNoGaps s

-- a kept entry as a reader finds it, if the kept bytes begin at offset base
abbrev pub entry_in_image : ℕ → KeptEntry → Entry
entry_in_image base k = record { at = base + k.to; size = k.size; id = k.id }

-- the length word and the id of each kept entry are in an image
abbrev pub HeadsAreInImage : Frames → List ℕ → ℕ → Type 0
HeadsAreInImage s image base = All (λ k. HasBytesAt image (base + k.to) (take 8 (entry_bytes s k))) (kept_in s)

abbrev pub EntriesAreRead : Type 0
EntriesAreRead = (s : Frames) (image : List ℕ) (base : ℕ) → All (λ b. b < 256) s.bytes → base + length (frame_bytes s) ≤ length image → HeadsAreInImage s image base
    → AreRead image base (map (entry_in_image base) (kept_in s)) (base + total (λ k. k.size) (kept_in s))

-- ---- their contents

-- the id of an FDE leads to the CIE to which the input's id led; that of a CIE is 0, as in the input
pub record LeadsToCie (s : Frames) (kept : List KeptEntry) (k : KeptEntry) : Type 0 where
  pub cie : KeptEntry
  pub listed : Contains kept cie
  pub is_cie : cie.id ≡ 0
  pub ahead : cie.to < k.to
  pub before : cie.from + number_at s.bytes (k.from + 4) 4 ≡ k.from + 4
  pub after : cie.to + k.id ≡ k.to + 4
  pub shorter : k.id ≤ number_at s.bytes (k.from + 4) 4

abbrev pub LeadsToItsCie : Frames → List KeptEntry → KeptEntry → Type 0
LeadsToItsCie s kept k = (number_at s.bytes (k.from + 4) 4 ≡ 0) × (k.id ≡ 0) ⊎ LeadsToCie s kept k

abbrev pub IdsLead : Type 0
IdsLead = (s : Frames) → All (LeadsToItsCie s (kept_in s)) (kept_in s)

-- the fields of an FDE are after its id
abbrev pub SparesId : Frames → KeptEntry → Type 0
SparesId s k = (k.id ≡ 0) ⊎ All (λ r. k.from + 8 ≤ r.offset) (relocations_in k.from (k.from + k.size) s.relocations)

abbrev pub FieldsSpareIds : Type 0
FieldsSpareIds = (s : Frames) → All (SparesId s) (kept_in s)

-- each byte of a kept entry is the input's, except for those of an FDE's id
abbrev pub OthersAreInput : Type 0
OthersAreInput = (s : Frames) (k : KeptEntry) (i : ℕ) → Contains (kept_in s) k → i < k.size → (k.id ≡ 0) ⊎ ((i < 4) ⊎ (8 ≤ i))
    → slice_index (frame_bytes s) (k.to + i) ≡ slice_index s.bytes (k.from + i)
