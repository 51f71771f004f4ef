-- Thunks in the memory of an image: as the file has them, whatever its tables fill.
use Rattle.wild_loaded.proofs.Common.{flat_map-flat_map, placed_file, placed_files, of_last_file, sorted_inputs, file_place, all_sections, placed_files_same_all, room_of, length-room, ◌≡◌, ℕ, ◌+◌, ◌<◌, inl, inr, Bool, true, if◌then◌else◌, List, [], length, Some, refl, sym, ap, ◌∙◌, arith, subst, ◌++◌, All, Contains, Result, slice_index, slice_get, All-contains, Contains-append_right, HasBytesAt, Piece, Disjoint, Fault, Role, InputSection, File, Group, Layout, KeepsAll, is_filled, is_loaded_role, bytes, pieces, section_pieces, thunk_pieces, file_pieces, table_pieces, owned_pieces, group_pieces, sorted_piece, of_first_file, merged_and_identity_pieces, offset_in, IsLaidOut, Contains-flat_map, Memory, World, Holds, byte_in, BytesAreLoaded, IsLegal, IsLoadable, IsStored, image_memory, HasPlace, Filled, Framed}
use Rattle.wild_loaded.proofs.SectionsDisjoint.{inside_apart, frame_inside}
use Rattle.wild_geometry.proofs.PlacedInputs.{placed_file_of}
use Rattle.wild_loaded.proofs.Rooms.{rooms_in, stood_files}
use Rattle.std.proofs.Common.{flat_map}
use Rattle.wild_types.specs.declared.part.Role.TheVariants as role
use Rattle.wild_types.specs.declared.layout.Thunk.{Thunk}
use Rattle.wild_types.specs.FileThunks.{thunk_size, thunks_of}
use Rattle.wild_types.proofs.LookupLemmas.{not_hollow_part}
use Rattle.wild_types.specs.Lookups.{files_of}
use Rattle.wild_relax.specs.ThunkAArch64.{thunk_aarch64}
use Rattle.wild_layout.specs.Thunks.{thunk_target, target_or_zero, thunk_bytes}
use Rattle.wild_layout.specs.Image.{thunk_offset, thunk_piece}
use Rattle.wild_layout.specs.ThunkPlaces.{ThunkLies}
use Rattle.wild_layout.proofs.FaultLemmas.{CanGoOn, thunks_of_groups}
use Rattle.wild_layout.proofs.ThunkLemmas.{length-thunk, length-thunk_bytes, GoesOnTo, goes_on}
use Rattle.wild_geometry.specs.Thunks.{HasThunks}
use Rattle.wild_loaded.specs.Laws.{ThunksAreThere}
use Rattle.wild_loaded.proofs.SectionBytesInMemory.{Contains-flat_map_from}
use Rattle.wild_loaded.proofs.PartsHeld.{byte_stands, byte_carried}
use Rattle.wild_loaded.proofs.Loads.{piece_stands}
use Rattle.wild_loaded.proofs.LoadedRanges.{LoadedRange, IsCarriedRange, AreDisjointRanges, disjoint_ranges_flip}
use Rattle.wild_loaded.proofs.SectionsApart.{range_of_section, thunk_pieces_apart, room_listed, filled_place}
use Rattle.wild_loaded.proofs.TableRanges.{range_of_role, room_apart}
use Rattle.wild_loaded.proofs.MadeChanges.{IsMovedImage, kept_at}
use Rattle.wild_loaded.proofs.OutsideTables.{run_misses}

-- a file writes the thunk
record IsOfFile (l : Layout) (t : Thunk) : Type 0 where
  group : Group
  file : File
  grouped : Contains l.groups group
  filed : Contains group.files file
  own : Contains (thunks_of l file) t

of_file : (l : Layout) (b : List Thunk) (t : Thunk) → IsLaidOut l → Contains l.thunk_blocks b → Contains b t → IsOfFile l t
of_file l b t laid c d =
    let o = laid.blocks b t c d in
    record { group = o.group; file = o.file; grouped = o.listed; filed = o.holds; own = subst (λ (ts : List Thunk). Contains ts t) (sym o.own) d }

-- what holds of the thunks of each file
each_of : (l : Layout) (P : Thunk → Type 0) (t : Thunk) → All (λ (g : Group). All (λ (f : File). All P (thunks_of l f)) g.files) l.groups → IsOfFile l t → P t
each_of l P t h k =
    All-contains P (thunks_of l k.file) t (All-contains (λ (f : File). All P (thunks_of l f)) k.group.files k.file (All-contains (λ (g : Group). All (λ (f : File). All P (thunks_of l f)) g.files) l.groups k.group h k.grouped) k.filed) k.own

-- ---- in the file

abbrev thunk_at : Layout → Thunk → Piece
thunk_at l t = record { at = thunk_offset l t; bytes = thunk_bytes l t }

of_thunks : (l : Layout) (t : Thunk) → KeepsAll l → (k : IsOfFile l t) → Contains (thunk_pieces l k.file) (thunk_at l t)
of_thunks l t keeps k =
    let one = Contains-flat_map (thunk_piece l) (thunks_of l k.file) t (thunk_at l t) k.own (0, omega arith, refl) in
    subst (λ (b : Bool). Contains (if b then [] else flat_map (thunk_piece l) (thunks_of l k.file)) (thunk_at l t)) (sym (not_hollow_part l l.primary_part keeps)) one

thunk_listed : (l : Layout) (t : Thunk) → KeepsAll l → IsOfFile l t → Contains (pieces l) (thunk_at l t)
unfolding pieces
thunk_listed l t keeps k =
    let a = placed_file_of l k.group k.file k.filed in
    let f = placed_file l a.0 k.file in
    let sorted = of_last_file f (flat_map (sorted_piece l) (sorted_inputs l)) in
    let once = of_first_file f (merged_and_identity_pieces l) in
    let owned = Contains-append_right (section_pieces l f) (sorted ++ (once ++ thunk_pieces l f)) (thunk_at l t) (Contains-append_right sorted (once ++ thunk_pieces l f) (thunk_at l t) (Contains-append_right once (thunk_pieces l f) (thunk_at l t) (of_thunks l t keeps k))) in
    let in_group = Contains-flat_map (file_pieces l) (placed_files l k.group) f (thunk_at l t) a.1 owned in
    Contains-flat_map_from (group_pieces l) 0 l.groups k.group (thunk_at l t) k.grouped (λ n. Contains-append_right (table_pieces l n k.group) (owned_pieces l k.group) (thunk_at l t) in_group)

thunk_stands : (l : Layout) (t : Thunk) → KeepsAll l → IsLaidOut l → IsOfFile l t → HasBytesAt (bytes l) (thunk_offset l t) (thunk_bytes l t)
thunk_stands l t keeps laid k = piece_stands l (thunk_at l t) laid (thunk_listed l t keeps k)

-- ---- in memory

thunk_held : (l : Layout) (w : World) (t : Thunk) → BytesAreLoaded → KeepsAll l → IsLoadable l.kind → IsLegal l w → IsLaidOut l → IsOfFile l t → Holds (image_memory l w) (w.base + t.address) (thunk_bytes l t)
thunk_held l w t law keeps kind legal laid k = λ i lt.
    let n = length-thunk_bytes l t in
    let c = (each_of l (ThunkLies l) t (laid.thunks (not_hollow_part l l.primary_part keeps)) k).carried i (omega (arith, lt, n)) in
    let e : w.base + (t.address + i) ≡ w.base + t.address + i = omega arith in
    subst (λ (a : ℕ). byte_in (image_memory l w) a ≡ Some (slice_index (thunk_bytes l t) i)) e (byte_carried l w c.0 (thunk_offset l t + i) (t.address + i) (slice_index (thunk_bytes l t) i) law kind legal laid c.1 (byte_stands (bytes l) (thunk_offset l t) i (thunk_bytes l t) lt (thunk_stands l t keeps laid k)))

-- the bytes of a thunk with a target
aimed : (l : Layout) (t : Thunk) (g : GoesOnTo t.address (thunk_target l t)) → thunk_bytes l t ≡ (thunk_aarch64 t.address g.target).bytes
aimed l t g = ap (λ (r : Result ℕ Fault). (thunk_aarch64 t.address (target_or_zero r)).bytes) g.known

pub thunks_there : BytesAreLoaded → ThunksAreThere
thunks_there law = λ l w keeps kind legal laid none b t c d.
    let k = of_file l b t laid c d in
    let g = goes_on t.address (thunk_target l t) (each_of l (CanGoOn l) t (thunks_of_groups l keeps none) k) in
    record { target = g.target; known = g.known; reaches = g.reaches; stands = subst (Holds (image_memory l w) (w.base + t.address)) (aimed l t g) (thunk_held l w t law keeps kind legal laid k) }

-- ---- behind what the tables fill

-- where a thunk stands
abbrev range_of_thunk : Layout → Thunk → LoadedRange
range_of_thunk l t = record { address = t.address; offset = thunk_offset l t; size = thunk_size }

thunk_is_carried : (l : Layout) (t : Thunk) → ThunkLies l t → IsCarriedRange l (range_of_thunk l t)
thunk_is_carried l t h k lt = h.carried k lt

thunks_stood : (l : Layout) → flat_map (thunk_pieces l) (stood_files l) ≡ flat_map (thunk_pieces l) (files_of l.groups)
thunks_stood l = flat_map-flat_map (thunk_pieces l) (placed_files l) l.groups ∙ placed_files_same_all (thunk_pieces l) l (λ at f. refl) ∙ sym (flat_map-flat_map (thunk_pieces l) (λ (g : Group). g.files) l.groups)

-- a thunk shares no byte with a section that owns bytes
filled_apart : (l : Layout) (t : Thunk) (s : InputSection) → KeepsAll l → IsLaidOut l → IsOfFile l t → Contains (all_sections l) s → is_filled l s ≡ true → AreDisjointRanges (range_of_thunk l t) (range_of_section l s)
filled_apart l t s keeps laid k c filled =
    let section = room_listed l s c filled in
    let thunk = subst (λ (ps : List Piece). Contains ps (thunk_at l t)) (sym (thunks_stood l)) (Contains-flat_map (thunk_pieces l) (files_of l.groups) k.file (thunk_at l t) (Contains-flat_map (λ (g : Group). g.files) l.groups k.group k.file k.grouped k.filed) (of_thunks l t keeps k)) in
    let all = All-contains (λ a. All (Disjoint a) (flat_map (thunk_pieces l) (stood_files l))) (flat_map (rooms_in l) (stood_files l)) (room_of l s) (thunk_pieces_apart l laid) section in
    sides (All-contains (Disjoint (room_of l s)) (flat_map (thunk_pieces l) (stood_files l)) (thunk_at l t) all thunk) (length-room l s) (length-thunk_bytes l t) (filled_place l s filled)
  where
    sides : Disjoint (room_of l s) (thunk_at l t) → length (room_of l s).bytes ≡ s.size → length (thunk_bytes l t) ≡ thunk_size → file_place l s ≡ offset_in (slice_get l.parts s.part) s.address → AreDisjointRanges (range_of_thunk l t) (range_of_section l s)
    sides (inl le) fs ft e = inr (omega (arith, le, fs, e))
    sides (inr le) fs ft e = inl (omega (arith, le, ft, e))

-- nor with a table
table_apart : (l : Layout) (t : Thunk) (r : Role) → KeepsAll l → IsLaidOut l → ThunkLies l t → is_loaded_role r ≡ true → AreDisjointRanges (range_of_thunk l t) (range_of_role l r)
table_apart l t r keeps laid h loaded = disjoint_ranges_flip (range_of_role l r) (range_of_thunk l t) (room_apart l r l.primary_part t.address thunk_size h.stands.0 loaded keeps laid h.stands.1)

-- nor with any section
section_apart : (l : Layout) (t : Thunk) (s : InputSection) → KeepsAll l → IsLaidOut l → IsOfFile l t → ThunkLies l t → Contains (all_sections l) s → IsStored l s → AreDisjointRanges (range_of_thunk l t) (range_of_section l s)
section_apart l t s keeps laid k lies c stored = by_place stored.place
  where
    by_place : HasPlace l s → AreDisjointRanges (range_of_thunk l t) (range_of_section l s)
    by_place (Filled filled) = filled_apart l t s keeps laid k c filled
    by_place (Framed frame) = inside_apart (range_of_section l s) (range_of_role l role.EhFrame) (range_of_thunk l t) stored.some (frame_inside l s laid c frame) (table_apart l t role.EhFrame keeps laid lies refl)

-- a byte of a thunk is filled by none of them
thunk_kept : (l : Layout) (w : World) (m : Memory) (t : Thunk) (i : ℕ) → IsMovedImage l w m → IsOfFile l t → i < thunk_size → byte_in m (w.base + t.address + i) ≡ byte_in (image_memory l w) (w.base + t.address + i)
thunk_kept l w m t i h k lt =
    let lies = each_of l (ThunkLies l) t (h.well.laid.thunks (not_hollow_part l l.primary_part h.well.keeps)) k in
    let same = kept_at l w m (t.address + i) h (run_misses l w m (range_of_thunk l t) i h (thunk_is_carried l t lies) (λ s c stored. section_apart l t s h.well.keeps h.well.laid k lies c stored) (λ r loaded. table_apart l t r h.well.keeps h.well.laid lies loaded) lt) in
    let e : w.base + (t.address + i) ≡ w.base + t.address + i = omega arith in
    subst (λ (a : ℕ). byte_in m a ≡ byte_in (image_memory l w) a) e same

pub thunks_moved : (l : Layout) (w : World) (m : Memory) → ThunksAreThere → IsMovedImage l w m → HasThunks l w m
thunks_moved l w m law h = λ b t c d.
    let before = law l w h.well.keeps h.well.kind h.well.legal h.well.laid h.well.none b t c d in
    let n = length-thunk t.address before.target in
    record {
      target = before.target;
      known = before.known;
      reaches = before.reaches;
      stands = λ i lt. thunk_kept l w m t i h (of_file l b t h.well.laid c d) (omega (arith, lt, n)) ∙ before.stands i lt;
    }
