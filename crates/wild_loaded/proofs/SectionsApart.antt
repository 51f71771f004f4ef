-- No two kept sections share a byte of the file.
use Rattle.wild_loaded.proofs.Common.{◌≡◌, inl, inr, Bool, true, false, List, [], ◌∷◌, length, refl, sym, ap, ◌∙◌, arith, subst, All, AllPairs, Contains, slice_get, if◌then◌else◌, not, flat_map, and_parts, All-weaker, Piece, Disjoint, Between, flat_map-flat_map, Slot, InputSection, File, Group, Layout, is_filled, is_frame, is_header_only_part, part_with, placed_files, processed_sections, pieces, thunk_pieces, of_first_file, merged_and_identity_pieces, table_pieces, owned_pieces, offset_in, SectionLies, IsLaidOut, file_place, IsStored, Contains-flat_map, all_sections, by_files, input_of, room_of, length-room, section_room}
use Rattle.wild_words.proofs.ListLemmas.{AllPairs-from_flat_map}
use Rattle.wild_words.proofs.OrderLemmas.{Disjoint-flip}
use Rattle.wild_types.specs.declared.part.Role.TheVariants as role
use Rattle.wild_types.specs.declared.input.Slot.TheVariants as slot
use Rattle.wild_types.specs.Lookups.{has_range_bytes, has_bytes, has_range}
use Rattle.wild_loaded.proofs.LoadedRanges.{LoadedRange, IsCarriedRange, AreDisjointRanges}
use Rattle.wild_loaded.proofs.PairLemmas.{AllPairs-after, AllPairs-first, AllPairs-across, All-second}
use Rattle.wild_geometry.proofs.PlacedInputs.{in_processed}
use Rattle.wild_geometry.proofs.Rooms.{apart_at}
use Rattle.wild_loaded.proofs.Rooms.{HasSize, lies_size, rooms_in, file_rooms, once_and_thunks, stood_files, rooms_stand}

-- ---- rooms

-- the rooms of what files own share no byte of the image
rooms_apart : (l : Layout) → IsLaidOut l → AllPairs Disjoint (flat_map (file_rooms l) (stood_files l))
unfolding pieces
rooms_apart l laid =
    let owned = AllPairs-after Disjoint (table_pieces l) (owned_pieces l) 0 l.groups laid.owners.apart in
    let sizes = All-weaker (λ (g : Group). All (λ (f : File). All (SectionLies l) (processed_sections l f)) (placed_files l g)) (λ (g : Group). All (λ (f : File). All (HasSize l) (processed_sections l f)) (placed_files l g)) (λ g a. All-weaker (λ (f : File). All (SectionLies l) (processed_sections l f)) (λ (f : File). All (HasSize l) (processed_sections l f)) (λ f b. All-weaker (SectionLies l) (HasSize l) (lies_size l) (processed_sections l f) b) (placed_files l g) a) l.groups laid.inputs in
    apart_at (flat_map (owned_pieces l) l.groups) (flat_map (file_rooms l) (stood_files l)) (sym (rooms_stand l sizes)) owned

-- nor do those of two sections
pub section_rooms_apart : (l : Layout) → IsLaidOut l → AllPairs (Between Disjoint (section_room l)) (all_sections l)
section_rooms_apart l laid =
    let sections = AllPairs-first Disjoint (rooms_in l) (once_and_thunks l) (stood_files l) (rooms_apart l laid) in
    let same = by_files (section_room l) l ∙ sym (flat_map-flat_map (rooms_in l) (placed_files l) l.groups) in
    AllPairs-from_flat_map Disjoint (section_room l) (all_sections l) (subst (AllPairs Disjoint) (sym same) sections)

-- nor that of a section and what the first file alone has, or a thunk
pub once_pieces_apart : (l : Layout) → IsLaidOut l → All (λ a. All (Disjoint a) (flat_map (once_and_thunks l) (stood_files l))) (flat_map (rooms_in l) (stood_files l))
once_pieces_apart l laid = AllPairs-across Disjoint (rooms_in l) (once_and_thunks l) (stood_files l) Disjoint-flip (rooms_apart l laid)

pub thunk_pieces_apart : (l : Layout) → IsLaidOut l → All (λ a. All (Disjoint a) (flat_map (thunk_pieces l) (stood_files l))) (flat_map (rooms_in l) (stood_files l))
thunk_pieces_apart l laid =
    All-weaker (λ a. All (Disjoint a) (flat_map (once_and_thunks l) (stood_files l))) (λ a. All (Disjoint a) (flat_map (thunk_pieces l) (stood_files l)))
    (λ a h. All-second (Disjoint a) (λ (f : File). of_first_file f (merged_and_identity_pieces l)) (thunk_pieces l) (stood_files l) h)
    (flat_map (rooms_in l) (stood_files l))
    (once_pieces_apart l laid)

-- the room of a section that owns bytes is among those of all files
pub room_listed : (l : Layout) (s : InputSection) → Contains (all_sections l) s → is_filled l s ≡ true → Contains (flat_map (rooms_in l) (stood_files l)) (room_of l s)
room_listed l s c filled =
    let i = input_of l s c in
    let own : Contains (section_room l s) (room_of l s) = subst (λ (ps : List Piece). Contains ps (room_of l s)) (sym (one l s filled)) (0, omega arith, refl) in
    let in_file = Contains-flat_map (section_room l) (processed_sections l i.file) s (room_of l s) (in_processed l i.file i.owner s i.listed) own in
    let file = Contains-flat_map (placed_files l) l.groups i.group i.file i.grouped i.filed in
    Contains-flat_map (rooms_in l) (stood_files l) i.file (room_of l s) file in_file
  where
    one : (l : Layout) (s : InputSection) → is_filled l s ≡ true → section_room l s ≡ room_of l s ∷ []
    one l s filled = rw filled refl

-- ---- two sections

apart_rooms : (l : Layout) (s t : InputSection) → is_filled l s ≡ true → is_filled l t ≡ true → Between Disjoint (section_room l) s t → Disjoint (room_of l s) (room_of l t)
apart_rooms l s t fs ft a =
    let P : Bool → Bool → Type 0 = λ x y. All (λ (p : Piece). All (Disjoint p) (if y then room_of l t ∷ [] else [])) (if x then room_of l s ∷ [] else []) in
    let h : P true true = subst (λ (x : Bool). P x true) fs (subst (λ (y : Bool). P (is_filled l s) y) ft a) in
    h 0 (room_of l s) (omega arith) 0 (room_of l t) (omega arith)

-- where a section stands
abbrev pub range_of_section : Layout → InputSection → LoadedRange
range_of_section l s = record { address = s.address; offset = file_place l s; size = s.size }

pub stored_section_is_carried : (l : Layout) (s : InputSection) → IsStored l s → IsCarriedRange l (range_of_section l s)
stored_section_is_carried l s h k lt = h.carried k lt

not_frame : (k : Slot) → has_range k ≡ true → is_frame k ≡ false
not_frame slot.Frame h = cc
not_frame other h = cc

-- a section that owns bytes is none of frames
pub filled_place : (l : Layout) (s : InputSection) → is_filled l s ≡ true → file_place l s ≡ offset_in (slice_get l.parts s.part) s.address
filled_place l s filled = ap (λ (b : Bool). offset_in (if b then part_with role.EhFrame l.parts else slice_get l.parts s.part) s.address) (not_frame s.slot (and_parts (has_range s.slot) (has_bytes l s) (and_parts (has_range_bytes l s) (not (is_header_only_part l s.part)) filled).0).0)

-- sections with rooms apart share no byte of the file
pub filled_apart : (l : Layout) (s t : InputSection) → is_filled l s ≡ true → is_filled l t ≡ true → Between Disjoint (section_room l) s t → AreDisjointRanges (range_of_section l s) (range_of_section l t)
filled_apart l s t fs ft across = sides (apart_rooms l s t fs ft across) (length-room l s) (length-room l t) (filled_place l s fs) (filled_place l t ft)
  where
    sides : Disjoint (room_of l s) (room_of l t) → length (room_of l s).bytes ≡ s.size → length (room_of l t).bytes ≡ t.size → file_place l s ≡ offset_in (slice_get l.parts s.part) s.address → file_place l t ≡ offset_in (slice_get l.parts t.part) t.address → AreDisjointRanges (range_of_section l s) (range_of_section l t)
    sides (inl le) ns nt ps pt = inl (omega (arith, le, ns, ps, pt))
    sides (inr le) ns nt ps pt = inr (omega (arith, le, nt, ps, pt))
