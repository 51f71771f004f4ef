-- The bytes of kept sections in the memory of an image that no entry has changed.
use Rattle.wild_geometry.proofs.ReadLemmas.{loaded_is, read_loaded, read_written}
use Rattle.wild_loaded.proofs.Common.{not_partial, flat_map, PartsAreStored, IsLocatedAt, placed_files, sorted_inputs, of_last_file, each_at, listed_section, IsPlacedSection, IsKeptPlacedSection, file_place, ◌≡◌, ℕ, zero, suc, ◌+◌, ◌-◌, ◌^◌, ◌<◌, ◌≤◌, inl, inr, Bool, true, false, List, [], ◌∷◌, length, get_or, refl, sym, arith, subst, ◌++◌, Contains, Some, slice_get, slice_index, if◌then◌else◌, ◌==◌, ◌&&◌, not, cases_Bool, eqb-true, and_parts, not-true, Contains-append_left, Contains-append_right, HasBytesAt, Piece, AreDisjoint, length-overlay, Segment, InputSection, item_of, File, Layout, is_header_only_role, is_filled, is_header_only_part, is_loaded, is_read, is_frame, allocated, sites, section_bytes, bytes, pieces, section_pieces, thunk_pieces, file_pieces, table_pieces, owned_pieces, group_pieces, offset_in, sorted_piece, of_first_file, merged_and_identity_pieces, SectionLies, CarriesByte, IsLaidOut, flat_map_from, IsLegal, IsLoadable, World, Memory, Holds, byte_in, BytesAreLoaded, IsStored, image_memory, Filled, Framed, Contains-flat_map}
use Rattle.wild_loaded.proofs.TableRanges.{range_of_role, role_there}
use Rattle.wild_loaded.proofs.FramesInPart.{frames_stand, never_framed}
use Rattle.wild_loaded.proofs.SectionsDisjoint.{frame_inside}
use Rattle.wild_loaded.proofs.SectionsApart.{filled_place}
use Rattle.wild_geometry.proofs.FrameSizes.{data_bytes}
use Rattle.wild_geometry.specs.PlacedSections.{IsSectionOfFile, Own, Ordered}
use Rattle.wild_words.specs.Overlay.{overlay}
use Rattle.wild_types.specs.declared.part.Role.TheVariants as role
use Rattle.wild_types.specs.declared.input.Slot.TheVariants as slot
use Rattle.wild_types.specs.HeaderOnly.{is_omitted}
use Rattle.wild_types.specs.Lookups.{has_range_bytes, has_relocations}
use Rattle.wild_layout.specs.Sites.{item_bytes}
use Rattle.wild_layout.specs.Image.{section_piece}
use Rattle.wild_layout.specs.Loadable.{IsMapped, IsCarried}
use Rattle.wild_loaded.proofs.PartsHeld.{byte_stands, byte_carried, byte_below, IsHeldAt, stands_held}
use Rattle.wild_loaded.proofs.Loads.{piece_stands}

-- ---- sections

pub Contains-flat_map_from : {X Y : Type 0} (f : ℕ → X → List Y) (i : ℕ) (xs : List X) (x : X) (y : Y) → Contains xs x → ((n : ℕ) → Contains (f n x) y) → Contains (flat_map_from f i xs) y
Contains-flat_map_from f i [] x y c h = absurd (omega (arith, c.1))
Contains-flat_map_from f i (z ∷ zs) x y c h = at f i z zs x y c.0 c.1 c.2 h (λ c'. Contains-flat_map_from f (i + 1) zs x y c' h)
  where
    at : {X Y : Type 0} (f : ℕ → X → List Y) (i : ℕ) (z : X) (zs : List X) (x : X) (y : Y) (k : ℕ) → k < length (z ∷ zs) → get_or (z ∷ zs) k x ≡ x → ((n : ℕ) → Contains (f n x) y) → (Contains zs x → Contains (flat_map_from f (i + 1) zs) y) → Contains (flat_map_from f i (z ∷ zs)) y
    at f i z zs x y zero l e h again = Contains-append_left (f i z) (flat_map_from f (i + 1) zs) y (rw e (h i))
    at f i z zs x y (suc k) l e h again = Contains-append_right (f i z) (flat_map_from f (i + 1) zs) y (again (k, omega (arith, l), e))

-- what stands beside the sections of a file
abbrev sorted_and_rest : Layout → File → List Piece
sorted_and_rest l f = of_last_file f (flat_map (sorted_piece l) (sorted_inputs l)) ++ (of_first_file f (merged_and_identity_pieces l) ++ thunk_pieces l f)

-- a section that owns bytes is a piece of the image
pub section_listed : (l : Layout) (s : InputSection) (k : IsPlacedSection l s) → is_filled l s ≡ true → Contains (pieces l) (record { at = offset_in (slice_get l.parts s.part) s.address; bytes = section_bytes l k.owner s })
unfolding pieces
section_listed l s k filled =
    let piece : Piece = record { at = offset_in (slice_get l.parts s.part) s.address; bytes = section_bytes l k.owner s } in
    let in_file = of_file k.file k.owner s piece k.listed (subst (λ (b : Bool). Contains (if b then piece ∷ [] else []) piece) (sym filled) (0, omega arith, refl)) in
    let in_group = Contains-flat_map (file_pieces l) (placed_files l k.group) k.file piece k.filed in_file in
    Contains-flat_map_from (group_pieces l) 0 l.groups k.group piece k.grouped (λ n. Contains-append_right (table_pieces l n k.group) (owned_pieces l k.group) piece in_group)
  where
    of_file : (f owner : File) (s : InputSection) (p : Piece) → IsSectionOfFile l f owner s → Contains (section_piece l owner s) p → Contains (file_pieces l f) p
    of_file f owner s p (Own e c) one =
        let here = subst (λ (o : File). Contains (section_piece l o s) p) e one in
        Contains-append_left (section_pieces l f) (sorted_and_rest l f) p (Contains-flat_map (section_piece l f) f.sections s p c here)
    of_file f owner s p (Ordered last x c e i) one =
        let here : Contains (sorted_piece l x) p = subst (λ (t : InputSection). Contains (section_piece l x.file t) p) i (subst (λ (o : File). Contains (section_piece l o s) p) e one) in
        let all = Contains-flat_map (sorted_piece l) (sorted_inputs l) x p c here in
        let role : Contains (of_last_file f (flat_map (sorted_piece l) (sorted_inputs l))) p = subst (λ (b : Bool). Contains (if b then flat_map (sorted_piece l) (sorted_inputs l) else []) p) (sym last) all in
        Contains-append_right (section_pieces l f) (sorted_and_rest l f) p (Contains-append_left (of_last_file f (flat_map (sorted_piece l) (sorted_inputs l))) (of_first_file f (merged_and_identity_pieces l) ++ thunk_pieces l f) p role)

-- frames that are written stand in a part that is
pub frames_written : (l : Layout) (s : InputSection) → is_frame s.slot ≡ true → is_omitted l s ≡ false → is_header_only_role l role.EhFrame ≡ false
frames_written l s frame written = subst (λ (b : Bool). (if b then is_header_only_role l role.EhFrame else is_header_only_part l s.part) ≡ false) frame written

-- so does another section
pub part_written : (l : Layout) (s : InputSection) → is_frame s.slot ≡ false → is_omitted l s ≡ false → is_header_only_part l s.part ≡ false
part_written l s plain written = subst (λ (b : Bool). (if b then is_header_only_role l role.EhFrame else is_header_only_part l s.part) ≡ false) plain written

-- what owns no bytes of a part that is written has none
not_given : (given header_only : Bool) → (given && not header_only) ≡ false → header_only ≡ false → given ≡ false
not_given true false f e = f
not_given true true f e = cc
not_given false header_only f e = refl

-- a section that is read and written, and is none of frames, owns bytes, where it has some
pub not_filled : (l : Layout) (s : InputSection) → is_read s ≡ true → is_frame s.slot ≡ false → is_omitted l s ≡ false → is_filled l s ≡ false → length s.bytes ≡ 0
not_filled l s read plain written f =
    let parts = and_parts (has_relocations s.slot) (not s.nobits) read in
    let loaded = loaded_is s.slot (read_loaded s read plain) in
    let n = not-true s.nobits parts.1 in
    let given = not_given (has_range_bytes l s) (is_header_only_part l s.part) f (part_written l s plain written) in
    let e : not (length s.bytes == 0) ≡ false = simp (loaded, n) at given in
    none (length s.bytes) (length s.bytes == 0) refl e
  where
    none : (k : ℕ) (b : Bool) → (k == 0) ≡ b → not b ≡ false → k ≡ 0
    none k true e h = eqb-true k 0 e
    none k false e h = cc

Holds-empty : (m : Memory) (a : ℕ) (bs : List ℕ) → length bs ≡ 0 → Holds m a bs
Holds-empty m a bs h = λ k lt. absurd (omega (arith, h, lt))

carried_byte : (l : Layout) (s : InputSection) (k : ℕ) → is_filled l s ≡ true → (h : Segment) × IsCarried l s k h → (h : Segment) × CarriesByte l h (file_place l s + k) (s.address + k)
carried_byte l s k filled c = (c.0, subst (λ (n : ℕ). CarriesByte l c.0 (n + k) (s.address + k)) (sym (filled_place l s filled)) (record { listed = c.1.listed; loaded = c.1.loaded; from = c.1.from; to = c.1.to; distance = c.1.distance }))

-- a kept section that owns bytes has each of them carried
pub kept_carried : (l : Layout) (s : InputSection) → IsLoadable l.kind → IsLaidOut l → IsPlacedSection l s → allocated s.flags ≡ true → is_loaded s.slot ≡ true → is_filled l s ≡ true → (k : ℕ) → k < s.size → (h : Segment) × CarriesByte l h (file_place l s + k) (s.address + k)
kept_carried l s kind laid input room loaded filled k lt = carried_byte l s k filled (each_at (IsMapped l) l s (laid.mapped (not_partial l.kind kind)) input loaded filled room k lt)

-- those of frames are carried with their part
frame_carried : (l : Layout) (s : InputSection) → IsLoadable l.kind → IsLaidOut l → IsPlacedSection l s → is_frame s.slot ≡ true → is_header_only_role l role.EhFrame ≡ false → (k : ℕ) → k < s.size → (h : Segment) × CarriesByte l h (file_place l s + k) (s.address + k)
frame_carried l s kind laid input frame written k lt =
    let h = frame_inside l s laid (listed_section l s input) frame in
    let from = h.from in
    let to = h.to in
    let e = h.distance (omega (arith, lt)) in
    let c = role_there l role.EhFrame refl written kind laid (s.address + k - (range_of_role l role.EhFrame).address) (omega (arith, from, to, lt)) in
    let place : (range_of_role l role.EhFrame).offset + (s.address + k - (range_of_role l role.EhFrame).address) ≡ file_place l s + k = omega (arith, e, from) in
    let at : (range_of_role l role.EhFrame).address + (s.address + k - (range_of_role l role.EhFrame).address) ≡ s.address + k = omega (arith, from) in
    (c.0, subst (λ (n : ℕ). CarriesByte l c.0 n (s.address + k)) place (subst (λ (n : ℕ). CarriesByte l c.0 ((range_of_role l role.EhFrame).offset + (s.address + k - (range_of_role l role.EhFrame).address)) n) at c.1))

-- and has them in the file
pub stored_kept : (l : Layout) (s : InputSection) → IsLoadable l.kind → IsLaidOut l → IsKeptPlacedSection l s → 1 ≤ length s.bytes → IsStored l s
stored_kept l s kind laid kept some =
    let full = (each_at (SectionLies l) l s laid.inputs kept.input).bytes (read_written s kept.reads) in
    elim (cases_Bool (is_frame s.slot)) [
      | inl frame ↦ record { some = omega (arith, full, some); place = Framed frame; carried = frame_carried l s kind laid kept.input frame (frames_written l s frame kept.written) }
      | inr plain ↦ elim (cases_Bool (is_filled l s)) [
        | inl filled ↦ record { some = omega (arith, full, some); place = Filled filled; carried = kept_carried l s kind laid kept.input (kept.room plain) (read_loaded s kept.reads plain) filled }
        | inr f ↦ (let none = not_filled l s kept.reads plain kept.written f in absurd (omega (arith, none, some)))
      ]
    ]

-- the bytes of a section that owns them are in memory at its address
pub filled_held : (l : Layout) (w : World) (s : InputSection) → BytesAreLoaded → IsLoadable l.kind → IsLegal l w → IsLaidOut l → (k : IsPlacedSection l s) → allocated s.flags ≡ true → is_loaded s.slot ≡ true → is_filled l s ≡ true → (bs : List ℕ) → section_bytes l k.owner s ≡ bs → length bs ≡ s.size → Holds (image_memory l w) (w.base + s.address) bs
filled_held l w s law kind legal laid k room loaded filled bs is long =
    let st : HasBytesAt (bytes l) (offset_in (slice_get l.parts s.part) s.address) (section_bytes l k.owner s) = piece_stands l (record { at = offset_in (slice_get l.parts s.part) s.address; bytes = section_bytes l k.owner s }) laid (section_listed l s k filled) in
    let st' = subst (λ (n : ℕ). HasBytesAt (bytes l) n bs) (sym (filled_place l s filled)) (subst (λ (xs : List ℕ). HasBytesAt (bytes l) (offset_in (slice_get l.parts s.part) s.address) xs) is st) in
    λ i lt. (
    let c = kept_carried l s kind laid k room loaded filled i (omega (arith, long, lt)) in
    let e : w.base + (s.address + i) ≡ w.base + s.address + i = omega arith in
    subst (λ (a : ℕ). byte_in (image_memory l w) a ≡ Some (slice_index bs i)) e (byte_carried l w c.0 (file_place l s + i) (s.address + i) (slice_index bs i) law kind legal laid c.1 (byte_stands (bytes l) (file_place l s) i bs lt st')))

-- the bytes of frames are there with the table of frames
frame_held : (l : Layout) (w : World) (s : InputSection) → PartsAreStored → IsLoadable l.kind → IsLegal l w → IsLaidOut l → (k : IsPlacedSection l s) → is_frame s.slot ≡ true → is_header_only_role l role.EhFrame ≡ false → 1 ≤ length (item_bytes l (item_of l k.owner s)) → IsHeldAt l w s.address (item_bytes l (item_of l k.owner s))
frame_held l w s law kind legal laid k frame written some = stands_held l w role.EhFrame s.address (item_bytes l (item_of l k.owner s)) law refl written kind legal laid some (of_file k.file k.owner k.filed k.listed)
  where
    of_file : (f owner : File) → Contains (placed_files l k.group) f → IsSectionOfFile l f owner s → IsLocatedAt l role.EhFrame s.address (item_bytes l (item_of l owner s))
    of_file f owner c (Own e own) = subst (λ (o : File). IsLocatedAt l role.EhFrame s.address (item_bytes l (item_of l o s))) (sym e) (frames_stand l k.group f s laid k.grouped c own frame)
    of_file f owner c (Ordered last x cx e i) = absurd (never_framed l x s cx i frame)

-- the bytes of a kept section are in memory at its address
pub section_held : (l : Layout) (w : World) (s : InputSection) → BytesAreLoaded → PartsAreStored → IsLoadable l.kind → IsLegal l w → IsLaidOut l → (k : IsKeptPlacedSection l s) → AreDisjoint (length s.bytes) (sites l (item_of l k.input.owner s)) → Holds (image_memory l w) (w.base + s.address) (overlay (sites l (item_of l k.input.owner s)) s.bytes)
section_held l w s law parts kind legal laid k apart =
    let whole = overlay (sites l (item_of l k.input.owner s)) s.bytes in
    let len : length whole ≡ length s.bytes = length-overlay (sites l (item_of l k.input.owner s)) s.bytes apart in
    let full = (each_at (SectionLies l) l s laid.inputs k.input).bytes (read_written s k.reads) in
    elim (cases_Bool (is_frame s.slot)) [
      | inl frame ↦ λ i lt. (frame_held l w s parts kind legal laid k.input frame (frames_written l s frame k.written) (omega (arith, lt))).held i lt
      | inr plain ↦ elim (cases_Bool (is_filled l s)) [
        | inl filled ↦ filled_held l w s law kind legal laid k.input (k.room plain) (read_loaded s k.reads plain) filled whole (data_bytes l k.input.owner s k.reads) (omega (arith, len, full))
        | inr f ↦ (let none = not_filled l s k.reads plain k.written f in Holds-empty (image_memory l w) (w.base + s.address) whole (omega (arith, len, none)))
      ]
    ]

-- and do not wrap
pub section_ends : (l : Layout) (w : World) (s : InputSection) → IsLoadable l.kind → IsLegal l w → IsLaidOut l → (k : IsKeptPlacedSection l s) → 1 ≤ length s.bytes → w.base + s.address + length s.bytes ≤ 2 ^ 64
section_ends l w s kind legal laid k some =
    let full = (each_at (SectionLies l) l s laid.inputs k.input).bytes (read_written s k.reads) in
    let stored = stored_kept l s kind laid k some in
    let c = stored.carried (s.size - 1) (omega (arith, full, some)) in
    let e = byte_below l w c.0 (file_place l s + (s.size - 1)) (s.address + (s.size - 1)) kind legal laid c.1 in
    omega (arith, e, full, some)
