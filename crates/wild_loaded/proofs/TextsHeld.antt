-- Merged strings and the path of the interpreter in the memory of an image: as the file has them, whatever its tables fill.
use Rattle.wild_loaded.proofs.Common.{◌≡◌, ℕ, ◌+◌, ◌-◌, ◌<◌, ◌≤◌, inl, inr, ◌==◌, Bool, true, false, not, List, [], ◌∷◌, ◌++◌, length, Some, refl, sym, ap, ◌∙◌, arith, subst, All, Contains, Option, if◌then◌else◌, slice_index, slice_get, ne_eqb, All-contains, Contains-append_left, Contains-append_right, listed_at, HasBytesAt, Piece, Disjoint, Part, Role, InputSection, Segment, Layout, KeepsAll, section_of_part, is_header_only_at, is_header_only_part, has_data, takes_file_bytes, is_filled, is_loaded_role, role_place, has_role, part_with, not_raw, placed_file, placed_files, of_last_file, sorted_inputs, IsLaidOut, TablesStand, bytes, pieces, section_pieces, sorted_piece, thunk_pieces, file_pieces, table_pieces, owned_pieces, group_pieces, of_first_file, merged_and_identity_pieces, offset_in, CarriesByte, Contains-flat_map, Memory, World, Holds, byte_in, BytesAreLoaded, IsLegal, IsLoadable, alloc_bit, not_partial, file_place, all_sections, room_of, length-room, image_memory, IsStored, HasPlace, Filled, Framed, TextsAreStored}
use Rattle.std.proofs.Common.{flat_map}
use Rattle.std.proofs.lemmas.Bool.{and_from}
use Rattle.wild_types.specs.declared.part.Role.TheVariants as role
use Rattle.wild_types.specs.declared.layout.Merged.{Merged}
use Rattle.wild_types.specs.Lookups.{is_allocated_section}
use Rattle.wild_layout.specs.Image.{merged_bytes, front_piece, offset_of_part}
use Rattle.wild_layout.specs.SectionPlaces.{FrontLies, HasRoom}
use Rattle.wild_meaning.specs.Section.{IsAllocatedPart, IsHeaderOnly}
use Rattle.wild_meaning.specs.LinkedImage.{HoldsTexts}
use Rattle.wild_geometry.specs.Carried.{IsPartLoaded, EachPartIsLoaded}
use Rattle.wild_geometry.proofs.HeaderOnlyLemmas.{part_is_written}
use Rattle.wild_geometry.proofs.PlacedInputs.{placed_file_of}
use Rattle.wild_loaded.proofs.FirstFile.{first_file, interpreter_bytes}
use Rattle.wild_loaded.proofs.LoadedRanges.{LoadedRange, IsCarriedRange, AreDisjointRanges, disjoint_ranges_flip}
use Rattle.wild_loaded.proofs.Loads.{piece_stands}
use Rattle.wild_loaded.proofs.MadeChanges.{IsMovedImage, kept_at}
use Rattle.wild_loaded.proofs.OutsideTables.{run_misses}
use Rattle.wild_loaded.proofs.PartsHeld.{placed, byte_stands, byte_carried}
use Rattle.wild_loaded.proofs.Rooms.{rooms_in, once_and_thunks, stood_files}
use Rattle.wild_loaded.proofs.SectionBytesInMemory.{Contains-flat_map_from}
use Rattle.wild_loaded.proofs.SectionsApart.{range_of_section, once_pieces_apart, room_listed, filled_place}
use Rattle.wild_loaded.proofs.SectionsDisjoint.{inside_apart, frame_inside, any_section_apart}
use Rattle.wild_loaded.proofs.TableRanges.{range_of_role, range_of_part, any_roles_apart, any_room_apart}

-- ---- parts

-- what the judge asks of a part the writer tests
room_tested : (l : Layout) (n : ℕ) (p : Part) → slice_get l.parts n ≡ Some p → IsAllocatedPart l n → is_allocated_section l p.section ≡ true
room_tested l n p there a =
    let one : a.part ≡ p = (let both : Some a.part ≡ Some p = sym a.listed ∙ there in cc) in
    let named : (a.part.section == 0) ≡ false = ne_eqb a.part.section 0 a.named in
    let room = alloc_bit a.section.flags a.room in
    let tested : is_allocated_section l a.part.section ≡ true = rw (a.found, named, room) refl in
    subst (λ (q : Part). is_allocated_section l q.section ≡ true) one tested

written_tested : (l : Layout) (n : ℕ) (p : Part) → slice_get l.parts n ≡ Some p → (IsHeaderOnly l p → ⊥) → is_header_only_part l n ≡ false
written_tested l n p there written = part_is_written l n (λ q e. subst (λ (x : Part). IsHeaderOnly l x → ⊥) (let both : Some p ≡ Some q = sym there ∙ e in let same : p ≡ q = cc in same) written)

written_section : (l : Layout) (n : ℕ) (p : Part) → slice_get l.parts n ≡ Some p → is_header_only_part l n ≡ false → is_header_only_at l p.section ≡ false
written_section l n p there written = subst (λ (o : Option Part). is_header_only_at l (section_of_part o) ≡ false) there written

takes_bytes : (l : Layout) (p : Part) → has_data l p.section ≡ true → is_header_only_at l p.section ≡ false → takes_file_bytes l p.section ≡ true
takes_bytes l p has written = and_from (has_data l p.section) (not (is_header_only_at l p.section)) has (rw written refl)

-- each byte of such a part is loaded
byte_loaded : (l : Layout) (p : Part) → IsLoadable l.kind → EachPartIsLoaded l → Contains l.parts p → is_allocated_section l p.section ≡ true → takes_file_bytes l p.section ≡ true → (k : ℕ) → k < p.size → (g : Segment) × CarriesByte l g (p.offset + k) (p.address + k)
byte_loaded l p kind loaded c room takes k lt = All-contains (IsPartLoaded l) l.parts p (loaded (not_partial l.kind kind)) c room takes k lt

-- bytes of the file at the start of a part that segments load
stored_at : (l : Layout) (w : World) (p : Part) (bs : List ℕ) → BytesAreLoaded → IsLoadable l.kind → IsLegal l w → IsLaidOut l → EachPartIsLoaded l → Contains l.parts p → is_allocated_section l p.section ≡ true → takes_file_bytes l p.section ≡ true → length bs ≤ p.size → HasBytesAt (bytes l) p.offset bs → Holds (image_memory l w) (w.base + p.address) bs
stored_at l w p bs law kind legal laid loaded c room takes fits stands = λ k lt.
    let at = byte_loaded l p kind loaded c room takes k (omega (arith, lt, fits)) in
    let e : w.base + (p.address + k) ≡ w.base + p.address + k = omega arith in
    subst (λ (a : ℕ). byte_in (image_memory l w) a ≡ Some (slice_index bs k)) e (byte_carried l w at.0 (p.offset + k) (p.address + k) (slice_index bs k) law kind legal laid at.1 (byte_stands (bytes l) p.offset k bs lt stands))

-- ---- merged strings in the file

-- bytes at the front of a part that is written
front_is_one : (l : Layout) (part : ℕ) (p : Part) (bs : List ℕ) → is_header_only_part l part ≡ false → slice_get l.parts part ≡ Some p → 1 ≤ length bs → front_piece l part bs ≡ record { at = p.offset; bytes = bs } ∷ []
front_is_one l part p bs written there some =
    let at : List Piece = record { at = offset_of_part (slice_get l.parts part); bytes = bs } ∷ [] in
    let none : (length bs == 0) ≡ false = ne_eqb (length bs) 0 (λ e. omega (arith, e, some)) in
    let first : front_piece l part bs ≡ (if length bs == 0 then [] else at) = ap (λ (b : Bool). if b then [] else (if length bs == 0 then [] else at)) written in
    let second : (if length bs == 0 then [] else at) ≡ at = ap (λ (b : Bool). if b then [] else at) none in
    first ∙ second ∙ ap (λ (o : Option Part). record { at = offset_of_part o; bytes = bs } ∷ []) there

abbrev piece_at : Part → List ℕ → Piece
piece_at p bs = record { at = p.offset; bytes = bs }

-- the strings are a piece of what the first file alone has
strings_once : (l : Layout) (g : Merged) (p : Part) → Contains l.merged g → slice_get l.parts g.part ≡ Some p → is_header_only_part l g.part ≡ false → 1 ≤ length (merged_bytes g) → Contains (merged_and_identity_pieces l) (piece_at p (merged_bytes g))
strings_once l g p c there written some =
    let x = piece_at p (merged_bytes g) in
    let one : Contains (front_piece l g.part (merged_bytes g)) x = subst (λ (ps : List Piece). Contains ps x) (sym (front_is_one l g.part p (merged_bytes g) written there some)) (0, omega arith, refl) in
    Contains-append_left (flat_map (λ (m : Merged). front_piece l m.part (merged_bytes m)) l.merged) (front_piece l l.identity.part l.identity.bytes) x (Contains-flat_map (λ (m : Merged). front_piece l m.part (merged_bytes m)) l.merged g x c one)

-- what the first file alone has is the first file's
record IsOfFirst (l : Layout) (x : Piece) : Type 0 where
  listed : Contains (pieces l) x
  once : Contains (flat_map (once_and_thunks l) (stood_files l)) x

of_first : (l : Layout) (x : Piece) → IsLaidOut l → Contains (merged_and_identity_pieces l) x → IsOfFirst l x
unfolding pieces
of_first l x laid c =
    let f = first_file l laid in
    let a = placed_file_of l f.group f.file f.filed in
    let pf = placed_file l a.0 f.file in
    let sorted = of_last_file pf (flat_map (sorted_piece l) (sorted_inputs l)) in
    let mine : Contains (of_first_file pf (merged_and_identity_pieces l)) x = subst (λ (b : Bool). Contains (if b then merged_and_identity_pieces l else []) x) (sym f.first) c in
    let both = Contains-append_left (of_first_file pf (merged_and_identity_pieces l)) (thunk_pieces l pf) x mine in
    let owned = Contains-append_right (section_pieces l pf) (sorted ++ (of_first_file pf (merged_and_identity_pieces l) ++ thunk_pieces l pf)) x (Contains-append_right sorted (of_first_file pf (merged_and_identity_pieces l) ++ thunk_pieces l pf) x both) in
    let in_group = Contains-flat_map (file_pieces l) (placed_files l f.group) pf x a.1 owned in
    record {
      listed = Contains-flat_map_from (group_pieces l) 0 l.groups f.group x f.grouped (λ n. Contains-append_right (table_pieces l n f.group) (owned_pieces l f.group) x in_group);
      once = Contains-flat_map (once_and_thunks l) (stood_files l) pf x (Contains-flat_map (placed_files l) l.groups f.group pf f.grouped a.1) both;
    }

-- what is known of the strings of a part
record StringsStand (l : Layout) (g : Merged) (p : Part) : Type 0 where
  raw : p.role ≡ role.Raw
  takes : takes_file_bytes l p.section ≡ true
  fits : length (merged_bytes g) ≤ p.size
  first : IsOfFirst l (piece_at p (merged_bytes g))

strings_stand : (l : Layout) (g : Merged) (p : Part) → IsLaidOut l → Contains l.merged g → slice_get l.parts g.part ≡ Some p → is_header_only_part l g.part ≡ false → 1 ≤ length (merged_bytes g) → StringsStand l g p
strings_stand l g p laid c there written some =
    let lies = All-contains (λ (m : Merged). FrontLies l m.part (merged_bytes m)) l.merged g laid.merged c in
    let one : lies.part ≡ p = (let both : Some lies.part ≡ Some p = sym lies.listed ∙ there in cc) in
    record {
      raw = subst (λ (q : Part). q.role ≡ role.Raw) one lies.raw;
      takes = takes_bytes l p (subst (λ (q : Part). has_data l q.section ≡ true) one (lies.holds some)) (written_section l g.part p there written);
      fits = subst (λ (q : Part). length (merged_bytes g) ≤ q.size) one lies.within;
      first = of_first l (piece_at p (merged_bytes g)) laid (strings_once l g p c there written some);
    }

-- ---- in the memory of segments

strings_stored : (l : Layout) (w : World) (g : Merged) (p : Part) → BytesAreLoaded → IsLoadable l.kind → IsLegal l w → IsLaidOut l → EachPartIsLoaded l → Contains l.merged g → slice_get l.parts g.part ≡ Some p → IsAllocatedPart l g.part → (IsHeaderOnly l p → ⊥) → Holds (image_memory l w) (w.base + p.address) (merged_bytes g)
strings_stored l w g p law kind legal laid loaded c there room written = λ k lt. (
    let s = strings_stand l g p laid c there (written_tested l g.part p there written) (omega (arith, lt)) in
    stored_at l w p (merged_bytes g) law kind legal laid loaded (listed_at l.parts g.part p there) (room_tested l g.part p there room) s.takes s.fits (piece_stands l (piece_at p (merged_bytes g)) laid s.first.listed) k lt)

-- what is known of the path
record PathStands (l : Layout) (p : Part) : Type 0 where
  there : part_with role.Interp l.parts ≡ Some p
  size : length l.interp ≡ p.size
  takes : takes_file_bytes l p.section ≡ true

path_stands : (l : Layout) (n : ℕ) (p : Part) → IsLaidOut l → p.role ≡ role.Interp → slice_get l.parts n ≡ Some p → is_header_only_part l n ≡ false → PathStands l p
path_stands l n p laid is there written =
    let c = listed_at l.parts n p there in
    let one = laid.once role.Interp p (λ e. cc) c is in
    let t = (laid.roles role.Interp (λ e. cc)).there p one in
    let raw = not_raw role.Interp p (λ e. cc) is in
    record {
      there = one;
      size = ap (λ (bs : List ℕ). length bs) (sym (interpreter_bytes l laid)) ∙ t.size;
      takes = takes_bytes l p (All-contains (λ (q : Part). has_role role.Raw q ≡ false → has_data l q.section ≡ true) l.parts p laid.room c raw) (written_section l n p there written);
    }

path_stored : (l : Layout) (w : World) (n : ℕ) (p : Part) → BytesAreLoaded → TablesStand → IsLoadable l.kind → IsLegal l w → IsLaidOut l → EachPartIsLoaded l → p.role ≡ role.Interp → slice_get l.parts n ≡ Some p → IsAllocatedPart l n → (IsHeaderOnly l p → ⊥) → Holds (image_memory l w) (w.base + p.address) l.interp
path_stored l w n p law stand kind legal laid loaded is there room written = λ k lt. (
    let tested = written_tested l n p there written in
    let s = path_stands l n p laid is there tested in
    let size = s.size in
    let stands = subst (λ (bs : List ℕ). HasBytesAt (bytes l) p.offset bs) (interpreter_bytes l laid) (stand l laid role.Interp (λ e. cc) p s.there (written_section l n p there tested) (omega (arith, size, lt))) in
    stored_at l w p l.interp law kind legal laid loaded (listed_at l.parts n p there) (room_tested l n p there room) s.takes (omega (arith, size)) stands k lt)

pub texts_stored : BytesAreLoaded → TablesStand → TextsAreStored
texts_stored law stand = λ l w kind legal laid loaded. record {
  strings = λ g p c there room written. strings_stored l w g p law kind legal laid loaded c there room written;
  interpreter = λ n p is there room written. path_stored l w n p law stand kind legal laid loaded is there room written;
}

-- ---- behind what the tables fill

abbrev range_of_bytes : Part → List ℕ → LoadedRange
range_of_bytes p bs = record { address = p.address; offset = p.offset; size = length bs }

-- the strings share no byte with a section that owns bytes
filled_apart : (l : Layout) (g : Merged) (p : Part) (s : InputSection) → IsLaidOut l → StringsStand l g p → Contains (all_sections l) s → is_filled l s ≡ true → AreDisjointRanges (range_of_bytes p (merged_bytes g)) (range_of_section l s)
filled_apart l g p s laid stand c filled =
    let all = All-contains (λ a. All (Disjoint a) (flat_map (once_and_thunks l) (stood_files l))) (flat_map (rooms_in l) (stood_files l)) (room_of l s) (once_pieces_apart l laid) (room_listed l s c filled) in
    sides (All-contains (Disjoint (room_of l s)) (flat_map (once_and_thunks l) (stood_files l)) (piece_at p (merged_bytes g)) all stand.first.once) (length-room l s) (filled_place l s filled)
  where
    sides : Disjoint (room_of l s) (piece_at p (merged_bytes g)) → length (room_of l s).bytes ≡ s.size → file_place l s ≡ offset_in (slice_get l.parts s.part) s.address → AreDisjointRanges (range_of_bytes p (merged_bytes g)) (range_of_section l s)
    sides (inl le) fs e = inr (omega (arith, le, fs, e))
    sides (inr le) fs e = inl (omega (arith, le, e))

-- nor with a table
table_apart : (l : Layout) (g : Merged) (p : Part) (r : Role) → KeepsAll l → IsLaidOut l → slice_get l.parts g.part ≡ Some p → StringsStand l g p → (role_place r ≡ 0 → ⊥) → AreDisjointRanges (range_of_bytes p (merged_bytes g)) (range_of_role l r)
table_apart l g p r keeps laid there stand some =
    let fits = stand.fits in
    let room : HasRoom l g.part p.address (length (merged_bytes g)) p = record { listed = there; raw = stand.raw; takes = stand.takes; from = omega arith; to = omega (arith, fits) } in
    let at : offset_in (slice_get l.parts g.part) p.address ≡ p.offset + (p.address - p.address) = ap (λ (o : Option Part). offset_in o p.address) there in
    let apart = any_room_apart l r g.part p.address (length (merged_bytes g)) p some keeps laid room in
    disjoint_ranges_flip (range_of_role l r) (range_of_bytes p (merged_bytes g)) (subst (λ (k : ℕ). AreDisjointRanges (range_of_role l r) (record { address = p.address; offset = k; size = length (merged_bytes g) })) (at ∙ omega arith) apart)

section_apart : (l : Layout) (g : Merged) (p : Part) (s : InputSection) → KeepsAll l → IsLaidOut l → slice_get l.parts g.part ≡ Some p → StringsStand l g p → Contains (all_sections l) s → IsStored l s → AreDisjointRanges (range_of_bytes p (merged_bytes g)) (range_of_section l s)
section_apart l g p s keeps laid there stand c stored = by_place stored.place
  where
    by_place : HasPlace l s → AreDisjointRanges (range_of_bytes p (merged_bytes g)) (range_of_section l s)
    by_place (Filled filled) = filled_apart l g p s laid stand c filled
    by_place (Framed frame) = inside_apart (range_of_section l s) (range_of_role l role.EhFrame) (range_of_bytes p (merged_bytes g)) stored.some (frame_inside l s laid c frame) (table_apart l g p role.EhFrame keeps laid there stand (λ e. cc))

-- the bytes are loaded
front_there : (l : Layout) (p : Part) (bs : List ℕ) → IsLoadable l.kind → EachPartIsLoaded l → Contains l.parts p → is_allocated_section l p.section ≡ true → takes_file_bytes l p.section ≡ true → length bs ≤ p.size → IsCarriedRange l (range_of_bytes p bs)
front_there l p bs kind loaded c room takes fits k lt = byte_loaded l p kind loaded c room takes k (omega (arith, lt, fits))

-- a run that shares no byte with sections and tables is as before
run_kept : (l : Layout) (w : World) (m : Memory) (h : LoadedRange) (bs : List ℕ) → IsMovedImage l w m → IsCarriedRange l h → ((s : InputSection) → Contains (all_sections l) s → IsStored l s → AreDisjointRanges h (range_of_section l s)) → ((t : Role) → is_loaded_role t ≡ true → AreDisjointRanges h (range_of_role l t)) → length bs ≤ h.size → Holds (image_memory l w) (w.base + h.address) bs → Holds m (w.base + h.address) bs
run_kept l w m h bs image there sections tables fits before = λ k lt.
    let same = kept_at l w m (h.address + k) image (run_misses l w m h k image there sections tables (omega (arith, lt, fits))) in
    let e : w.base + (h.address + k) ≡ w.base + h.address + k = omega arith in
    subst (λ (a : ℕ). byte_in m a ≡ byte_in (image_memory l w) a) e same ∙ before k lt

strings_moved : (l : Layout) (w : World) (m : Memory) (g : Merged) (p : Part) → TextsAreStored → IsMovedImage l w m → EachPartIsLoaded l → Contains l.merged g → slice_get l.parts g.part ≡ Some p → IsAllocatedPart l g.part → (IsHeaderOnly l p → ⊥) → Holds m (w.base + p.address) (merged_bytes g)
strings_moved l w m g p law h loaded c there room written = λ k lt. (
    let well = h.well in
    let stand = strings_stand l g p well.laid c there (written_tested l g.part p there written) (omega (arith, lt)) in
    run_kept l w m (range_of_bytes p (merged_bytes g)) (merged_bytes g) h
    (front_there l p (merged_bytes g) well.kind loaded (listed_at l.parts g.part p there) (room_tested l g.part p there room) stand.takes stand.fits)
    (λ s d stored. section_apart l g p s well.keeps well.laid there stand d stored)
    (λ t reads. table_apart l g p t well.keeps well.laid there stand (placed t reads))
    (omega arith)
    ((law l w well.kind well.legal well.laid loaded).strings g p c there room written)
    k lt)

-- the range of the path is that of its role
path_range : (l : Layout) (p : Part) → PathStands l p → range_of_role l role.Interp ≡ range_of_bytes p l.interp
path_range l p s = ap range_of_part s.there ∙ ap (λ (n : ℕ). record { address = p.address; offset = p.offset; size = n }) (sym s.size)

not_read : (t : Role) → is_loaded_role t ≡ true → role.Interp ≡ t → ⊥
not_read t reads e = (let no : is_loaded_role role.Interp ≡ true = subst (λ (x : Role). is_loaded_role x ≡ true) (sym e) reads in cc)

path_moved : (l : Layout) (w : World) (m : Memory) (n : ℕ) (p : Part) → TextsAreStored → IsMovedImage l w m → EachPartIsLoaded l → p.role ≡ role.Interp → slice_get l.parts n ≡ Some p → IsAllocatedPart l n → (IsHeaderOnly l p → ⊥) → Holds m (w.base + p.address) l.interp
path_moved l w m n p law h loaded is there room written =
    let well = h.well in
    let s = path_stands l n p well.laid is there (written_tested l n p there written) in
    let size = s.size in
    let placed_range = path_range l p s in
    run_kept l w m (range_of_bytes p l.interp) l.interp h
    (front_there l p l.interp well.kind loaded (listed_at l.parts n p there) (room_tested l n p there room) s.takes (omega (arith, size)))
    (λ x d stored. subst (λ (y : LoadedRange). AreDisjointRanges y (range_of_section l x)) placed_range (any_section_apart l role.Interp x (λ e. cc) (λ e. cc) well.keeps well.laid d stored))
    (λ t reads. subst (λ (y : LoadedRange). AreDisjointRanges y (range_of_role l t)) placed_range (any_roles_apart l role.Interp t (λ e. cc) (placed t reads) (not_read t reads) well.keeps well.laid))
    (omega arith)
    ((law l w well.kind well.legal well.laid loaded).interpreter n p is there room written)

pub texts_moved : (l : Layout) (w : World) (m : Memory) → TextsAreStored → IsMovedImage l w m → EachPartIsLoaded l → HoldsTexts l w m
texts_moved l w m law h loaded = record {
  strings = λ g p c there room written. strings_moved l w m g p law h loaded c there room written;
  interpreter = λ n p is there room written. path_moved l w m n p law h loaded is there room written;
}
