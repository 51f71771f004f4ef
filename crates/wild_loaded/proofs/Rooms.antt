-- Where what files own stands, whatever its bytes are: sections as the room that they take of the image.
use Rattle.wild_loaded.proofs.Common.{◌≡◌, ℕ, ◌+◌, Bool, true, false, if◌then◌else◌, List, [], ◌∷◌, ◌++◌, length, map, All, slice_get, refl, sym, ap, ◌∙◌, map-append, flat_map-append, All-head, All-tail, All-weaker, map-flat_map, All-append-left, All-append-right, All-flat_map, flat_map-flat_map, InputSection, File, Layout, is_epilogue, is_filled, placed_files, sorted_inputs, sorted_sections, of_last_file, processed_sections, SectionLies, offset_in, section_pieces, sorted_piece, thunk_pieces, of_first_file, merged_and_identity_pieces, file_pieces, owned_pieces, Piece, section_bytes, length-room, room_of, section_room}
use Rattle.std.proofs.Common.{flat_map}
use Rattle.std.proofs.lemmas.List.{append_assoc}
use Rattle.wild_words.specs.declared.extents.Extent.{Extent}
use Rattle.wild_placement.specs.ReversedWords.{with_word_order}
use Rattle.wild_placement.specs.PlacedSections.{Input}
use Rattle.wild_layout.specs.Geometry.{EachSection}
use Rattle.wild_layout.specs.Image.{section_piece}
use Rattle.wild_layout.specs.Sites.{extent_of}
use Rattle.wild_geometry.proofs.Rooms.{same_items}

-- ---- pieces at the same places

same_places : {X : Type 0} (f g : X → List Piece) (xs : List X) → All (λ x. map extent_of (f x) ≡ map extent_of (g x)) xs → map extent_of (flat_map f xs) ≡ map extent_of (flat_map g xs)
same_places {X} f g xs a = map-flat_map extent_of f xs ∙ same_items (λ (x : X). map extent_of (f x)) (λ (x : X). map extent_of (g x)) xs a ∙ sym (map-flat_map extent_of g xs)

-- a section that owns bytes has as many as its size
abbrev pub HasSize : Layout → InputSection → Type 0
HasSize l s = is_filled l s ≡ true → (f : File) → length (section_bytes l f s) ≡ s.size

pub lies_size : (l : Layout) (s : InputSection) → SectionLies l s → HasSize l s
lies_size l s h filled f = h.long filled f

same_place : (l : Layout) (f : File) (s : InputSection) → HasSize l s → map extent_of (section_room l s) ≡ map extent_of (section_piece l f s)
same_place l f s h = by (is_filled l s) refl
  where
    at : ℕ
    at = offset_in (slice_get l.parts s.part) s.address

    by : (b : Bool) → is_filled l s ≡ b → map extent_of (if b then room_of l s ∷ [] else []) ≡ map extent_of (if b then record { at = at; bytes = section_bytes l f s } ∷ [] else [])
    by false e = refl
    by true e = let same = length-room l s ∙ sym (h e f) in ap (λ (n : ℕ). record { start = at; end = at + n } ∷ []) same

-- ---- files

-- the rooms of the sections of a file, the sorted ones behind those of the last
abbrev pub rooms_in : Layout → File → List Piece
rooms_in l f = flat_map (section_room l) (processed_sections l f)

-- what stands once, and thunks
abbrev pub once_and_thunks : Layout → File → List Piece
once_and_thunks l f = of_first_file f (merged_and_identity_pieces l) ++ thunk_pieces l f

abbrev pub file_rooms : Layout → File → List Piece
file_rooms l f = rooms_in l f ++ once_and_thunks l f

abbrev sorted_pieces : Layout → File → List Piece
sorted_pieces l f = of_last_file f (flat_map (sorted_piece l) (sorted_inputs l))

own_places : (l : Layout) (f : File) (ss : List InputSection) → All (HasSize l) ss → map extent_of (flat_map (section_room l) ss) ≡ map extent_of (flat_map (section_piece l f) ss)
own_places l f ss a = same_places (section_room l) (section_piece l f) ss (All-weaker (HasSize l) (λ (s : InputSection). map extent_of (section_room l s) ≡ map extent_of (section_piece l f s)) (λ s e. same_place l f s e) ss a)

input_places : (l : Layout) (xs : List Input) → All (HasSize l) (map (λ (x : Input). with_word_order x.section) xs) → map extent_of (flat_map (section_room l) (map (λ (x : Input). with_word_order x.section) xs)) ≡ map extent_of (flat_map (sorted_piece l) xs)
input_places l [] a = refl
input_places l (x ∷ xs) a =
    let s = with_word_order x.section in
    let ss = map (λ (y : Input). with_word_order y.section) xs in
    map-append extent_of (section_room l s) (flat_map (section_room l) ss)
    ∙ ap (λ (es : List Extent). es ++ map extent_of (flat_map (section_room l) ss)) (same_place l x.file s (All-head (HasSize l) s ss a))
    ∙ ap (λ (es : List Extent). map extent_of (sorted_piece l x) ++ es) (input_places l xs (All-tail (HasSize l) s ss a))
    ∙ sym (map-append extent_of (sorted_piece l x) (flat_map (sorted_piece l) xs))

sorted_places : (l : Layout) (f : File) → All (HasSize l) (of_last_file f (sorted_sections l)) → map extent_of (flat_map (section_room l) (of_last_file f (sorted_sections l))) ≡ map extent_of (sorted_pieces l f)
sorted_places l f a = by_role (is_epilogue f.role) a
  where
    by_role : (b : Bool) → All (HasSize l) (if b then sorted_sections l else []) → map extent_of (flat_map (section_room l) (if b then sorted_sections l else [])) ≡ map extent_of (if b then flat_map (sorted_piece l) (sorted_inputs l) else [])
    by_role false a = refl
    by_role true a = input_places l (sorted_inputs l) a

rooms_places : (l : Layout) (f : File) → All (HasSize l) (processed_sections l f) → map extent_of (rooms_in l f) ≡ map extent_of (section_pieces l f ++ sorted_pieces l f)
rooms_places l f a =
    let last = of_last_file f (sorted_sections l) in
    ap (λ (ps : List Piece). map extent_of ps) (flat_map-append (section_room l) f.sections last)
    ∙ map-append extent_of (flat_map (section_room l) f.sections) (flat_map (section_room l) last)
    ∙ ap (λ (es : List Extent). es ++ map extent_of (flat_map (section_room l) last)) (own_places l f f.sections (All-append-left (HasSize l) f.sections last a))
    ∙ ap (λ (es : List Extent). map extent_of (section_pieces l f) ++ es) (sorted_places l f (All-append-right (HasSize l) f.sections last a))
    ∙ sym (map-append extent_of (section_pieces l f) (sorted_pieces l f))

file_places : (l : Layout) (f : File) → All (HasSize l) (processed_sections l f) → map extent_of (file_rooms l f) ≡ map extent_of (file_pieces l f)
file_places l f a =
    map-append extent_of (rooms_in l f) (once_and_thunks l f)
    ∙ ap (λ (es : List Extent). es ++ map extent_of (once_and_thunks l f)) (rooms_places l f a)
    ∙ sym (map-append extent_of (section_pieces l f ++ sorted_pieces l f) (once_and_thunks l f))
    ∙ ap (λ (ps : List Piece). map extent_of ps) (append_assoc (section_pieces l f) (sorted_pieces l f) (once_and_thunks l f))

-- ---- the layout

-- the files of a layout with their sections as they stand
abbrev pub stood_files : Layout → List File
stood_files l = flat_map (placed_files l) l.groups

-- their rooms are where all that they own stands
pub rooms_stand : (l : Layout) → EachSection l (HasSize l) → map extent_of (flat_map (file_rooms l) (stood_files l)) ≡ map extent_of (flat_map (owned_pieces l) l.groups)
rooms_stand l h =
    same_places (file_rooms l) (file_pieces l) (stood_files l) (All-weaker (λ (f : File). All (HasSize l) (processed_sections l f)) (λ (f : File). map extent_of (file_rooms l f) ≡ map extent_of (file_pieces l f)) (file_places l) (stood_files l) (All-flat_map (λ (f : File). All (HasSize l) (processed_sections l f)) (placed_files l) l.groups h))
    ∙ ap (λ (ps : List Piece). map extent_of ps) (flat_map-flat_map (file_pieces l) (placed_files l) l.groups)
