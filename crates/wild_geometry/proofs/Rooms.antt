-- Where pieces stand, whatever their bytes are: input sections as the room that they take of the image.
use Rattle.wild_geometry.proofs.Common.{◌≡◌, ℕ, ◌+◌, ◌<◌, ◌≤◌, ◌⊎◌, Bool, true, false, if◌then◌else◌, List, [], ◌∷◌, ◌++◌, length, map, get_or, All, AllPairs, replicate, slice_get, flat_map, refl, sym, ap, ◌∙◌, arith, subst, length-replicate, length-map, append_assoc, All-head, All-tail, Piece, Disjoint, Extent, flat_map-flat_map, Slot, InputSection, File, Group, Layout, is_epilogue, is_filled, is_loaded, is_rela, has_range, files_of, with_word_order, Input, unread, rela_with_target, placed_by, placed_section, placed_sections, placed_file, placed_files, sorted_inputs, of_last_file, sections_in_ranges, offset_in, of_first_file, merged_and_identity_pieces, thunk_pieces, owned_pieces, section_bytes, extent_of}
use Rattle.std.proofs.lemmas.List.{get_or-map, map-append}
use Rattle.std.proofs.lemmas.List.Concat.{flat_map-append}
use Rattle.wild_words.proofs.Basics.{map-flat_map}
use Rattle.wild_types.specs.declared.input.Slot.TheVariants as slot
use Rattle.wild_placement.proofs.PlacedFiles.{joined_sections, joined_placed_files}
use Rattle.wild_layout.specs.Image.{section_piece, section_pieces, sorted_piece, file_pieces}
use Rattle.wild_geometry.proofs.StandingLemmas.{EachIn}
use Rattle.wild_geometry.proofs.SectionLemmas.{Known, is_whole}
use Rattle.wild_geometry.proofs.StayLemmas.{IsAt, Turns, turns, turns_unread, is_turned}
use Rattle.wild_geometry.proofs.LongSections.{IsLong, TableHasAllEntries, long_turned, long_group, long_tabled}

-- ---- pieces at the same places

abbrev pub DoNotOverlap : Extent → Extent → Type 0
DoNotOverlap x y = (x.end ≤ y.start) ⊎ (y.end ≤ x.start)

same_length : (ps qs : List Piece) → map extent_of ps ≡ map extent_of qs → length ps ≡ length qs
same_length ps qs same = sym (length-map ps extent_of) ∙ ap (λ (es : List Extent). length es) same ∙ length-map qs extent_of

same_extent : (ps qs : List Piece) (k : ℕ) (d : Piece) → map extent_of ps ≡ map extent_of qs → k < length ps → k < length qs → extent_of (get_or ps k d) ≡ extent_of (get_or qs k d)
same_extent ps qs k d same lp lq = sym (get_or-map extent_of ps k d (extent_of d) lp) ∙ ap (λ (es : List Extent). get_or es k (extent_of d)) same ∙ get_or-map extent_of qs k d (extent_of d) lq

-- what holds of the places of some holds of others at the same
pub all_at : (P : Extent → Type 0) (ps qs : List Piece) → map extent_of ps ≡ map extent_of qs → All (λ (p : Piece). P (extent_of p)) ps → All (λ (p : Piece). P (extent_of p)) qs
all_at P ps qs same a = λ k d lt.
    let long = same_length ps qs same in
    let low : k < length ps = omega (arith, long, lt) in
    subst P (same_extent ps qs k d same low lt) (a k d low)

pub apart_at : (ps qs : List Piece) → map extent_of ps ≡ map extent_of qs → AllPairs Disjoint ps → AllPairs Disjoint qs
apart_at ps qs same apart = λ i j d lt m.
    let long = same_length ps qs same in
    let low : j < length ps = omega (arith, long, m) in
    let first = same_extent ps qs i d same (omega (arith, lt, low)) (omega (arith, lt, m)) in
    let second = same_extent ps qs j d same low m in
    let beside : DoNotOverlap (extent_of (get_or ps i d)) (extent_of (get_or ps j d)) = apart i j d lt low in
    subst (λ (x : Extent). DoNotOverlap x (extent_of (get_or qs j d))) first (subst (λ (y : Extent). DoNotOverlap (extent_of (get_or ps i d)) y) second beside)

pub same_items : {X Y : Type 0} (f g : X → List Y) (xs : List X) → All (λ x. f x ≡ g x) xs → flat_map f xs ≡ flat_map g xs
same_items f g [] a = refl
same_items {X} {Y} f g (x ∷ xs) a =
    let head : f x ≡ g x = All-head (λ (y : X). f y ≡ g y) x xs a in
    let tail = same_items f g xs (All-tail (λ (y : X). f y ≡ g y) x xs a) in
    ap (λ (ys : List Y). ys ++ flat_map f xs) head ∙ ap (λ (ys : List Y). g x ++ ys) tail

-- ---- the room of a section

abbrev pub room_of : Layout → InputSection → Piece
room_of l s = record { at = offset_in (slice_get l.parts s.part) s.address; bytes = replicate s.size 0 }

pub length-room : (l : Layout) (s : InputSection) → length (room_of l s).bytes ≡ s.size
length-room l s = length-replicate s.size 0

-- that of one that owns bytes
abbrev pub section_room : Layout → InputSection → List Piece
section_room l s = if is_filled l s then room_of l s ∷ [] else []

-- ---- where a section stands as it does, its room is

no_room : (l : Layout) (s : InputSection) → has_range s.slot ≡ false → section_room l s ≡ []
no_room l s e = rw e refl

no_piece : (l : Layout) (f : File) (s : InputSection) → has_range s.slot ≡ false → section_piece l f s ≡ []
no_piece l f s e = rw e refl

-- a section at the place of another, of the same size
long_place : (l : Layout) (f : File) (s t : InputSection) → IsAt l s t → IsLong l t → map extent_of (section_room l s) ≡ map extent_of (section_piece l f t)
long_place l f s t h long = by (is_filled l s) refl
  where
    at : ℕ
    at = offset_in (slice_get l.parts t.part) t.address

    same_at : offset_in (slice_get l.parts s.part) s.address ≡ at
    same_at = sym (ap (λ (k : ℕ). offset_in (slice_get l.parts k) t.address) h.part ∙ ap (λ (a : ℕ). offset_in (slice_get l.parts s.part) a) h.address)

    with : (b : Bool) → map extent_of (if b then room_of l s ∷ [] else []) ≡ map extent_of (if b then record { at = at; bytes = section_bytes l f t } ∷ [] else [])
    with false = refl
    with true =
        let same = length-room l s ∙ sym (long f ∙ h.size) in
        let place = same_at in
        ap (λ (x : Extent). x ∷ []) (ap (λ (n : ℕ). record { start = n; end = n + length (room_of l s).bytes }) place ∙ ap (λ (n : ℕ). record { start = at; end = at + n }) same)

    by : (b : Bool) → is_filled l s ≡ b → map extent_of (section_room l s) ≡ map extent_of (section_piece l f t)
    by b e = rw (e, h.filled ∙ e) (with b)

-- one whose words may be reversed
turned_place : (l : Layout) (f : File) (s t : InputSection) → Turns l s t → is_turned s.slot ≡ true → map extent_of (section_room l s) ≡ map extent_of (section_piece l f t)
turned_place l f s t h own = long_place l f s t h.at (long_turned l t h.holds (ap is_turned h.slot ∙ own))

-- a table is at its place
pub tabled_at : (l : Layout) (f : File) (s : InputSection) → s.slot ≡ slot.Rela → IsAt l s (rela_with_target f s)
tabled_at l f s e = record { filled = rw e refl; part = refl; address = refl; size = refl }

pub as_it_is : (l : Layout) (s : InputSection) → IsAt l s s
as_it_is l s = record { filled = refl; part = refl; address = refl; size = refl }

-- a section of file f stands where its room is
abbrev pub HasPlace : Layout → File → InputSection → Type 0
HasPlace l f s = (g : File) (at : ℕ) → map extent_of (section_room l s) ≡ map extent_of (section_piece l g (placed_section l f at s))

pub place_of_known : (l : Layout) (f : File) (s : InputSection) → Known l s → TableHasAllEntries l f s → HasPlace l f s
unfolding placed_section
place_of_known l f s h tables g at = by s.slot refl
  where
    by : (k : Slot) → s.slot ≡ k → map extent_of (section_room l s) ≡ map extent_of (section_piece l g (placed_by k l f at s))
    by slot.Loaded e = turned_place l g s (with_word_order (unread l s)) (turns_unread l s h (ap is_whole e)) (ap is_turned e)
    by slot.Debug e = turned_place l g s (with_word_order s) (turns l s h (ap is_whole e)) (ap is_turned e)
    by slot.Frame e = ap (map extent_of) (no_room l s (ap has_range e))
    by slot.Rela e = (let rela = ap is_rela e in long_place l g s (rela_with_target f s) (tabled_at l f s e) (long_tabled l f s h rela (tables rela)))
    by slot.Group e = long_place l g s s (as_it_is l s) (long_group l s h e)
    by other e = ap (map extent_of) (no_room l s (ap has_range e) ∙ sym (no_piece l g s (ap has_range e)))

-- and a sorted one
abbrev pub HasSortedPlace : Layout → Input → Type 0
HasSortedPlace l x = map extent_of (section_room l x.section) ≡ map extent_of (sorted_piece l x)

pub loaded_slot : (k : Slot) → is_loaded k ≡ true → (is_whole k ≡ true) × (is_turned k ≡ true)
loaded_slot slot.Loaded h = (refl, refl)
loaded_slot other h = cc

pub place_of_sorted : (l : Layout) (x : Input) → Known l x.section → is_loaded x.section.slot ≡ true → HasSortedPlace l x
place_of_sorted l x h loaded =
    let both = loaded_slot x.section.slot loaded in
    turned_place l x.file x.section (with_word_order x.section) (turns l x.section h both.0) both.1

-- ---- file by file

-- the rooms of the input sections that stand in a file's ranges
abbrev pub rooms_in : Layout → File → List Piece
rooms_in l f = flat_map (section_room l) (sections_in_ranges l f)

-- what is the first file's, and a file's thunks
abbrev pub others_in : Layout → File → List Piece
others_in l f = of_first_file f (merged_and_identity_pieces l) ++ thunk_pieces l f

-- what it owns, as rooms
abbrev pub file_rooms : Layout → File → List Piece
file_rooms l f = rooms_in l f ++ others_in l f

-- lists at the same places, of which one is made of what the other's items hold
of_map : {X Y : Type 0} (f : Y → List Piece) (g : X → List Piece) (h : X → Y) (xs : List X) → All (λ x. map extent_of (f (h x)) ≡ map extent_of (g x)) xs → map extent_of (flat_map f (map h xs)) ≡ map extent_of (flat_map g xs)
of_map f g h [] a = refl
of_map {X} f g h (x ∷ xs) a =
    let P : X → Type 0 = λ y. map extent_of (f (h y)) ≡ map extent_of (g y) in
    let here = All-head P x xs a in
    let rest = of_map f g h xs (All-tail P x xs a) in
    map-append extent_of (f (h x)) (flat_map f (map h xs))
    ∙ ap (λ (es : List Extent). es ++ map extent_of (flat_map f (map h xs))) here
    ∙ ap (λ (es : List Extent). map extent_of (g x) ++ es) rest
    ∙ sym (map-append extent_of (g x) (flat_map g xs))

sorted_places : (l : Layout) → All (HasSortedPlace l) (sorted_inputs l) → (last : Bool)
    → map extent_of (flat_map (section_room l) (if last then map (λ (x : Input). x.section) (sorted_inputs l) else [])) ≡ map extent_of (if last then flat_map (sorted_piece l) (sorted_inputs l) else [])
sorted_places l h false = refl
sorted_places l h true = of_map (section_room l) (sorted_piece l) (λ (x : Input). x.section) (sorted_inputs l) h

own_places : (l : Layout) (f g : File) (at : ℕ) (ss : List InputSection) → All (HasPlace l f) ss → map extent_of (flat_map (section_room l) ss) ≡ map extent_of (flat_map (section_piece l g) (placed_sections l f at ss))
own_places l f g at ss h =
    map-flat_map extent_of (section_room l) ss
    ∙ joined_sections l f (λ (s : InputSection). map extent_of (section_room l s)) (λ (s : InputSection). map extent_of (section_piece l g s)) at ss (λ i s m a. h i s m g a)
    ∙ sym (map-flat_map extent_of (section_piece l g) (placed_sections l f at ss))

-- two lists in front of a third
three : (xs ys zs us vs : List Piece) → map extent_of xs ≡ map extent_of us → map extent_of ys ≡ map extent_of vs → map extent_of ((xs ++ ys) ++ zs) ≡ map extent_of (us ++ (vs ++ zs))
three xs ys zs us vs a b =
    ap (map extent_of) (append_assoc xs ys zs)
    ∙ map-append extent_of xs (ys ++ zs)
    ∙ ap (λ (es : List Extent). map extent_of xs ++ es) (map-append extent_of ys zs)
    ∙ ap (λ (es : List Extent). es ++ (map extent_of ys ++ map extent_of zs)) a
    ∙ ap (λ (es : List Extent). map extent_of us ++ (es ++ map extent_of zs)) b
    ∙ ap (λ (es : List Extent). map extent_of us ++ es) (sym (map-append extent_of vs zs))
    ∙ sym (map-append extent_of us (vs ++ zs))

in_file : (l : Layout) → All (HasSortedPlace l) (sorted_inputs l) → (f : File) (at : ℕ) → All (HasPlace l f) f.sections → map extent_of (file_rooms l f) ≡ map extent_of (file_pieces l (placed_file l at f))
in_file l sorted f at own =
    let later = of_last_file f (map (λ (x : Input). x.section) (sorted_inputs l)) in
    ap (λ (ps : List Piece). map extent_of (ps ++ others_in l f)) (flat_map-append (section_room l) f.sections later)
    ∙ three (flat_map (section_room l) f.sections) (flat_map (section_room l) later) (others_in l f) (section_pieces l (placed_file l at f)) (of_last_file f (flat_map (sorted_piece l) (sorted_inputs l)))
    (own_places l f (placed_file l at f) at f.sections own) (sorted_places l sorted (is_epilogue f.role))

in_group : (l : Layout) → All (HasSortedPlace l) (sorted_inputs l) → (g : Group) → All (λ (f : File). All (HasPlace l f) f.sections) g.files → flat_map (λ (f : File). map extent_of (file_rooms l f)) g.files ≡ map extent_of (owned_pieces l g)
in_group l sorted g own =
    joined_placed_files l (λ (f : File). map extent_of (file_rooms l f)) (λ (f : File). map extent_of (file_pieces l f)) g (λ i f m at. in_file l sorted (get_or g.files i f) at (own i f m))
    ∙ sym (map-flat_map extent_of (file_pieces l) (placed_files l g))

-- the rooms are where all that files own stands
pub rooms_stand : (l : Layout) → EachIn l (HasPlace l) → All (HasSortedPlace l) (sorted_inputs l) → map extent_of (flat_map (file_rooms l) (files_of l.groups)) ≡ map extent_of (flat_map (owned_pieces l) l.groups)
rooms_stand l own sorted =
    map-flat_map extent_of (file_rooms l) (files_of l.groups)
    ∙ flat_map-flat_map (λ (f : File). map extent_of (file_rooms l f)) (λ (g : Group). g.files) l.groups
    ∙ same_items (λ (g : Group). flat_map (λ (f : File). map extent_of (file_rooms l f)) g.files) (λ (g : Group). map extent_of (owned_pieces l g)) l.groups (λ i g m. in_group l sorted (get_or l.groups i g) (own i g m))
    ∙ sym (map-flat_map extent_of (owned_pieces l) l.groups)
