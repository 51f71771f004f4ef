-- The places and the lengths of a group's pieces: they are the same for the outline.
use Rattle.wild_outlines.proofs.Common.{◌≡◌, ℕ, ◌+◌, ◌-◌, ◌*◌, ◌/◌, Bool, true, false, List, [], ◌∷◌, ◌++◌, map, length, min, refl, sym, ap, ◌∙◌, arith, inl, inr, ◌==◌, ◌&&◌, not, if◌then◌else◌, slice_get, All, flat_map, range_with_len, cases_Bool, length-replicate, map-append, Extent, InputSection, Slot, File, Group, Layout, Merged, is_partial_link, frames_of, kept_size, Input, address_after, unread, placed_frames_with, placed_by, placed_section, placed_sections, file_frames, placed_from, frames_at, placed_files, of_last_file, sorted_inputs, processed_sections, with_word_order, is_changeable, outline_section, outline_file, outline_group, outline, owned_pieces, extent_of}
use Rattle.std.proofs.lemmas.List.{length-append, length-take, length-drop}
use Rattle.std.proofs.lemmas.List.Elements.{All-head, All-tail}
use Rattle.wild_words.proofs.ListLemmas.{All-append-left, All-append-right}
use Rattle.wild_types.specs.declared.input.Slot.TheVariants as slot
use Rattle.wild_types.specs.declared.layout.Thunk.{Thunk}
use Rattle.wild_types.specs.FileRoles.{is_epilogue}
use Rattle.wild_types.specs.FileThunks.{thunk_size, thunks_of}
use Rattle.wild_types.specs.Lookups.{is_rela, has_range, has_counted, has_data, section_of, is_header_only_part, is_filled}
use Rattle.wild_placement.specs.PlacedSections.{placed_file, sorted_sections}
use Rattle.wild_placement.specs.ReversedWords.{word_from_end, reversed_word_bytes}
use Rattle.wild_layout.specs.Image.{offset_in, section_piece, section_pieces, thunk_piece, thunk_pieces, thunk_offset, front_piece, of_first_file, sorted_piece, merged_bytes, merged_and_identity_pieces, file_pieces}
use Rattle.wild_layout.specs.SectionPlaces.{SectionLies}
use Rattle.wild_layout.proofs.ThunkLemmas.{length-thunk_bytes}
use Rattle.wild_outlines.proofs.ListLemmas.{flat_map-same}
use Rattle.wild_outlines.proofs.ChangedItems.{outline_section-fixed}
use Rattle.wild_outlines.proofs.ClausesTests.{header_only-outline}
use Rattle.wild_outlines.proofs.SharesFrames.{frames_of-outline, kept_size-both, file_frames-outline}
use Rattle.wild_outlines.proofs.SharesLemmas.{sorted_sections-outline}

-- ---- words in reverse order

word_length : (bs : List ℕ) (i : ℕ) → length (word_from_end bs i) ≡ min (length bs - 8 * i - (length bs - 8 * (i + 1))) (length bs - (length bs - 8 * (i + 1)))
word_length bs i = simp (length-take, length-drop)

words_length : (bs cs : List ℕ) → length bs ≡ length cs → (is : List ℕ) → length (flat_map (word_from_end bs) is) ≡ length (flat_map (word_from_end cs) is)
words_length bs cs h [] = refl
words_length bs cs h (i ∷ is) =
    let a = length-append (word_from_end bs i) (flat_map (word_from_end bs) is) in
    let b = length-append (word_from_end cs i) (flat_map (word_from_end cs) is) in
    let x = word_length bs i in
    let y = word_length cs i in
    let e = ap (λ n. min (n - 8 * i - (n - 8 * (i + 1))) (n - (n - 8 * (i + 1)))) h in
    let rest = words_length bs cs h is in
    let first : length (word_from_end bs i) ≡ length (word_from_end cs i) = x ∙ (e ∙ sym y) in
    omega (arith, a, b, first, rest)

-- as many bytes, whatever they are
length-reversed : (bs cs : List ℕ) → length bs ≡ length cs → length (reversed_word_bytes bs) ≡ length (reversed_word_bytes cs)
unfolding reversed_word_bytes
length-reversed bs cs h = words_length bs cs h (range_with_len 0 (length bs / 8)) ∙ ap (λ n. length (flat_map (word_from_end cs) (range_with_len 0 (n / 8)))) h

-- ---- the extent of a section

-- all that the place and the length of a section's piece depend on
pub record Shape : Type 0 where
  pub slot : Slot
  pub part : ℕ
  pub address : ℕ
  pub size : ℕ
  pub nobits : Bool
  pub long : ℕ

abbrev pub shape_of : InputSection → Shape
shape_of s = record { slot = s.slot; part = s.part; address = s.address; size = s.size; nobits = s.nobits; long = length s.bytes }

abbrev pub shape_has_bytes : Layout → Shape → Bool
shape_has_bytes l z =
    if z.nobits then has_counted z.slot && (not (z.size == 0) && has_data l (section_of l z.part))
    else if is_rela z.slot then not (z.size == 0)
    else not (z.long == 0)

abbrev pub shape_extents : Layout → Shape → List Extent
shape_extents l z =
    if (has_range z.slot && shape_has_bytes l z) && not (is_header_only_part l z.part)
    then record { start = offset_in (slice_get l.parts z.part) z.address; end = offset_in (slice_get l.parts z.part) z.address + z.size } ∷ []
    else []

abbrev pub section_extents : Layout → InputSection → List Extent
section_extents l s = shape_extents l (shape_of s)

shape_extents-outline : (l : Layout) (z : Shape) → shape_extents (outline l) z ≡ shape_extents l z
shape_extents-outline l z = rw (header_only-outline l (slice_get l.sections (section_of l z.part))) refl

-- a section with words in reverse order, and one with as many bytes
shape-reversed : (s t : InputSection) → shape_of s ≡ shape_of t → s.reversed ≡ t.reversed → shape_of (with_word_order s) ≡ shape_of (with_word_order t)
unfolding with_word_order
shape-reversed s t e r =
    let k = ap (λ (z : Shape). z.slot) e in
    let p = ap (λ (z : Shape). z.part) e in
    let a = ap (λ (z : Shape). z.address) e in
    let n = ap (λ (z : Shape). z.size) e in
    let b = ap (λ (z : Shape). z.nobits) e in
    let long : length (reversed_word_bytes s.bytes) ≡ length (reversed_word_bytes t.bytes) = length-reversed s.bytes t.bytes (ap (λ (z : Shape). z.long) e) in
    elim (cases_Bool t.reversed) [
      | inl h ↦ rw (r, h, k, p, a, n, b, long) refl
      | inr h ↦ rw (r, h) e
    ]

-- ---- placed sections

changeable_unread : (l : Layout) (s : InputSection) → is_changeable s.slot ≡ true → shape_of (unread (outline l) (outline_section s)) ≡ shape_of (unread l s)
changeable_unread l s h =
    elim (cases_Bool (is_partial_link l.kind)) [
      | inl t ↦ rw (t, h, length-replicate {A = ℕ} (length s.bytes) 0) refl
      | inr f ↦ rw (f, h, length-replicate {A = ℕ} (length s.bytes) 0) refl
    ]

unread_reversed : (l : Layout) (s : InputSection) → (unread l s).reversed ≡ s.reversed
unread_reversed l s =
    elim (cases_Bool (is_partial_link l.kind)) [
      | inl t ↦ rw t refl
      | inr f ↦ rw f refl
    ]

shape-outline : (s : InputSection) → is_changeable s.slot ≡ true → shape_of (outline_section s) ≡ shape_of s
shape-outline s h = rw (h, length-replicate {A = ℕ} (length s.bytes) 0) refl

placed_shape-outline : (l : Layout) (f : File) (a : ℕ) (s : InputSection) → shape_of (placed_section (outline l) (outline_file f) a (outline_section s)) ≡ shape_of (placed_section l f a s)
unfolding placed_section
placed_shape-outline l f a s = by_slot s.slot refl
  where
    fixed : (z : Slot) → z ≡ s.slot → is_changeable z ≡ false → outline_section s ≡ s
    fixed z e h = outline_section-fixed s (ap is_changeable (sym e) ∙ h)

    by_slot : (z : Slot) → z ≡ s.slot → shape_of (placed_by z (outline l) (outline_file f) a (outline_section s)) ≡ shape_of (placed_by z l f a s)
    by_slot slot.Loaded e =
        shape-reversed (unread (outline l) (outline_section s)) (unread l s) (changeable_unread l s (ap is_changeable (sym e))) (unread_reversed (outline l) (outline_section s) ∙ sym (unread_reversed l s))
    by_slot slot.Debug e = shape-reversed (outline_section s) s (shape-outline s (ap is_changeable (sym e))) refl
    by_slot slot.Frame e =
        ap (λ t. shape_of (placed_frames_with t a (frames_of (outline l) (outline_file f) t))) (fixed slot.Frame e refl) ∙ ap (λ fs. shape_of (placed_frames_with s a fs)) (frames_of-outline l f s)
    by_slot slot.Rela e = refl
    by_slot other e = ap shape_of (fixed other e refl)

placed_extents-outline : (l : Layout) (f : File) (a : ℕ) (ss : List InputSection)
    → flat_map (section_extents (outline l)) (placed_sections (outline l) (outline_file f) a (map outline_section ss)) ≡ flat_map (section_extents l) (placed_sections l f a ss)
placed_extents-outline l f a [] = refl
placed_extents-outline l f a (s ∷ ss) =
    let here : section_extents (outline l) (placed_section (outline l) (outline_file f) a (outline_section s)) ≡ section_extents l (placed_section l f a s) =
    ap (shape_extents (outline l)) (placed_shape-outline l f a s) ∙ shape_extents-outline l (shape_of (placed_section l f a s)) in
    let rest = placed_extents-outline l f (address_after a (kept_size l f s)) ss in
    ap (λ n. section_extents (outline l) (placed_section (outline l) (outline_file f) a (outline_section s)) ++ flat_map (section_extents (outline l)) (placed_sections (outline l) (outline_file f) (address_after a n) (map outline_section ss))) (kept_size-both l f s)
    ∙ (ap (λ es. es ++ flat_map (section_extents (outline l)) (placed_sections (outline l) (outline_file f) (address_after a (kept_size l f s)) (map outline_section ss))) here
    ∙ ap (λ es. section_extents l (placed_section l f a s) ++ es) rest)

-- ---- the other pieces of a file

-- what only the first file has
front-outline : (l : Layout) (part : ℕ) (bs : List ℕ) → front_piece (outline l) part bs ≡ front_piece l part bs
front-outline l part bs = rw (header_only-outline l (slice_get l.sections (section_of l part))) refl

pub merged-outline : (l : Layout) → merged_and_identity_pieces (outline l) ≡ merged_and_identity_pieces l
merged-outline l =
    ap (λ ps. ps ++ front_piece (outline l) l.identity.part l.identity.bytes)
    (flat_map-same (λ (m : Merged). front_piece (outline l) m.part (merged_bytes m)) (λ (m : Merged). front_piece l m.part (merged_bytes m)) l.merged (λ (m : Merged). front-outline l m.part (merged_bytes m)))
    ∙ ap (λ ps. flat_map (λ (m : Merged). front_piece l m.part (merged_bytes m)) l.merged ++ ps) (front-outline l l.identity.part l.identity.bytes)

-- thunks
abbrev pub thunk_extent : Layout → Thunk → Extent
thunk_extent l t = record { start = thunk_offset l t; end = thunk_offset l t + thunk_size }

thunk_extents_are : (l : Layout) (ts : List Thunk) → map extent_of (flat_map (thunk_piece l) ts) ≡ map (thunk_extent l) ts
thunk_extents_are l [] = refl
thunk_extents_are l (t ∷ ts) = rw (length-thunk_bytes l t, thunk_extents_are l ts) refl

abbrev pub thunks_extents : Layout → File → List Extent
thunks_extents l f = if is_header_only_part l l.primary_part then [] else map (thunk_extent l) (thunks_of l f)

thunks_extents_are : (l : Layout) (f : File) → map extent_of (thunk_pieces l f) ≡ thunks_extents l f
thunks_extents_are l f =
    elim (cases_Bool (is_header_only_part l l.primary_part)) [
      | inl t ↦ rw t refl
      | inr n ↦ rw n (thunk_extents_are l (thunks_of l f))
    ]

thunks_extents-outline : (l : Layout) (f : File) → thunks_extents (outline l) f ≡ thunks_extents l f
thunks_extents-outline l f = rw (header_only-outline l (slice_get l.sections (section_of l l.primary_part))) refl

-- ---- files and groups

-- the extents of a file with placed sections
abbrev pub file_extents : Layout → File → List Extent
file_extents l f =
    flat_map (section_extents l) f.sections ++ (of_last_file f (flat_map (section_extents l) (sorted_sections l)) ++ (map extent_of (of_first_file f (merged_and_identity_pieces l)) ++ thunks_extents l f))

file_extents-outline : (l : Layout) (a : ℕ) (f : File) → file_extents (outline l) (placed_file (outline l) a (outline_file f)) ≡ file_extents l (placed_file l a f)
file_extents-outline l a f =
    let own = placed_extents-outline l f a f.sections in
    let sorted : flat_map (section_extents (outline l)) (sorted_sections (outline l)) ≡ flat_map (section_extents l) (sorted_sections l) =
    ap (flat_map (section_extents (outline l))) (sorted_sections-outline l) ∙ flat_map-same (section_extents (outline l)) (section_extents l) (sorted_sections l) (λ s. shape_extents-outline l (shape_of s)) in
    let first = merged-outline l in
    let thunks = thunks_extents-outline l f in
    ap (λ es. es ++ (of_last_file f (flat_map (section_extents (outline l)) (sorted_sections (outline l))) ++ (map extent_of (of_first_file f (merged_and_identity_pieces (outline l))) ++ thunks_extents (outline l) f))) own
    ∙ (ap (λ es. flat_map (section_extents l) (placed_sections l f a f.sections) ++ (of_last_file f es ++ (map extent_of (of_first_file f (merged_and_identity_pieces (outline l))) ++ thunks_extents (outline l) f))) sorted
    ∙ (ap (λ ps. flat_map (section_extents l) (placed_sections l f a f.sections) ++ (of_last_file f (flat_map (section_extents l) (sorted_sections l)) ++ (map extent_of (of_first_file f ps) ++ thunks_extents (outline l) f))) first
    ∙ ap (λ es. flat_map (section_extents l) (placed_sections l f a f.sections) ++ (of_last_file f (flat_map (section_extents l) (sorted_sections l)) ++ (map extent_of (of_first_file f (merged_and_identity_pieces l)) ++ es))) thunks))

files_extents-outline : (l : Layout) (a : ℕ) (fs : List File) → flat_map (file_extents (outline l)) (placed_from (outline l) a (map outline_file fs)) ≡ flat_map (file_extents l) (placed_from l a fs)
files_extents-outline l a [] = refl
files_extents-outline l a (f ∷ fs) =
    ap (λ n. file_extents (outline l) (placed_file (outline l) a (outline_file f)) ++ flat_map (file_extents (outline l)) (placed_from (outline l) (address_after a n) (map outline_file fs))) (file_frames-outline l f)
    ∙ (ap (λ es. es ++ flat_map (file_extents (outline l)) (placed_from (outline l) (address_after a (file_frames l f)) (map outline_file fs))) (file_extents-outline l a f)
    ∙ ap (λ es. file_extents l (placed_file l a f) ++ es) (files_extents-outline l (address_after a (file_frames l f)) fs))

pub group_extents : Layout → Group → List Extent
group_extents l g = flat_map (file_extents l) (placed_files l g)

pub group_extents-outline : (l : Layout) (g : Group) → group_extents (outline l) (outline_group g) ≡ group_extents l g
unfolding group_extents placed_files
group_extents-outline l g = files_extents-outline l (frames_at l g) g.files

-- ---- they are the places and the lengths of the pieces

section_extents_are : (l : Layout) (f : File) (s : InputSection) → SectionLies l s → map extent_of (section_piece l f s) ≡ section_extents l s
section_extents_are l f s h =
    elim (cases_Bool (is_filled l s)) [
      | inl t ↦ (let n = h.long t f in rw (t, n) refl)
      | inr n ↦ rw n refl
    ]

sections_extents_are : (l : Layout) (f : File) (ss : List InputSection) → All (SectionLies l) ss → map extent_of (flat_map (section_piece l f) ss) ≡ flat_map (section_extents l) ss
sections_extents_are l f [] h = refl
sections_extents_are l f (s ∷ ss) h =
    map-append extent_of (section_piece l f s) (flat_map (section_piece l f) ss)
    ∙ (ap (λ es. es ++ map extent_of (flat_map (section_piece l f) ss)) (section_extents_are l f s (All-head (SectionLies l) s ss h))
    ∙ ap (λ es. section_extents l s ++ es) (sections_extents_are l f ss (All-tail (SectionLies l) s ss h)))

sorted_extents_are : (l : Layout) (xs : List Input) → All (SectionLies l) (map (λ (x : Input). with_word_order x.section) xs) → map extent_of (flat_map (sorted_piece l) xs) ≡ flat_map (section_extents l) (map (λ (x : Input). with_word_order x.section) xs)
sorted_extents_are l [] h = refl
sorted_extents_are l (x ∷ xs) h =
    map-append extent_of (sorted_piece l x) (flat_map (sorted_piece l) xs)
    ∙ (ap (λ es. es ++ map extent_of (flat_map (sorted_piece l) xs)) (section_extents_are l x.file (with_word_order x.section) (All-head (SectionLies l) (with_word_order x.section) (map (λ (y : Input). with_word_order y.section) xs) h))
    ∙ ap (λ es. section_extents l (with_word_order x.section) ++ es) (sorted_extents_are l xs (All-tail (SectionLies l) (with_word_order x.section) (map (λ (y : Input). with_word_order y.section) xs) h)))

last_extents_are : (l : Layout) (f : File) → All (SectionLies l) (of_last_file f (sorted_sections l)) → map extent_of (of_last_file f (flat_map (sorted_piece l) (sorted_inputs l))) ≡ of_last_file f (flat_map (section_extents l) (sorted_sections l))
last_extents_are l f h = by (is_epilogue f.role) h
  where
    by : (b : Bool) → All (SectionLies l) (if b then sorted_sections l else []) → map extent_of (if b then flat_map (sorted_piece l) (sorted_inputs l) else []) ≡ (if b then flat_map (section_extents l) (sorted_sections l) else [])
    by true h = sorted_extents_are l (sorted_inputs l) h
    by false h = refl

-- of a file with placed sections
pub file_extents_are : (l : Layout) (f : File) → All (SectionLies l) (processed_sections l f) → map extent_of (file_pieces l f) ≡ file_extents l f
file_extents_are l f h =
    let own = All-append-left (SectionLies l) f.sections (of_last_file f (sorted_sections l)) h in
    let last = All-append-right (SectionLies l) f.sections (of_last_file f (sorted_sections l)) h in
    map-append extent_of (section_pieces l f) (of_last_file f (flat_map (sorted_piece l) (sorted_inputs l)) ++ (of_first_file f (merged_and_identity_pieces l) ++ thunk_pieces l f))
    ∙ (ap (λ es. es ++ map extent_of (of_last_file f (flat_map (sorted_piece l) (sorted_inputs l)) ++ (of_first_file f (merged_and_identity_pieces l) ++ thunk_pieces l f))) (sections_extents_are l f f.sections own)
    ∙ ap (λ es. flat_map (section_extents l) f.sections ++ es)
    (map-append extent_of (of_last_file f (flat_map (sorted_piece l) (sorted_inputs l))) (of_first_file f (merged_and_identity_pieces l) ++ thunk_pieces l f)
    ∙ (ap (λ es. es ++ map extent_of (of_first_file f (merged_and_identity_pieces l) ++ thunk_pieces l f)) (last_extents_are l f last)
    ∙ ap (λ es. of_last_file f (flat_map (section_extents l) (sorted_sections l)) ++ es)
    (map-append extent_of (of_first_file f (merged_and_identity_pieces l)) (thunk_pieces l f) ∙ ap (λ es. map extent_of (of_first_file f (merged_and_identity_pieces l)) ++ es) (thunks_extents_are l f)))))

files_extents_are : (l : Layout) (fs : List File) → All (λ (f : File). All (SectionLies l) (processed_sections l f)) fs → map extent_of (flat_map (file_pieces l) fs) ≡ flat_map (file_extents l) fs
files_extents_are l [] h = refl
files_extents_are l (f ∷ fs) h =
    map-append extent_of (file_pieces l f) (flat_map (file_pieces l) fs)
    ∙ (ap (λ es. es ++ map extent_of (flat_map (file_pieces l) fs)) (file_extents_are l f (All-head (λ (f : File). All (SectionLies l) (processed_sections l f)) f fs h))
    ∙ ap (λ es. file_extents l f ++ es) (files_extents_are l fs (All-tail (λ (f : File). All (SectionLies l) (processed_sections l f)) f fs h)))

pub group_extents_are : (l : Layout) (g : Group) → All (λ (f : File). All (SectionLies l) (processed_sections l f)) (placed_files l g) → map extent_of (owned_pieces l g) ≡ group_extents l g
unfolding group_extents
group_extents_are l g h = files_extents_are l (placed_files l g) h
