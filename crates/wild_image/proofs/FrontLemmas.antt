-- Laws of bytes at the front of a part.
use Rattle.wild_image.proofs.Common.{◌≡◌, ℕ, ◌+◌, ◌<◌, ◌≤◌, ◌==◌, inl, inr, Bool, true, false, not, ◌&&◌, if◌then◌else◌, List, [], ◌∷◌, ◌++◌, length, set, get_or, refl, sym, ap, ◌∙◌, arith, cases_Bool, eqb-true, and_parts, get_or_from_slice_get, slice_get_within, Option, Some, slice_get, Piece, place_in_prefix, overlay_prefix, Part, Layout, section_of_part, is_header_only_at, is_header_only_part, image_size, front_piece, SomeLies}
use Rattle.wild_layout.specs.Image.{some_piece, offset_of_part}
use Rattle.wild_layout.specs.SectionPlaces.{FrontLies}

put_some : (k : ℕ) (bs out next : List ℕ) → 1 ≤ length bs → next ≡ place_in_prefix k bs out → next ≡ overlay_prefix (some_piece k bs) out
put_some k bs out next some e =
    elim (cases_Bool (length bs == 0)) [
      | inl t ↦ absurd (let z = eqb-true (length bs) 0 t in omega (arith, z, some))
      | inr f ↦ rw f e
    ]

-- the part is one of the layout's
pub front_part : (l : Layout) (k : ℕ) (bs : List ℕ) → FrontLies l k bs → k < length l.parts
front_part l k bs h = slice_get_within l.parts k h.part h.listed

abbrev h_offset : Layout → ℕ → ℕ
h_offset l k = offset_of_part (slice_get l.parts k)

front_offset : (l : Layout) (k : ℕ) (bs : List ℕ) (d : Part) → FrontLies l k bs → (get_or l.parts k d).offset ≡ h_offset l k
front_offset l k bs d h = ap (λ (p : Part). p.offset) (get_or_from_slice_get l.parts k h.part d h.listed) ∙ sym (ap offset_of_part h.listed)

-- of a part that is written they are one piece
front_is : (l : Layout) (k : ℕ) (bs out : List ℕ) → is_header_only_part l k ≡ false → overlay_prefix (some_piece (h_offset l k) bs) out ≡ overlay_prefix (front_piece l k bs) out
front_is l k bs out written = sym (ap (λ (b : Bool). overlay_prefix (if b then [] else some_piece (h_offset l k) bs) out) written)

-- the bytes, put
pub front_put : (l : Layout) (k : ℕ) (bs out next : List ℕ) (d : Part) → FrontLies l k bs → is_header_only_part l k ≡ false → 1 ≤ length bs → next ≡ place_in_prefix (get_or l.parts k d).offset bs out → next ≡ overlay_prefix (front_piece l k bs) out
front_put l k bs out next d h written some e = put_some (h_offset l k) bs out next some (e ∙ ap (λ (n : ℕ). place_in_prefix n bs out) (front_offset l k bs d h)) ∙ front_is l k bs out written

-- ---- where there is nothing to put

not_written : (header_only none : Bool) (ps : List Piece) (out : List ℕ) → (not none && not header_only) ≡ false → out ≡ overlay_prefix (if header_only then [] else if none then [] else ps) out
not_written true none ps out h = refl
not_written false true ps out h = refl
not_written false false ps out h = cc

-- there is nothing, or nothing of the part is written
pub front_not_put : (l : Layout) (k : ℕ) (bs out : List ℕ) → (not (length bs == 0) && not (is_header_only_part l k)) ≡ false → out ≡ overlay_prefix (front_piece l k bs) out
front_not_put l k bs out h = not_written (is_header_only_part l k) (length bs == 0) (record { at = h_offset l k; bytes = bs } ∷ []) out h

some_bytes : (bs : List ℕ) → not (length bs == 0) ≡ true → 1 ≤ length bs
some_bytes [] h = cc
some_bytes (b ∷ bs) h = omega arith

written_by : (header_only : Bool) → not header_only ≡ true → header_only ≡ false
written_by true h = cc
written_by false h = refl

-- there are some, and the part is written
pub writes_some : (l : Layout) (k : ℕ) (bs : List ℕ) → (not (length bs == 0) && not (is_header_only_part l k)) ≡ true → 1 ≤ length bs
writes_some l k bs h = some_bytes bs (and_parts (not (length bs == 0)) _ h).0

pub writes_part : (l : Layout) (k : ℕ) (bs : List ℕ) → (not (length bs == 0) && not (is_header_only_part l k)) ≡ true → is_header_only_part l k ≡ false
writes_part l k bs h = written_by (is_header_only_part l k) (and_parts (not (length bs == 0)) _ h).1
