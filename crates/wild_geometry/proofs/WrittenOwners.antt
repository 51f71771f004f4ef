-- Each byte that has an owner is in a piece. So the image does not depend on what is there before the pieces are written.
use Rattle.wild_geometry.proofs.Common.{◌≡◌, ℕ, suc, ◌+◌, ◌-◌, ◌<◌, ◌≤◌, ◌⊎◌, inl, inr, ◌==◌, Bool, true, false, not, ◌&&◌, ◌||◌, if◌then◌else◌, nat_le, nat_lt, List, [], ◌∷◌, length, map, take, get_or, All, Contains, slice_get, flat_map, refl, sym, ◌∙◌, arith, subst, slice_index, list_any, cases_Bool, and_parts, and_from, or_cases, not-true, leb-true, ltb-true, eqb-true, eqb-false, length-append, All-cons, All-head, All-tail, All-contains, Contains-append_left, Contains-append_right, Piece, overlay, AreDisjoint, Extent, Found-from_list_any, All-append-left, All-append-right, All-flat_map, All-from_flat_map, Part, Slot, InputSection, File, Group, Thunk, Layout, thunk_size, thunks_of, is_partial_link, total, has_data, has_range, has_counted, has_bytes, has_range_bytes, is_filled, takes_file_bytes, is_header_only_at, is_header_only_part, image_size, files_of, role_place, has_role, Input, without_relocations, unread, as_loaded, sorted_inputs, of_last_file, sections_in_ranges, extent_of, content, thunk_bytes, flat_map_from, IsLaidOut, offset_in, thunk_piece, thunk_pieces, some_piece, of_first_file, merged_and_identity_pieces, table_pieces, owned_pieces, group_pieces, pieces, Contains-flat_map, length-thunk_bytes}
use Rattle.std.proofs.lemmas.Bool.{cases_lt, false_from_ne_true}
use Rattle.std.proofs.lemmas.List.{ext_get_or}
use Rattle.wild_words.specs.Words.{place}
use Rattle.wild_words.proofs.Basics.{All-each, Contains-from_flat_map, Contains-map, slice_get_inside}
use Rattle.wild_words.proofs.OverlayLemmas.{length-place, place-below, place-inside, place-above, length-overlay}
use Rattle.wild_types.specs.declared.part.Role.TheVariants as role
use Rattle.wild_types.specs.declared.input.Slot.TheVariants as slot
use Rattle.wild_types.specs.declared.layout.Merged.{Merged}
use Rattle.wild_types.specs.Lookups.{brings_bytes}
use Rattle.wild_layout.specs.Image.{thunk_offset, offset_of_part, merged_bytes, front_piece, is_within, part_owns, section_owns, thunk_owns, front_owns, merged_and_identity_owns, file_owns, group_owns, is_owned, padding, bytes}
use Rattle.wild_layout.proofs.LayoutLemmas.{length-padding}
use Rattle.wild_geometry.specs.OwnedBytes.{IsPadded}
use Rattle.wild_geometry.proofs.InterleaveLemmas.{Contains-flat_map_from}
use Rattle.wild_geometry.proofs.PlacedSectionLemmas.{AllClausesHold}
use Rattle.wild_geometry.proofs.Rooms.{all_at, room_of, length-room, section_room, rooms_in, others_in, file_rooms}
use Rattle.wild_geometry.proofs.OwnedLemmas.{once_by_file}
use Rattle.wild_geometry.proofs.TablePieces.{places_from_clauses}
use Rattle.wild_geometry.proofs.KeptItems.{last_file}

-- ---- a byte outside pieces

-- byte k is outside an extent, or a piece
abbrev IsOutside : ℕ → Extent → Type 0
IsOutside k x = (k < x.start) ⊎ (x.end ≤ k)

abbrev IsOutsidePiece : ℕ → Piece → Type 0
IsOutsidePiece k p = IsOutside k (extent_of p)

not_outside : (at n k : ℕ) → is_within at n k ≡ true → (k < at) ⊎ (at + n ≤ k) → ⊥
not_outside at n k within outside =
    let b = and_parts (nat_le at k) (nat_lt k (at + n)) within in
    let from = leb-true at k b.0 in
    let to = ltb-true k (at + n) b.1 in
    elim outside [ inl low ↦ omega (arith, from, low) | inr high ↦ omega (arith, to, high) ]

-- ---- what files own

owned_outside : (l : Layout) (k : ℕ) → All (IsOutsidePiece k) (pieces l) → All (IsOutsidePiece k) (flat_map (owned_pieces l) l.groups)
unfolding pieces
owned_outside l k all =
    All-each (IsOutsidePiece k) (flat_map (owned_pieces l) l.groups) (λ p listed.
    let c = Contains-from_flat_map (owned_pieces l) l.groups p listed in
    let at = c.1 in
    let own = Contains-append_right (table_pieces l at.0 c.0) (owned_pieces l c.0) p c.2 in
    let here = subst (λ (g : Group). Contains (group_pieces l at.0 g) p) (sym at.2) own in
    All-contains (IsOutsidePiece k) (flat_map_from (group_pieces l) 0 l.groups) p all (Contains-flat_map_from (group_pieces l) 0 l.groups at.0 at.0 c.0 p (omega arith) at.1 here))

-- a byte outside all pieces is outside the rooms of each file
abbrev IsOutsideFiles : Layout → ℕ → Type 0
IsOutsideFiles l k = All (λ (f : File). All (IsOutsidePiece k) (file_rooms l f)) (files_of l.groups)

outside_files : (l : Layout) (k : ℕ) → AllClausesHold l → All (IsOutsidePiece k) (pieces l) → IsOutsideFiles l k
outside_files l k h all =
    let rooms = flat_map (file_rooms l) (files_of l.groups) in
    All-from_flat_map (IsOutsidePiece k) (file_rooms l) (files_of l.groups) (all_at (IsOutside k) (flat_map (owned_pieces l) l.groups) rooms (sym (places_from_clauses l h)) (owned_outside l k all))

outside_file : (l : Layout) (k : ℕ) (g : Group) (f : File) → IsOutsideFiles l k → Contains l.groups g → Contains g.files f → All (IsOutsidePiece k) (file_rooms l f)
outside_file l k g f out a b = All-contains (λ (x : File). All (IsOutsidePiece k) (file_rooms l x)) (files_of l.groups) f out (Contains-flat_map (λ (x : Group). x.files) l.groups g f a b)

-- ---- input sections

-- the test of a section's range
abbrev in_range : Layout → ℕ → InputSection → Bool
in_range l k s = is_within (offset_in (slice_get l.parts s.part) s.address) s.size k

-- a section in a file's ranges
no_room : (l : Layout) (k : ℕ) (f : File) (s : InputSection) → All (IsOutsidePiece k) (file_rooms l f) → Contains (sections_in_ranges l f) s → is_filled l s ≡ true → in_range l k s ≡ true → ⊥
no_room l k f s out listed filled within =
    let P : InputSection → Type 0 = λ x. All (IsOutsidePiece k) (section_room l x) in
    let each = All-from_flat_map (IsOutsidePiece k) (section_room l) (sections_in_ranges l f) (All-append-left (IsOutsidePiece k) (rooms_in l f) (others_in l f) out) in
    let own : P s = All-contains P (sections_in_ranges l f) s each listed in
    let here = All-head (IsOutsidePiece k) (room_of l s) [] (subst (λ (b : Bool). All (IsOutsidePiece k) (if b then room_of l s ∷ [] else [])) filled own) in
    let at = offset_in (slice_get l.parts s.part) s.address in
    not_outside at s.size k within (subst (λ (n : ℕ). (k < at) ⊎ (at + n ≤ k)) (length-room l s) here)

-- a section with bytes is in file order, or sorted
in_order_or_sorted : (k : Slot) → (has_range k || has_counted k) ≡ true → (has_range k ≡ true) ⊎ (k ≡ slot.Sorted)
in_order_or_sorted slot.Loaded h = inl refl
in_order_or_sorted slot.Debug h = inl refl
in_order_or_sorted slot.Rela h = inl refl
in_order_or_sorted slot.Group h = inl refl
in_order_or_sorted slot.Sorted h = inr refl
in_order_or_sorted other h = cc

-- a sorted one as it is placed
record IsFilledThere (l : Layout) (k : ℕ) (t : InputSection) : Type 0 where
  filled : is_filled l t ≡ true
  within : in_range l k t ≡ true

sorted_there : (l : Layout) (k : ℕ) (s : InputSection) → s.slot ≡ slot.Sorted → has_bytes l s ≡ true → not (is_header_only_part l s.part) ≡ true → in_range l k s ≡ true → IsFilledThere l k (as_loaded (unread l s))
sorted_there l k s e has written within = by (is_partial_link l.kind)
  where
    filled : is_filled l (as_loaded s) ≡ true
    filled = and_from (has_range_bytes l (as_loaded s)) (not (is_header_only_part l s.part)) (rw e at has) written

    by : (b : Bool) → IsFilledThere l k (as_loaded (if b then without_relocations s else s))
    by true = record { filled = filled; within = within }
    by false = record { filled = filled; within = within }

no_section : (l : Layout) (k : ℕ) (g : Group) (f : File) (s : InputSection) → IsLaidOut l → IsOutsideFiles l k → Contains l.groups g → Contains g.files f → Contains f.sections s → section_owns l k s ≡ true → ⊥
no_section l k g f s laid out a b c own =
    let owns = and_parts (brings_bytes l s && not (is_header_only_part l s.part)) (in_range l k s) own in
    let written = and_parts (brings_bytes l s) (not (is_header_only_part l s.part)) owns.0 in
    let brings = and_parts (has_range s.slot || has_counted s.slot) (has_bytes l s) written.0 in
    let placed = map (λ (y : Input). y.section) (sorted_inputs l) in
    elim (in_order_or_sorted s.slot brings.0) [
      | inl range ↦
          (let listed = Contains-append_left f.sections (of_last_file f placed) s c in
          let filled = and_from (has_range_bytes l s) (not (is_header_only_part l s.part)) (and_from (has_range s.slot) (has_bytes l s) range brings.1) written.1 in
          no_room l k f s (outside_file l k g f out a b) listed filled owns.1)
      | inr sorted ↦
          (let last = last_file l laid in
          let x : Input = record { file = f; section = as_loaded (unread l s) } in
          let there = sorted_there l k s sorted brings.1 written.1 owns.1 in
          let mapped = Contains-map (λ (y : Input). y.section) (sorted_inputs l) x (laid.sorted g f s a b c sorted) in
          let with_last = subst (λ (e : Bool). Contains (if e then placed else []) x.section) (sym last.last) mapped in
          no_room l k last.file x.section (outside_file l k last.group last.file out last.grouped last.filed) (Contains-append_right last.file.sections (of_last_file last.file placed) x.section with_last) there.filled there.within)
    ]

-- ---- thunks

no_thunk : (l : Layout) (k : ℕ) (f : File) (t : Thunk) → All (IsOutsidePiece k) (file_rooms l f) → Contains (thunks_of l f) t → thunk_owns l k t ≡ true → ⊥
no_thunk l k f t out listed own =
    let owns = and_parts (not (is_header_only_part l l.primary_part)) (is_within (thunk_offset l t) thunk_size k) own in
    let others = All-append-right (IsOutsidePiece k) (rooms_in l f) (others_in l f) out in
    let all : All (IsOutsidePiece k) (thunk_pieces l f) = All-append-right (IsOutsidePiece k) (of_first_file f (merged_and_identity_pieces l)) (thunk_pieces l f) others in
    let written = subst (λ (b : Bool). All (IsOutsidePiece k) (if b then [] else flat_map (thunk_piece l) (thunks_of l f))) (not-true _ owns.0) all in
    let P : Thunk → Type 0 = λ x. All (IsOutsidePiece k) (thunk_piece l x) in
    let here : P t = All-contains P (thunks_of l f) t (All-from_flat_map (IsOutsidePiece k) (thunk_piece l) (thunks_of l f) written) listed in
    let one = All-head (IsOutsidePiece k) (record { at = thunk_offset l t; bytes = thunk_bytes l t }) [] here in
    not_outside (thunk_offset l t) thunk_size k owns.1 (subst (λ (n : ℕ). (k < thunk_offset l t) ⊎ (thunk_offset l t + n ≤ k)) (length-thunk_bytes l t) one)

-- ---- merged strings, and the identity

no_front : (l : Layout) (k part : ℕ) (bs : List ℕ) → All (IsOutsidePiece k) (front_piece l part bs) → front_owns l k part bs ≡ true → ⊥
no_front l k part bs out own =
    let at = offset_of_part (slice_get l.parts part) in
    let owns = and_parts (not (is_header_only_part l part)) (is_within at (length bs) k) own in
    let some = subst (λ (b : Bool). All (IsOutsidePiece k) (if b then [] else some_piece at bs)) (not-true _ owns.0) out in
    elim (cases_Bool (length bs == 0)) [
      | inl none ↦
          (let e = eqb-true (length bs) 0 none in
          not_outside at (length bs) k owns.1 (elim (cases_lt k at) [ inl low ↦ inl low | inr high ↦ inr (omega (arith, e, high)) ]))
      | inr has ↦
          not_outside at (length bs) k owns.1
          (All-head (IsOutsidePiece k) (record { at = at; bytes = bs }) [] (subst (λ (b : Bool). All (IsOutsidePiece k) (if b then [] else record { at = at; bytes = bs } ∷ [])) has some))
    ]

no_merged_or_identity : (l : Layout) (k : ℕ) → IsLaidOut l → IsOutsideFiles l k → merged_and_identity_owns l k ≡ true → ⊥
no_merged_or_identity l k laid out own =
    let files = files_of l.groups in
    let once = merged_and_identity_pieces l in
    let identity = front_piece l l.identity.part l.identity.bytes in
    let of_merged : Merged → List Piece = λ m. front_piece l m.part (merged_bytes m) in
    let first : File → List Piece = λ f. of_first_file f once in
    let each : All (λ (f : File). All (IsOutsidePiece k) (first f)) files = λ i f m.
    (let x = get_or files i f in
    All-append-left (IsOutsidePiece k) (first x) (thunk_pieces l x) (All-append-right (IsOutsidePiece k) (rooms_in l x) (others_in l x) (out i f m))) in
    let all : All (IsOutsidePiece k) once = subst (All (IsOutsidePiece k)) (once_by_file l laid.files laid.some_group) (All-flat_map (IsOutsidePiece k) first files each) in
    let merged = All-from_flat_map (IsOutsidePiece k) of_merged l.merged (All-append-left (IsOutsidePiece k) (flat_map of_merged l.merged) identity all) in
    elim (or_cases (list_any (λ (m : Merged). front_owns l k m.part (merged_bytes m)) l.merged) (front_owns l k l.identity.part l.identity.bytes) own) [
      | inl strings ↦
          (let found = Found-from_list_any (λ (m : Merged). front_owns l k m.part (merged_bytes m)) l.merged strings in
          let m = found.item in
          no_front l k m.part (merged_bytes m) (All-contains (λ (x : Merged). All (IsOutsidePiece k) (of_merged x)) l.merged m merged found.listed) found.passes)
      | inr text ↦ no_front l k l.identity.part l.identity.bytes (All-append-right (IsOutsidePiece k) (flat_map of_merged l.merged) identity all) text
    ]

-- ---- tables

-- the item whose bytes include byte d of a joined list
record ItemWith {X : Type 0} (f : X → List ℕ) (xs : List X) (d : ℕ) : Type 0 where
  item : ℕ
  low : item < length xs
  from : total (λ (x : X). length (f x)) (take item xs) ≤ d
  to : (x : X) → d < total (λ (y : X). length (f y)) (take item xs) + length (f (get_or xs item x))

item_with : {X : Type 0} (f : X → List ℕ) (xs : List X) (d : ℕ) → d < length (flat_map f xs) → ItemWith f xs d
item_with f [] d h = absurd (omega (arith, h))
item_with {X} f (x ∷ xs) d h =
    let long = length-append (f x) (flat_map f xs) in
    elim (cases_lt d (length (f x))) [
      | inl low ↦ record { item = 0; low = omega arith; from = omega arith; to = λ y. omega (arith, low) }
      | inr high ↦
          (let rest = item_with f xs (d - length (f x)) (omega (arith, h, long, high)) in
          let from = rest.from in
          record { item = suc rest.item; low = (let low = rest.low in omega (arith, low)); from = omega (arith, from, high); to = λ y. (let to = rest.to y in omega (arith, to, high)) })
    ]

no_table : (l : Layout) (k : ℕ) (p : Part) → IsLaidOut l → All (IsOutsidePiece k) (pieces l) → Contains l.parts p → part_owns l k p ≡ true → ⊥
no_table l k p laid all listed own =
    let owns = and_parts (not (has_role role.Raw p)) (takes_file_bytes l p.section && is_within p.offset p.size k) own in
    let rest = and_parts (takes_file_bytes l p.section) (is_within p.offset p.size k) owns.1 in
    let written = not-true (is_header_only_at l p.section) (and_parts (has_data l p.section) (not (is_header_only_at l p.section)) rest.0).1 in
    let bounds = and_parts (nat_le p.offset k) (nat_lt k (p.offset + p.size)) rest.1 in
    let from = leb-true p.offset k bounds.0 in
    let to = ltb-true k (p.offset + p.size) bounds.1 in
    let other = eqb-false (role_place p.role) 0 (not-true _ owns.0) in
    let table = (laid.roles p.role other).there p (laid.once p.role p other listed refl) in
    let size = table.size in
    let at = item_with (content l p.role) l.groups (k - p.offset) (omega (arith, from, to, size)) in
    let g = (slice_get_inside l.groups at.item at.low).0 in
    let before = at.from in
    let after = at.to g in
    let piece = table.pieces written at.item g at.low (omega (arith, before, after)) in
    elim (All-contains (IsOutsidePiece k) (pieces l) _ all piece) [ inl low ↦ omega (arith, low, from, before) | inr high ↦ omega (arith, high, from, after) ]

-- ---- all owners

no_file : (l : Layout) (k : ℕ) (g : Group) (f : File) → IsLaidOut l → IsOutsideFiles l k → Contains l.groups g → Contains g.files f → file_owns l k f ≡ true → ⊥
no_file l k g f laid out a b own =
    elim (or_cases (list_any (section_owns l k) f.sections) (list_any (thunk_owns l k) (thunks_of l f)) own) [
      | inl section ↦ (let found = Found-from_list_any (section_owns l k) f.sections section in no_section l k g f found.item laid out a b found.listed found.passes)
      | inr thunk ↦ (let found = Found-from_list_any (thunk_owns l k) (thunks_of l f) thunk in no_thunk l k f found.item (outside_file l k g f out a b) found.listed found.passes)
    ]

-- a byte outside all pieces has no owner
has_no_owner : (l : Layout) (k : ℕ) → AllClausesHold l → IsLaidOut l → All (IsOutsidePiece k) (pieces l) → is_owned l k ≡ false
has_no_owner l k h laid all =
    false_from_ne_true (is_owned l k) (λ own.
    elim (or_cases (list_any (part_owns l k) l.parts) (list_any (group_owns l k) l.groups || merged_and_identity_owns l k) own) [
      | inl part ↦ (let found = Found-from_list_any (part_owns l k) l.parts part in no_table l k found.item laid all found.listed found.passes)
      | inr others ↦
          elim (or_cases (list_any (group_owns l k) l.groups) (merged_and_identity_owns l k) others) [
            | inl groups ↦
                (let group = Found-from_list_any (group_owns l k) l.groups groups in
                let file = Found-from_list_any (file_owns l k) group.item.files group.passes in
                no_file l k group.item file.item laid out group.listed file.listed file.passes)
            | inr once ↦ no_merged_or_identity l k laid out once
          ]
    ])
  where
    out : IsOutsideFiles l k
    out = outside_files l k h all

-- ---- pieces written over two lists of bytes

-- byte k is the same after the pieces if it was the same before, or is in a piece
same_after : (k : ℕ) (ps : List Piece) (xs ys : List ℕ) → All (λ (p : Piece). p.at + length p.bytes ≤ length xs) ps → length xs ≡ length ys → (All (IsOutsidePiece k) ps → slice_index xs k ≡ slice_index ys k) → slice_index (overlay ps xs) k ≡ slice_index (overlay ps ys) k
same_after k [] xs ys fit long same = same (λ i p low. absurd (omega (arith, low)))
same_after k (p ∷ ps) xs ys fit long same = same_after k ps (place p.at p.bytes xs) (place p.at p.bytes ys) rest (one ∙ long ∙ sym two) now
  where
    P : ℕ → Piece → Type 0
    P n q = q.at + length q.bytes ≤ n

    here : p.at + length p.bytes ≤ length xs
    here = All-head (P (length xs)) p ps fit

    there : p.at + length p.bytes ≤ length ys
    there = let h = here in omega (arith, h, long)

    one : length (place p.at p.bytes xs) ≡ length xs
    one = length-place p.at xs p.bytes here

    two : length (place p.at p.bytes ys) ≡ length ys
    two = length-place p.at ys p.bytes there

    rest : All (P (length (place p.at p.bytes xs))) ps
    rest = subst (λ (n : ℕ). All (P n) ps) (sym one) (All-tail (P (length xs)) p ps fit)

    by : All (IsOutsidePiece k) ps → (k < p.at) ⊎ (p.at ≤ k) → (k < p.at + length p.bytes) ⊎ (p.at + length p.bytes ≤ k) → slice_index (place p.at p.bytes xs) k ≡ slice_index (place p.at p.bytes ys) k
    by out (inl low) other = place-below p.at k xs p.bytes here low ∙ same (All-cons (IsOutsidePiece k) p ps (inl low) out) ∙ sym (place-below p.at k ys p.bytes there low)
    by out (inr from) (inl to) =
        let e : p.at + (k - p.at) ≡ k = omega (arith, from) in
        let in_piece : k - p.at < length p.bytes = omega (arith, from, to) in
        let first = place-inside p.at (k - p.at) xs p.bytes here in_piece in
        let second = place-inside p.at (k - p.at) ys p.bytes there in_piece in
        subst (λ (j : ℕ). slice_index (place p.at p.bytes xs) j ≡ slice_index (place p.at p.bytes ys) j) e (first ∙ sym second)
    by out (inr from) (inr high) = place-above p.at k xs p.bytes here high ∙ same (All-cons (IsOutsidePiece k) p ps (inr high) out) ∙ sym (place-above p.at k ys p.bytes there high)

    now : All (IsOutsidePiece k) ps → slice_index (place p.at p.bytes xs) k ≡ slice_index (place p.at p.bytes ys) k
    now out = by out (cases_lt k p.at) (cases_lt k (p.at + length p.bytes))

-- so the pieces give the image over any bytes of which those without an owner are padding
pub image_over : (l : Layout) → AllClausesHold l → IsLaidOut l → (base : List ℕ) → IsPadded l (image_size l) base → overlay (pieces l) base ≡ bytes l
unfolding bytes
image_over l h laid base padded =
    let same = padded.long ∙ sym (length-padding l) in
    let apart : AreDisjoint (length base) (pieces l) = subst (λ (n : ℕ). AreDisjoint n (pieces l)) (sym padded.long) laid.owners in
    let long = length-overlay (pieces l) base apart in
    let full = length-overlay (pieces l) (padding l) (subst (λ (n : ℕ). AreDisjoint n (pieces l)) (sym (length-padding l)) laid.owners) in
    ext_get_or 0 (overlay (pieces l) base) (overlay (pieces l) (padding l)) (long ∙ same ∙ sym full) (λ k low.
    same_after k (pieces l) base (padding l) apart.within same (λ out. (let size = padded.long in padded.free k (omega (arith, low, long, size)) (has_no_owner l k h laid out))))
