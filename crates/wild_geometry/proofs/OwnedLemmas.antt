-- All that files own: input sections as their rooms, what stands at the fronts of parts, and thunks, each apart from the others.
use Rattle.wild_geometry.proofs.Common.{◌≡◌, ℕ, ◌+◌, ◌<◌, ◌≤◌, inl, inr, ◌==◌, Bool, true, false, ◌&&◌, if◌then◌else◌, List, [], ◌∷◌, length, map, get_or, All, AllPairs, None, slice_get, flat_map, refl, sym, ap, ◌∙◌, arith, subst, cases_Bool, and_parts, and_from, eq-eqb, append-nil, All-nil, All-append, Piece, Disjoint, Extent, All-flat_map, All-optional, flat_map-flat_map, flat_map-same, InputSection, File, Group, Thunk, Layout, given, bool_eq, file_position_fits, later_positions_fit, group_positions_fit, first_misplaced_file, is_prelude, is_epilogue, thunks_of, has_range_bytes, is_filled, is_header_only_part, image_size, files_of, same_bool, sections_in_ranges, extent_of, thunk_bytes, thunk_piece, thunk_pieces, of_first_file, merged_and_identity_pieces, owned_pieces, length-thunk_bytes}
use Rattle.wild_geometry.proofs.InterleaveLemmas.{AllPairs-two, All-two}
use Rattle.wild_geometry.proofs.PlacedSectionLemmas.{AllClausesHold}
use Rattle.wild_geometry.proofs.OrderLemmas.{Follows}
use Rattle.wild_geometry.proofs.RunLemmas.{sections_in}
use Rattle.wild_geometry.proofs.StandingLemmas.{all_sections}
use Rattle.wild_geometry.proofs.SectionLemmas.{IsInRawPart, filled_given}
use Rattle.wild_geometry.proofs.Rooms.{room_of, length-room, section_room, rooms_in, others_in, file_rooms, all_at, apart_at}
use Rattle.wild_geometry.proofs.ThunkRuns.{thunks_in, all_thunks, SectionThunkApart}
use Rattle.wild_geometry.proofs.PieceLemmas.{owners_apart, stood_room, section_rooms, InImage}
use Rattle.wild_geometry.proofs.FrontLemmas.{Front, fronts, FrontStands, FrontsStand, front_at, front_is, each_front, fronts_apart, fronts_within, sections_behind, no_thunks_there}
use Rattle.wild_geometry.proofs.ThunkLemmas.{ThunkIsInPart, ThunksStand, SectionsStand, pieces_of_thunks, thunk_at, thunk_room, each_thunk, thunks_apart, thunk_in_image}

-- ---- input sections and thunks

-- a thunk and an input section
section_and_thunk : (l : Layout) → AllPairs (Follows l) l.parts → (s : InputSection) (t : Thunk) → is_filled l s ≡ true → IsInRawPart l s → ThunkIsInPart l t → SectionThunkApart l l.primary_part s t → Disjoint (room_of l s) (thunk_at l t)
section_and_thunk l f s t filled a b beside =
    owners_apart l f s.part l.primary_part s.address t.address (room_of l s).bytes (thunk_bytes l t) a.part b.part (stood_room l s a) (thunk_room l t b) (λ e.
    let n = length-room l s in
    let m = length-thunk_bytes l t in
    elim (beside (and_from (has_range_bytes l s) (s.part == l.primary_part) (filled_given l s filled) (eq-eqb s.part l.primary_part e))) [ inl u ↦ inl (omega arith) | inr v ↦ inr (omega arith) ])

sections_and_thunks : (l : Layout) → AllPairs (Follows l) l.parts → SectionsStand l → ThunksStand l → All (λ a. All (Disjoint a) (pieces_of_thunks l)) (section_rooms l)
sections_and_thunks l f stood h =
    All-flat_map (λ a. All (Disjoint a) (pieces_of_thunks l)) (section_room l) (all_sections l) (λ i s m.
    All-optional (λ a. All (Disjoint a) (pieces_of_thunks l)) (is_filled l (get_or (all_sections l) i s)) (room_of l (get_or (all_sections l) i s)) (λ filled.
    each_thunk l (Disjoint (room_of l (get_or (all_sections l) i s))) (λ written j t n.
    section_and_thunk l f (get_or (all_sections l) i s) (get_or (all_thunks l) j t) filled (stood i s m filled) (h.stood written j t n) (h.beside i s m j t n))))

-- ---- what stands at fronts

-- an input section stands apart from it
section_and_front : (l : Layout) → AllClausesHold l → AllPairs (Follows l) l.parts → (i : ℕ) (d : InputSection) → i < length (all_sections l) → is_filled l (get_or (all_sections l) i d) ≡ true → IsInRawPart l (get_or (all_sections l) i d) → (x : Front) → FrontStands l x
    → Disjoint (room_of l (get_or (all_sections l) i d)) (front_at l x)
section_and_front l h f i d low filled a x st =
    let s = get_or (all_sections l) i d in
    let behind = sections_behind l h x st i d low filled in
    subst (Disjoint (room_of l s)) (front_is l x st) (owners_apart l f s.part x.part s.address st.part.address (room_of l s).bytes x.bytes a.part st.part (stood_room l s a) st.room (λ e. inr (let b = behind e in omega arith)))

sections_and_fronts : (l : Layout) → AllClausesHold l → AllPairs (Follows l) l.parts → SectionsStand l → FrontsStand l → All (λ a. All (Disjoint a) (merged_and_identity_pieces l)) (section_rooms l)
sections_and_fronts l h f stood st =
    All-flat_map (λ a. All (Disjoint a) (merged_and_identity_pieces l)) (section_room l) (all_sections l) (λ i s m.
    All-optional (λ a. All (Disjoint a) (merged_and_identity_pieces l)) (is_filled l (get_or (all_sections l) i s)) (room_of l (get_or (all_sections l) i s)) (λ filled.
    each_front l (Disjoint (room_of l (get_or (all_sections l) i s))) (λ j x n some.
    section_and_front l h f i s m filled (stood i s m filled) (get_or (fronts l) j x) (st.stood j x n some))))

-- and so does a thunk, which stands behind it in a part of its own
abbrev ThunkAfter : Layout → Front → ℕ → Thunk → Type 0
ThunkAfter l x at t = x.part ≡ l.primary_part → at + length x.bytes ≤ t.address

thunks_behind : (l : Layout) → AllClausesHold l → ThunksStand l → (x : Front) (st : FrontStands l x) → All (ThunkAfter l x st.part.address) (all_thunks l)
thunks_behind l h thunks x st = by l.groups refl
  where
    P : Thunk → Type 0
    P = ThunkAfter l x st.part.address

    of_first : (g : Group) (gs : List Group) → l.groups ≡ g ∷ gs → All P (thunks_in l g)
    of_first g gs split = All-flat_map P (thunks_of l) g.files (λ i f m j t n same. absurd (let none = no_thunks_there l h x st same g gs split i f m in omega arith))

    of_later : (g : Group) (gs : List Group) → l.groups ≡ g ∷ gs → All P (flat_map (thunks_in l) gs)
    of_later g gs split j t n same =
        let there = ap (slice_get l.parts) (sym same) ∙ st.room.listed in
        let behind = thunks.behind g gs st.part split there j t n in
        let fills = ap (λ (k : ℕ). given k g) (sym same) ∙ st.fills g gs split in
        omega arith

    by : (gs : List Group) → l.groups ≡ gs → All P (all_thunks l)
    by [] split = subst (λ (hs : List Group). All P (flat_map (thunks_in l) hs)) (sym split) (All-nil P)
    by (g ∷ gs) split = subst (λ (hs : List Group). All P (flat_map (thunks_in l) hs)) (sym split) (All-append P (thunks_in l g) (flat_map (thunks_in l) gs) (of_first g gs split) (of_later g gs split))

fronts_and_thunks : (l : Layout) → AllClausesHold l → AllPairs (Follows l) l.parts → ThunksStand l → FrontsStand l → All (λ a. All (Disjoint a) (pieces_of_thunks l)) (merged_and_identity_pieces l)
fronts_and_thunks l h f thunks st =
    each_front l (λ a. All (Disjoint a) (pieces_of_thunks l)) (λ i x m some.
    let y = get_or (fronts l) i x in
    let a = st.stood i x m some in
    each_thunk l (Disjoint (front_at l y)) (λ written j t n.
    let u = get_or (all_thunks l) j t in
    let b = thunks.stood written j t n in
    let behind = thunks_behind l h thunks y a j t n in
    subst (λ (p : Piece). Disjoint p (thunk_at l u)) (front_is l y a)
    (owners_apart l f y.part l.primary_part a.part.address u.address y.bytes (thunk_bytes l u) a.part b.part a.room (thunk_room l u b) (λ e. inl (behind e)))))

thunks_within : (l : Layout) → ThunksStand l → All (InImage l) (pieces_of_thunks l)
thunks_within l h = each_thunk l (InImage l) (λ written i t m. (let n = length-thunk_bytes l (get_or (all_thunks l) i t) in let e = thunk_in_image l (get_or (all_thunks l) i t) (h.stood written i t m) in omega arith))

-- ---- file by file

sections_by_file : (l : Layout) → section_rooms l ≡ flat_map (rooms_in l) (files_of l.groups)
sections_by_file l =
    flat_map-flat_map (section_room l) (sections_in l) l.groups
    ∙ flat_map-same (λ g. flat_map (section_room l) (sections_in l g)) (λ g. flat_map (rooms_in l) g.files) l.groups (λ g. flat_map-flat_map (section_room l) (sections_in_ranges l) g.files)
    ∙ sym (flat_map-flat_map (rooms_in l) (λ (g : Group). g.files) l.groups)

-- what is written of a list is what is written of its pieces
written_items : {X : Type 0} (b : Bool) (f : X → List Piece) (xs : List X) → (if b then [] else flat_map f xs) ≡ flat_map (λ x. if b then [] else f x) xs
written_items false f xs = refl
written_items true f [] = refl
written_items true f (x ∷ xs) = written_items true f xs

thunks_by_file : (l : Layout) → pieces_of_thunks l ≡ flat_map (thunk_pieces l) (files_of l.groups)
thunks_by_file l =
    let of_file : File → List Piece = λ f. flat_map (thunk_piece l) (thunks_of l f) in
    let joined : flat_map (thunk_piece l) (all_thunks l) ≡ flat_map of_file (files_of l.groups) =
    flat_map-flat_map (thunk_piece l) (thunks_in l) l.groups
    ∙ flat_map-same (λ g. flat_map (thunk_piece l) (thunks_in l g)) (λ g. flat_map of_file g.files) l.groups (λ g. flat_map-flat_map (thunk_piece l) (thunks_of l) g.files)
    ∙ sym (flat_map-flat_map of_file (λ (g : Group). g.files) l.groups) in
    ap (λ (ps : List Piece). if is_header_only_part l l.primary_part then [] else ps) joined ∙ written_items (is_header_only_part l l.primary_part) of_file (files_of l.groups)

-- files behind the first one have nothing of what is the first file's
later_once : {X : Type 0} (xs : List X) (last : Bool) (fs : List File) → later_positions_fit last fs ≡ true → flat_map (λ (f : File). of_first_file f xs) fs ≡ []
later_once xs last [] h = refl
later_once xs last (f ∷ fs) h =
    let a = and_parts (file_position_fits false (last && length fs == 0) f) (later_positions_fit last fs) h in
    let b = same_bool (is_prelude f.role) false (and_parts (bool_eq (is_prelude f.role) false) (bool_eq (is_epilogue f.role) (last && length fs == 0)) a.0).0 in
    rw b (later_once xs last fs a.1)

files_once : {X : Type 0} (xs : List X) (last : Bool) (fs : List File) → group_positions_fit true last fs ≡ true → flat_map (λ (f : File). of_first_file f xs) fs ≡ xs
files_once xs last [] h = cc
files_once xs last (f ∷ fs) h =
    let a = and_parts (file_position_fits true (last && length fs == 0) f) (later_positions_fit last fs) h in
    let b = same_bool (is_prelude f.role) true (and_parts (bool_eq (is_prelude f.role) true) (bool_eq (is_epilogue f.role) (last && length fs == 0)) a.0).0 in
    let later = later_once xs last fs a.1 in
    rw (b, later) (append-nil xs)

others_once : {X : Type 0} (xs : List X) (last : Bool) (fs : List File) → group_positions_fit false last fs ≡ true → flat_map (λ (f : File). of_first_file f xs) fs ≡ []
others_once xs last [] h = refl
others_once xs last (f ∷ fs) h =
    let a = and_parts (file_position_fits false (last && length fs == 0) f) (later_positions_fit last fs) h in
    let b = same_bool (is_prelude f.role) false (and_parts (bool_eq (is_prelude f.role) false) (bool_eq (is_epilogue f.role) (last && length fs == 0)) a.0).0 in
    rw b (later_once xs last fs a.1)

later_groups_once : {X : Type 0} (xs : List X) (i : ℕ) (gs : List Group) → first_misplaced_file false i gs ≡ None → flat_map (λ (g : Group). flat_map (λ (f : File). of_first_file f xs) g.files) gs ≡ []
later_groups_once xs i [] h = refl
later_groups_once xs i (g ∷ gs) h =
    elim (cases_Bool (group_positions_fit false (length gs == 0) g.files)) [
      | inl t ↦ (let a = others_once xs (length gs == 0) g.files t in let b = later_groups_once xs (i + 1) gs (rw t at h) in rw (a, b) refl)
      | inr f ↦ cc (rw f at h)
    ]

groups_once : {X : Type 0} (xs : List X) (gs : List Group) → first_misplaced_file true 0 gs ≡ None → 1 ≤ length gs → flat_map (λ (g : Group). flat_map (λ (f : File). of_first_file f xs) g.files) gs ≡ xs
groups_once xs [] h some = absurd (omega arith)
groups_once xs (g ∷ gs) h some =
    elim (cases_Bool (group_positions_fit true (length gs == 0) g.files)) [
      | inl t ↦ (let a = files_once xs (length gs == 0) g.files t in let b = later_groups_once xs 1 gs (rw t at h) in rw (a, b) (append-nil xs))
      | inr f ↦ cc (rw f at h)
    ]

-- what is the first file's is given once
pub once_by_file : (l : Layout) → first_misplaced_file true 0 l.groups ≡ None → 1 ≤ length l.groups → flat_map (λ (f : File). of_first_file f (merged_and_identity_pieces l)) (files_of l.groups) ≡ merged_and_identity_pieces l
once_by_file l h some = flat_map-flat_map (λ (f : File). of_first_file f (merged_and_identity_pieces l)) (λ (g : Group). g.files) l.groups ∙ groups_once (merged_and_identity_pieces l) l.groups h some

-- what is known of all that files own
pub record Owned (l : Layout) : Type 0 where
  pub laid : AllClausesHold l
  pub follow : AllPairs (Follows l) l.parts
  pub places : map extent_of (flat_map (file_rooms l) (files_of l.groups)) ≡ map extent_of (flat_map (owned_pieces l) l.groups)
  pub first : first_misplaced_file true 0 l.groups ≡ None
  pub some : 1 ≤ length l.groups
  pub stood : SectionsStand l
  pub thunks : ThunksStand l
  pub fronts : FrontsStand l

All-others : (l : Layout) (P : Piece → Type 0) → Owned l → All P (merged_and_identity_pieces l) → All P (pieces_of_thunks l) → All P (flat_map (others_in l) (files_of l.groups))
All-others l P h a b =
    let fs = files_of l.groups in
    All-two P (λ (f : File). of_first_file f (merged_and_identity_pieces l)) (thunk_pieces l) fs (subst (All P) (sym (once_by_file l h.first h.some)) a) (subst (All P) (thunks_by_file l) b)

-- what holds of the places of rooms, of what stands once, and of thunks, holds of those of all that files own
pub each_owned : (l : Layout) (P : Extent → Type 0) → Owned l → All (λ (p : Piece). P (extent_of p)) (section_rooms l) → All (λ (p : Piece). P (extent_of p)) (merged_and_identity_pieces l) → All (λ (p : Piece). P (extent_of p)) (pieces_of_thunks l)
    → All (λ (p : Piece). P (extent_of p)) (flat_map (owned_pieces l) l.groups)
each_owned l P h a b c =
    let Q : Piece → Type 0 = λ p. P (extent_of p) in
    let fs = files_of l.groups in
    all_at P (flat_map (file_rooms l) fs) (flat_map (owned_pieces l) l.groups) h.places (All-two Q (rooms_in l) (others_in l) fs (subst (All Q) (sections_by_file l) a) (All-others l Q h b c))

pub owned_apart : (l : Layout) → ((p q : Piece) → Disjoint p q → Disjoint q p) → Owned l → AllPairs Disjoint (section_rooms l) → AllPairs Disjoint (flat_map (owned_pieces l) l.groups)
owned_apart l flip h apart =
    let f = h.follow in
    let fs = files_of l.groups in
    let once = λ (x : File). of_first_file x (merged_and_identity_pieces l) in
    let first = sym (once_by_file l h.first h.some) in
    let across : All (λ a. All (Disjoint a) (pieces_of_thunks l)) (merged_and_identity_pieces l) = fronts_and_thunks l h.laid f h.thunks h.fronts in
    let across' = subst (λ (ps : List Piece). All (λ a. All (Disjoint a) ps) (flat_map once fs)) (thunks_by_file l) (subst (λ (ps : List Piece). All (λ a. All (Disjoint a) (pieces_of_thunks l)) ps) first across) in
    let others = AllPairs-two Disjoint once (thunk_pieces l) fs flip (subst (AllPairs Disjoint) first (fronts_apart l f h.fronts)) (subst (AllPairs Disjoint) (thunks_by_file l) (thunks_apart l f h.thunks)) across' in
    let cross : All (λ a. All (Disjoint a) (flat_map (others_in l) fs)) (section_rooms l) = (λ i p m.
    All-others l (Disjoint (get_or (section_rooms l) i p)) h (sections_and_fronts l h.laid f h.stood h.fronts i p m) (sections_and_thunks l f h.stood h.thunks i p m)) in
    apart_at (flat_map (file_rooms l) fs) (flat_map (owned_pieces l) l.groups) h.places
    (AllPairs-two Disjoint (rooms_in l) (others_in l) fs flip (subst (AllPairs Disjoint) (sections_by_file l) apart) others (subst (All (λ a. All (Disjoint a) (flat_map (others_in l) fs))) (sections_by_file l) cross))

pub owned_within : (l : Layout) → Owned l → All (InImage l) (section_rooms l) → All (InImage l) (flat_map (owned_pieces l) l.groups)
owned_within l h a = each_owned l (λ (x : Extent). x.end ≤ image_size l) h a (fronts_within l h.fronts) (thunks_within l h.thunks)
