-- Where thunks stand: in the primary part, apart from each other and from all input sections.
use Rattle.wild_geometry.proofs.Common.{◌≡◌, ℕ, zero, suc, ◌+◌, ◌-◌, ◌<◌, ◌≤◌, inl, inr, ◌==◌, Bool, true, false, not, ◌&&◌, if◌then◌else◌, List, [], ◌∷◌, length, map, get_or, All, AllPairs, Contains, Option, Some, None, slice_get, flat_map, refl, sym, ap, ◌∙◌, arith, subst, list_any, cases_Bool, and_parts, and_from, eqb-true, ne_eqb, ltb-true, get_or_from_slice_get, slice_get_within, slice_get-get_or, same_Some, All-nil, All-cons, All-head, All-tail, All-weaker, Piece, Disjoint, implied, AllPairs-nil, All-flat_map, AllPairs-flat_map, All-from_flat_map, holds_at, Found-from_list_any, Machine, Part, File, Group, Thunk, Layout, is_partial_link, thunk_size, thunks_of, is_filled, image_size, is_allocated_section, section_of_part, has_data, is_header_only_at, is_header_only_part, given, is_raw, section_misplaced, part_index_fits, part_lies, thunk_bytes, thunk_piece, HasRoom, length-thunk_bytes}
use Rattle.std.specs.Prelude.{unwrap_or}
use Rattle.wild_types.specs.declared.kind.Machine.TheVariants as machine
use Rattle.wild_types.specs.FileThunks.{block_of}
use Rattle.wild_plan_rules.specs.Contents.{holds_thunks}
use Rattle.wild_plan_rules.specs.Thunks.{is_used, has_thunks, misplaced_from, misplaced_in, owns, is_owned, block_lost, machine_takes}
use Rattle.wild_layout.specs.Image.{thunk_offset, unless_omitted}
use Rattle.wild_layout.specs.ThunkPlaces.{ThunkLies, IsOwned}
use Rattle.wild_geometry.proofs.PlacedSectionLemmas.{AllClausesHold}
use Rattle.wild_geometry.proofs.OrderLemmas.{Follows, EndsBy-image}
use Rattle.wild_geometry.proofs.ShareLemmas.{size_from_shares}
use Rattle.wild_geometry.proofs.RunLemmas.{get_or-map_address, length-map_address}
use Rattle.wild_geometry.proofs.StandingLemmas.{all_sections}
use Rattle.wild_geometry.proofs.SectionLemmas.{IsInRawPart, raw_role}
use Rattle.wild_geometry.proofs.ThunkRuns.{thunks_in, all_thunks, LiesFrom, Ahead, SectionThunkApart, unused, Spread-from_groups, Thunks-after}
use Rattle.wild_geometry.proofs.PieceLemmas.{All-written, AllPairs-written, offset_is, owners_apart, owner_ends}
use Rattle.wild_geometry.proofs.CarriedLemmas.{Filled-from_tests, byte_of_part}

-- ---- layouts without thunks

no_block : (bs : List (List Thunk)) (k : ℕ) → list_any is_used bs ≡ false → unwrap_or (slice_get bs k) [] ≡ []
no_block [] k h = refl
no_block (b ∷ bs) zero h = elim (cases_Bool (is_used b)) [ inl t ↦ cc (rw t at h) | inr f ↦ unused b f ]
no_block (b ∷ bs) (suc k) h = elim (cases_Bool (is_used b)) [ inl t ↦ cc (rw t at h) | inr f ↦ no_block bs k (rw f at h) ]

no_thunks : (l : Layout) → has_thunks l ≡ false → (f : File) → thunks_of l f ≡ []
no_thunks l h f = by f.owns_thunk_block
  where
    by : (b : Bool) → (if b then block_of l f.thunk_block else []) ≡ []
    by false = refl
    by true = no_block l.thunk_blocks f.thunk_block h

flat_map-none : {X Y : Type 0} (f : X → List Y) (xs : List X) → ((x : X) → f x ≡ []) → flat_map f xs ≡ []
flat_map-none f [] h = refl
flat_map-none f (x ∷ xs) h = rw (h x) (flat_map-none f xs h)

-- ---- where they stand

-- in the primary part, which is allocated
pub record ThunkIsInPart (l : Layout) (t : Thunk) : Type 0 where
  pub part : Part
  pub room : HasRoom l l.primary_part t.address thunk_size part
  pub allocated : is_allocated_section l part.section ≡ true

pub record ThunksStand (l : Layout) : Type 0 where
  pub stood : is_header_only_part l l.primary_part ≡ false → All (ThunkIsInPart l) (all_thunks l)
  pub ascend : AllPairs Ahead (all_thunks l)
  pub beside : All (λ s. All (SectionThunkApart l l.primary_part s) (all_thunks l)) (all_sections l)
  pub behind : (g : Group) (gs : List Group) (p : Part) → l.groups ≡ g ∷ gs → slice_get l.parts l.primary_part ≡ Some p → All (λ (t : Thunk). p.address + given l.primary_part g ≤ t.address) (flat_map (thunks_in l) gs)

abbrev pub SectionsStand : Layout → Type 0
SectionsStand l = All (λ s. is_filled l s ≡ true → IsInRawPart l s) (all_sections l)

none_stand : (l : Layout) → has_thunks l ≡ false → ThunksStand l
none_stand l none =
    let e = flat_map-none (thunks_in l) l.groups (λ g. flat_map-none (thunks_of l) g.files (no_thunks l none)) in
    record {
      stood = λ written. subst (All (ThunkIsInPart l)) (sym e) (All-nil (ThunkIsInPart l));
      ascend = subst (AllPairs Ahead) (sym e) (AllPairs-nil Ahead);
      beside = λ i s m. subst (All (SectionThunkApart l l.primary_part (get_or (all_sections l) i s))) (sym e) (All-nil (SectionThunkApart l l.primary_part (get_or (all_sections l) i s)));
      behind = λ g gs p is there. (let later = flat_map-none (thunks_in l) gs (λ h. flat_map-none (thunks_of l) h.files (no_thunks l none)) in
          let P : Thunk → Type 0 = λ t. p.address + given l.primary_part g ≤ t.address in
          subst (All P) (sym later) (All-nil P));
    }

some_stand : (l : Layout) → AllClausesHold l → (p : Part) → slice_get l.parts l.primary_part ≡ Some p → holds_thunks l (Some p) ≡ true → misplaced_in l (Some p) ≡ None → ThunksStand l
some_stand l h p is fits placed =
    let k = l.primary_part in
    let a = and_parts (is_raw (Some p)) (has_data l p.section && is_allocated_section l p.section) fits in
    let b = and_parts (has_data l p.section) (is_allocated_section l p.section) a.1 in
    let there : k < length l.parts = slice_get_within l.parts k p is in
    let same : get_or l.parts k p ≡ p = get_or_from_slice_get l.parts k p p is in
    let count = length-map_address l.parts in
    let start : p.address ≡ get_or (map (λ (q : Part). q.address) l.parts) k 0 = sym (get_or-map_address l.parts k p there ∙ ap (λ (q : Part). q.address) same) in
    let size = size_from_shares l.groups 0 l.parts h.shares.sums k k p (omega arith) there ∙ ap (λ (q : Part). q.size) same in
    let low : k < length (map (λ (x : Part). x.address) l.parts) = omega arith in
    let r = Spread-from_groups l (p.address + p.size) p.address (map (λ (q : Part). q.address) l.parts) 0 0 l.groups h.inputs.order placed (omega arith) start (p.address + p.size) (omega arith) in
    record {
      stood = λ written. (
          let here : is_header_only_at l p.section ≡ false = sym (ap (λ (o : Option Part). is_header_only_at l (section_of_part o)) is) ∙ written in
          let takes = and_from (has_data l p.section) (not (is_header_only_at l p.section)) b.0 (rw here refl) in
          All-weaker (LiesFrom p.address (p.address + p.size)) (ThunkIsInPart l) (λ t f. record { part = p; room = record { listed = is; raw = raw_role p p.role refl a.0; takes = takes; from = f.from; to = f.to }; allocated = b.1 }) (all_thunks l) r.within
          );
      ascend = r.ascend;
      beside = r.beside;
      behind = λ g gs q split there. (let same_part = same_Some p q (sym is ∙ there) in
          subst (λ (x : Part). All (λ (t : Thunk). x.address + given k g ≤ t.address) (flat_map (thunks_in l) gs)) same_part
          (Thunks-after l (p.address + p.size) p.address (map (λ (x : Part). x.address) l.parts) 0 0 g gs (subst (λ (hs : List Group). section_misplaced l (map (λ (x : Part). x.address) l.parts) 0 hs ≡ None) split h.inputs.order) (subst (λ (hs : List Group). misplaced_from l (p.address + p.size) p.address 0 hs ≡ None) split placed) low start));
    }

pub ThunksStand-from_clauses : (l : Layout) → AllClausesHold l → ThunksStand l
ThunksStand-from_clauses l h =
    elim (cases_Bool (has_thunks l)) [
      | inl some ↦ by_part some (slice_get l.parts l.primary_part) refl (implied (has_thunks l) (holds_thunks l (slice_get l.parts l.primary_part)) h.inputs.primary some) (rw some at h.thunks.placed)
      | inr none ↦ none_stand l none
    ]
  where
    by_part : has_thunks l ≡ true → (o : Option Part) → slice_get l.parts l.primary_part ≡ o → holds_thunks l o ≡ true → misplaced_in l o ≡ None → ThunksStand l
    by_part some None is fits placed = cc
    by_part some (Some p) is fits placed = some_stand l h p is fits placed

-- ---- their pieces, unless nothing of their part is written

abbrev pub pieces_of_thunks : Layout → List Piece
pieces_of_thunks l = unless_omitted l l.primary_part (flat_map (thunk_piece l) (all_thunks l))

abbrev pub thunk_at : Layout → Thunk → Piece
thunk_at l t = record { at = thunk_offset l t; bytes = thunk_bytes l t }

pub thunk_room : (l : Layout) (t : Thunk) (st : ThunkIsInPart l t) → HasRoom l l.primary_part t.address (length (thunk_bytes l t)) st.part
thunk_room l t st = subst (λ (n : ℕ). HasRoom l l.primary_part t.address n st.part) (sym (length-thunk_bytes l t)) st.room

pub each_thunk : (l : Layout) (P : Piece → Type 0) → (is_header_only_part l l.primary_part ≡ false → All (λ t. P (thunk_at l t)) (all_thunks l)) → All P (pieces_of_thunks l)
each_thunk l P h =
    All-written P (is_header_only_part l l.primary_part) (flat_map (thunk_piece l) (all_thunks l)) (λ written.
    All-flat_map P (thunk_piece l) (all_thunks l) (λ i t m. All-cons P (thunk_at l (get_or (all_thunks l) i t)) [] (h written i t m) (All-nil P)))

pub thunks_apart : (l : Layout) → AllPairs (Follows l) l.parts → ThunksStand l → AllPairs Disjoint (pieces_of_thunks l)
thunks_apart l f h =
    AllPairs-written Disjoint (is_header_only_part l l.primary_part) (flat_map (thunk_piece l) (all_thunks l)) (λ written.
    AllPairs-flat_map Disjoint (thunk_piece l) (all_thunks l)
    (λ i t m. (λ j k d lt n. absurd (omega arith)))
    (λ i j t lt m. All-cons (λ a. All (Disjoint a) (thunk_piece l (get_or (all_thunks l) j t))) (thunk_at l (get_or (all_thunks l) i t)) [] (All-cons (Disjoint (thunk_at l (get_or (all_thunks l) i t))) (thunk_at l (get_or (all_thunks l) j t)) [] (two written i j t lt m) (All-nil (Disjoint (thunk_at l (get_or (all_thunks l) i t))))) (All-nil (λ a. All (Disjoint a) (thunk_piece l (get_or (all_thunks l) j t))))))
  where
    two : is_header_only_part l l.primary_part ≡ false → (i j : ℕ) (t : Thunk) → i < j → j < length (all_thunks l) → Disjoint (thunk_at l (get_or (all_thunks l) i t)) (thunk_at l (get_or (all_thunks l) j t))
    two written i j t lt m =
        let x = get_or (all_thunks l) i t in
        let y = get_or (all_thunks l) j t in
        let a = h.stood written i t (omega arith) in
        let b = h.stood written j t m in
        owners_apart l f l.primary_part l.primary_part x.address y.address (thunk_bytes l x) (thunk_bytes l y) a.part b.part (thunk_room l x a) (thunk_room l y b) (λ e. inl (let n = length-thunk_bytes l x in let o = h.ascend i j t lt m in omega arith))

pub thunk_in_image : (l : Layout) (t : Thunk) → ThunkIsInPart l t → thunk_offset l t + thunk_size ≤ image_size l
thunk_in_image l t st = owner_ends l (EndsBy-image l) l.primary_part t.address thunk_size st.part st.room (omega arith)

-- ---- thunks of a layout that is laid out

thunk_lies : (l : Layout) → AllClausesHold l → is_partial_link l.kind ≡ false → (t : Thunk) → ThunkIsInPart l t → ThunkLies l t
thunk_lies l h kind t st =
    let p = st.part in
    let from = st.room.from in
    let to = st.room.to in
    let named = ltb-true _ _ (holds_at (λ q. part_index_fits l q ≡ true) l.parts l.primary_part p st.room.listed h.indexes.parts) in
    let o = Filled-from_tests l p.section named st.allocated st.room.takes in
    let lies = holds_at (λ q. part_lies l q ≡ true) l.parts l.primary_part p st.room.listed h.parts.lie in
    let place = offset_is l l.primary_part t.address thunk_size p st.room in
    record {
      stands = (p, st.room);
      ends = thunk_in_image l t st;
      carried = λ k lt. (
          let c = byte_of_part l h kind p lies o (t.address - p.address + k) (omega arith) in
          let a = c.1.from in
          let b = c.1.to in
          let d = c.1.distance in
          (c.0, record { listed = c.1.listed; loaded = c.1.loaded; from = omega arith; to = omega arith; distance = omega arith })
          );
    }

-- a relocatable object has no thunks
none_used : (bs : List (List Thunk)) → All (λ (b : List Thunk). (length b == 0) ≡ true) bs → list_any is_used bs ≡ false
none_used [] h = refl
none_used (b ∷ bs) h = (let here = All-head (λ (x : List Thunk). (length x == 0) ≡ true) b bs h in let rest = none_used bs (All-tail (λ (x : List Thunk). (length x == 0) ≡ true) b bs h) in rw (here, rest) refl)

none_in_partial : (l : Layout) → AllClausesHold l → is_partial_link l.kind ≡ true → has_thunks l ≡ false
none_in_partial l h partial = none_used l.thunk_blocks (λ i b m. implied (is_partial_link l.kind) (length (get_or l.thunk_blocks i b) == 0) (h.partial.thunks i b m) partial)

pub thunks_lie : (l : Layout) → AllClausesHold l → ThunksStand l → is_header_only_part l l.primary_part ≡ false → All (λ (g : Group). All (λ (f : File). All (ThunkLies l) (thunks_of l f)) g.files) l.groups
thunks_lie l h st written =
    elim (cases_Bool (is_partial_link l.kind)) [
      | inl partial ↦ (λ i g m j f n. subst (λ (ts : List Thunk). All (ThunkLies l) ts) (sym (no_thunks l (none_in_partial l h partial) (get_or (get_or l.groups i g).files j f))) (All-nil (ThunkLies l)))
      | inr kind ↦ (λ i g m. All-from_flat_map (ThunkLies l) (thunks_of l) (get_or l.groups i g).files (All-from_flat_map (ThunkLies l) (thunks_in l) l.groups (All-weaker (ThunkIsInPart l) (ThunkLies l) (thunk_lies l h kind) (all_thunks l) (st.stood written)) i g m))
    ]

-- ---- blocks

is_block : (l : Layout) (k : ℕ) (b : List Thunk) (f : File) → slice_get l.thunk_blocks k ≡ Some b → owns k f ≡ true → thunks_of l f ≡ b
is_block l k b f is own =
    let both = and_parts f.owns_thunk_block (f.thunk_block == k) own in
    let at = eqb-true f.thunk_block k both.1 in
    rw both.0 (ap (λ (n : ℕ). unwrap_or (slice_get l.thunk_blocks n) []) at ∙ ap (λ (o : Option (List Thunk)). unwrap_or o []) is)

-- where the machine takes a block with thunks
has_code : (m : Machine) (b : List Thunk) (t : Thunk) → machine_takes m b ≡ true → Contains b t → m ≡ machine.AArch64
has_code machine.AArch64 b t h c = refl
has_code machine.X86_64 b t h c = (let none = eqb-true (length b) 0 h in absurd (omega (arith, c.1, none)))

owned_by : (l : Layout) (k : ℕ) (b : List Thunk) → l.machine ≡ machine.AArch64 → slice_get l.thunk_blocks k ≡ Some b → is_owned l k ≡ true → IsOwned l b
owned_by l k b on is own =
    let g = Found-from_list_any (λ (g : Group). list_any (owns k) g.files) l.groups own in
    let f = Found-from_list_any (owns k) g.item.files g.passes in
    record { group = g.item; file = f.item; listed = g.listed; holds = f.listed; own = is_block l k b f.item is f.passes; on = on }

some_used : (b : List Thunk) (t : Thunk) → Contains b t → is_used b ≡ true
some_used [] t c = absurd (omega (arith, c.1))
some_used (x ∷ xs) t c = ap not (ne_eqb (length (x ∷ xs)) 0 (λ e. omega (arith, e)))

-- a block with thunks is owned, where none is lost
found : (l : Layout) (i : ℕ) (bs : List (List Thunk)) → block_lost l i bs ≡ None → (k : ℕ) (b : List Thunk) → slice_get bs k ≡ Some b → is_used b ≡ true → is_owned l (i + k) ≡ true
found l i [] h k b is used = cc
found l i (x ∷ xs) h zero b is used =
    let same : x ≡ b = cc in
    let here : i + 0 ≡ i = omega arith in
    rw here (kept (is_used x) (is_owned l i) (block_lost l (i + 1) xs) i h (rw same used)).0
  where
    kept : (u o : Bool) (rest : Option ℕ) (i : ℕ) → (if u && not o then Some i else rest) ≡ None → u ≡ true → (o ≡ true) × (rest ≡ None)
    kept true true rest i h e = (refl, h)
    kept true false rest i h e = cc
    kept false o rest i h e = cc
found l i (x ∷ xs) h (suc k) b is used =
    let on : i + suc k ≡ i + 1 + k = omega arith in
    rw on (found l (i + 1) xs (behind (is_used x && not (is_owned l i)) (block_lost l (i + 1) xs) i h) k b is used)
  where
    behind : (t : Bool) (rest : Option ℕ) (i : ℕ) → (if t then Some i else rest) ≡ None → rest ≡ None
    behind true rest i h = cc
    behind false rest i h = h

pub blocks_owned : (l : Layout) → AllClausesHold l → (b : List Thunk) (t : Thunk) → Contains l.thunk_blocks b → Contains b t → IsOwned l b
blocks_owned l h b t c d =
    let is : slice_get l.thunk_blocks c.0 ≡ Some b = slice_get-get_or l.thunk_blocks c.0 b c.1 ∙ ap Some c.2 in
    let here : 0 + c.0 ≡ c.0 = omega arith in
    let on = has_code l.machine b t (holds_at (λ (x : List Thunk). machine_takes l.machine x ≡ true) l.thunk_blocks c.0 b is h.thunks.machine) d in
    owned_by l c.0 b on is (rw here at (found l 0 l.thunk_blocks h.thunks.owned c.0 b is (some_used b t d)))
