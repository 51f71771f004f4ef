-- What the groups give to the parts lies in the image, each piece apart from the others.
use Rattle.wild_geometry.proofs.Common.{◌≡◌, ℕ, zero, suc, ◌+◌, ◌<◌, ◌≤◌, inl, inr, ◌==◌, Bool, true, false, not, if◌then◌else◌, List, [], ◌∷◌, length, map, get_or, All, AllPairs, Contains, Some, slice_get, flat_map, refl, sym, ap, ◌∙◌, arith, subst, cases_Bool, and_parts, and_from, or_cases, leb-true, eqb-true, eqb-false, slice_get-get_or, same_Some, All-flat_map, All-optional, Piece, Disjoint, AreDisjoint, Part, Group, Layout, is_filled, has_data, is_header_only_at, image_size, files_of, given, role_place, has_role, total-prefix, ends_low, sorted_inputs, content, some_piece, shares_before, table_piece, table_pieces, owned_pieces, pieces, flat_map_from, extent_of, thunk_bytes, HasRoom}
use Rattle.std.proofs.lemmas.Bool.{cases_order}
use Rattle.wild_words.proofs.OrderLemmas.{Disjoint-flip}
use Rattle.wild_types.specs.declared.part.Role.TheVariants as role
use Rattle.wild_plan_rules.specs.Places.{takes_room}
use Rattle.wild_layout.specs.SectionPlaces.{PartLies}
use Rattle.wild_geometry.proofs.InterleaveLemmas.{All-flat_map_from, AllPairs-flat_map_from, All-both, AllPairs-both}
use Rattle.wild_geometry.proofs.PlacedSectionLemmas.{AllClausesHold}
use Rattle.wild_geometry.proofs.OrderLemmas.{Takes, EndsBy-image, Follows, PartsFollow-from_order}
use Rattle.wild_geometry.proofs.ShareLemmas.{total_to, size_from_shares, content_is_given, content_of_raw}
use Rattle.wild_geometry.proofs.StandingLemmas.{all_sections, sorted_loaded}
use Rattle.wild_geometry.proofs.SectionLemmas.{each_known, sorted_known, Runs}
use Rattle.wild_geometry.proofs.PieceLemmas.{All-written, AllPairs-written, parts_apart, owner_at, offset_is, stood_room, Standing, section_rooms_apart, InImage, section_rooms_within}
use Rattle.wild_geometry.proofs.LongSections.{each_tabled}
use Rattle.wild_geometry.proofs.Rooms.{DoNotOverlap, room_of, section_room, file_rooms, place_of_known, place_of_sorted, rooms_stand}
use Rattle.wild_geometry.proofs.ThunkRuns.{all_thunks}
use Rattle.wild_geometry.proofs.ThunkLemmas.{SectionsStand, ThunksStand, thunk_room, each_thunk}
use Rattle.wild_geometry.proofs.FrontLemmas.{Front, fronts, FrontStands, All-some, AllPairs-some, front_at, front_is, each_front, FrontsStand-from_clauses}
use Rattle.wild_geometry.proofs.OwnedLemmas.{Owned, each_owned, owned_apart, owned_within}

-- ---- parts

pub not_raw_holds : (l : Layout) (p : Part) → takes_room l p ≡ true → has_role role.Raw p ≡ false → has_data l p.section ≡ true
not_raw_holds l p h raw = elim (or_cases (has_role role.Raw p) (has_data l p.section) h) [ inl e ↦ cc | inr t ↦ t ]

pub not_raw_takes : (l : Layout) (p : Part) → takes_room l p ≡ true → has_role role.Raw p ≡ false → is_header_only_at l p.section ≡ false → Takes l p
not_raw_takes l p h raw written = and_from (has_data l p.section) (not (is_header_only_at l p.section)) (not_raw_holds l p h raw) (rw written refl)

pub PartLies-from_clauses : (l : Layout) → AllClausesHold l → (i : ℕ) (p : Part) → i < length l.parts → PartLies l i (get_or l.parts i p)
PartLies-from_clauses l h i p m = record {
  low = leb-true _ _ (and_parts _ (ends_low (get_or l.parts i p).offset (get_or l.parts i p).size) (h.sizes.parts i p m)).1;
  address = leb-true _ _ (and_parts _ (ends_low (get_or l.parts i p).address (get_or l.parts i p).size) (and_parts _ (ends_low (get_or l.parts i p).offset (get_or l.parts i p).size) (h.sizes.parts i p m)).0).1;
  shares = size_from_shares l.groups 0 l.parts h.shares.sums i i p (omega arith) m;
  tables = λ raw j g n. content_is_given l h.sizes.parts h.shares h.roles.again h.needed i p m raw j g n;
  ends = λ raw written some. EndsBy-image l i p m (not_raw_takes l (get_or l.parts i p) (h.parts.room i p m) raw written) some;
}

-- ---- what a group gives to a part

-- group j's bytes of part i, where there are some and they are written
pub record Given (l : Layout) (i : ℕ) (p : Part) (j : ℕ) (n : ℕ) : Type 0 where
  pub raw : has_role role.Raw p ≡ false
  pub takes : Takes l p
  pub share : (g : Group) → given i (get_or l.groups j g) ≡ n
  pub some : 1 ≤ n
  pub ends : shares_before l i j + n ≤ p.size

pub given_from_content : (l : Layout) → AllClausesHold l → (i : ℕ) (p : Part) → i < length l.parts → (j : ℕ) (g : Group) → j < length l.groups → is_header_only_at l (get_or l.parts i p).section ≡ false → 1 ≤ length (content l (get_or l.parts i p).role (get_or l.groups j g)) → Given l i (get_or l.parts i p) j (length (content l (get_or l.parts i p).role (get_or l.groups j g)))
given_from_content l h i p m j g n written some =
    let q = get_or l.parts i p in
    elim (cases_Bool (has_role role.Raw q)) [
      | inl t ↦ absurd (let z = content_of_raw l q.role (get_or l.groups j g) (eqb-true _ _ t) in omega arith)
      | inr raw ↦
          (let lies = PartLies-from_clauses l h i p m in
          let share = lies.tables raw j g n in
          let sum = lies.shares in
          let within = total-prefix (given i) l.groups j g n in
          record {
            raw = raw;
            takes = not_raw_takes l q (h.parts.room i p m) raw written;
            share = λ f. ap (given i) (same l.groups j f g n) ∙ sym share;
            some = some;
            ends = omega arith;
          })
    ]
  where
    same : {X : Type 0} (xs : List X) (k : ℕ) (d e : X) → k < length xs → get_or xs k d ≡ get_or xs k e
    same [] k d e l = absurd (omega arith)
    same (x ∷ xs) zero d e l = refl
    same (x ∷ xs) (suc k) d e l = same xs k d e (omega arith)

abbrev pub piece_in : Layout → ℕ → Part → ℕ → List ℕ → Piece
piece_in l i p j bs = record { at = p.offset + shares_before l i j; bytes = bs }

-- ---- apart

tables_apart : (l : Layout) → AllPairs (Follows l) l.parts → (i k : ℕ) (p q : Part) (a b : ℕ) (xs ys : List ℕ) → slice_get l.parts i ≡ Some p → slice_get l.parts k ≡ Some q → Given l i p a (length xs) → Given l k q b (length ys) → b ≤ length l.groups → Group → (i ≡ k → a < b) → Disjoint (piece_in l i p a xs) (piece_in l k q b ys)
tables_apart l f i k p q a b xs ys is at x y few g order =
    let u = x.ends in
    let v = y.ends in
    elim (cases_order i k) [
      | inl e ↦
          (let same : p ≡ q = same_Some p q (sym is ∙ ap (slice_get l.parts) e ∙ at) in
          let one = ap (λ (r : Part). r.offset) same in
          let s = x.share g in
          let before = total_to (given i) l.groups a b g (order e) few in
          let on = ap (λ (n : ℕ). shares_before l n b) e in
          inl (omega arith))
      | inr (inl before) ↦ elim (parts_apart l f i k p q is at (λ e. omega arith) x.takes y.takes) [ inl c ↦ inl (omega arith) | inr d ↦ inr (omega arith) ]
      | inr (inr behind) ↦ elim (parts_apart l f i k p q is at (λ e. omega arith) x.takes y.takes) [ inl c ↦ inl (omega arith) | inr d ↦ inr (omega arith) ]
    ]

-- and what stands in a raw part
owner_apart : (l : Layout) → AllPairs (Follows l) l.parts → (i : ℕ) (p : Part) (j : ℕ) (xs : List ℕ) (k at : ℕ) (bs : List ℕ) (q : Part) → slice_get l.parts i ≡ Some p → Given l i p j (length xs) → HasRoom l k at (length bs) q → Disjoint (piece_in l i p j xs) (owner_at l k at bs)
owner_apart l f i p j xs k at bs q is x h =
    let u = x.ends in
    let place = offset_is l k at (length bs) q h in
    let from = h.from in
    let to = h.to in
    let differ : i ≡ k → ⊥ = λ e.
    (let same : p ≡ q = same_Some p q (sym is ∙ ap (slice_get l.parts) e ∙ h.listed) in
    let raw : role_place p.role ≡ 0 = ap (λ (r : Part). role_place r.role) same ∙ ap role_place h.raw in
    eqb-false (role_place p.role) 0 x.raw raw) in
    elim (parts_apart l f i k p q is h.listed differ x.takes h.takes) [ inl c ↦ inl (omega arith) | inr d ↦ inr (omega arith) ]

-- ---- all pieces

abbrev given_pieces : Layout → List Piece
given_pieces l = flat_map_from (table_pieces l) 0 l.groups

abbrev pub content_at : Layout → ℕ → Part → ℕ → Group → List ℕ
content_at l i p j g = content l (get_or l.parts i p).role (get_or l.groups j g)

abbrev pub piece_at : Layout → ℕ → Part → ℕ → Group → Piece
piece_at l i p j g = piece_in l i (get_or l.parts i p) j (content_at l i p j g)

-- part i is written
abbrev IsWrittenAt : Layout → ℕ → Part → Type 0
IsWrittenAt l i p = is_header_only_at l (get_or l.parts i p).section ≡ false

-- the piece of one
of_given : (l : Layout) (P : Piece → Type 0) (i j : ℕ) (p : Part) (g : Group) → (IsWrittenAt l i p → 1 ≤ length (content_at l i p j g) → P (piece_at l i p j g)) → All P (table_piece l j (get_or l.groups j g) i (get_or l.parts i p))
of_given l P i j p g h =
    let at = (get_or l.parts i p).offset + shares_before l i j in
    let bs = content_at l i p j g in
    All-written P (is_header_only_at l (get_or l.parts i p).section) (some_piece at bs) (λ written. All-some P at bs (h written))

-- what holds of each piece of a group
each_given : (l : Layout) (P : Piece → Type 0) (n j : ℕ) (g : Group) → n ≡ j → ((i : ℕ) (p : Part) → i < length l.parts → IsWrittenAt l i p → 1 ≤ length (content_at l i p j g) → P (piece_at l i p j g)) → All P (table_pieces l n (get_or l.groups j g))
each_given l P n j g at h =
    rw at (All-flat_map_from P (table_piece l j (get_or l.groups j g)) 0 l.parts (λ m i p e low. one m i p (omega arith) low))
  where
    one : (m i : ℕ) (p : Part) → m ≡ i → i < length l.parts → All P (table_piece l j (get_or l.groups j g) m (get_or l.parts i p))
    one m i p e low = rw e (of_given l P i j p g (h i p low))

two_given : (l : Layout) → AllClausesHold l → AllPairs (Follows l) l.parts → (i k : ℕ) (p q : Part) (a b : ℕ) (g f : Group) → i < length l.parts → k < length l.parts → a < length l.groups → b < length l.groups → IsWrittenAt l i p → IsWrittenAt l k q → 1 ≤ length (content_at l i p a g) → 1 ≤ length (content_at l k q b f) → (i ≡ k → a < b) → Disjoint (piece_at l i p a g) (piece_at l k q b f)
two_given l h follow i k p q a b g f li lk la lb here there x y order =
    tables_apart l follow i k (get_or l.parts i p) (get_or l.parts k q) a b (content_at l i p a g) (content_at l k q b f)
    (slice_get-get_or l.parts i p li) (slice_get-get_or l.parts k q lk)
    (given_from_content l h i p li a g la here x) (given_from_content l h k q lk b f lb there y)
    (omega arith) g order

-- the pieces of one group
group_apart : (l : Layout) → AllClausesHold l → AllPairs (Follows l) l.parts → (n j : ℕ) (g : Group) → n ≡ j → j < length l.groups → AllPairs Disjoint (table_pieces l n (get_or l.groups j g))
group_apart l h follow n j g at low =
    rw at (AllPairs-flat_map_from Disjoint (table_piece l j (get_or l.groups j g)) 0 l.parts
    (λ m i p e m'. (let at = (get_or l.parts i p).offset + shares_before l m j in let bs = content_at l i p j g in AllPairs-written Disjoint (is_header_only_at l (get_or l.parts i p).section) (some_piece at bs) (λ written. AllPairs-some Disjoint at bs)))
    (λ m o i k p q c d lt lk. two m o i k p q (omega arith) (omega arith) lt lk))
  where
    two : (m o i k : ℕ) (p q : Part) → m ≡ i → o ≡ k → i < k → k < length l.parts → All (λ a. All (Disjoint a) (table_piece l j (get_or l.groups j g) o (get_or l.parts k q))) (table_piece l j (get_or l.groups j g) m (get_or l.parts i p))
    two m o i k p q c d lt lk =
        rw (c, d) (of_given l (λ a. All (Disjoint a) (table_piece l j (get_or l.groups j g) k (get_or l.parts k q))) i j p g (λ here x.
        of_given l (Disjoint (piece_at l i p j g)) k j q g (λ there y.
        two_given l h follow i k p q j j g g (omega arith) lk low low here there x y (λ e. absurd (omega arith)))))

given_apart : (l : Layout) → AllClausesHold l → AllPairs (Follows l) l.parts → AllPairs Disjoint (given_pieces l)
given_apart l h follow =
    AllPairs-flat_map_from Disjoint (table_pieces l) 0 l.groups
    (λ n j g e low. group_apart l h follow n j g (omega arith) low)
    (λ m n j k g f c d lt low. two m n j k g f (omega arith) (omega arith) lt low)
  where
    two : (m n j k : ℕ) (g f : Group) → m ≡ j → n ≡ k → j < k → k < length l.groups → All (λ a. All (Disjoint a) (table_pieces l n (get_or l.groups k f))) (table_pieces l m (get_or l.groups j g))
    two m n j k g f c d lt low =
        each_given l (λ a. All (Disjoint a) (table_pieces l n (get_or l.groups k f))) m j g c (λ i p li here x.
        each_given l (Disjoint (piece_at l i p j g)) n k f d (λ o q lk there y.
        two_given l h follow i o p q j k g f li lk (omega arith) low here there x y (λ e. lt)))

-- and what stands at the front of one
front_apart : (l : Layout) → AllPairs (Follows l) l.parts → (i : ℕ) (p : Part) (j : ℕ) (xs : List ℕ) (x : Front) → slice_get l.parts i ≡ Some p → Given l i p j (length xs) → FrontStands l x → Disjoint (piece_in l i p j xs) (front_at l x)
front_apart l f i p j xs x is g st = subst (Disjoint (piece_in l i p j xs)) (front_is l x st) (owner_apart l f i p j xs x.part st.part.address x.bytes st.part is g st.room)

-- a group's bytes of a part, with all that files own
given_and_owned : (l : Layout) → AllClausesHold l → Owned l → All (λ a. All (Disjoint a) (flat_map (owned_pieces l) l.groups)) (given_pieces l)
given_and_owned l h own =
    All-flat_map_from (λ a. All (Disjoint a) (flat_map (owned_pieces l) l.groups)) (table_pieces l) 0 l.groups (λ n j g e low.
    each_given l (λ a. All (Disjoint a) (flat_map (owned_pieces l) l.groups)) n j g (omega arith) (λ i p li here x.
    let given = given_from_content l h i p li j g low here x in
    each_owned l (DoNotOverlap (extent_of (piece_at l i p j g))) own
    (All-flat_map (Disjoint (piece_at l i p j g)) (section_room l) (all_sections l) (λ k s m.
    All-optional (Disjoint (piece_at l i p j g)) (is_filled l (get_or (all_sections l) k s)) (room_of l (get_or (all_sections l) k s)) (λ c.
    let y = get_or (all_sections l) k s in
    let there = own.stood k s m c in
    owner_apart l own.follow i (get_or l.parts i p) j (content_at l i p j g) y.part y.address (room_of l y).bytes there.part (slice_get-get_or l.parts i p li) given (stood_room l y there))))
    (each_front l (Disjoint (piece_at l i p j g)) (λ k y m some.
    front_apart l own.follow i (get_or l.parts i p) j (content_at l i p j g) (get_or (fronts l) k y) (slice_get-get_or l.parts i p li) given (own.fronts.stood k y m some)))
    (each_thunk l (Disjoint (piece_at l i p j g)) (λ written k t m.
    let y = get_or (all_thunks l) k t in
    let there = own.thunks.stood written k t m in
    owner_apart l own.follow i (get_or l.parts i p) j (content_at l i p j g) l.primary_part y.address (thunk_bytes l y) there.part (slice_get-get_or l.parts i p li) given (thunk_room l y there)))))

given_within : (l : Layout) → AllClausesHold l → All (InImage l) (given_pieces l)
given_within l h =
    All-flat_map_from (InImage l) (table_pieces l) 0 l.groups (λ n j g e low.
    each_given l (InImage l) n j g (omega arith) (λ i p li here x.
    let one = given_from_content l h i p li j g low here x in
    let ends = one.ends in
    let in_image = EndsBy-image l i p li one.takes (omega arith) in
    omega arith))

-- the rooms of all that files own are where their pieces are
pub places_from_clauses : (l : Layout) → AllClausesHold l → map extent_of (flat_map (file_rooms l) (files_of l.groups)) ≡ map extent_of (flat_map (owned_pieces l) l.groups)
places_from_clauses l laid =
    rooms_stand l (λ i g m j f n k s o. place_of_known l (get_or (get_or l.groups i g).files j f) (get_or (get_or (get_or l.groups i g).files j f).sections k s) (each_known l laid i g m j f n k s o) (each_tabled l laid i g m j f n k s o)) (λ i x m. place_of_sorted l (get_or (sorted_inputs l) i x) (sorted_known l laid i x m) (sorted_loaded l i x m))

-- what is known of all that files own
owned_from_clauses : (l : Layout) → AllClausesHold l → SectionsStand l → ThunksStand l → Owned l
owned_from_clauses l laid stood thunks = record {
  laid = laid;
  follow = (PartsFollow-from_order l 0 0 l.parts laid.order).pairs;
  places = places_from_clauses l laid;
  first = laid.shares.files;
  some = laid.counts.some_group;
  stood = stood;
  thunks = thunks;
  fronts = FrontsStand-from_clauses l laid;
}

pub AreDisjoint-from_clauses : (l : Layout) → AllClausesHold l → Runs l → SectionsStand l → ThunksStand l → AreDisjoint (image_size l) (pieces l)
unfolding pieces
AreDisjoint-from_clauses l laid runs stood thunks =
    let own = owned_from_clauses l laid stood thunks in
    let h : Standing l = record { follow = own.follow; ends = EndsBy-image l; runs = runs; stood = stood } in
    record {
      within = All-both (InImage l) (table_pieces l) (owned_pieces l) 0 l.groups (given_within l laid) (owned_within l own (section_rooms_within l h));
      apart = AllPairs-both Disjoint (table_pieces l) (owned_pieces l) 0 l.groups Disjoint-flip (given_apart l laid h.follow) (owned_apart l Disjoint-flip own (section_rooms_apart l h)) (given_and_owned l laid own);
    }

-- ---- the tables

Contains-some : (at : ℕ) (bs : List ℕ) → 1 ≤ length bs → Contains (some_piece at bs) (record { at = at; bytes = bs })
Contains-some at bs some =
    elim (cases_Bool (length bs == 0)) [
      | inl t ↦ absurd (let e = eqb-true (length bs) 0 t in omega arith)
      | inr f ↦ rw f (0, omega arith, refl)
    ]

-- where they are written
pub Contains-written : (b : Bool) (at : ℕ) (bs : List ℕ) → b ≡ false → 1 ≤ length bs → Contains (if b then [] else some_piece at bs) (record { at = at; bytes = bs })
Contains-written false at bs e some = Contains-some at bs some
Contains-written true at bs e some = cc
