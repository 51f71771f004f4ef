-- What stands at the fronts of parts, as the first group gives it: merged strings, and the output's identity.
use Rattle.wild_geometry.proofs.Common.{◌≡◌, ℕ, zero, suc, ◌+◌, ◌<◌, ◌≤◌, ◌⊎◌, inl, inr, ◌==◌, Bool, true, false, not, ◌&&◌, ◌||◌, List, [], ◌∷◌, ◌++◌, length, map, get_or, All, AllPairs, Option, Some, None, slice_get, flat_map, refl, sym, ap, ◌∙◌, arith, subst, list_any, list_all, cases_Bool, and_parts, and_from, eqb-true, eqb-false, eq-eqb, ne_eqb, get_or_from_slice_get, slice_get_within, append-nil, All-nil, All-cons, All-append, All-map, AllPairs-cons, Piece, Disjoint, or_other, AllPairs-nil, AllPairs-append, AllPairs-flat_map, All-flat_map, All-from_list_all, Part, InputSection, File, Group, Layout, given, thunks_of, total, section_of_part, has_range, has_counted, has_bytes, has_range_bytes, is_filled, has_data, is_header_only_at, is_header_only_part, is_raw, section_misplaced, sections_in_ranges, some_piece, offset_in, merged_and_identity_pieces, HasRoom}
use Rattle.std.proofs.lemmas.List.Concat.{flat_map-append}
use Rattle.wild_types.specs.declared.part.Role.TheVariants as role
use Rattle.wild_types.specs.declared.layout.Merged.{Merged}
use Rattle.wild_types.specs.Lookups.{brings_bytes}
use Rattle.wild_plan_rules.specs.Contents.{holds_bytes, has_front, takes_bytes, leaves_front, file_leaves_front, group_leaves_front}
use Rattle.wild_plan_rules.specs.Fronts.{given_by, fills_front, merged_size, has_bytes_in_part, front_shared}
use Rattle.wild_layout.specs.Image.{offset_of_part, merged_bytes, front_piece}
use Rattle.wild_layout.specs.SectionPlaces.{FrontLies}
use Rattle.wild_geometry.proofs.PlacedSectionLemmas.{AllClausesHold}
use Rattle.wild_geometry.proofs.OrderLemmas.{Follows, EndsBy-image}
use Rattle.wild_geometry.proofs.ShareLemmas.{size_from_shares}
use Rattle.wild_geometry.proofs.RunLemmas.{sections_in, Run-after}
use Rattle.wild_geometry.proofs.StandingLemmas.{all_sections}
use Rattle.wild_geometry.proofs.SectionLemmas.{raw_role, right_or, filled_given}
use Rattle.wild_geometry.proofs.PieceLemmas.{All-written, AllPairs-written, owner_at, owners_apart, owner_ends, InImage}

-- ---- as one list

-- bytes at the front of a part
pub record Front : Type 0 where
  pub part : ℕ
  pub bytes : List ℕ

abbrev pub front_of : Layout → Front → List Piece
front_of l x = front_piece l x.part x.bytes

abbrev merged_front : Merged → Front
merged_front m = record { part = m.part; bytes = merged_bytes m }

abbrev identity_front : Layout → Front
identity_front l = record { part = l.identity.part; bytes = l.identity.bytes }

abbrev pub fronts : Layout → List Front
fronts l = map merged_front l.merged ++ identity_front l ∷ []

joined_map : {X Y Z : Type 0} (f : Y → List Z) (h : X → Y) (xs : List X) → flat_map f (map h xs) ≡ flat_map (λ x. f (h x)) xs
joined_map f h [] = refl
joined_map f h (x ∷ xs) = ap (λ zs. f (h x) ++ zs) (joined_map f h xs)

once_is : (l : Layout) → merged_and_identity_pieces l ≡ flat_map (front_of l) (fronts l)
once_is l =
    sym (flat_map-append (front_of l) (map merged_front l.merged) (identity_front l ∷ [])
    ∙ ap (λ (ps : List Piece). ps ++ flat_map (front_of l) (identity_front l ∷ [])) (joined_map (front_of l) merged_front l.merged)
    ∙ ap (λ (ps : List Piece). flat_map (λ (m : Merged). front_piece l m.part (merged_bytes m)) l.merged ++ ps) (append-nil (front_of l (identity_front l))))

-- ---- where they stand

abbrev pub HasSome : Front → Type 0
HasSome x = 1 ≤ length x.bytes

-- and they are written
pub record IsWritten (l : Layout) (x : Front) : Type 0 where
  pub some : HasSome x
  pub written : is_header_only_part l x.part ≡ false

-- in a raw part with data, all that the first group is given of it
pub record FrontGiven (l : Layout) (x : Front) : Type 0 where
  pub part : Part
  pub listed : slice_get l.parts x.part ≡ Some part
  pub raw : part.role ≡ role.Raw
  pub holds : has_data l part.section ≡ true
  pub within : length x.bytes ≤ part.size
  pub fills : (g : Group) (gs : List Group) → l.groups ≡ g ∷ gs → given x.part g ≡ length x.bytes
  pub has : has_front l x.part ≡ true

-- in one that takes file bytes
pub record FrontStands (l : Layout) (x : Front) : Type 0 where
  pub part : Part
  pub room : HasRoom l x.part part.address (length x.bytes) part
  pub fills : (g : Group) (gs : List Group) → l.groups ≡ g ∷ gs → given x.part g ≡ length x.bytes
  pub has : has_front l x.part ≡ true

front_stands : (l : Layout) (x : Front) → FrontGiven l x → is_header_only_part l x.part ≡ false → FrontStands l x
front_stands l x h written =
    let here : is_header_only_at l h.part.section ≡ false = sym (ap (λ (o : Option Part). is_header_only_at l (section_of_part o)) h.listed) ∙ written in
    let within = h.within in
    record {
      part = h.part;
      room = record { listed = h.listed; raw = h.raw; takes = and_from (has_data l h.part.section) (not (is_header_only_at l h.part.section)) h.holds (rw here refl); from = omega arith; to = omega arith };
      fills = h.fills;
      has = h.has;
    }

abbrev Differ : Front → Front → Type 0
Differ x y = HasSome x → HasSome y → x.part ≡ y.part → ⊥

pub record FrontsStand (l : Layout) : Type 0 where
  pub stood : All (λ x. IsWritten l x → FrontStands l x) (fronts l)
  pub differ : AllPairs Differ (fronts l)

front_given : (l : Layout) → AllClausesHold l → (x : Front) → HasSome x → (none : Bool) → none ≡ false → holds_bytes l none (slice_get l.parts x.part) ≡ true → fills_front l x.part (length x.bytes) ≡ true → has_front l x.part ≡ true → FrontGiven l x
front_given l h x some none is_none holds fills has = by_part (slice_get l.parts x.part) refl holds
  where
    fills_by : (g : Group) (gs : List Group) → l.groups ≡ g ∷ gs → given x.part g ≡ length x.bytes
    fills_by g gs split =
        let first = ap (λ (hs : List Group). given_by x.part (slice_get hs 0)) split in
        sym first ∙ eqb-true _ _ fills

    within : (gs : List Group) → l.groups ≡ gs → 1 ≤ length gs → length x.bytes ≤ total (given x.part) l.groups
    within [] split few = absurd (omega arith)
    within (g ∷ gs) split few =
        let here = fills_by g gs split in
        let whole = ap (total (given x.part)) split in
        omega arith

    by_part : (o : Option Part) → slice_get l.parts x.part ≡ o → holds_bytes l none o ≡ true → FrontGiven l x
    by_part None is t = cc
    by_part (Some p) is t =
        let both = and_parts (is_raw (Some p)) (none || has_data l p.section) t in
        let low = slice_get_within l.parts x.part p is in
        let size = size_from_shares l.groups 0 l.parts h.shares.sums x.part x.part p (omega arith) low ∙ ap (λ (q : Part). q.size) (get_or_from_slice_get l.parts x.part p p is) in
        let most = within l.groups refl h.counts.some_group in
        record {
          part = p;
          listed = is;
          raw = raw_role p p.role refl both.0;
          holds = or_other none (has_data l p.section) both.1 is_none;
          within = omega arith;
          fills = fills_by;
          has = has;
        }

any_at : {X : Type 0} (t : X → Bool) (xs : List X) (i : ℕ) (d : X) → i < length xs → t (get_or xs i d) ≡ true → list_any t xs ≡ true
any_at t [] i d l h = absurd (omega arith)
any_at t (x ∷ xs) zero d l h = rw h refl
any_at t (x ∷ xs) (suc i) d l h = or_right (t x) (list_any t xs) (any_at t xs i d (omega arith) h)
  where
    or_right : (a b : Bool) → b ≡ true → (a || b) ≡ true
    or_right true b e = refl
    or_right false b e = e

left_or : (a b : Bool) → a ≡ true → (a || b) ≡ true
left_or true b e = refl
left_or false b e = cc

merged_given : (l : Layout) → AllClausesHold l → All (λ (m : Merged). HasSome (merged_front m) → FrontGiven l (merged_front m)) l.merged
merged_given l h i m low some =
    let x = get_or l.merged i m in
    let named = any_at (λ (y : Merged). y.part == x.part) l.merged i m low (eq-eqb x.part x.part refl) in
    front_given l h (merged_front x) some (0 == merged_size x) (ne_eqb 0 (merged_size x) (λ e. omega arith)) (h.inputs.merged i m low) (h.fronts.merged i m low) (left_or (list_any (λ (y : Merged). y.part == x.part) l.merged) (not (length l.identity.bytes == 0) && l.identity.part == x.part) named)

identity_given : (l : Layout) → AllClausesHold l → HasSome (identity_front l) → FrontGiven l (identity_front l)
identity_given l h some =
    let none = ne_eqb (length l.identity.bytes) 0 (λ e. omega arith) in
    let holds = or_other (length l.identity.bytes == 0) (holds_bytes l false (slice_get l.parts l.identity.part)) h.inputs.identity none in
    let fills = or_other (length l.identity.bytes == 0) (fills_front l l.identity.part (length l.identity.bytes)) h.fronts.identity none in
    let has = and_from (not (length l.identity.bytes == 0)) (l.identity.part == l.identity.part) (ap not none) (eq-eqb l.identity.part l.identity.part refl) in
    front_given l h (identity_front l) some false refl holds fills (right_or (list_any (λ (m : Merged). m.part == l.identity.part) l.merged) (not (length l.identity.bytes == 0) && l.identity.part == l.identity.part) has)

-- ---- no two of one part

not_among : (part : ℕ) (ms : List Merged) → list_any (has_bytes_in_part part) ms ≡ false → All (λ (m : Merged). HasSome (merged_front m) → part ≡ m.part → ⊥) ms
not_among part ms h i m low some same =
    let x = get_or ms i m in
    let there = and_from (x.part == part) (not (0 == merged_size x)) (eq-eqb x.part part (sym same)) (ap not (ne_eqb 0 (merged_size x) (λ e. omega arith))) in
    let any = any_at (has_bytes_in_part part) ms i m low there in
    absurd_bool (list_any (has_bytes_in_part part) ms) any h
  where
    absurd_bool : (b : Bool) → b ≡ true → b ≡ false → ⊥
    absurd_bool true t f = cc
    absurd_bool false t f = cc

merged_differ : (i : ℕ) (ms : List Merged) → front_shared i ms ≡ None → AllPairs Differ (map merged_front ms)
merged_differ i [] h = AllPairs-nil Differ
merged_differ i (m ∷ ms) h =
    elim (cases_Bool (has_bytes_in_part m.part m && list_any (has_bytes_in_part m.part) ms)) [
      | inl t ↦ cc (rw t at h)
      | inr f ↦
          AllPairs-cons Differ (merged_front m) (map merged_front ms)
          (All-map (Differ (merged_front m)) merged_front ms (λ k x low some others. not_among m.part ms (none_left (has_bytes_in_part m.part m) (list_any (has_bytes_in_part m.part) ms) f (and_from (m.part == m.part) (not (0 == merged_size m)) (eq-eqb m.part m.part refl) (ap not (ne_eqb 0 (merged_size m) (λ e. omega arith))))) k x low others))
          (merged_differ (i + 1) ms (rw f at h))
    ]
  where
    none_left : (a b : Bool) → (a && b) ≡ false → a ≡ true → b ≡ false
    none_left true b e t = e
    none_left false b e t = cc

identity_differs : (l : Layout) → AllClausesHold l → All (λ (x : Front). All (Differ x) (identity_front l ∷ [])) (map merged_front l.merged)
identity_differs l h = All-map (λ (x : Front). All (Differ x) (identity_front l ∷ [])) merged_front l.merged (λ i m low.
    All-cons (Differ (merged_front (get_or l.merged i m))) (identity_front l) [] (λ some other same.
    let none = ne_eqb (length l.identity.bytes) 0 (λ e. omega arith) in
    let alone = or_other (length l.identity.bytes == 0) (not (list_any (has_bytes_in_part l.identity.part) l.merged)) h.fronts.alone none in
    not_among l.identity.part l.merged (is_false (list_any (has_bytes_in_part l.identity.part) l.merged) alone) i m low some (sym same)) (All-nil (Differ (merged_front (get_or l.merged i m)))))
  where
    is_false : (b : Bool) → not b ≡ true → b ≡ false
    is_false true e = cc
    is_false false e = refl

pub FrontsStand-from_clauses : (l : Layout) → AllClausesHold l → FrontsStand l
FrontsStand-from_clauses l h =
    let P : Front → Type 0 = λ x. IsWritten l x → FrontStands l x in
    record {
      stood = All-append P (map merged_front l.merged) (identity_front l ∷ [])
          (All-map P merged_front l.merged (λ i m low w. front_stands l (merged_front (get_or l.merged i m)) (merged_given l h i m low w.some) w.written))
          (All-cons P (identity_front l) [] (λ w. front_stands l (identity_front l) (identity_given l h w.some) w.written) (All-nil P));
      differ = AllPairs-append Differ (map merged_front l.merged) (identity_front l ∷ []) (merged_differ 0 l.merged h.fronts.shared) (AllPairs-cons Differ (identity_front l) [] (All-nil (Differ (identity_front l))) (AllPairs-nil Differ)) (identity_differs l h);
    }

-- ---- their pieces

abbrev pub front_at : Layout → Front → Piece
front_at l x = record { at = offset_of_part (slice_get l.parts x.part); bytes = x.bytes }

-- each stands at the address of its part
pub front_is : (l : Layout) (x : Front) (st : FrontStands l x) → owner_at l x.part st.part.address x.bytes ≡ front_at l x
front_is l x st =
    let p = st.part in
    let listed = st.room.listed in
    let here : offset_in (Some p) p.address ≡ offset_of_part (Some p) = omega arith in
    let place = ap (λ (o : Option Part). offset_in o p.address) listed ∙ here ∙ sym (ap offset_of_part listed) in
    ap (λ (n : ℕ). record { at = n; bytes = x.bytes }) place

pub All-some : (P : Piece → Type 0) (at : ℕ) (bs : List ℕ) → (1 ≤ length bs → P (record { at = at; bytes = bs })) → All P (some_piece at bs)
All-some P at bs h =
    elim (cases_Bool (length bs == 0)) [
      | inl t ↦ rw t (All-nil P)
      | inr f ↦ rw f (All-cons P (record { at = at; bytes = bs }) [] (h (let e = eqb-false (length bs) 0 f in omega arith)) (All-nil P))
    ]

pub AllPairs-some : (R : Piece → Piece → Type 0) (at : ℕ) (bs : List ℕ) → AllPairs R (some_piece at bs)
AllPairs-some R at bs =
    elim (cases_Bool (length bs == 0)) [
      | inl t ↦ rw t (λ i j d l m. absurd (omega arith))
      | inr f ↦ rw f (λ i j d l m. absurd (omega arith))
    ]

-- the piece of one
of_front : (l : Layout) (P : Piece → Type 0) (x : Front) → (IsWritten l x → P (front_at l x)) → All P (front_of l x)
of_front l P x h =
    All-written P (is_header_only_part l x.part) (some_piece (offset_of_part (slice_get l.parts x.part)) x.bytes) (λ written.
    All-some P (offset_of_part (slice_get l.parts x.part)) x.bytes (λ some. h (record { some = some; written = written })))

-- what holds of each that is written holds of their pieces
pub each_front : (l : Layout) (P : Piece → Type 0) → All (λ (x : Front). IsWritten l x → P (front_at l x)) (fronts l) → All P (merged_and_identity_pieces l)
each_front l P h = subst (All P) (sym (once_is l)) (All-flat_map P (front_of l) (fronts l) (λ i x m. of_front l P (get_or (fronts l) i x) (h i x m)))

two_fronts : (l : Layout) → AllPairs (Follows l) l.parts → FrontsStand l → (i j : ℕ) (d : Front) → i < j → j < length (fronts l) → IsWritten l (get_or (fronts l) i d) → IsWritten l (get_or (fronts l) j d) → Disjoint (front_at l (get_or (fronts l) i d)) (front_at l (get_or (fronts l) j d))
two_fronts l f h i j d lt m some other =
    let x = get_or (fronts l) i d in
    let y = get_or (fronts l) j d in
    let a = h.stood i d (omega arith) some in
    let b = h.stood j d m other in
    let apart = owners_apart l f x.part y.part a.part.address b.part.address x.bytes y.bytes a.part b.part a.room b.room (λ e. absurd (h.differ i j d lt m some.some other.some e)) in
    subst (λ (p : Piece). Disjoint p (front_at l y)) (front_is l x a) (subst (Disjoint (owner_at l x.part a.part.address x.bytes)) (front_is l y b) apart)

pub fronts_apart : (l : Layout) → AllPairs (Follows l) l.parts → FrontsStand l → AllPairs Disjoint (merged_and_identity_pieces l)
fronts_apart l f h =
    subst (AllPairs Disjoint) (sym (once_is l))
    (AllPairs-flat_map Disjoint (front_of l) (fronts l)
    (λ i x m. (let y = get_or (fronts l) i x in let at = offset_of_part (slice_get l.parts y.part) in AllPairs-written Disjoint (is_header_only_part l y.part) (some_piece at y.bytes) (λ written. AllPairs-some Disjoint at y.bytes)))
    (λ i j d lt m.
    let x = get_or (fronts l) i d in
    let y = get_or (fronts l) j d in
    of_front l (λ a. All (Disjoint a) (front_of l y)) x (λ some.
    of_front l (Disjoint (front_at l x)) y (λ other. two_fronts l f h i j d lt m some other))))

front_ends : (l : Layout) (x : Front) (st : FrontStands l x) → HasSome x → InImage l (front_at l x)
front_ends l x st some = subst (InImage l) (front_is l x st) (owner_ends l (EndsBy-image l) x.part st.part.address (length x.bytes) st.part st.room some)

pub fronts_within : (l : Layout) → FrontsStand l → All (InImage l) (merged_and_identity_pieces l)
fronts_within l h = each_front l (InImage l) (λ i x m w. front_ends l (get_or (fronts l) i x) (h.stood i x m w) w.some)

-- ---- nothing else of the first group stands there, and the others' stand behind

-- the test of the clause on a file of the first group
leaves_front_of : (l : Layout) → AllClausesHold l → (g : Group) (gs : List Group) → l.groups ≡ g ∷ gs → All (λ (f : File). file_leaves_front l f ≡ true) g.files
leaves_front_of l h g gs split =
    let first : group_leaves_front l (Some g) ≡ true = sym (ap (λ (hs : List Group). group_leaves_front l (slice_get hs 0)) split) ∙ h.inputs.front in
    All-from_list_all (file_leaves_front l) g.files first

absurd_or : (a b : Bool) → (not a || not b) ≡ true → a ≡ true → b ≡ true → ⊥
absurd_or true true h t u = cc
absurd_or true false h t u = cc
absurd_or false b h t u = cc

filled_takes : (l : Layout) (s : InputSection) → is_filled l s ≡ true → takes_bytes l s ≡ true
filled_takes l s h =
    let both = and_parts (has_range s.slot) (has_bytes l s) (filled_given l s h) in
    let ranges = both.0 in
    right_or (not (length s.bytes == 0)) (brings_bytes l s) (and_from (has_range s.slot || has_counted s.slot) (has_bytes l s) (rw ranges refl) both.1)

abbrev IsPlacedAfter : Layout → Front → ℕ → InputSection → Type 0
IsPlacedAfter l x at s = is_filled l s ≡ true → s.part ≡ x.part → at + length x.bytes ≤ s.address

pub sections_behind : (l : Layout) → AllClausesHold l → (x : Front) (st : FrontStands l x) → All (IsPlacedAfter l x st.part.address) (all_sections l)
sections_behind l h x st = by l.groups refl
  where
    P : InputSection → Type 0
    P = IsPlacedAfter l x st.part.address

    of_first : (g : Group) (gs : List Group) → l.groups ≡ g ∷ gs → All P (sections_in l g)
    of_first g gs split = All-flat_map P (sections_in_ranges l) g.files (λ i f m j s n filled same.
        let file = get_or g.files i f in
        let tests = and_parts (list_all (leaves_front l) (sections_in_ranges l file)) (length (thunks_of l file) == 0 || not (has_front l l.primary_part)) (leaves_front_of l h g gs split i f m) in
        let y = get_or (sections_in_ranges l file) j s in
        let leaves = All-from_list_all (leaves_front l) (sections_in_ranges l file) tests.0 j s n in
        absurd (absurd_or (takes_bytes l y) (has_front l y.part) leaves (filled_takes l y filled) (ap (has_front l) same ∙ st.has)))

    of_later : (g : Group) (gs : List Group) → l.groups ≡ g ∷ gs → All P (flat_map (sections_in l) gs)
    of_later g gs split =
        let low = slice_get_within l.parts x.part st.part st.room.listed in
        let same = get_or_from_slice_get l.parts x.part st.part st.part st.room.listed in
        let address = ap (λ (q : Part). q.address) same in
        let run = Run-after l g gs (subst (λ (hs : List Group). section_misplaced l (map (λ (q : Part). q.address) l.parts) 0 hs ≡ None) split h.inputs.order) x.part st.part low in
        let fills = st.fills g gs split in
        λ i s m filled at. (let from = run i s m (and_from (has_range_bytes l (get_or (flat_map (sections_in l) gs) i s)) ((get_or (flat_map (sections_in l) gs) i s).part == x.part) (filled_given l (get_or (flat_map (sections_in l) gs) i s) filled) (eq-eqb _ _ at)) in omega arith)

    by : (gs : List Group) → l.groups ≡ gs → All P (all_sections l)
    by [] split = subst (λ (hs : List Group). All P (flat_map (sections_in l) hs)) (sym split) (All-nil P)
    by (g ∷ gs) split = subst (λ (hs : List Group). All P (flat_map (sections_in l) hs)) (sym split) (All-append P (sections_in l g) (flat_map (sections_in l) gs) (of_first g gs split) (of_later g gs split))

-- no thunk of the first group stands in such a part
pub no_thunks_there : (l : Layout) → AllClausesHold l → (x : Front) (st : FrontStands l x) → x.part ≡ l.primary_part → (g : Group) (gs : List Group) → l.groups ≡ g ∷ gs → All (λ (f : File). length (thunks_of l f) ≡ 0) g.files
no_thunks_there l h x st same g gs split i f m =
    let file = get_or g.files i f in
    let tests = and_parts (list_all (leaves_front l) (sections_in_ranges l file)) (length (thunks_of l file) == 0 || not (has_front l l.primary_part)) (leaves_front_of l h g gs split i f m) in
    eqb-true _ _ (none (length (thunks_of l file) == 0) (has_front l l.primary_part) tests.1 (sym (ap (has_front l) same) ∙ st.has))
  where
    none : (a b : Bool) → (a || not b) ≡ true → b ≡ true → a ≡ true
    none true b e t = refl
    none false true e t = cc
    none false false e t = cc

-- ---- the whole

FrontLies-from_given : (l : Layout) (k : ℕ) (bs : List ℕ) (p : Part) → slice_get l.parts k ≡ Some p → is_raw (Some p) ≡ true → (1 ≤ length bs → FrontGiven l (record { part = k; bytes = bs })) → FrontLies l k bs
FrontLies-from_given l k bs p is raw given = record {
  part = p;
  listed = is;
  raw = raw_role p p.role refl raw;
  holds = λ some. (let g = given some in subst (λ (q : Part). has_data l q.section ≡ true) (same_part g) g.holds);
  within = within (cases_none (length bs));
  ends = λ some written. (
      let here : is_header_only_part l k ≡ false = ap (λ (o : Option Part). is_header_only_at l (section_of_part o)) is ∙ written in
      let st = front_stands l (record { part = k; bytes = bs }) (given some) here in
      let e = front_ends l (record { part = k; bytes = bs }) st some in
      let place = ap offset_of_part is in
      omega arith
      );
}
  where
    same_part : (g : FrontGiven l (record { part = k; bytes = bs })) → g.part ≡ p
    same_part g = same (sym g.listed ∙ is)
      where
        same : Some g.part ≡ Some p → g.part ≡ p
        same e = cc

    cases_none : (n : ℕ) → (n ≡ 0) ⊎ (1 ≤ n)
    cases_none zero = inl refl
    cases_none (suc n) = inr (omega arith)

    within : (length bs ≡ 0) ⊎ (1 ≤ length bs) → length bs ≤ p.size
    within (inl none) = omega arith
    within (inr some) = (let g = given some in let fits = g.within in let size = ap (λ (q : Part). q.size) (same_part g) in omega arith)

part_of : (l : Layout) (none : Bool) (o : Option Part) → holds_bytes l none o ≡ true → (p : Part) × (o ≡ Some p) × (is_raw (Some p) ≡ true)
part_of l none None h = cc
part_of l none (Some p) h = (p, refl, (and_parts (is_raw (Some p)) (none || has_data l p.section) h).0)

pub merged_lies : (l : Layout) → AllClausesHold l → All (λ (m : Merged). FrontLies l m.part (merged_bytes m)) l.merged
merged_lies l h i m low =
    let x = get_or l.merged i m in
    let there = part_of l (0 == merged_size x) (slice_get l.parts x.part) (h.inputs.merged i m low) in
    FrontLies-from_given l x.part (merged_bytes x) there.0 there.1 there.2 (merged_given l h i m low)

pub identity_lies : (l : Layout) → AllClausesHold l → 1 ≤ length l.identity.bytes → FrontLies l l.identity.part l.identity.bytes
identity_lies l h some =
    let none = ne_eqb (length l.identity.bytes) 0 (λ e. omega arith) in
    let there = part_of l false (slice_get l.parts l.identity.part) (or_other (length l.identity.bytes == 0) (holds_bytes l false (slice_get l.parts l.identity.part)) h.inputs.identity none) in
    FrontLies-from_given l l.identity.part l.identity.bytes there.0 there.1 there.2 (identity_given l h)
