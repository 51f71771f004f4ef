-- Entries written one behind the other, the first fault of FDEs, and a search by halves.
use Rattle.std.proofs.Common.{◌≡◌, ℕ, zero, suc, ◌+◌, ◌-◌, ◌*◌, ◌^◌, ◌<◌, ◌≤◌, ◌⊎◌, inl, inr, true, List, [], ◌∷◌, ◌++◌, length, take, drop, get_or, map, flat_map, All, Option, Some, None, Result, Ok, Err, OnOk, refl, ap, sym, ◌∙◌, arith, subst}
use Rattle.std.specs.Prelude.{ℤ, pos, nat_le, nat_lt}
use lib.IntN.{negsuc, ◌+ℤ◌}
use Rattle.std.specs.Int.{cast_signed, cast_unsigned, w32}
use Rattle.std.specs.Int.RustNames.{FitsSigned}
use Rattle.std.specs.List.Sorted.{IsNonDecreasingBy}
use Rattle.std.proofs.lemmas.Int.{ints, to_z-of_z}
use Rattle.std.proofs.lemmas.Bool.{cases_Bool, cases_lt, and_parts, leb-true, ltb-true}
use Rattle.std.proofs.lemmas.List.{take-append-drop, take-append-le, take_all, drop_more, append_assoc, length-append}
use Rattle.std.proofs.lemmas.List.Concat.{flat_map-append}
use Rattle.std.proofs.lemmas.List.Elements.{All-nil, All-cons, All-head, All-tail}
use Rattle.std.proofs.lemmas.List.Sorted.{Contains-permutation, All-permutation}
use borrow.Rule.Slice.PartMut.{put_mid}
use Rattle.wild_words.specs.Words.{HasBytesAt}
use Rattle.wild_words.proofs.Basics.{Contains-map, All-from_nothing, length-flat_map_each}
use Rattle.wild_words.proofs.ListLemmas.{flat_map-more, at_places, nil_parts}
use Rattle.wild_words.proofs.RecordLemmas.{HasBytesAt-left, HasBytesAt-right, length-spell}
use Rattle.wild_records.specs.declared.frames.EhFrameHdr.{EhFrameHdr}
use Rattle.wild_records.specs.declared.frames.EhFrameHdrEntry.{EhFrameHdrEntry}
use Rattle.wild_records.specs.Frames.{eh_frame_hdr_fields, eh_frame_hdr_entry_fields, EhFrameHdrEntryFits, EhFrameHdrEntryIsRead}
use Rattle.wild_records.specs.Abi.Frame.{eh_frame_hdr_version, dw_eh_pe_absptr, dw_eh_pe_udata4, dw_eh_pe_sdata4, dw_eh_pe_pcrel, dw_eh_pe_datarel}
use Rattle.wild_frames.specs.declared.table.Fde.{Fde}
use Rattle.wild_frames.specs.declared.table.TableError.{TableError}
use Rattle.wild_frames.specs.declared.table.TableError.TheVariants as error
use Rattle.wild_frames.specs.Table.{distance, is_near, far, entry_of, far_fde, table_errors, header_of, rank, rank_of, hdr_bytes, entry_bytes, IsTable, Refuses, count_in, nth_entry, IsInOrder, IsFirstOut, IsLastBefore, TableIsInOrder, CoverApart, FdeIsFound}
use Rattle.wild_frames.proofs.WriteLemmas.{front_written}

-- ---- writing

pub length-hdr : (h : EhFrameHdr) → length (hdr_bytes h) ≡ 12
unfolding eh_frame_hdr_fields
length-hdr h = length-spell (eh_frame_hdr_fields h)

pub length-entry : (e : EhFrameHdrEntry) → length (entry_bytes e) ≡ 8
unfolding eh_frame_hdr_entry_fields
length-entry e = length-spell (eh_frame_hdr_entry_fields e)

pub put_front : (at n : ℕ) (out room part : List ℕ) → room ≡ part → length part ≡ n → at + n ≤ length out → take (at + n) (put_mid at (at + n - at) out room) ≡ take at out ++ part
put_front at n out room part e l r =
    let f = front_written at n out room part e (sym l) (omega (arith, l, r)) in
    subst (λ (k : ℕ). take (at + k) (put_mid at (at + n - at) out room) ≡ take at out ++ part) l f.front

-- the header of a table, by the pointer that was found to fit
abbrev pub hdr_with : ℤ → ℕ → EhFrameHdr
hdr_with z count = record {
  version = eh_frame_hdr_version;
  frame_pointer_encoding = dw_eh_pe_pcrel + dw_eh_pe_sdata4;
  count_encoding = dw_eh_pe_absptr + dw_eh_pe_udata4;
  table_encoding = dw_eh_pe_datarel + dw_eh_pe_sdata4;
  frame_pointer = z;
  entry_count = count;
}

pub put_more : (out b base : List ℕ) (es : List EhFrameHdrEntry) (i : ℕ) (x : EhFrameHdrEntry) → i < length es
    → take (12 + 8 * i) out ≡ base ++ flat_map entry_bytes (take i es)
    → take (12 + 8 * i + 8) b ≡ take (12 + 8 * i) out ++ entry_bytes (get_or es i x)
    → take (12 + 8 * (i + 1)) b ≡ base ++ flat_map entry_bytes (take (i + 1) es)
put_more out b base es i x l h g =
    let n : 12 + 8 * (i + 1) ≡ 12 + 8 * i + 8 = omega arith in
    let done = flat_map entry_bytes (take i es) in
    ap (λ (k : ℕ). take k b) n ∙ g
    ∙ ap (λ xs. xs ++ entry_bytes (get_or es i x)) h
    ∙ append_assoc base done (entry_bytes (get_or es i x))
    ∙ ap (λ xs. base ++ xs) (sym (flat_map-more entry_bytes es i x l))

refuses_more : (e : TableError) (xs ys : List TableError) → Refuses e xs → Refuses e (xs ++ ys)
refuses_more error.OutOfMemory xs ys h = tt
refuses_more (error.FrameOffsetOverflow v) [] ys h = absurd h
refuses_more (error.FrameOffsetOverflow v) (x ∷ xs) ys h = h

-- the first fault of FDEs, of which those in front have none
pub refuses_at : (header : ℕ) (fs : List Fde) (i : ℕ) (x : Fde) (e : TableError) → i < length fs → flat_map (far_fde header) (take i fs) ≡ [] → Refuses e (far_fde header (get_or fs i x))
    → Refuses e (flat_map (far_fde header) fs)
refuses_at header fs i x e l none h =
    let f = far_fde header in
    let split = ap (flat_map f) (sym (take-append-drop i fs) ∙ ap (λ ys. take i fs ++ ys) (drop_more fs i x l)) ∙ flat_map-append f (take i fs) (get_or fs i x ∷ drop (i + 1) fs) ∙ ap (λ ys. ys ++ flat_map f (get_or fs i x ∷ drop (i + 1) fs)) none in
    subst (Refuses e) (sym split) (refuses_more e (f (get_or fs i x)) (flat_map f (drop (i + 1) fs)) h)

pub on_ok : {A E : Type 0} (r : Result A E) (P Q : Type 0) → OnOk r P → (P → Q) → OnOk r Q
on_ok (Ok x) P Q h f = f h
on_ok (Err e) P Q h f = tt

-- ---- distances and ranks

record Near (from to : ℕ) : Type 0 where
  pub above : from ≤ to + 2 ^ 31
  pub below : to < from + 2 ^ 31

near : (from to : ℕ) → is_near from to ≡ true → Near from to
near from to h = let p = and_parts (nat_le from (to + 2 ^ 31)) (nat_lt to (from + 2 ^ 31)) h in record { above = leb-true _ _ p.0; below = ltb-true _ _ p.1 }

none_far : (from to : ℕ) → far from to ≡ [] → Near from to
none_far from to h = elim (cases_Bool (is_near from to)) [ inl t ↦ near from to t | inr f ↦ (let g = rw f at h in cc) ]

fits_z : (z : ℤ) (from to : ℕ) → z +ℤ pos from ≡ pos to → Near from to → FitsSigned w32 z
fits_z (pos n) from to e h = let a = h.above in let b = h.below in let s : n + from ≡ to = omega (arith, ints) in record { sfits = omega (arith, s, b) }
fits_z (negsuc n) from to e h = let a = h.above in let b = h.below in let s : from ≡ to + n + 1 = omega (arith, ints) in record { sfits = omega (arith, s, a) }

rank_z : (z : ℤ) (from to : ℕ) → z +ℤ pos from ≡ pos to → Near from to → rank z + from ≡ to + 2 ^ 31
rank_z (pos n) from to e h = let a = h.above in let b = h.below in let s : n + from ≡ to = omega (arith, ints) in omega (arith, s, a, b)
rank_z (negsuc n) from to e h = let a = h.above in let b = h.below in let s : from ≡ to + n + 1 = omega (arith, ints) in omega (arith, s, a, b)

back : (from to : ℕ) → distance from to +ℤ pos from ≡ pos to
back from to = omega (arith, ints)

pub put_hdr : (header eh_frame count : ℕ) (z : ℤ) (room rest : List ℕ) → room ≡ hdr_bytes (hdr_with (cast_signed w32 (cast_unsigned w32 z)) count) → far (header + 4) eh_frame ≡ [] → z ≡ distance (header + 4) eh_frame
    → take 12 (room ++ rest) ≡ hdr_bytes (header_of header eh_frame count)
put_hdr header eh_frame count z room rest r none d =
    let h = header_of header eh_frame count in
    let y = distance (header + 4) eh_frame in
    let same = to_z-of_z w32 y (fits_z y (header + 4) eh_frame (back (header + 4) eh_frame) (none_far (header + 4) eh_frame none)) in
    let e : room ≡ hdr_bytes h = r ∙ ap (λ (x : ℤ). hdr_bytes (hdr_with (cast_signed w32 (cast_unsigned w32 x)) count)) d ∙ ap (λ (x : ℤ). hdr_bytes (hdr_with x count)) same in
    let n = length-hdr h in
    ap (λ (bs : List ℕ). take 12 (bs ++ rest)) e ∙ take-append-le 12 (hdr_bytes h) rest (omega (arith, n)) ∙ take_all 12 (hdr_bytes h) (omega (arith, n))

-- both distances of an FDE's entry are told
record HasNearDistances (header : ℕ) (f : Fde) : Type 0 where
  pub code : Near header f.code
  pub address : Near header f.address

distances_are_near : (header : ℕ) (f : Fde) → far_fde header f ≡ [] → HasNearDistances header f
distances_are_near header f h = let p = nil_parts (far header f.code) (far header f.address) h in record { code = none_far header f.code p.0; address = none_far header f.address p.1 }

all_told : (header eh_frame : ℕ) (fdes : List Fde) → table_errors header eh_frame fdes ≡ [] → All (HasNearDistances header) fdes
all_told header eh_frame fdes h = All-from_nothing (HasNearDistances header) (far_fde header) fdes (distances_are_near header) (nil_parts (far (header + 4) eh_frame) (flat_map (far_fde header) fdes) h).1

entry_fits : (header : ℕ) (f : Fde) → HasNearDistances header f → EhFrameHdrEntryFits (entry_of header f)
entry_fits header f t = record { frame_ptr = fits_z (distance header f.code) header f.code (back header f.code) t.code; frame_info_ptr = fits_z (distance header f.address) header f.address (back header f.address) t.address }

-- ---- the entries of a table, as they are read

All-map : {X Y : Type 0} (P : Y → Type 0) (f : X → Y) (xs : List X) → All (λ x. P (f x)) xs → All P (map f xs)
All-map P f [] a = All-nil P
All-map P f (x ∷ xs) a = All-cons P (f x) (map f xs) (All-head (λ y. P (f y)) x xs a) (All-map P f xs (All-tail (λ y. P (f y)) x xs a))

entry_stands : (es : List EhFrameHdrEntry) (k : ℕ) (d : EhFrameHdrEntry) → k < length es → HasBytesAt (flat_map entry_bytes es) (8 * k) (entry_bytes (get_or es k d))
entry_stands [] k d l = absurd (omega arith)
entry_stands (e ∷ es) zero d l = HasBytesAt-left (entry_bytes e) (flat_map entry_bytes es)
entry_stands (e ∷ es) (suc k) d l =
    let n = length-entry e in
    let s : length (entry_bytes e) + 8 * k ≡ 8 * suc k = omega (arith, n) in
    subst (λ (a : ℕ). HasBytesAt (entry_bytes e ++ flat_map entry_bytes es) a (entry_bytes (get_or es k d))) s (HasBytesAt-right (entry_bytes e) (flat_map entry_bytes es) (entry_bytes (get_or es k d)) (8 * k) (entry_stands es k d (omega arith)))

-- what a reader finds in a table
record HasEntries (header eh_frame : ℕ) (fdes : List Fde) (bytes : List ℕ) (entries : List EhFrameHdrEntry) : Type 0 where
  pub count : count_in bytes ≡ length entries
  pub each : (k : ℕ) (d : EhFrameHdrEntry) → k < length entries → nth_entry bytes k ≡ get_or entries k d

has_entries : EhFrameHdrEntryIsRead → (header eh_frame : ℕ) (fdes : List Fde) (bytes : List ℕ) (t : IsTable header eh_frame fdes bytes) → table_errors header eh_frame fdes ≡ [] → HasEntries header eh_frame fdes bytes t.entries
has_entries read header eh_frame fdes bytes t none =
    let front = hdr_bytes (header_of header eh_frame (length fdes)) in
    let rest = flat_map entry_bytes t.entries in
    let n = length-hdr (header_of header eh_frame (length fdes)) in
    let m = length-flat_map_each entry_bytes 8 length-entry t.entries in
    let whole : length bytes ≡ 12 + 8 * length t.entries = (let a = ap length t.is in let b = length-append front rest in omega (arith, a, b, n, m)) in
    let fit : All EhFrameHdrEntryFits t.entries = All-permutation EhFrameHdrEntryFits (map (entry_of header) fdes) t.entries t.all
    (All-map EhFrameHdrEntryFits (entry_of header) fdes (λ i d l. entry_fits header (get_or fdes i d) (all_told header eh_frame fdes none i d l))) in
    record {
      count = omega (arith, whole);
      each = λ k d l.
          let s = HasBytesAt-right front rest (entry_bytes (get_or t.entries k d)) (8 * k) (entry_stands t.entries k d l) in
          let at : length front + 8 * k ≡ 12 + 8 * k = omega (arith, n) in
          read bytes (12 + 8 * k) (get_or t.entries k d) (fit k d l) (subst (λ (bs : List ℕ). HasBytesAt bs (12 + 8 * k) (entry_bytes (get_or t.entries k d))) (sym t.is) (subst (λ (a : ℕ). HasBytesAt (front ++ rest) a (entry_bytes (get_or t.entries k d))) at s));
    }

-- the entries of a table are in order
pub in_order : EhFrameHdrEntryIsRead → TableIsInOrder
in_order read header eh_frame fdes bytes t none i j le l =
    let h = has_entries read header eh_frame fdes bytes t none in
    let c = h.count in
    let d : EhFrameHdrEntry = record { frame_ptr = pos 0; frame_info_ptr = pos 0 } in
    rw (h.each i d (omega (arith, c)), h.each j d (omega (arith, c))) (t.sorted i j d le (omega (arith, c)))

-- ---- the FDE of an address

-- an FDE whose entry stands in a table
record IsEntryOf (header : ℕ) (fdes : List Fde) (e : EhFrameHdrEntry) : Type 0 where
  pub place : ℕ
  pub within : place < length fdes
  pub is : (d : Fde) → entry_of header (get_or fdes place d) ≡ e

of_map : (header : ℕ) (fdes : List Fde) → All (IsEntryOf header fdes) (map (entry_of header) fdes)
of_map header [] = All-nil (IsEntryOf header [])
of_map header (f ∷ fs) =
    All-cons (IsEntryOf header (f ∷ fs)) (entry_of header f) (map (entry_of header) fs) (record { place = 0; within = omega arith; is = λ d. refl })
    (λ i d l. let o = of_map header fs i d l in let w = o.within in record { place = suc o.place; within = omega (arith, w); is = o.is })

abbrev CoverDisjointCode : (Fde → ℕ) → Fde → Fde → Type 0
CoverDisjointCode extent f g = (f.code + extent f ≤ g.code) ⊎ (g.code + extent g ≤ f.code)

disjoint_code_flip : (extent : Fde → ℕ) (f g : Fde) → CoverDisjointCode extent f g → CoverDisjointCode extent g f
disjoint_code_flip extent f g (inl a) = inr a
disjoint_code_flip extent f g (inr a) = inl a

no_disjoint_code : (extent : Fde → ℕ) (fdes : List Fde) (i j : ℕ) (f : Fde) (x : ℕ) → CoverApart extent fdes → i < length fdes → j < length fdes
    → (get_or fdes i f).code ≤ (get_or fdes j f).code → (get_or fdes j f).code ≤ x → x < (get_or fdes i f).code + extent (get_or fdes i f) → (i ≡ j → ⊥) → ⊥
no_disjoint_code extent fdes i j f x c l m a b e n =
    elim (at_places (CoverDisjointCode extent) fdes (disjoint_code_flip extent) c.apart i j f n l m) [
      | inl u ↦ omega (arith, u, b, e)
      | inr u ↦ (let p = c.some j f m in omega (arith, u, a, p))
    ]

one_place : (extent : Fde → ℕ) (fdes : List Fde) (i j : ℕ) (f : Fde) (x : ℕ) → CoverApart extent fdes → i < length fdes → j < length fdes
    → (get_or fdes i f).code ≤ (get_or fdes j f).code → (get_or fdes j f).code ≤ x → x < (get_or fdes i f).code + extent (get_or fdes i f) → i ≡ j
one_place extent fdes i j f x c l m a b e =
    elim (cases_lt i j) [
      | inl u ↦ absurd (no_disjoint_code extent fdes i j f x c l m a b e (λ s. omega (arith, u, s)))
      | inr u ↦ elim (cases_lt j i) [
        | inl v ↦ absurd (no_disjoint_code extent fdes i j f x c l m a b e (λ s. omega (arith, v, s)))
        | inr v ↦ omega (arith, u, v)
      ]
    ]

last_is : (header x : ℕ) (fdes : List Fde) (bytes : List ℕ) (entries : List EhFrameHdrEntry) (extent : Fde → ℕ) (f : Fde) (j : ℕ) (found : Option EhFrameHdrEntry)
    → (count_in bytes ≡ length entries) → ((k : ℕ) → k < length entries → nth_entry bytes k ≡ get_or entries k (entry_of header f)) → IsNonDecreasingBy rank_of entries
    → All (IsEntryOf header fdes) entries → All (HasNearDistances header) fdes → CoverApart extent fdes → Near header x
    → (i : ℕ) → i < length fdes → get_or fdes i f ≡ f → f.code ≤ x → x < f.code + extent f → j < length entries → get_or entries j (entry_of header f) ≡ entry_of header f
    → IsLastBefore (rank (distance header x)) bytes found → found ≡ Some (entry_of header f)
last_is header x fdes bytes entries extent f j None c read sorted from all apart n i l is a b m e h =
    let t : HasNearDistances header f = subst (HasNearDistances header) is (all i f l) in
    let r = rank_z (distance header f.code) header f.code (back header f.code) t.code in
    let s = rank_z (distance header x) header x (back header x) n in
    let z = h j (omega (arith, c, m)) in
    let q = ap rank_of (read j m ∙ e) in
    absurd (omega (arith, r, s, z, q, a))
last_is header x fdes bytes entries extent f j (Some y) c read sorted from all apart n i l is a b m e h =
    let d = entry_of header f in
    let t : HasNearDistances header f = subst (HasNearDistances header) is (all i f l) in
    let r = rank_z (distance header f.code) header f.code (back header f.code) t.code in
    let s = rank_z (distance header x) header x (back header x) n in
    let w = h.within in
    let k : h.place < length entries = omega (arith, c, w) in
    let after : j ≤ h.place = elim (cases_lt h.place j) [
      | inl v ↦ absurd (let z = h.behind j v (omega (arith, c, m)) in let q = ap rank_of (read j m ∙ e) in omega (arith, r, s, z, q, a))
      | inr v ↦ v
    ] in
    let y_is : y ≡ get_or entries h.place d = h.is ∙ read h.place k in
    let g = from h.place d k in
    let other = get_or fdes g.place f in
    let y_of : entry_of header other ≡ y = g.is f ∙ sym y_is in
    let u = all g.place f g.within in
    let v = rank_z (distance header other.code) header other.code (back header other.code) u.code in
    let y_rank = ap rank_of y_of in
    let up : rank_of d ≤ rank_of y = (let o = sorted j h.place d after k in let p = ap rank_of e in let q = ap rank_of y_is in omega (arith, o, p, q)) in
    let most = h.before in
    let code = ap (λ (x : Fde). x.code) is in
    let size = ap (λ (x : Fde). x.code + extent x) is in
    let same : i ≡ g.place = one_place extent fdes i g.place f x apart l g.within (omega (arith, code, up, r, v, y_rank)) (omega (arith, most, s, v, y_rank)) (omega (arith, size, b)) in
    ap Some (sym y_of ∙ ap (entry_of header) (sym (ap (λ (k : ℕ). get_or fdes k f) same) ∙ is))

-- an FDE is found
pub fde_found : EhFrameHdrEntryIsRead → FdeIsFound
fde_found read header eh_frame fdes bytes extent f x found t none apart c a b n h =
    let e = has_entries read header eh_frame fdes bytes t none in
    let d = entry_of header f in
    let in_table = Contains-permutation (map (entry_of header) fdes) t.entries d t.all (Contains-map (entry_of header) fdes f c) in
    last_is header x fdes bytes t.entries extent f in_table.0 found e.count (λ k l. e.each k d l) t.sorted
    (All-permutation (IsEntryOf header fdes) (map (entry_of header) fdes) t.entries t.all (of_map header fdes)) (all_told header eh_frame fdes none) apart (near header x n)
    c.0 c.1 c.2 a b in_table.1 in_table.2 h

-- ---- a search by halves

-- entries below low stand at or before a place, those from high on behind it
pub record IsHalved (table : List ℕ) (x low high : ℕ) : Type 0 where
  pub ordered : low ≤ high
  pub within : high ≤ count_in table
  pub before : (k : ℕ) → k < low → rank_of (nth_entry table k) ≤ x
  pub behind : (k : ℕ) → high ≤ k → k < count_in table → x < rank_of (nth_entry table k)

-- ---- a test of the order

-- the entries below n are in order, of which there may be fewer
pub record IsOrderedTo (table : List ℕ) (n : ℕ) : Type 0 where
  pub some : 1 ≤ n
  pub ahead : (i j : ℕ) → i ≤ j → j < n → rank_of (nth_entry table i) ≤ rank_of (nth_entry table j)

-- one entry is in order
pub ordered_first : (table : List ℕ) → IsOrderedTo table 1
ordered_first table = record { some = omega arith; ahead = λ i j le lt. (let same : i ≡ j = omega (arith, le, lt) in let e = ap (λ (k : ℕ). rank_of (nth_entry table k)) same in omega (arith, e)) }

-- one more that does not come before the one ahead of it
pub ordered_more : (table : List ℕ) (n : ℕ) → IsOrderedTo table n → rank_of (nth_entry table (n - 1)) ≤ rank_of (nth_entry table n) → IsOrderedTo table (n + 1)
ordered_more table n h up = record { some = omega arith; ahead = λ i j le lt. at i j le lt }
  where
    at : (i j : ℕ) → i ≤ j → j < n + 1 → rank_of (nth_entry table i) ≤ rank_of (nth_entry table j)
    at i j le lt =
        elim (cases_lt j n) [
          | inl u ↦ h.ahead i j le u
          | inr u ↦
              let same : j ≡ n = omega (arith, lt, u) in
              let e = ap (λ (k : ℕ). rank_of (nth_entry table k)) same in
              elim (cases_lt i n) [
                | inl v ↦ (let one = h.some in let a = h.ahead i (n - 1) (omega (arith, v)) (omega (arith, one)) in omega (arith, a, up, e))
                | inr v ↦ (let is : i ≡ j = omega (arith, le, same, v) in let f = ap (λ (k : ℕ). rank_of (nth_entry table k)) is in omega (arith, f))
              ]
        ]

-- all are
pub ordered_all : (table : List ℕ) (n : ℕ) → IsOrderedTo table n → count_in table ≤ n → IsInOrder table
ordered_all table n h all i j le lt = h.ahead i j le (omega (arith, lt, all))

-- one comes before the one ahead of it
pub out_at : (table : List ℕ) (n : ℕ) → IsOrderedTo table n → n < count_in table → rank_of (nth_entry table n) < rank_of (nth_entry table (n - 1)) → IsFirstOut table n
out_at table n h lt down = record { ahead = h.ahead; some = h.some; within = lt; before = down }

-- so they are not in order
pub not_in_order : (table : List ℕ) (n : ℕ) → n < count_in table → rank_of (nth_entry table n) < rank_of (nth_entry table (n - 1)) → IsInOrder table → ⊥
not_in_order table n lt down all = let up = all (n - 1) n (omega arith) lt in omega (arith, up, down)
