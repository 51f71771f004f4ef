-- Laws of bytes that are taken from the front of others.
use Rattle.wild_image.proofs.Common.{◌≡◌, ℕ, ◌+◌, ◌<◌, ◌≤◌, Bool, true, false, inl, inr, if◌then◌else◌, [], ◌∷◌, refl, List, ◌++◌, length, take, drop, get_or, sym, ap, ◌∙◌, arith, subst, All, Some, slice_get, flat_map, append_assoc, get_or_default, drop_more, take_at, length-append, append-nil, drop_all, slice_get-get_or, Piece, place_in_prefix, overlay_prefix, InputSection, File, Group, Layout, has_range, is_filled, is_header_only_part, image_size, SortedSection, with_word_order, as_loaded, unread, sorted_input, section_bytes, thunk_bytes, file_thunks, thunk_piece, cases_Bool, section_owned, ranged_owned, sorted_owned, ranged_in, sorted_in, ranged_piece, sorted_pieces, BeginsWith, HasRest, RangedLies, SortedLies}
use Rattle.std.proofs.lemmas.List.{drop_at}
use Rattle.wild_image.proofs.PrefixLemmas.{overlay_prefix-more}
use Rattle.wild_types.specs.declared.layout.Thunk.{Thunk}
use Rattle.wild_layout.specs.Image.{offset_in, unless_omitted, section_piece, thunk_offset}
use Rattle.wild_image.specs.Pieces.{placed_in_range, has_room, ranged_room, place_in, in_part, owned_in}
use Rattle.wild_image.proofs.StandingLemmas.{piece_at, StandsFor, ranged_stands, ranged_none, sorted_stands, one_input, one_owned, one_piece, one_in, one_lies}

-- what is left behind the first i items, whatever stands behind them all
abbrev pub IsPlacedAfter : {X : Type 0} → (X → List ℕ) → List X → List ℕ → List ℕ → ℕ → Type 0
IsPlacedAfter f xs base now i = (rest : List ℕ) → base ≡ flat_map f xs ++ rest → now ≡ flat_map f (drop i xs) ++ rest

-- what is left begins with the next item's
pub next_begins : {X : Type 0} (f : X → List ℕ) (xs : List X) (i : ℕ) (x : X) (base now : List ℕ) → i < length xs → x ≡ get_or xs i x → BeginsWith (flat_map f xs) base → IsPlacedAfter f xs base now i → BeginsWith (f x) now
next_begins {X} f xs i x base now h read begins stands =
    let e = stands begins.0 begins.1 in
    let split = ap (λ (ys : List X). flat_map f ys ++ begins.0) (drop_more xs i x h) in
    let P : X → Type 0 = λ y. now ≡ f y ++ (flat_map f (drop (i + 1) xs) ++ begins.0) in
    (flat_map f (drop (i + 1) xs) ++ begins.0, subst P (sym read) (e ∙ split ∙ append_assoc (f (get_or xs i x)) (flat_map f (drop (i + 1) xs)) begins.0))

-- one more item
pub stands_more : {X : Type 0} (f : X → List ℕ) (xs : List X) (i : ℕ) (x : X) (base now next : List ℕ) → i < length xs → x ≡ get_or xs i x → IsPlacedAfter f xs base now i → HasRest (f x) now next → IsPlacedAfter f xs base next (i + 1)
stands_more {X} f xs i x base now next h read stands goes = λ rest e.
    let split = ap (λ (ys : List X). flat_map f ys ++ rest) (drop_more xs i x h) in
    let P : X → Type 0 = λ y. now ≡ f y ++ (flat_map f (drop (i + 1) xs) ++ rest) in
    goes (flat_map f (drop (i + 1) xs) ++ rest) (subst P (sym read) (stands rest e ∙ split ∙ append_assoc (f (get_or xs i x)) (flat_map f (drop (i + 1) xs)) rest))

-- the same, for an item that a loop read by its place
pub next_begins_at : {X : Type 0} (f : X → List ℕ) (xs items : List X) (i : ℕ) (d : X) (base now : List ℕ) → items ≡ xs → i < length items → d ≡ get_or items i d → BeginsWith (flat_map f xs) base → IsPlacedAfter f xs base now i → BeginsWith (f d) now
next_begins_at {X} f xs items i d base now same h read begins stands =
    let P : List X → Type 0 = λ ys. i < length ys → BeginsWith (f (get_or ys i d)) now in
    subst (λ (x : X). BeginsWith (f x) now) (sym read) (subst P (sym same) (λ low. next_begins f xs i (get_or xs i d) base now low (get_or_default xs i d (get_or xs i d) low) begins stands) h)

pub stands_more_at : {X : Type 0} (f : X → List ℕ) (xs items : List X) (i : ℕ) (d : X) (base now next : List ℕ) → items ≡ xs → i < length items → d ≡ get_or items i d → IsPlacedAfter f xs base now i → HasRest (f d) now next → IsPlacedAfter f xs base next (i + 1)
stands_more_at {X} f xs items i d base now next same h read stands goes =
    let P : List X → Type 0 = λ ys. i < length ys → HasRest (f (get_or ys i d)) now next → IsPlacedAfter f xs base next (i + 1) in
    subst P (sym same) (λ low on. stands_more f xs i (get_or xs i d) base now next low (get_or_default xs i d (get_or xs i d) low) stands on) h (subst (λ (x : X). HasRest (f x) now next) read goes)

pub read_at : {X : Type 0} (xs items : List X) (i : ℕ) (d : X) → items ≡ xs → i < length items → d ≡ get_or items i d → slice_get xs i ≡ Some d
read_at {X} xs items i d same h read = let P : List X → Type 0 = λ ys. slice_get ys i ≡ Some d in subst P same (slice_get-get_or items i d h ∙ ap (λ (x : X). Some x) (sym read))

-- all items
pub stands_all : {X : Type 0} (f : X → List ℕ) (xs : List X) (i : ℕ) (base now : List ℕ) → length xs ≤ i → IsPlacedAfter f xs base now i → HasRest (flat_map f xs) base now
stands_all {X} f xs i base now h stands = λ rest e. stands rest e ∙ ap (λ (ys : List X). flat_map f ys ++ rest) (drop_all i xs h)

-- what stands at the front, cut off
pub record CutOff (own bytes : List ℕ) (n : ℕ) : Type 0 where
  pub within : n ≤ length bytes
  pub front : take n bytes ≡ own
  pub back : HasRest own bytes (drop n bytes)

pub cut_off : (own bytes : List ℕ) (n : ℕ) → length own ≡ n → BeginsWith own bytes → CutOff own bytes n
cut_off own bytes n long begins = record {
  within = let e = ap length begins.1 ∙ length-append own begins.0 in omega (arith, e, long);
  front = ap (take n) begins.1 ∙ take_at own begins.0 n long;
  back = λ rest e. ap (drop n) e ∙ drop_at own rest n long;
}

-- ---- a section of the plan

-- section s of the plan owns these bytes, in that piece, and so many of them in each part
pub record Takes (l : Layout) (s : InputSection) (owns : Bool) (own : List ℕ) (ps : List Piece) (inside : ℕ → List ℕ) : Type 0 where
  pub long : owns ≡ true → length own ≡ s.size
  pub none : owns ≡ false → own ≡ []
  pub ends : owns ≡ true → place_in l s + s.size ≤ image_size l
  pub there : owns ≡ true → s.part < length l.parts
  pub piece : ps ≡ (if owns then piece_at (place_in l s) own else [])
  pub part : (k : ℕ) → inside k ≡ (if owns then in_part k s.part own else [])

takes_none : (l : Layout) (s : InputSection) → Takes l s false [] [] (λ k. [])
takes_none l s = record {
  long = λ e. cc;
  none = λ e. refl;
  ends = λ e. cc;
  there = λ e. cc;
  piece = refl;
  part = λ k. refl;
}

-- by the section that stands for it
pub takes_for : (l : Layout) (f : File) (s t : InputSection) (owns : Bool) → StandsFor l s t owns → Takes l s owns (section_owned l f t) (section_piece l f t) (λ k. owned_in l f k t)
takes_for l f s t owns h = by owns (sym h.filled)
  where
    place_is : place_in l t ≡ place_in l s
    place_is = ap (λ (n : ℕ). offset_in (slice_get l.parts n) t.address) h.part ∙ ap (λ (n : ℕ). offset_in (slice_get l.parts s.part) n) h.address

    by : (b : Bool) → is_filled l t ≡ b → Takes l s b (section_owned l f t) (section_piece l f t) (λ k. owned_in l f k t)
    by true filled = record {
      long = λ e. rw filled (h.lies.long filled f ∙ h.size);
      none = λ e. cc;
      ends = λ e. (let n = (h.lies.owner filled).ends in let p = place_is in let z = h.size in omega (arith, n, p, z));
      there = λ e. (let n = h.lies.part in let p = h.part in omega (arith, n, p));
      piece = rw filled (ap (λ (n : ℕ). piece_at n (section_bytes l f t)) place_is);
      part = λ k. rw filled (ap (λ (n : ℕ). in_part k n (section_bytes l f t)) h.part);
    }
    by false filled = record {
      long = λ e. cc;
      none = λ e. rw filled refl;
      ends = λ e. cc;
      there = λ e. cc;
      piece = rw filled refl;
      part = λ k. rw filled refl;
    }

-- of a section of a file
pub takes_ranged : (l : Layout) (f : File) (s : InputSection) → RangedLies l f s → Takes l s (ranged_room l s) (ranged_owned l f s) (ranged_piece l f s) (λ k. ranged_in l f k s)
takes_ranged l f s lies =
    elim (cases_Bool (has_range s.slot)) [
      | inl t ↦ rw t (takes_for l f s (placed_in_range l f s) (ranged_room l s) (ranged_stands l f s lies t))
      | inr n ↦ (let e = ranged_none l s n in rw (n, e) (takes_none l s))
    ]

-- of one that is named among the sorted ones
pub takes_sorted : (l : Layout) (x : SortedSection) (f : File) (s : InputSection) → sorted_input l x ≡ one_input l f s ∷ [] → SortedLies l x → Takes l s (has_room l s) (sorted_owned l x) (sorted_pieces l x) (λ k. sorted_in l k x)
takes_sorted l x f s is lies =
    let t = with_word_order (as_loaded (unread l s)) in
    let h = takes_for l f s t (has_room l s) (sorted_stands l s (one_lies l x f s is lies)) in
    record {
      long = λ e. ap length (one_owned l x f s is) ∙ h.long e;
      none = λ e. one_owned l x f s is ∙ h.none e;
      ends = h.ends;
      there = h.there;
      piece = one_piece l x f s is ∙ h.piece ∙ ap (λ (bs : List ℕ). if has_room l s then piece_at (place_in l s) bs else []) (sym (one_owned l x f s is));
      part = λ k. one_in l k x f s is ∙ h.part k ∙ ap (λ (bs : List ℕ). if has_room l s then in_part k s.part bs else []) (sym (one_owned l x f s is));
    }

-- what is taken of bytes that begin with its own: they are put where the piece is, those of its part, and behind them stand the others
pub record Taken (l : Layout) (s : InputSection) (owns : Bool) (own bytes : List ℕ) (ps : List Piece) (inside : ℕ → List ℕ) : Type 0 where
  pub within : owns ≡ true → s.size ≤ length bytes
  pub ends : owns ≡ true → place_in l s + s.size ≤ image_size l
  pub there : owns ≡ true → s.part < length l.parts
  pub put : (out : List ℕ) → (if owns then place_in_prefix (place_in l s) (take s.size bytes) out else out) ≡ overlay_prefix ps out
  pub rest : HasRest own bytes (if owns then drop s.size bytes else bytes)
  pub part : (k : ℕ) → (if owns then in_part k s.part (take s.size bytes) else []) ≡ inside k

pub taken : (l : Layout) (s : InputSection) (owns : Bool) (own bytes : List ℕ) (ps : List Piece) (inside : ℕ → List ℕ) → Takes l s owns own ps inside → BeginsWith own bytes → Taken l s owns own bytes ps inside
taken l s true own bytes ps inside h begins =
    let cut = cut_off own bytes s.size (h.long refl) begins in
    record {
      within = λ e. cut.within;
      ends = h.ends;
      there = h.there;
      put = λ out. ap (λ (bs : List ℕ). place_in_prefix (place_in l s) bs out) cut.front ∙ sym (ap (λ (qs : List Piece). overlay_prefix qs out) h.piece);
      rest = cut.back;
      part = λ k. ap (in_part k s.part) cut.front ∙ sym (h.part k);
    }
taken l s false own bytes ps inside h begins = record {
  within = λ e. cc;
  ends = h.ends;
  there = h.there;
  put = λ out. sym (ap (λ (qs : List Piece). overlay_prefix qs out) h.piece);
  rest = λ rest e. e ∙ ap (λ (bs : List ℕ). bs ++ rest) (h.none refl);
  part = λ k. sym (h.part k);
}

-- of a section of a file
pub ranged_taken : (l : Layout) (f : File) (s : InputSection) (owns : Bool) (bytes : List ℕ) → RangedLies l f s → owns ≡ ranged_room l s → BeginsWith (ranged_owned l f s) bytes
    → Taken l s owns (ranged_owned l f s) bytes (ranged_piece l f s) (λ k. ranged_in l f k s)
ranged_taken l f s owns bytes lies is begins =
    subst (λ (b : Bool). Taken l s b (ranged_owned l f s) bytes (ranged_piece l f s) (λ k. ranged_in l f k s)) (sym is)
    (taken l s (ranged_room l s) (ranged_owned l f s) bytes (ranged_piece l f s) (λ k. ranged_in l f k s) (takes_ranged l f s lies) begins)

-- of one that is named among the sorted ones
pub sorted_taken : (l : Layout) (x : SortedSection) (f : File) (s : InputSection) (owns : Bool) (bytes : List ℕ) → sorted_input l x ≡ one_input l f s ∷ [] → SortedLies l x → owns ≡ has_room l s → BeginsWith (sorted_owned l x) bytes
    → Taken l s owns (sorted_owned l x) bytes (sorted_pieces l x) (λ k. sorted_in l k x)
sorted_taken l x f s owns bytes found lies is begins =
    subst (λ (b : Bool). Taken l s b (sorted_owned l x) bytes (sorted_pieces l x) (λ k. sorted_in l k x)) (sym is)
    (taken l s (has_room l s) (sorted_owned l x) bytes (sorted_pieces l x) (λ k. sorted_in l k x) (takes_sorted l x f s found lies) begins)

-- the bytes of the thunk, put
pub thunk_appended : (l : Layout) (t : Thunk) (at : ℕ) (own out next : List ℕ) → at ≡ thunk_offset l t → own ≡ thunk_bytes l t → next ≡ place_in_prefix at own out → next ≡ overlay_prefix (thunk_piece l t) out
thunk_appended l t at own out next is bytes e = e ∙ ap (λ (n : ℕ). place_in_prefix n own out) is ∙ ap (λ (r : List ℕ). place_in_prefix (thunk_offset l t) r out) bytes

-- ---- what is written unless a section is hollow

-- the thunks of a file that are written
abbrev pub thunks_written : Layout → File → List ℕ
thunks_written l f = unless_omitted l l.primary_part (file_thunks l f)

pub none_written : {X : Type 0} (l : Layout) (part : ℕ) (xs : List X) → is_header_only_part l part ≡ true → unless_omitted l part xs ≡ []
none_written l part xs header_only = ap (λ (b : Bool). if b then [] else xs) header_only

pub all_written : {X : Type 0} (l : Layout) (part : ℕ) (xs : List X) → is_header_only_part l part ≡ false → unless_omitted l part xs ≡ xs
all_written l part xs written = ap (λ (b : Bool). if b then [] else xs) written

-- ---- what stands one behind the other

-- two lists begin with the first
pub both_begin : (xs ys bytes : List ℕ) → BeginsWith (xs ++ ys) bytes → BeginsWith xs bytes
both_begin xs ys bytes begins = (ys ++ begins.0, begins.1 ∙ append_assoc xs ys begins.0)

-- and go on with the second
pub both_go_on : (xs ys bytes rest : List ℕ) → BeginsWith (xs ++ ys) bytes → HasRest xs bytes rest → BeginsWith ys rest
both_go_on xs ys bytes rest begins goes = (begins.0, goes (ys ++ begins.0) (begins.1 ∙ append_assoc xs ys begins.0))

-- behind the second stands what stands behind both
pub both_end : (xs ys bytes between rest : List ℕ) → HasRest xs bytes between → HasRest ys between rest → HasRest (xs ++ ys) bytes rest
both_end xs ys bytes between rest first second = λ after e. second after (first (ys ++ after) (e ∙ append_assoc xs ys after))

-- bytes that are all of some items begin with those
pub begins_all : (own bytes : List ℕ) → bytes ≡ own → BeginsWith own bytes
begins_all own bytes is = ([], is ∙ sym (append-nil own))

-- what holds of each item, of one that a loop read
pub lies_read : {X : Type 0} (P : X → Type 0) (xs : List X) (i : ℕ) (x : X) → i < length xs → x ≡ get_or xs i x → All P xs → P x
lies_read P xs i x low read all = subst P (sym read) (all i x low)

-- ---- the same of an item that a loop copied

pub lies_at : {X : Type 0} (P : X → Type 0) (xs items : List X) (i : ℕ) (d : X) → items ≡ xs → i < length items → All P xs → P (get_or items i d)
lies_at {X} P xs items i d same h all =
    let Q : List X → Type 0 = λ ys. i < length ys → P (get_or ys i d) in
    subst Q (sym same) (λ low. all i d low) h

pub begins_at : {X : Type 0} (f : X → List ℕ) (xs items : List X) (i : ℕ) (d : X) (base now : List ℕ) → items ≡ xs → i < length items → BeginsWith (flat_map f xs) base → IsPlacedAfter f xs base now i → BeginsWith (f (get_or items i d)) now
begins_at {X} f xs items i d base now same h begins stands =
    let Q : List X → Type 0 = λ ys. i < length ys → BeginsWith (f (get_or ys i d)) now in
    subst Q (sym same) (λ low. next_begins f xs i (get_or xs i d) base now low (get_or_default xs i d (get_or xs i d) low) begins stands) h

pub stands_at : {X : Type 0} (f : X → List ℕ) (xs items : List X) (i : ℕ) (d : X) (base now next : List ℕ) → items ≡ xs → i < length items → IsPlacedAfter f xs base now i → HasRest (f (get_or items i d)) now next → IsPlacedAfter f xs base next (i + 1)
stands_at {X} f xs items i d base now next same h stands goes =
    let Q : List X → Type 0 = λ ys. i < length ys → HasRest (f (get_or ys i d)) now next → IsPlacedAfter f xs base next (i + 1) in
    subst Q (sym same) (λ low on. stands_more f xs i (get_or xs i d) base now next low (get_or_default xs i d (get_or xs i d) low) stands on) h goes

pub overlay_prefix_at : {X : Type 0} (f : X → List Piece) (xs items : List X) (i : ℕ) (d : X) (base now next : List ℕ) → items ≡ xs → i < length items → now ≡ overlay_prefix (flat_map f (take i xs)) base → next ≡ overlay_prefix (f (get_or items i d)) now → next ≡ overlay_prefix (flat_map f (take (i + 1) xs)) base
overlay_prefix_at {X} f xs items i d base now next same h before more =
    let Q : List X → Type 0 = λ ys. i < length ys → next ≡ overlay_prefix (f (get_or ys i d)) now → next ≡ overlay_prefix (flat_map f (take (i + 1) xs)) base in
    subst Q (sym same) (λ low step. overlay_prefix-more f xs i d base now next low before step) h more
