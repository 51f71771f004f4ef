-- Laws of batches: groups that are cut, and what comes of all batches.
use Rattle.wild_image.proofs.Common.{◌≡◌, ℕ, zero, suc, ◌+◌, ◌<◌, ◌≤◌, List, [], ◌∷◌, ◌++◌, map, length, take, drop, get_or, refl, sym, ap, ◌∙◌, arith, subst, All, Some, slice_get, flat_map, append_assoc, append-nil, drop_more, length-append, take_more, length-take-le, slice_get-get_or, Piece, overlay_prefix, Error, Group, Layout, Refuses, total, flat_map_from, holds_at, HasStarts, AreBatches, Batch}
use Rattle.std.proofs.lemmas.List.{drop-drop, drop_at}
use Rattle.wild_image.specs.Batches.{firsts, IsWithin}
use Rattle.wild_sections.proofs.FaultLemmas.{flat_map_from-append, one_from}
use Rattle.wild_types.proofs.ListLemmas.{total-append}
use Rattle.wild_image.proofs.PrefixLemmas.{overlay_prefix-append}

-- one more item's pieces
pub overlay_prefix_behind : {X : Type 0} (f : ℕ → X → List Piece) (n i : ℕ) (xs : List X) (x : X) (base now next : List ℕ) → i < length xs → x ≡ get_or xs i x → now ≡ overlay_prefix (flat_map_from f n (take i xs)) base → next ≡ overlay_prefix (f (n + i) x) now → next ≡ overlay_prefix (flat_map_from f n (take (i + 1) xs)) base
overlay_prefix_behind f n i xs x base now next h read e s =
    s ∙ ap (overlay_prefix (f (n + i) x)) e ∙ sym (overlay_prefix-append (flat_map_from f n (take i xs)) (f (n + i) x) base) ∙ ap (λ (ps : List Piece). overlay_prefix ps base) (sym (one_from f n i xs x h read))

-- ---- groups that are cut, seen from the front

-- the batch is the front of these groups, of which the first has number i
pub record IsFront (i : ℕ) (gs : List Group) (b : Batch) : Type 0 where
  pub first : b.first ≡ i
  pub groups : gs ≡ b.groups.now ++ drop (length b.groups.now) gs

-- the batches are these groups, counted from i on
abbrev pub AreCut : ℕ → List Group → List Batch → Type 0
AreCut i gs [] = gs ≡ []
AreCut i gs (b ∷ bs) = IsFront i gs b × AreCut (i + length b.groups.now) (drop (length b.groups.now) gs) bs

cut_from : (i : ℕ) (gs : List Group) (bs : List Batch) → flat_map (λ (b : Batch). b.groups.now) bs ≡ gs → map (λ (b : Batch). b.first) bs ≡ firsts i bs → AreCut i gs bs
cut_from i gs [] g n = sym g
cut_from i gs (b ∷ bs) g n =
    let own = b.groups.now in
    let d : drop (length own) gs ≡ flat_map (λ (c : Batch). c.groups.now) bs = ap (drop (length own)) (sym g) ∙ drop_at own (flat_map (λ (c : Batch). c.groups.now) bs) (length own) refl in
    let first : b.first ≡ i = cc in
    let later : map (λ (c : Batch). c.first) bs ≡ firsts (i + length own) bs = cc in
    (record { first = first; groups = sym g ∙ ap (λ (r : List Group). own ++ r) (sym d) }, cut_from (i + length own) (drop (length own) gs) bs (sym d) later)

pub cut_of : (gs : List Group) (bs : List Batch) → AreBatches gs bs → AreCut 0 gs bs
cut_of gs bs h = cut_from 0 gs bs h.groups h.numbers

cut_to : (i : ℕ) (gs : List Group) (bs : List Batch) → AreCut i gs bs → (flat_map (λ (b : Batch). b.groups.now) bs ≡ gs) × (map (λ (b : Batch). b.first) bs ≡ firsts i bs)
cut_to i gs [] h = (sym h, refl)
cut_to i gs (b ∷ bs) h =
    let own = b.groups.now in
    let r = cut_to (i + length own) (drop (length own) gs) bs h.1 in
    let first = h.0.first in
    let later = r.1 in
    (ap (λ (xs : List Group). own ++ xs) r.0 ∙ sym h.0.groups, cc)

-- ---- all batches give what all groups do

pub joined : {Y : Type 0} (f : ℕ → Group → List Y) (n : ℕ) (gs : List Group) (bs : List Batch) → AreCut n gs bs → flat_map_from f n gs ≡ flat_map (λ (b : Batch). flat_map_from f b.first b.groups.now) bs
joined f n gs [] h = rw h refl
joined {Y} f n gs (b ∷ bs) h =
    let own = b.groups.now in
    let rest = drop (length own) gs in
    ap (flat_map_from f n) h.0.groups
    ∙ flat_map_from-append f n own rest
    ∙ ap (λ (r : List Y). flat_map_from f n own ++ r) (joined f (n + length own) rest bs h.1)
    ∙ ap (λ (k : ℕ). flat_map_from f k own ++ flat_map (λ (c : Batch). flat_map_from f c.first c.groups.now) bs) (sym h.0.first)

pub total_joined : (t : Group → ℕ) (n : ℕ) (gs : List Group) (bs : List Batch) → AreCut n gs bs → total t gs ≡ total (λ (b : Batch). total t b.groups.now) bs
total_joined t n gs [] h = rw h refl
total_joined t n gs (b ∷ bs) h =
    let own = b.groups.now in
    let rest = drop (length own) gs in
    let e = ap (total t) h.0.groups in
    let a = total-append t own rest in
    let r = total_joined t (n + length own) rest bs h.1 in
    omega (arith, e, a, r)

-- ---- where a batch's groups stand

get-append : {X : Type 0} (xs ys : List X) (j : ℕ) (x : X) → slice_get xs j ≡ Some x → slice_get (xs ++ ys) j ≡ Some x
get-append [] ys zero x m = cc
get-append [] ys (suc j) x m = cc
get-append (y ∷ xs) ys zero x m = m
get-append (y ∷ xs) ys (suc j) x m = get-append xs ys j x m

get-drop : {X : Type 0} (i j : ℕ) (xs : List X) (x : X) → slice_get (drop i xs) j ≡ Some x → slice_get xs (i + j) ≡ Some x
get-drop zero j xs x m = let z : 0 + j ≡ j = omega arith in rw z m
get-drop (suc i) zero [] x m = cc
get-drop (suc i) (suc j) [] x m = cc
get-drop (suc i) j (y ∷ xs) x m = let z : suc i + j ≡ suc (i + j) = omega arith in rw z (get-drop i j xs x m)

front_within : (all gs : List Group) (i : ℕ) (b : Batch) → gs ≡ drop i all → IsFront i gs b → IsWithin all b
front_within all gs i b e h = λ j g m.
    let here : slice_get gs j ≡ Some g = ap (λ (xs : List Group). slice_get xs j) h.groups ∙ get-append b.groups.now (drop (length b.groups.now) gs) j g m in
    let there : slice_get (drop i all) j ≡ Some g = ap (λ (xs : List Group). slice_get xs j) (sym e) ∙ here in
    ap (λ (n : ℕ). slice_get all (n + j)) h.first ∙ get-drop i j all g there

pub batches_within : (all gs : List Group) (i : ℕ) (bs : List Batch) (k : ℕ) (b : Batch) → gs ≡ drop i all → AreCut i gs bs → slice_get bs k ≡ Some b → IsWithin all b
batches_within all gs i [] zero b e h at = cc
batches_within all gs i [] (suc k) b e h at = cc
batches_within all gs i (c ∷ bs) zero b e h at = let same : c ≡ b = cc in subst (IsWithin all) same (front_within all gs i c e h.0)
batches_within all gs i (c ∷ bs) (suc k) b e h at =
    let n = length c.groups.now in
    batches_within all (drop n gs) (i + n) bs k b (ap (drop n) e ∙ drop-drop n i all) h.1 at

-- a batch ends within the groups
pub batches_end : (gs : List Group) (i : ℕ) (bs : List Batch) (k : ℕ) (b : Batch) → AreCut i gs bs → slice_get bs k ≡ Some b → b.first + length b.groups.now ≤ i + length gs
batches_end gs i [] zero b h at = cc
batches_end gs i [] (suc k) b h at = cc
batches_end gs i (c ∷ bs) zero b h at =
    let same : c ≡ b = cc in
    let first = h.0.first in
    let long = ap length h.0.groups ∙ length-append c.groups.now (drop (length c.groups.now) gs) in
    subst (λ (x : Batch). x.first + length x.groups.now ≤ i + length gs) same (omega (arith, first, long))
batches_end gs i (c ∷ bs) (suc k) b h at =
    let n = length c.groups.now in
    let long = ap length h.0.groups ∙ length-append c.groups.now (drop n gs) in
    let rest = batches_end (drop n gs) (i + n) bs k b h.1 at in
    omega (arith, long, rest)

-- what holds of all groups holds of those of a batch
pub holds_within : (P : Group → Type 0) (all : List Group) (b : Batch) → IsWithin all b → All P all → All P b.groups.now
holds_within P all b within h = λ k d low.
    let g = get_or b.groups.now k d in
    holds_at P all (b.first + k) g (within k g (slice_get-get_or b.groups.now k d low)) h

-- what holds of each batch's groups, by their numbers, holds of all groups
in_front : (F : ℕ → Group → Type 0) (own rest : List Group) (n j m : ℕ) (g : Group) → m ≡ n + j → slice_get (own ++ rest) j ≡ Some g → ((i k : ℕ) (x : Group) → k ≡ n + i → slice_get own i ≡ Some x → F k x) → ((i k : ℕ) (x : Group) → k ≡ n + length own + i → slice_get rest i ≡ Some x → F k x) → F m g
in_front F [] rest n j m g e at here later = later j m g (omega (arith, e)) at
in_front F (x ∷ own) rest n zero m g e at here later = here 0 m g e at
in_front F (x ∷ own) rest n (suc j) m g e at here later =
    in_front F own rest (n + 1) j m g (omega (arith, e)) at (λ i k y f a. here (suc i) k y (omega (arith, f)) a) (λ i k y f a. later i k y (omega (arith, f)) a)

pub holds_of_all : (F : ℕ → Group → Type 0) (n : ℕ) (gs : List Group) (bs : List Batch) → AreCut n gs bs → ((i : ℕ) (b : Batch) → slice_get bs i ≡ Some b → (j : ℕ) (g : Group) → slice_get b.groups.now j ≡ Some g → F (b.first + j) g) → (j m : ℕ) (g : Group) → m ≡ n + j → slice_get gs j ≡ Some g → F m g
holds_of_all F n gs [] h each j m g e at = (let none : slice_get [] j ≡ Some g = subst (λ (xs : List Group). slice_get xs j ≡ Some g) h at in cc)
holds_of_all F n gs (b ∷ bs) h each j m g e at =
    let own = b.groups.now in
    let first = h.0.first in
    let split : slice_get (own ++ drop (length own) gs) j ≡ Some g = subst (λ (xs : List Group). slice_get xs j ≡ Some g) h.0.groups at in
    in_front F own (drop (length own) gs) n j m g e split
    (λ i k x f a. (let same : b.first + i ≡ k = omega (arith, first, f) in subst (λ (q : ℕ). F q x) same (each 0 b refl i x a)))
    (λ i k x f a. holds_of_all F (n + length own) (drop (length own) gs) bs h.1 (λ q c d. each (suc q) c d) i k x f a)

-- ---- groups that are cut, batch after batch

-- with whatever batches of the rest, these are batches of all
abbrev pub IsCut : List Group → List Batch → ℕ → List Group → Type 0
IsCut gs bs i rest = (later : List Batch) → AreCut i rest later → AreCut 0 gs (bs ++ later)

pub cut_more : (gs own next rest : List Group) (bs : List Batch) (i n : ℕ) (b : Batch) → rest ≡ own ++ next → b.first ≡ i → b.groups.now ≡ own → n ≡ i + length own → IsCut gs bs i rest → IsCut gs (bs ++ b ∷ []) n next
cut_more gs own next rest bs i n b split first groups moved so_far = λ later h.
    let d : drop (length own) rest ≡ next = ap (drop (length own)) split ∙ drop_at own next (length own) refl in
    let F : List Group → Type 0 = λ xs. rest ≡ xs ++ drop (length xs) rest in
    let front : F b.groups.now = subst F (sym groups) (split ∙ ap (λ (r : List Group). own ++ r) (sym d)) in
    let A : List Group → Type 0 = λ xs. AreCut (i + length xs) (drop (length xs) rest) later in
    let there : AreCut (i + length own) next later = subst (λ (k : ℕ). AreCut k next later) moved h in
    let behind : A b.groups.now = subst A (sym groups) (subst (λ (r : List Group). AreCut (i + length own) r later) (sym d) there) in
    rw (append_assoc bs (b ∷ []) later) (so_far (b ∷ later) (record { first = first; groups = front }, behind))

pub cut_done : (gs rest : List Group) (bs : List Batch) (i : ℕ) → length rest ≡ 0 → IsCut gs bs i rest → AreBatches gs bs
cut_done gs rest bs i none so_far =
    let all = cut_to 0 gs bs (subst (AreCut 0 gs) (append-nil bs) (so_far [] (nothing rest none))) in
    record { groups = all.0; numbers = all.1 }
  where
    nothing : (xs : List Group) → length xs ≡ 0 → xs ≡ []
    nothing [] h = refl
    nothing (x ∷ xs) h = absurd (omega arith)

-- ---- batches that are put into the image, one after another

-- batch k begins with the group that the starts stand before
pub record IsNext (l : Layout) (bs : List Batch) (k : ℕ) (now : List ℕ) : Type 0 where
  pub number : ℕ
  pub groups : List Group
  pub batches : AreCut number groups (drop k bs)
  pub starts : HasStarts l number now

pub next_starts : (l : Layout) (bs : List Batch) (k : ℕ) (b : Batch) (starts : List ℕ) → k < length bs → b ≡ get_or bs k b → IsNext l bs k starts → HasStarts l b.first starts
next_starts l bs k b starts low read h =
    let P : List Batch → Type 0 = λ xs. AreCut h.number h.groups xs in
    let cut : P (get_or bs k b ∷ drop (k + 1) bs) = subst P (drop_more bs k b low) h.batches in
    let first : b.first ≡ h.number = ap (λ (x : Batch). x.first) read ∙ cut.0.first in
    subst (λ (n : ℕ). HasStarts l n starts) (sym first) h.starts

pub next_more : (l : Layout) (bs : List Batch) (k : ℕ) (b : Batch) (starts later : List ℕ) → k < length bs → b ≡ get_or bs k b → IsNext l bs k starts → HasStarts l (b.first + length b.groups.now) later → IsNext l bs (k + 1) later
next_more l bs k b starts later low read h moved =
    let P : List Batch → Type 0 = λ xs. AreCut h.number h.groups xs in
    let cut : P (get_or bs k b ∷ drop (k + 1) bs) = subst P (drop_more bs k b low) h.batches in
    let first : b.first ≡ h.number = ap (λ (x : Batch). x.first) read ∙ cut.0.first in
    let long : length b.groups.now ≡ length (get_or bs k b).groups.now = ap (λ (x : Batch). length x.groups.now) read in
    record {
      number = h.number + length (get_or bs k b).groups.now;
      groups = drop (length (get_or bs k b).groups.now) h.groups;
      batches = cut.1;
      starts = subst (λ (n : ℕ). HasStarts l n later) (let e : b.first + length b.groups.now ≡ h.number + length (get_or bs k b).groups.now = omega (arith, first, long) in e) moved;
    }

pub next_first : (l : Layout) (bs : List Batch) (starts : List ℕ) → AreCut 0 l.groups bs → HasStarts l 0 starts → IsNext l bs 0 starts
next_first l bs starts h s = record { number = 0; groups = l.groups; batches = h; starts = s }
