-- Entries whose changes are known are applied.
use Rattle.std.proofs.Common.{◌≡◌, ℕ, zero, suc, ◌+◌, ◌<◌, List, [], ◌∷◌, ◌++◌, length, get_or, map, refl, sym, ap, ◌∙◌, arith, subst, add-zero}
use Rattle.std.specs.Prelude.{All, AllPairs, Contains, Option, Some, None, Result, Ok, Err, is_some, ◌%◌, ◌^◌}
use Rattle.std.proofs.lemmas.List.{append_assoc, append-nil, length-append, get_or_append_left, map-append, length-map, get_or-map}
use Rattle.std.proofs.lemmas.List.Elements.{All-head, All-tail, Contains-append_left, Contains-append_right}
use Rattle.wild_records.specs.declared.relocations.Rela.{Rela}
use Rattle.wild_loader.specs.declared.memory.Run.{Run}
use Rattle.wild_loader.specs.declared.memory.Memory.{Memory}
use Rattle.wild_loader.specs.declared.world.World.{World}
use Rattle.wild_loader.specs.declared.change.Patch.{Patch}
use Rattle.wild_loader.specs.declared.tables.Tables.{Tables}
use Rattle.wild_words.specs.Words.{number}
use Rattle.wild_words.proofs.WordLemmas.{length-word}
use Rattle.wild_loader.specs.declared.fault.LoadFault.{LoadFault}
use Rattle.wild_loader.specs.declared.fault.LoadFault.TheVariants as faults
use Rattle.wild_loader.specs.declared.change.Change.{Change}
use Rattle.wild_loader.specs.declared.change.Change.TheVariants as changes
use Rattle.wild_loader.specs.Outcome.{◌>>=◌, known}
use Rattle.wild_loader.specs.Memory.{byte_in, Holds}
use Rattle.wild_loader.specs.Runs.{least_shared, read_bytes}
use Rattle.wild_loader.specs.Places.{places}
use Rattle.wild_loader.specs.Changes.{patch_at, patch_over, bytes_after, size_of, kind_of, change_of}
use Rattle.wild_loader.specs.Relocate.{rela_patch, place_patch, add_all, runs_of_patches, apart, relocate, memory_with_patches, loaded_at}
use Rattle.wild_loader.specs.SegmentLaws.{DoesNotOverlap, IsLoaded}
use Rattle.wild_loader.specs.EntryLaws.{ChangesAreMade, PlacesAddBase, EntriesMakeChanges, HasMade, patches_of, TablesAreApplied, OrderDoesNotMatter}
use Rattle.wild_loader.proofs.SegmentLemmas.{shared_with-none}
use Rattle.wild_loader.proofs.OverlaidBytes.{apart-rest, parts-held, others-kept}
use Rattle.wild_words.specs.Extents.{least_extent}
use Rattle.wild_loader.proofs.RunLemmas.{runs-order, runs-apart}
use Rattle.wild_loader.proofs.HeldBytes.{held-first, held-rest}

-- ---- one entry

pub read-held : (m : Memory) (a : ℕ) (bs : List ℕ) → Holds m a bs → read_bytes m a (length bs) ≡ Ok bs
unfolding read_bytes
read-held m a [] h = refl
read-held m a (b ∷ bs) h = rw (held-first m a b bs h, read-held m (a + 1) bs (held-rest m a b bs h)) refl

pub change-made : ChangesAreMade
unfolding patch_at
change-made m place c old h n =
    let read = read-held m place old h in
    let same = rw n at read in
    rw same refl

pub place-moved : PlacesAddBase
unfolding place_patch
place-moved w m place old h n = change-made m (loaded_at w place) _ old h n

pub entry-changed : EntriesMakeChanges
unfolding rela_patch
entry-changed w before r kind c old is change h n = rw (is, change) (change-made before (loaded_at w r.offset) c old h n)

-- ---- entries

all-made : {X : Type 0} (make : X → Result Patch LoadFault) (f : X → Patch) (xs : List X) (acc : List Patch) → All (λ x. make x ≡ Ok (f x)) xs → add_all make xs acc ≡ Ok (acc ++ map f xs)
unfolding add_all
all-made make f [] acc made = rw append-nil refl
all-made make f (x ∷ xs) acc made =
    let head = All-head (λ x. make x ≡ Ok (f x)) x xs made in
    let rest = all-made make f xs (acc ++ f x ∷ []) (All-tail (λ x. make x ≡ Ok (f x)) x xs made) in
    rw head (rest ∙ ap Ok (append_assoc acc (f x ∷ []) (map f xs)))

-- ---- apart

pub none-shared : (runs : List Run) → AllPairs DoesNotOverlap runs → least_shared runs ≡ None
unfolding least_extent
none-shared [] h = refl
none-shared (r ∷ rs) h = rw (shared_with-none r rs (λ k d l. h 0 (suc k) d (omega arith) (omega arith)), none-shared rs (apart-rest r rs h)) refl

pairs-front : (xs ys : List Run) → AllPairs DoesNotOverlap (xs ++ ys) → AllPairs DoesNotOverlap xs
pairs-front xs ys h = λ i j d l m.
    let n = length-append xs ys in
    let a = get_or_append_left xs ys d i (omega arith) in
    let b = get_or_append_left xs ys d j m in
    let both = h i j d l (omega (arith, n)) in
    rw (a, b) at both

is-apart : (ps qs : List Patch) → AllPairs DoesNotOverlap (runs_of_patches (ps ++ qs)) → apart ps ≡ Ok ps
unfolding apart
is-apart ps qs h =
    let P : List Run → Type 0 = λ runs. AllPairs DoesNotOverlap runs in
    let both = subst P (map-append (λ (p : Patch). p.run) ps qs) h in
    rw (none-shared (runs_of_patches ps) (pairs-front (runs_of_patches ps) (runs_of_patches qs) both)) refl

tables-relocated : (w : World) (before : Memory) (t : Tables) (g : ℕ → Patch) (f : Rela → Patch) → HasMade w before t g f → AllPairs DoesNotOverlap (runs_of_patches (patches_of t g f)) → relocate w before t ≡ Ok (memory_with_patches before (patches_of t g f))
unfolding relocate
tables-relocated w before t g f made pairs =
    let a = map g (places t.words) in
    let b = map f t.entries in
    let c = map f t.jumps in
    let P : List Patch → Type 0 = λ ps. AllPairs DoesNotOverlap (runs_of_patches ps) in
    let one = all-made (place_patch w before) g (places t.words) [] made.words in
    let two = is-apart a (b ++ c) (subst P (append_assoc a b c) pairs) in
    let three = all-made (rela_patch w before) f t.entries a made.entries in
    let four = is-apart (a ++ b) c pairs in
    let five = all-made (rela_patch w before) f t.jumps (a ++ b) made.jumps in
    let six = is-apart (a ++ b ++ c) [] (subst P (sym (append-nil (a ++ b ++ c))) pairs) in
    rw (one, two, three, four, five, six) refl

-- ---- bytes that changes make

-- a change was made over loaded bytes, as many as it has
pub record MadeOver (before : Memory) (p : Patch) : Type 0 where
  pub old : List ℕ
  pub same : length old ≡ length p.run.bytes
  pub held : Holds before p.run.start old

known-some : {A : Type 0} (o : Option A) (e : LoadFault) (x : A) → known o e ≡ Ok x → o ≡ Some x
known-some None e x h = cc
known-some (Some y) e x h = cc

-- what a step gave, and what it gave to the next
pub record Stepped {A B : Type 0} (r : Result A LoadFault) (f : A → Result B LoadFault) (y : B) : Type 0 where
  pub value : A
  pub was : r ≡ Ok value
  pub next : f value ≡ Ok y

pub stepped : {A B : Type 0} (r : Result A LoadFault) (f : A → Result B LoadFault) (y : B) → (r >>= f) ≡ Ok y → Stepped r f y
stepped (Ok x) f y h = record { value = x; was = refl; next = h }
stepped (Err e) f y h = absurd cc

pub same-ok : {A : Type 0} (x y : A) → (let r : Result A LoadFault = Ok x in r) ≡ Ok y → x ≡ y
same-ok x y h = cc

-- bytes that were read are loaded
pub read-bytes : (m : Memory) (a n : ℕ) (bs : List ℕ) → read_bytes m a n ≡ Ok bs → (length bs ≡ n) × Holds m a bs
unfolding read_bytes
read-bytes m a zero bs h =
    let e : [] ≡ bs = same-ok [] bs h in
    let P : List ℕ → Type 0 = λ xs. (length xs ≡ 0) × Holds m a xs in
    subst P e (refl, λ k l. absurd (omega arith))
read-bytes m a (suc n) bs h =
    let one = stepped (known (byte_in m a) (faults.Unloaded (a % 2 ^ 64))) _ bs h in
    let two = stepped (read_bytes m (a + 1) n) _ bs one.next in
    let rest = read-bytes m (a + 1) n two.value two.was in
    let first = known-some (byte_in m a) _ one.value one.was in
    let P : List ℕ → Type 0 = λ xs. (length xs ≡ suc n) × Holds m a xs in
    subst P (same-ok (one.value ∷ two.value) bs two.next) ((let l = rest.0 in omega (arith, l)), held-cons m a one.value two.value first rest.1)
  where
    held-cons : (m : Memory) (a b : ℕ) (bs : List ℕ) → byte_in m a ≡ Some b → Holds m (a + 1) bs → Holds m a (b ∷ bs)
    held-cons m a b bs first rest zero l = ap (λ (x : ℕ). byte_in m x) (add-zero a) ∙ first
    held-cons m a b bs first rest (suc k) l = let e : a + suc k ≡ a + 1 + k = omega arith in ap (λ (x : ℕ). byte_in m x) e ∙ rest k (omega arith)

-- a change leaves as many bytes
pub length-after : (c : Change) (old : List ℕ) → length old ≡ size_of c → length (bytes_after c old) ≡ size_of c
length-after (changes.Word v) old e = length-word 8 v
length-after (changes.Half v) old e = length-word 4 v
length-after (changes.Fill bytes) old e = refl
length-after (changes.Add v) old e = length-word 8 ((number old + v) % 2 ^ 64)
length-after (changes.Descriptor o) old e = e

patch-over : (before : Memory) (place : ℕ) (c : Change) (p : Patch) → patch_at before place c ≡ Ok p → MadeOver before p
unfolding patch_at
patch-over before place c p h =
    let read = stepped (read_bytes before place (size_of c)) _ p h in
    let both = read-bytes before place (size_of c) read.value read.was in
    subst (MadeOver before) (same-ok (patch_over place c read.value) p read.next) (record { old = read.value; same = both.0 ∙ sym (length-after c read.value both.0); held = both.1 })

pub place-over : (w : World) (before : Memory) (x : ℕ) (p : Patch) → place_patch w before x ≡ Ok p → MadeOver before p
unfolding place_patch
place-over w before x p h = patch-over before (loaded_at w x) _ p h

pub rela-over : (w : World) (before : Memory) (r : Rela) (p : Patch) → rela_patch w before r ≡ Ok p → MadeOver before p
unfolding rela_patch
rela-over w before r p h =
    let kind = stepped (known (kind_of before.machine r.number) (faults.UnknownDynamic r.number)) _ p h in
    let change = stepped (change_of w kind.value r) _ p kind.next in
    patch-over before (loaded_at w r.offset) change.value p change.next

-- so they are loaded
over-loaded : (before : Memory) (p : Patch) → MadeOver before p → IsLoaded before p.run.start (length p.run.bytes)
over-loaded before p over = λ k l. let n = over.same in ap is_some (over.held k (omega (arith, n)))

-- the bytes of one of changes that are apart are held
pub patch-held : (before : Memory) (ps : List Patch) (p : Patch) → AllPairs DoesNotOverlap (runs_of_patches ps) → Contains ps p → MadeOver before p → Holds (memory_with_patches before ps) p.run.start p.run.bytes
patch-held before ps p apart c over = parts-held before (runs_of_patches ps) p.run apart (contains-run ps p c) (over-loaded before p over)
  where
    contains-run : (ps : List Patch) (p : Patch) → Contains ps p → Contains (runs_of_patches ps) p.run
    contains-run ps p c = (c.0, (let n = length-map ps (λ (q : Patch). q.run) in let l = c.1 in omega (arith, n, l)), get_or-map (λ (q : Patch). q.run) ps c.0 p p.run c.1 ∙ ap (λ (q : Patch). q.run) c.2)

in-map : {X : Type 0} (f : X → Patch) (xs : List X) (k : ℕ) (d : X) → k < length xs → Contains (map f xs) (f (get_or xs k d))
in-map f xs k d l = (k, (let n = length-map xs f in omega (arith, n, l)), get_or-map f xs k d (f (get_or xs k d)) l)

pub tables-applied : TablesAreApplied
tables-applied w before t g f made pairs =
    let a = map g (places t.words) in
    let b = map f t.entries in
    let c = map f t.jumps in
    record {
      is = tables-relocated w before t g f made pairs;
      words = λ k d l. patch-held before (a ++ b ++ c) (g (get_or (places t.words) k d)) pairs (Contains-append_left (a ++ b) c _ (Contains-append_left a b _ (in-map g (places t.words) k d l))) (place-over w before (get_or (places t.words) k d) _ (made.words k d l));
      entries = λ k d l. patch-held before (a ++ b ++ c) (f (get_or t.entries k d)) pairs (Contains-append_left (a ++ b) c _ (Contains-append_right a b _ (in-map f t.entries k d l))) (rela-over w before (get_or t.entries k d) _ (made.entries k d l));
      jumps = λ k d l. patch-held before (a ++ b ++ c) (f (get_or t.jumps k d)) pairs (Contains-append_right (a ++ b) c _ (in-map f t.jumps k d l)) (rela-over w before (get_or t.jumps k d) _ (made.jumps k d l));
      others = λ x out. others-kept before (runs_of_patches (a ++ b ++ c)) x out;
      descriptors = refl;
    }

pub order-free : OrderDoesNotMatter
order-free xs ys moved pairs = runs-apart ys (runs-order xs ys moved ∙ none-shared xs pairs)
