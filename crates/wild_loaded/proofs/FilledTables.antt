-- Tables whose fillings are known and lie beside each other make known changes, of which no two share a byte.
use Rattle.wild_loaded.proofs.Common.{◌≡◌, ℕ, ◌+◌, ◌-◌, ◌%◌, ◌^◌, ◌<◌, ◌≤◌, ◌⊎◌, inl, inr, List, [], ◌∷◌, ◌++◌, length, get_or, map, refl, sym, ap, ◌∙◌, arith, subst, append_assoc, All, AllPairs, Some, Ok, IsPermutation, nat_lt, max, min, flat_map, cases_Bool, cases_lt, map-append, All-map, All-nil, All-cons, All-head, All-tail, All-append, All-permutation, IsPermutation-trans, IsPermutation-map, IsPermutation-append, IsPermutation-append_right, AllPairs-cons, word, number, number-word, length-word, map-flat_map, AllPairs-nil, AllPairs-head, AllPairs-tail, flat_map-same, Rela, Change, DynamicKind, Memory, Run, Tables, World, kind_of, change_of, size_of, patch_over, Holds, places, loaded_at, DoesNotOverlap, OrderDoesNotMatter, patches_of, place_change, entry_change}
use Rattle.std.proofs.lemmas.Bool.{ltb-true}
use Rattle.wild_loader.specs.declared.change.Change.TheVariants as changes
use Rattle.wild_loader.specs.declared.change.Patch.{Patch}
use Rattle.wild_loader.specs.Memory.{number_in}
use Rattle.wild_loader.specs.Relocate.{rela_patch, place_patch, runs_of_patches}
use Rattle.wild_loader.specs.SegmentLaws.{IsOutsideRun}
use Rattle.wild_loader.specs.Laws.{NumbersAreRead}
use Rattle.wild_loader.specs.EntryLaws.{PlacesAddBase, EntriesMakeChanges, HasMade}
use Rattle.wild_loader.proofs.EntryLemmas.{length-after}
use Rattle.wild_loaded.specs.Words.{number_or, value_at, patch_or}
use Rattle.wild_loaded.proofs.Permuted.{flat_map-parts}
use Rattle.wild_loaded.proofs.Fillings.{Table, PackedTable, RelativeTable, GeneralTable, JumpTable, Filling, Misses, DoNotOverlap, HasChange, HasWord, Makes, IsKnown, loaded_is, packed_in, relative_in, general_in, jump_in}

-- ---- changes

-- what the loader's crate owes of changes
pub record ChangeLaws : Type 0 where
  pub read : NumbersAreRead
  pub moved : PlacesAddBase
  pub entries : EntriesMakeChanges
  pub order : OrderDoesNotMatter

-- the number that memory has at a place
pub value_is : (w : World) (m : Memory) (a n : ℕ) → NumbersAreRead → n < 2 ^ 64 → Holds m (loaded_at w a) (word 8 n) → value_at w m a ≡ n
value_is w m a n law fits held =
    let e : number_in m (loaded_at w a) (length (word 8 n)) ≡ Some (number (word 8 n)) = law m (loaded_at w a) (word 8 n) held in
    let e' = subst (λ (k : ℕ). number_in m (loaded_at w a) k ≡ Some (number (word 8 n))) (length-word 8 n) e in
    let e'' = subst (λ (k : ℕ). number_in m (loaded_at w a) 8 ≡ Some k) (number-word 8 n fits) e' in
    ap number_or e''

-- the change at a packed place
pub place_made : (w : World) (m : Memory) (a : ℕ) → ChangeLaws → HasWord w m a → place_patch w m a ≡ Ok (place_change w m a)
place_made w m a laws h =
    let made = laws.moved w m a (word 8 h.value) h.held (length-word 8 h.value) in
    let e = value_is w m a h.value laws.read h.fits h.held in
    made ∙ ap (λ (n : ℕ). Ok (patch_over (loaded_at w a) (changes.Add w.base) (word 8 n))) (sym e)

-- that of an entry, over the bytes that memory has
pub entry_made : (w : World) (m : Memory) (e : Rela) (kind : DynamicKind) (c : Change) (old : List ℕ) → ChangeLaws → kind_of m.machine e.number ≡ Some kind → change_of w kind e ≡ Ok c → Holds m (loaded_at w e.offset) old → length old ≡ size_of c
    → rela_patch w m e ≡ Ok (patch_over (loaded_at w e.offset) c old)
entry_made w m e kind c old laws known made held wide = laws.entries w m e kind c old known made held wide

pub entry_is : (w : World) (m : Memory) (e : Rela) (p : Patch) → rela_patch w m e ≡ Ok p → entry_change w m e ≡ p
entry_is w m e p h = ap patch_or h

pub entry_known : (w : World) (m : Memory) (e : Rela) (p : Patch) → rela_patch w m e ≡ Ok p → rela_patch w m e ≡ Ok (entry_change w m e)
entry_known w m e p h = h ∙ ap (λ (q : Patch). Ok q) (sym (entry_is w m e p h))

-- ---- runs

abbrev run_by : World → Memory → Table → Rela → Run
run_by w m PackedTable e = (place_change w m e.offset).run
run_by w m other e = (entry_change w m e).run

-- the bytes that a filling comes to
abbrev pub run_in : World → Memory → Filling → Run
run_in w m x = run_by w m x.table x.entry

pub record HasRun (w : World) (m : Memory) (x : Filling) : Type 0 where
  pub start : (run_in w m x).start ≡ loaded_at w x.entry.offset
  pub size : length (run_in w m x).bytes ≡ x.width

run_made : (w : World) (m : Memory) (x : Filling) (h : HasChange m.machine w x.entry x.width) (old : List ℕ) → ChangeLaws → length old ≡ x.width → Holds m (loaded_at w x.entry.offset) old → entry_change w m x.entry ≡ patch_over (loaded_at w x.entry.offset) h.change old
run_made w m x h old laws wide held = entry_is w m x.entry _ (entry_made w m x.entry h.kind h.change old laws h.known h.made held (wide ∙ sym h.size))

of_entry : (w : World) (m : Memory) (x : Filling) (h : HasChange m.machine w x.entry x.width) (old : List ℕ) → ChangeLaws → length old ≡ x.width → Holds m (loaded_at w x.entry.offset) old → ((entry_change w m x.entry).run.start ≡ loaded_at w x.entry.offset) × (length (entry_change w m x.entry).run.bytes ≡ x.width)
of_entry w m x h old laws wide held =
    let e = run_made w m x h old laws wide held in
    (ap (λ (q : Patch). q.run.start) e, ap (λ (q : Patch). length q.run.bytes) e ∙ length-after h.change old (wide ∙ sym h.size) ∙ h.size)

pub has_run : (w : World) (m : Memory) (x : Filling) → ChangeLaws → IsKnown w m x → HasRun w m x
has_run w m x laws h = by_table x.table x.entry x.width h.old h.wide h.held h.makes
  where
    by_table : (t : Table) (e : Rela) (n : ℕ) (old : List ℕ) → length old ≡ n → Holds m (loaded_at w e.offset) old → Makes w m t e n → HasRun w m (record { table = t; entry = e; width = n })
    by_table PackedTable e n old wide held h = record { start = refl; size = length-word 8 ((number (word 8 (value_at w m e.offset)) + w.base) % 2 ^ 64) ∙ sym h.0 }
    by_table RelativeTable e n old wide held h = let r = of_entry w m (record { table = RelativeTable; entry = e; width = n }) h old laws wide held in record { start = r.0; size = r.1 }
    by_table GeneralTable e n old wide held h = let r = of_entry w m (record { table = GeneralTable; entry = e; width = n }) h old laws wide held in record { start = r.0; size = r.1 }
    by_table JumpTable e n old wide held h = let r = of_entry w m (record { table = JumpTable; entry = e; width = n }) h old laws wide held in record { start = r.0; size = r.1 }

-- runs without a common address
pub runs_apart_by : (p q : Run) → ((k j : ℕ) → k < length p.bytes → j < length q.bytes → p.start + k ≡ q.start + j → ⊥) → DoesNotOverlap p q
runs_apart_by p q h =
    elim (cases_Bool (nat_lt (max p.start q.start) (min (p.start + length p.bytes) (q.start + length q.bytes)))) [
      | inr f ↦ rw f refl
      | inl t ↦ absurd (let lt = ltb-true (max p.start q.start) (min (p.start + length p.bytes) (q.start + length q.bytes)) t in by_start (cases_lt p.start q.start) lt)
    ]
  where
    by_start : (p.start < q.start) ⊎ (q.start ≤ p.start) → max p.start q.start < min (p.start + length p.bytes) (q.start + length q.bytes) → ⊥
    by_start (inl lt) both = h (q.start - p.start) 0 (omega (arith, lt, both)) (omega (arith, lt, both)) (omega (arith, lt))
    by_start (inr le) both = h 0 (p.start - q.start) (omega (arith, le, both)) (omega (arith, le, both)) (omega (arith, le))

both_apart : (w : World) (m : Memory) (x y : Filling) → ChangeLaws → IsKnown w m x → IsKnown w m y → DoNotOverlap x y → DoesNotOverlap (run_in w m x) (run_in w m y)
both_apart w m x y laws hx hy beside =
    let rx = has_run w m x laws hx in
    let ry = has_run w m y laws hy in
    let sx = rx.start in
    let sy = ry.start in
    let nx = rx.size in
    let ny = ry.size in
    runs_apart_by (run_in w m x) (run_in w m y) (λ k j lk lj e. (
    let lowx = loaded_is w x (omega (arith, lk, nx)) hx.low in
    let lowy = loaded_is w y (omega (arith, lj, ny)) hy.low in
    beside k (omega (arith, lk, nx)) j (omega (arith, lj, ny)) (omega (arith, e, sx, sy, lowx, lowy))))

pub runs_apart : (w : World) (m : Memory) (xs : List Filling) → ChangeLaws → All (IsKnown w m) xs → AllPairs DoNotOverlap xs → AllPairs DoesNotOverlap (map (run_in w m) xs)
runs_apart w m [] laws known beside = AllPairs-nil DoesNotOverlap
runs_apart w m (x ∷ xs) laws known beside =
    let first = All-head (IsKnown w m) x xs known in
    let rest = All-tail (IsKnown w m) x xs known in
    AllPairs-cons DoesNotOverlap (run_in w m x) (map (run_in w m) xs)
    (All-map (DoesNotOverlap (run_in w m x)) (run_in w m) xs (λ k d lt. both_apart w m x (get_or xs k d) laws first (rest k d lt) (AllPairs-head DoNotOverlap x xs beside k d lt)))
    (runs_apart w m xs laws rest (AllPairs-tail DoNotOverlap x xs beside))

-- ---- tables

-- the tables fill these, in some order; they lie beside each other, and what is filled is known
pub record AreSorted (w : World) (before : Memory) (t : Tables) (xs : List Filling) : Type 0 where
  pub packed : IsPermutation (flat_map packed_in xs) (places t.words)
  pub entries : IsPermutation (flat_map relative_in xs ++ flat_map general_in xs) t.entries
  pub jumps : IsPermutation (flat_map jump_in xs) t.jumps
  pub beside : AllPairs DoNotOverlap xs
  pub known : All (IsKnown w before) xs

abbrev place_run : World → Memory → ℕ → Run
place_run w m a = (place_change w m a).run

abbrev entry_run : World → Memory → Rela → Run
entry_run w m e = (entry_change w m e).run

map-map : {X Y Z : Type 0} (g : Y → Z) (f : X → Y) (xs : List X) → map g (map f xs) ≡ map (λ x. g (f x)) xs
map-map g f [] = refl
map-map g f (x ∷ xs) = ap (λ zs. g (f x) ∷ zs) (map-map g f xs)

map-one : {X Y : Type 0} (f : X → Y) (xs : List X) → map f xs ≡ flat_map (λ x. f x ∷ []) xs
map-one f [] = refl
map-one f (x ∷ xs) = ap (λ ys. f x ∷ ys) (map-one f xs)

-- the run of a filling is that of its table
one_table : (w : World) (m : Memory) (x : Filling) → run_in w m x ∷ [] ≡ map (place_run w m) (packed_in x) ++ (map (entry_run w m) (relative_in x) ++ (map (entry_run w m) (general_in x) ++ map (entry_run w m) (jump_in x)))
one_table w m x = by_table x.table x.entry
  where
    by_table : (t : Table) (e : Rela) → (let y : Filling = record { table = t; entry = e; width = 0 } in run_in w m y ∷ [] ≡ map (place_run w m) (packed_in y) ++ (map (entry_run w m) (relative_in y) ++ (map (entry_run w m) (general_in y) ++ map (entry_run w m) (jump_in y))))
    by_table PackedTable e = refl
    by_table RelativeTable e = refl
    by_table GeneralTable e = refl
    by_table JumpTable e = refl

pub runs_permuted : (w : World) (before : Memory) (t : Tables) (xs : List Filling) → AreSorted w before t xs → IsPermutation (map (run_in w before) xs) (runs_of_patches (patches_of t (place_change w before) (entry_change w before)))
runs_permuted w m t xs h =
    let p = place_run w m in
    let e = entry_run w m in
    let a : Filling → List Run = λ x. map p (packed_in x) in
    let b : Filling → List Run = λ x. map e (relative_in x) in
    let c : Filling → List Run = λ x. map e (general_in x) in
    let d : Filling → List Run = λ x. map e (jump_in x) in
    let whole : map (run_in w m) xs ≡ flat_map (λ x. a x ++ (b x ++ (c x ++ d x))) xs = map-one (run_in w m) xs ∙ flat_map-same (λ (x : Filling). run_in w m x ∷ []) (λ (x : Filling). a x ++ (b x ++ (c x ++ d x))) xs (one_table w m) in
    let fa = flat_map a xs in
    let fb = flat_map b xs in
    let fc = flat_map c xs in
    let fd = flat_map d xs in
    let last = IsPermutation-append_right fb (flat_map (λ x. c x ++ d x) xs) (fc ++ fd) (flat_map-parts c d xs) in
    let middle = IsPermutation-trans (flat_map (λ x. b x ++ (c x ++ d x)) xs) (fb ++ flat_map (λ x. c x ++ d x) xs) (fb ++ (fc ++ fd)) (flat_map-parts b (λ x. c x ++ d x) xs) last in
    let cut = IsPermutation-trans (flat_map (λ x. a x ++ (b x ++ (c x ++ d x))) xs) (fa ++ flat_map (λ x. b x ++ (c x ++ d x)) xs) (fa ++ (fb ++ (fc ++ fd)))
    (flat_map-parts a (λ x. b x ++ (c x ++ d x)) xs)
    (IsPermutation-append_right fa (flat_map (λ x. b x ++ (c x ++ d x)) xs) (fb ++ (fc ++ fd)) middle) in
    let ea : fa ≡ map p (flat_map packed_in xs) = sym (map-flat_map p packed_in xs) in
    let eb : fb ++ fc ≡ map e (flat_map relative_in xs ++ flat_map general_in xs) = ap (λ (ys : List Run). ys ++ fc) (sym (map-flat_map e relative_in xs)) ∙ ap (λ (ys : List Run). map e (flat_map relative_in xs) ++ ys) (sym (map-flat_map e general_in xs)) ∙ sym (map-append e (flat_map relative_in xs) (flat_map general_in xs)) in
    let ed : fd ≡ map e (flat_map jump_in xs) = sym (map-flat_map e jump_in xs) in
    let grouped : fa ++ (fb ++ (fc ++ fd)) ≡ (map p (flat_map packed_in xs) ++ map e (flat_map relative_in xs ++ flat_map general_in xs)) ++ map e (flat_map jump_in xs) =
    ap (λ (ys : List Run). fa ++ ys) (sym (append_assoc fb fc fd))
    ∙ sym (append_assoc fa (fb ++ fc) fd)
    ∙ ap (λ (ys : List Run). (ys ++ (fb ++ fc)) ++ fd) ea
    ∙ ap (λ (ys : List Run). (map p (flat_map packed_in xs) ++ ys) ++ fd) eb
    ∙ ap (λ (ys : List Run). (map p (flat_map packed_in xs) ++ map e (flat_map relative_in xs ++ flat_map general_in xs)) ++ ys) ed in
    let moved = IsPermutation-append (map p (flat_map packed_in xs) ++ map e (flat_map relative_in xs ++ flat_map general_in xs)) (map p (places t.words) ++ map e t.entries) (map e (flat_map jump_in xs)) (map e t.jumps)
    (IsPermutation-append (map p (flat_map packed_in xs)) (map p (places t.words)) (map e (flat_map relative_in xs ++ flat_map general_in xs)) (map e t.entries) (IsPermutation-map p (flat_map packed_in xs) (places t.words) h.packed) (IsPermutation-map e (flat_map relative_in xs ++ flat_map general_in xs) t.entries h.entries))
    (IsPermutation-map e (flat_map jump_in xs) t.jumps h.jumps) in
    let run : Patch → Run = λ q. q.run in
    let g = place_change w m in
    let f = entry_change w m in
    let target : (map p (places t.words) ++ map e t.entries) ++ map e t.jumps ≡ runs_of_patches (patches_of t g f) = sym (
    map-append run (map g (places t.words) ++ map f t.entries) (map f t.jumps)
    ∙ ap (λ (ys : List Run). ys ++ map run (map f t.jumps)) (map-append run (map g (places t.words)) (map f t.entries))
    ∙ ap (λ (ys : List Run). (ys ++ map run (map f t.entries)) ++ map run (map f t.jumps)) (map-map run g (places t.words))
    ∙ ap (λ (ys : List Run). (map p (places t.words) ++ ys) ++ map run (map f t.jumps)) (map-map run f t.entries)
    ∙ ap (λ (ys : List Run). (map p (places t.words) ++ map e t.entries) ++ ys) (map-map run f t.jumps)) in
    subst (λ (ys : List Run). IsPermutation ys (runs_of_patches (patches_of t g f))) (sym whole)
    (IsPermutation-trans (flat_map (λ x. a x ++ (b x ++ (c x ++ d x))) xs) (fa ++ (fb ++ (fc ++ fd))) (runs_of_patches (patches_of t g f)) cut
    (subst (λ (ys : List Run). IsPermutation ys (runs_of_patches (patches_of t g f))) (sym grouped)
    (subst (λ (ys : List Run). IsPermutation ((map p (flat_map packed_in xs) ++ map e (flat_map relative_in xs ++ flat_map general_in xs)) ++ map e (flat_map jump_in xs)) ys) target moved)))

pub patches_apart : (w : World) (before : Memory) (t : Tables) (xs : List Filling) → ChangeLaws → AreSorted w before t xs → AllPairs DoesNotOverlap (runs_of_patches (patches_of t (place_change w before) (entry_change w before)))
patches_apart w m t xs laws h = laws.order (map (run_in w m) xs) (runs_of_patches (patches_of t (place_change w m) (entry_change w m))) (runs_permuted w m t xs h) (runs_apart w m xs laws h.known h.beside)

-- ---- known changes

-- what is known of each item gives what is known of all that is made of it
pub All-made : {X Y : Type 0} (Q : X → Type 0) (P : Y → Type 0) (f : X → List Y) (xs : List X) → ((x : X) → Q x → All P (f x)) → All Q xs → All P (flat_map f xs)
All-made Q P f [] one h = All-nil P
All-made Q P f (x ∷ xs) one h = All-append P (f x) (flat_map f xs) (one x (All-head Q x xs h)) (All-made Q P f xs one (All-tail Q x xs h))

abbrev pub IsPlaceMade : World → Memory → ℕ → Type 0
IsPlaceMade w m a = place_patch w m a ≡ Ok (place_change w m a)

abbrev pub IsEntryMade : World → Memory → Rela → Type 0
IsEntryMade w m e = rela_patch w m e ≡ Ok (entry_change w m e)

entry_of_known : (w : World) (m : Memory) (e : Rela) (n : ℕ) (old : List ℕ) → ChangeLaws → length old ≡ n → Holds m (loaded_at w e.offset) old → HasChange m.machine w e n → IsEntryMade w m e
entry_of_known w m e n old laws wide held h = entry_known w m e _ (entry_made w m e h.kind h.change old laws h.known h.made held (wide ∙ sym h.size))

places_made : (w : World) (m : Memory) (x : Filling) → ChangeLaws → IsKnown w m x → All (IsPlaceMade w m) (packed_in x)
places_made w m x laws h = by_table x.table x.entry x.width h.makes
  where
    by_table : (t : Table) (e : Rela) (n : ℕ) → Makes w m t e n → All (IsPlaceMade w m) (packed_in (record { table = t; entry = e; width = n }))
    by_table PackedTable e n h = All-cons (IsPlaceMade w m) e.offset [] (place_made w m e.offset laws h.1) (All-nil (IsPlaceMade w m))
    by_table RelativeTable e n h = All-nil (IsPlaceMade w m)
    by_table GeneralTable e n h = All-nil (IsPlaceMade w m)
    by_table JumpTable e n h = All-nil (IsPlaceMade w m)

entries_made : (w : World) (m : Memory) (x : Filling) → ChangeLaws → IsKnown w m x → (All (IsEntryMade w m) (relative_in x) × All (IsEntryMade w m) (general_in x)) × All (IsEntryMade w m) (jump_in x)
entries_made w m x laws h = by_table x.table x.entry x.width h.old h.wide h.held h.makes
  where
    P : Rela → Type 0
    P e = IsEntryMade w m e

    one : (e : Rela) (n : ℕ) (old : List ℕ) → length old ≡ n → Holds m (loaded_at w e.offset) old → HasChange m.machine w e n → All P (e ∷ [])
    one e n old wide held h = All-cons P e [] (entry_of_known w m e n old laws wide held h) (All-nil P)

    by_table : (t : Table) (e : Rela) (n : ℕ) (old : List ℕ) → length old ≡ n → Holds m (loaded_at w e.offset) old → Makes w m t e n → (let y : Filling = record { table = t; entry = e; width = n } in (All P (relative_in y) × All P (general_in y)) × All P (jump_in y))
    by_table PackedTable e n old wide held h = ((All-nil P, All-nil P), All-nil P)
    by_table RelativeTable e n old wide held h = ((one e n old wide held h, All-nil P), All-nil P)
    by_table GeneralTable e n old wide held h = ((All-nil P, one e n old wide held h), All-nil P)
    by_table JumpTable e n old wide held h = ((All-nil P, All-nil P), one e n old wide held h)

pub tables_made : (w : World) (before : Memory) (t : Tables) (xs : List Filling) → ChangeLaws → AreSorted w before t xs → HasMade w before t (place_change w before) (entry_change w before)
tables_made w m t xs laws h =
    let P = IsEntryMade w m in
    let K = IsKnown w m in
    let relatives = All-made K P relative_in xs (λ x k. (entries_made w m x laws k).0.0) h.known in
    let others = All-made K P general_in xs (λ x k. (entries_made w m x laws k).0.1) h.known in
    let jumps = All-made K P jump_in xs (λ x k. (entries_made w m x laws k).1) h.known in
    record {
      words = All-permutation (IsPlaceMade w m) (flat_map packed_in xs) (places t.words) h.packed (All-made K (IsPlaceMade w m) packed_in xs (λ x k. places_made w m x laws k) h.known);
      entries = All-permutation P (flat_map relative_in xs ++ flat_map general_in xs) t.entries h.entries (All-append P (flat_map relative_in xs) (flat_map general_in xs) relatives others);
      jumps = All-permutation P (flat_map jump_in xs) t.jumps h.jumps jumps;
    }

-- ---- bytes that no table fills

elsewhere_by : (a : ℕ) (p : Run) → ((j : ℕ) → j < length p.bytes → p.start + j ≡ a → ⊥) → IsOutsideRun a p
elsewhere_by a p h =
    elim (cases_lt a p.start) [
      | inl lt ↦ inl lt
      | inr ge ↦ elim (cases_lt a (p.start + length p.bytes)) [
        | inr le ↦ inr le
        | inl lt ↦ absurd (h (a - p.start) (omega (arith, ge, lt)) (omega (arith, ge)))
      ]
    ]

one_elsewhere : (w : World) (m : Memory) (a : ℕ) (x : Filling) → ChangeLaws → IsKnown w m x → Misses a x → IsOutsideRun (w.base + a) (run_in w m x)
one_elsewhere w m a x laws h out =
    let r = has_run w m x laws h in
    let start = r.start in
    let size = r.size in
    elsewhere_by (w.base + a) (run_in w m x) (λ j lt e. (let low = loaded_is w x (omega (arith, lt, size)) h.low in out j (omega (arith, lt, size)) (omega (arith, e, start, low))))

-- the runs of all tables lie elsewhere
pub all_elsewhere : (w : World) (before : Memory) (t : Tables) (xs : List Filling) (a : ℕ) → ChangeLaws → AreSorted w before t xs → All (Misses a) xs → All (IsOutsideRun (w.base + a)) (runs_of_patches (patches_of t (place_change w before) (entry_change w before)))
all_elsewhere w m t xs a laws h out =
    All-permutation (IsOutsideRun (w.base + a)) (map (run_in w m) xs) (runs_of_patches (patches_of t (place_change w m) (entry_change w m))) (runs_permuted w m t xs h)
    (All-map (IsOutsideRun (w.base + a)) (run_in w m) xs (λ k d lt. one_elsewhere w m a (get_or xs k d) laws (h.known k d lt) (out k d lt)))
