-- One walk over files and symbols finds the first symbol whose index is not its position in the dynamic symbol table.
use Rattle.std.proofs.Common.{◌≡◌, ℕ, zero, suc, ◌+◌, ◌-◌, ◌<◌, ◌≤◌, inl, inr, Bool, true, false, List, [], ◌∷◌, ◌++◌, length, take, drop, refl, sym, ap, ◌∙◌, subst, arith, append_assoc}
use Rattle.std.specs.Prelude.{Option, Some, None, Result, Ok, Err, ◌&&◌, ◌||◌, ◌==◌, ◌⊎◌, if◌then◌else◌, nat_le, nat_lt, slice_get, unwrap_or, min, ◌^◌}
use Rattle.std.proofs.lemmas.Bool.{cases_Bool, eqb-true, eq-eqb, ne_eqb, leb-true, and_parts}
use Rattle.std.proofs.lemmas.Bool.Decides.{nat_tests}
use Rattle.std.proofs.lemmas.List.{drop-drop, length-drop, length-take-le, length-append, append-nil}
use Rattle.wild_types.specs.declared.symbol.Symbol.{Symbol}
use Rattle.wild_types.specs.declared.file.FileRole.{FileRole}
use Rattle.wild_types.specs.declared.file.FileRole.TheVariants as file_role
use Rattle.wild_types.specs.declared.file.File.{File}
use Rattle.wild_types.specs.declared.file.Group.{Group}
use Rattle.wild_types.specs.declared.layout.DynamicSymbol.{DynamicSymbol}
use Rattle.wild_types.specs.declared.layout.Layout.{Layout}
use Rattle.std.specs.List.{list_all}
use Rattle.wild_types.specs.FileSymbols.{range_of, first_double_copy}
use Rattle.wild_types.specs.Lists.{first_failing, unless, through}
use Rattle.wild_plan_rules.specs.Indexes.{part_index_fits, primary_is_there, symbol_misfit, symbol_is_there, block_is_there, thunks_are_there, section_indexes_fit, file_indexes_fit, group_indexes_fit, listed_misfit, sorted_is_there, merged_is_there, identity_is_there, entry_is_there, definition_is_own, range_follows, or_place, range_out_of_order}
use Rattle.wild_plan_rules.specs.VersionTables.{parent_is_there}
use Rattle.wild_plan_rules.specs.ClauseTests.{fails, first_error, check_indexes}
use Rattle.wild_types.specs.Lookups.{section_of, section_of_part, files_of, file_of}
use Rattle.wild_types.specs.declared.part.Part.{Part}
use Rattle.wild_types.specs.declared.input.InputSection.{InputSection}
use Rattle.wild_types.specs.declared.symbol.Place.{Place}
use Rattle.wild_types.specs.declared.symbol.Place.TheVariants as at
use Rattle.wild_needs.specs.DynamicSymbols.{symbol_sections, input_of, section_of_input, output_section, is_undefined_entry, places_where, undefined_entries, dynamic_symbols, listed, is_named, dynsym_of, position_fits, misplaced}
use Rattle.wild_clauses.specs.Positions.{lists, is_at, fits_at, run_walk, then_step, failed, file_walk, files_walk, groups_walk, whole_walk, found_in, section_in, part_is_below, place_is_below, symbol_is_below, all_below}
use Rattle.wild_needs.specs.UndefinedCounts.{counted, undefined_count}
use Rattle.wild_clauses.proofs.AstrayLemmas.{Ascend, in_range, before_range, behind_range, empty_range}
use Rattle.wild_needs.proofs.UndefinedLemmas.{groups_count}
use Rattle.wild_plan_rules.proofs.ClauseLemmas.{None-from_fails, first_holds, rest_holds}

-- ---- what holds of each

abbrev Each : {X : Type 0} → (X → Type 0) → List X → Type 0
Each P [] = Unit {0}
Each P (x ∷ xs) = P x × Each P xs

each_weaker : {X : Type 0} (P Q : X → Type 0) (xs : List X) → ((x : X) → P x → Q x) → Each P xs → Each Q xs
each_weaker P Q [] w h = tt
each_weaker P Q (x ∷ xs) w h = (w x h.0, each_weaker P Q xs w h.1)

each_append : {X : Type 0} (P : X → Type 0) (xs ys : List X) → Each P xs → Each P ys → Each P (xs ++ ys)
each_append P [] ys h k = k
each_append P (x ∷ xs) ys h k = (h.0, each_append P xs ys h.1 k)

-- ---- entries of a table by number

before_all : (c k : ℕ) → k < c → nat_le c k ≡ false
before_all c k h = grind (arith, nat_tests)

from_all : (c k : ℕ) → c ≤ k → nat_le c k ≡ true
from_all c k h = grind (arith, nat_tests)

not_behind : (n p : ℕ) → p ≤ n → nat_lt n p ≡ false
not_behind n p h = grind (arith, nat_tests)

more_than : (n k : ℕ) → nat_le (suc n) (suc k) ≡ nat_le n k
more_than n k = grind (arith, nat_tests)

-- each number is another one than i
abbrev Others : ℕ → List ℕ → Type 0
Others i xs = Each (λ (j : ℕ). (j == i) ≡ false) xs

-- what stands behind other numbers
skip : (i : ℕ) (xs ys : List ℕ) (k : ℕ) → Others i xs → is_named i (slice_get (xs ++ ys) k) ≡ (nat_le (length xs) k && is_named i (slice_get ys (k - length xs)))
skip i [] ys k o =
    let a = from_all 0 k (omega arith) in
    let z : k - 0 ≡ k = omega arith in
    rw (a, z) refl
skip i (x ∷ xs) ys zero o = rw (before_all (length (x ∷ xs)) 0 (omega arith)) o.0
skip i (x ∷ xs) ys (suc k) o =
    let a : nat_le (length (x ∷ xs)) (suc k) ≡ nat_le (length xs) k = more_than (length xs) k in
    let z : suc k - length (x ∷ xs) ≡ k - length xs = omega arith in
    rw (a, z) (skip i xs ys k o.1)

listed_is : (i k : ℕ) (ds : List DynamicSymbol) → is_named i (slice_get (listed ds) k) ≡ lists i (slice_get ds k)
listed_is i k [] = refl
listed_is i zero (d ∷ ds) = refl
listed_is i (suc k) (d ∷ ds) = listed_is i k ds

-- a symbol without an entry is at a position where it is listed there
at_listed : (i c n p : ℕ) (B : List ℕ) (ds : List DynamicSymbol) → Others i B → n ≡ length B → is_at ds n false c i (suc p) ≡ is_named i (slice_get (B ++ listed ds) p)
at_listed i c n p B ds o e =
    let s = skip i B (listed ds) p o in
    let l = listed_is i (p - length B) ds in
    let t : nat_lt n (suc p) ≡ nat_le (length B) p = grind (arith, nat_tests) in
    let u : suc p - 1 - n ≡ p - length B = omega (arith, e) in
    rw (s, l, t, u) refl

-- one with an entry, behind c others
at_entry : (i c n p : ℕ) (B R : List ℕ) (ds : List DynamicSymbol) → Others i B → Others i R → c ≡ length B → n ≡ c + 1 + length R → is_at ds n true c i (suc p) ≡ is_named i (slice_get ((B ++ i ∷ R) ++ listed ds) p)
at_entry i c n p B R ds o q e f =
    let a = append_assoc B (i ∷ R) (listed ds) in
    let s = skip i B (i ∷ (R ++ listed ds)) p o in
    rw (a, s) (by (cases_Bool (suc p == c + 1)) (cases_Bool (nat_le (length B) p)))
  where
    by : ((suc p == c + 1) ≡ true) ⊎ ((suc p == c + 1) ≡ false) → (nat_le (length B) p ≡ true) ⊎ (nat_le (length B) p ≡ false) → is_at ds n true c i (suc p) ≡ (nat_le (length B) p && is_named i (slice_get (i ∷ (R ++ listed ds)) (p - length B)))
    by (inl t) (inl u) =
        let z : p - length B ≡ 0 = grind (arith, nat_tests) in
        rw (t, u, z) (sym (eq-eqb i i refl))
    by (inl t) (inr u) = absurd (grind (arith, nat_tests))
    by (inr t) (inl u) =
        let m : ℕ = p - length B - 1 in
        let z : p - length B ≡ suc m = grind (arith, nat_tests) in
        let s = skip i R (listed ds) m q in
        let l = listed_is i (m - length R) ds in
        let v : nat_lt n (suc p) ≡ nat_le (length R) m = grind (arith, nat_tests) in
        let w : suc p - 1 - n ≡ m - length R = omega (arith, e, f) in
        rw (t, u, z, v, w) (rw (s, l) refl)
    by (inr t) (inr u) =
        let v : nat_lt n (suc p) ≡ false = grind (arith, nat_tests) in
        rw (t, u, v) refl

-- ---- all symbols by number

-- what is done with one symbol after the other, by its number and the role of its file
abbrev over : {X : Type 0} → (FileRole → ℕ → Symbol → X → X) → (ℕ → FileRole) → ℕ → X → List Symbol → X
over G own i x [] = x
over G own i x (s ∷ ss) = over G own (i + 1) (G (own i) i s x) ss

abbrev role_of : Option File → FileRole
role_of None = file_role.NotLoaded
role_of (Some f) = f.role

abbrev roles : List File → ℕ → FileRole
roles files j = role_of (file_of files j)

abbrev all : FileRole → ℕ → FileRole
all r j = r

agree : {X : Type 0} (G : FileRole → ℕ → Symbol → X → X) (c d : ℕ → FileRole) (i : ℕ) (x : X) (ss : List Symbol) → ((j : ℕ) → i ≤ j → c j ≡ d j) → over G c i x ss ≡ over G d i x ss
agree G c d i x [] h = refl
agree G c d i x (s ∷ ss) h =
    let here = h i (omega arith) in
    ap (λ (r : FileRole). over G c (i + 1) (G r i s x) ss) here ∙ agree G c d (i + 1) (G (d i) i s x) ss (λ j le. h j (omega arith))

-- a run of symbols of one role
run : {X : Type 0} (G : FileRole → ℕ → Symbol → X → X) (c : ℕ → FileRole) (r : FileRole) (n i : ℕ) (x : X) (ss : List Symbol) → ((j : ℕ) → i ≤ j → j < i + n → c j ≡ r) → over G c i x ss ≡ over G c (i + n) (over G (all r) i x (take n ss)) (drop n ss)
run G c r zero i x ss h = let e : i + 0 ≡ i = omega arith in rw e refl
run G c r (suc n) i x [] h = refl
run G c r (suc n) i x (s ∷ ss) h =
    let here = h i (omega arith) (omega arith) in
    let e : i + suc n ≡ i + 1 + n = omega arith in
    let again = run G c r n (i + 1) (G r i s x) ss (λ j le lt. h j (omega arith) (omega arith)) in
    ap (λ (q : FileRole). over G c (i + 1) (G q i s x) ss) here ∙ again ∙ ap (λ (k : ℕ). over G c k (over G (all r) (i + 1) (G r i s x) (take n ss)) (drop n ss)) (sym e)

-- a symbol before the ranges is in none
role_before : (len next : ℕ) (fs : List File) (j : ℕ) → Ascend len next fs → j < next → roles fs j ≡ file_role.NotLoaded
role_before len next [] j h lt = refl
role_before len next (f ∷ fs) j h lt =
    elim (cases_Bool (f.symbol_count == 0)) [
      | inl t ↦ rw (empty_range f.first_symbol f.symbol_count j t) (role_before len next fs j (rw t at h) lt)
      | inr n ↦ (let w = rw n at h in rw (before_range f.first_symbol f.symbol_count j (omega arith)) (role_before len (f.first_symbol + f.symbol_count) fs j w.2 (omega arith)))
    ]

-- a file without symbols changes nothing
empty_step : {X : Type 0} (G : FileRole → ℕ → Symbol → X → X) (symbols : List Symbol) (next : ℕ) (x : X) (f : File) (fs : List File) → (f.symbol_count == 0) ≡ true → over G (roles (f ∷ fs)) next x (drop next symbols) ≡ over G (roles fs) next x (drop next symbols)
empty_step G symbols next x f fs t = agree G (roles (f ∷ fs)) (roles fs) next x (drop next symbols) (λ j le. rw (empty_range f.first_symbol f.symbol_count j t) refl)

-- one file's step: what stands before its range, and then its range
file_step : {X : Type 0} (G : FileRole → ℕ → Symbol → X → X) (symbols : List Symbol) (next : ℕ) (x : X) (f : File) (fs : List File) → (next ≤ f.first_symbol) × (f.first_symbol + f.symbol_count ≤ length symbols) × Ascend (length symbols) (f.first_symbol + f.symbol_count) fs → over G (roles (f ∷ fs)) next x (drop next symbols) ≡ over G (roles fs) (f.first_symbol + f.symbol_count) (over G (all f.role) f.first_symbol (over G (all file_role.NotLoaded) next x (take (f.first_symbol - next) (drop next symbols))) (range_of symbols f)) (drop (f.first_symbol + f.symbol_count) symbols)
file_step {X} G symbols next x f fs w =
    let a = f.first_symbol in
    let n = f.symbol_count in
    let C : ℕ → FileRole = roles (f ∷ fs) in
    let gap = run G C file_role.NotLoaded (a - next) next x (drop next symbols) (λ j le lt. let lt' : j < a = omega arith in rw (before_range a n j lt') (role_before (length symbols) (a + n) fs j w.2 (omega arith))) in
    let e : next + (a - next) ≡ a = omega arith in
    let gap' = rw (drop-drop, e) at gap in
    let y : X = over G (all file_role.NotLoaded) next x (take (a - next) (drop next symbols)) in
    let range = run G C f.role n a y (drop a symbols) (λ j le lt. rw (in_range a n j le lt) refl) in
    let range' = rw drop-drop at range in
    let z : X = over G (all f.role) a y (take n (drop a symbols)) in
    let rest = agree G C (roles fs) (a + n) z (drop (a + n) symbols) (λ j le. rw (behind_range a n j le) refl) in
    gap' ∙ range' ∙ rest

-- ---- first, the entries

abbrev collect : FileRole → ℕ → Symbol → List ℕ → List ℕ
collect r i s xs = if is_undefined_entry r s then xs ++ i ∷ [] else xs

collects : (r : FileRole) (i : ℕ) (xs : List ℕ) (ss : List Symbol) → over collect (all r) i xs ss ≡ xs ++ places_where (is_undefined_entry r) i ss
collects r i xs [] = sym (append-nil xs)
collects r i xs (s ∷ ss) =
    elim (cases_Bool (is_undefined_entry r s)) [
      | inl t ↦ rw t (collects r (i + 1) (xs ++ i ∷ []) ss ∙ append_assoc xs (i ∷ []) (places_where (is_undefined_entry r) (i + 1) ss))
      | inr f ↦ rw f (collects r (i + 1) xs ss)
    ]

nothing_there : (i : ℕ) (xs : List ℕ) (ss : List Symbol) → over collect (all file_role.NotLoaded) i xs ss ≡ xs
nothing_there i xs [] = refl
nothing_there i xs (s ∷ ss) = nothing_there (i + 1) xs ss

files_collect : (symbols : List Symbol) (next : ℕ) (xs : List ℕ) (fs : List File) → Ascend (length symbols) next fs → over collect (roles fs) next xs (drop next symbols) ≡ xs ++ undefined_entries symbols fs
files_collect symbols next xs [] h = agree collect (roles []) (all file_role.NotLoaded) next xs (drop next symbols) (λ j le. refl) ∙ nothing_there next xs (drop next symbols) ∙ sym (append-nil xs)
files_collect symbols next xs (f ∷ fs) h =
    elim (cases_Bool (f.symbol_count == 0)) [
      | inl t ↦
          (let z : f.symbol_count ≡ 0 = eqb-true _ _ t in
          empty_step collect symbols next xs f fs t ∙ files_collect symbols next xs fs (rw t at h) ∙ rw z refl)
      | inr n ↦
          (let w = rw n at h in
          let a = f.first_symbol + f.symbol_count in
          let gap = nothing_there next xs (take (f.first_symbol - next) (drop next symbols)) in
          let here = collects f.role f.first_symbol xs (range_of symbols f) in
          let own = places_where (is_undefined_entry f.role) f.first_symbol (range_of symbols f) in
          file_step collect symbols next xs f fs w ∙ rw (gap, here) (files_collect symbols a (xs ++ own) fs w.2 ∙ append_assoc xs own (undefined_entries symbols fs)))
    ]

-- the same by the roles of the symbols
abbrev by_roles : (ℕ → FileRole) → ℕ → List Symbol → List ℕ
by_roles own i [] = []
by_roles own i (s ∷ ss) = if is_undefined_entry (own i) s then i ∷ by_roles own (i + 1) ss else by_roles own (i + 1) ss

collects_by : (own : ℕ → FileRole) (i : ℕ) (xs : List ℕ) (ss : List Symbol) → over collect own i xs ss ≡ xs ++ by_roles own i ss
collects_by own i xs [] = sym (append-nil xs)
collects_by own i xs (s ∷ ss) =
    elim (cases_Bool (is_undefined_entry (own i) s)) [
      | inl t ↦ rw t (collects_by own (i + 1) (xs ++ i ∷ []) ss ∙ append_assoc xs (i ∷ []) (by_roles own (i + 1) ss))
      | inr f ↦ rw f (collects_by own (i + 1) xs ss)
    ]

entries_by_roles : (symbols : List Symbol) (fs : List File) → Ascend (length symbols) 0 fs → undefined_entries symbols fs ≡ by_roles (roles fs) 0 symbols
entries_by_roles symbols fs h = sym (files_collect symbols 0 [] fs h) ∙ collects_by (roles fs) 0 [] symbols

later : (own : ℕ → FileRole) (m i : ℕ) (ss : List Symbol) → m ≤ i → Each (λ (j : ℕ). m ≤ j) (by_roles own i ss)
later own m i [] h = tt
later own m i (s ∷ ss) h =
    elim (cases_Bool (is_undefined_entry (own i) s)) [
      | inl t ↦ rw t (h, later own m (i + 1) ss (omega arith))
      | inr f ↦ rw f (later own m (i + 1) ss (omega arith))
    ]

few_by_roles : (own : ℕ → FileRole) (i : ℕ) (ss : List Symbol) → length (by_roles own i ss) ≤ length ss
few_by_roles own i [] = omega arith
few_by_roles own i (s ∷ ss) =
    let again = few_by_roles own (i + 1) ss in
    elim (cases_Bool (is_undefined_entry (own i) s)) [
      | inl t ↦ rw t (omega (arith, again))
      | inr f ↦ rw f (omega (arith, again))
    ]

-- ---- then the walk

abbrev test : List DynamicSymbol → ℕ → FileRole → ℕ → Symbol → Result ℕ ℕ → Result ℕ ℕ
test ds n r i s (Err j) = Err j
test ds n r i s (Ok c) = if fits_at ds n (is_undefined_entry r s) c i (dynsym_of s) then Ok (counted (is_undefined_entry r s) c) else Err i

stays : (ds : List DynamicSymbol) (n : ℕ) (own : ℕ → FileRole) (i j : ℕ) (ss : List Symbol) → over (test ds n) own i (Err j) ss ≡ Err j
stays ds n own i j [] = refl
stays ds n own i j (s ∷ ss) = stays ds n own (i + 1) j ss

runs : (ds : List DynamicSymbol) (n : ℕ) (r : FileRole) (i c : ℕ) (ss : List Symbol) → over (test ds n) (all r) i (Ok c) ss ≡ run_walk ds n r i c ss
runs ds n r i c [] = refl
runs ds n r i c (s ∷ ss) =
    elim (cases_Bool (fits_at ds n (is_undefined_entry r s) c i (dynsym_of s))) [
      | inl t ↦ rw t (runs ds n r (i + 1) (counted (is_undefined_entry r s) c) ss)
      | inr f ↦ rw f (stays ds n (all r) (i + 1) i ss)
    ]

abbrev ended : Layout → ℕ → ℕ × ℕ → Result ℕ ℕ
ended l n at = run_walk l.dynsyms n file_role.NotLoaded at.0 at.1 (drop at.0 l.symbols)

files_test : (l : Layout) (n next c : ℕ) (fs : List File) → Ascend (length l.symbols) next fs → over (test l.dynsyms n) (roles fs) next (Ok c) (drop next l.symbols) ≡ then_step (files_walk l n (next, c) fs) (ended l n)
files_test l n next c [] h = agree (test l.dynsyms n) (roles []) (all file_role.NotLoaded) next (Ok c) (drop next l.symbols) (λ j le. refl) ∙ runs l.dynsyms n file_role.NotLoaded next c (drop next l.symbols)
files_test l n next c (f ∷ fs) h =
    elim (cases_Bool (f.symbol_count == 0)) [
      | inl t ↦ empty_step (test l.dynsyms n) l.symbols next (Ok c) f fs t ∙ files_test l n next c fs (rw t at h) ∙ rw t refl
      | inr k ↦
          (let w = rw k at h in
          let a = f.first_symbol in
          let m = f.symbol_count in
          let gap = take (a - next) (drop next l.symbols) in
          let long : length gap ≡ a - next = length-take-le (a - next) (drop next l.symbols) (rw length-drop (omega arith)) in
          let e : next + length gap ≡ a = omega (arith, long, w.0) in
          let wide : length (take m (drop a l.symbols)) ≡ m = length-take-le m (drop a l.symbols) (rw length-drop (omega arith)) in
          file_step (test l.dynsyms n) l.symbols next (Ok c) f fs w ∙ rw (runs l.dynsyms n file_role.NotLoaded next c gap, k, e, wide) (by_gap (run_walk l.dynsyms n file_role.NotLoaded next c gap) (λ d. files_test l n (a + m) d fs w.2)))
    ]
  where
    by_range : (q : Result ℕ ℕ) → ((d : ℕ) → over (test l.dynsyms n) (roles fs) (f.first_symbol + f.symbol_count) (Ok d) (drop (f.first_symbol + f.symbol_count) l.symbols) ≡ then_step (files_walk l n (f.first_symbol + f.symbol_count, d) fs) (ended l n)) → over (test l.dynsyms n) (roles fs) (f.first_symbol + f.symbol_count) q (drop (f.first_symbol + f.symbol_count) l.symbols) ≡ then_step (then_step (then_step q (λ d. Ok (f.first_symbol + f.symbol_count, d))) (λ at. files_walk l n at fs)) (ended l n)
    by_range (Err j) again = stays l.dynsyms n (roles fs) (f.first_symbol + f.symbol_count) j (drop (f.first_symbol + f.symbol_count) l.symbols)
    by_range (Ok d) again = again d

    by_gap : (q : Result ℕ ℕ) → ((d : ℕ) → over (test l.dynsyms n) (roles fs) (f.first_symbol + f.symbol_count) (Ok d) (drop (f.first_symbol + f.symbol_count) l.symbols) ≡ then_step (files_walk l n (f.first_symbol + f.symbol_count, d) fs) (ended l n)) → over (test l.dynsyms n) (roles fs) (f.first_symbol + f.symbol_count) (over (test l.dynsyms n) (all f.role) f.first_symbol q (range_of l.symbols f)) (drop (f.first_symbol + f.symbol_count) l.symbols) ≡ then_step (then_step (then_step q (λ d. then_step (run_walk l.dynsyms n f.role f.first_symbol d (range_of l.symbols f)) (λ b. Ok (f.first_symbol + f.symbol_count, b)))) (λ at. files_walk l n at fs)) (ended l n)
    by_gap (Err j) again = rw (stays l.dynsyms n (all f.role) f.first_symbol j (range_of l.symbols f)) (stays l.dynsyms n (roles fs) (f.first_symbol + f.symbol_count) j (drop (f.first_symbol + f.symbol_count) l.symbols))
    by_gap (Ok d) again = rw (runs l.dynsyms n f.role f.first_symbol d (range_of l.symbols f)) (by_range (run_walk l.dynsyms n f.role f.first_symbol d (range_of l.symbols f)) again)

-- groups are their files, one behind the other
followed_on : {A B C : Type 0} (r : Result A ℕ) (f : A → Result B ℕ) (g : B → Result C ℕ) → then_step (then_step r f) g ≡ then_step r (λ x. then_step (f x) g)
followed_on (Ok x) f g = refl
followed_on (Err i) f g = refl

same_rest : {A B : Type 0} (r : Result A ℕ) (f g : A → Result B ℕ) → ((x : A) → f x ≡ g x) → then_step r f ≡ then_step r g
same_rest (Ok x) f g h = h x
same_rest (Err i) f g h = refl

files_joined : (l : Layout) (n : ℕ) (at : ℕ × ℕ) (fs gs : List File) → files_walk l n at (fs ++ gs) ≡ then_step (files_walk l n at fs) (λ next. files_walk l n next gs)
files_joined l n at [] gs = refl
files_joined l n at (f ∷ fs) gs =
    same_rest (file_walk l n at f) (λ next. files_walk l n next (fs ++ gs)) (λ next. then_step (files_walk l n next fs) (λ b. files_walk l n b gs)) (λ next. files_joined l n next fs gs)
    ∙ sym (followed_on (file_walk l n at f) (λ next. files_walk l n next fs) (λ b. files_walk l n b gs))

groups_are_files : (l : Layout) (n : ℕ) (at : ℕ × ℕ) (gs : List Group) → groups_walk l n at gs ≡ files_walk l n at (files_of gs)
groups_are_files l n at [] = refl
groups_are_files l n at (g ∷ gs) =
    same_rest (files_walk l n at g.files) (λ next. groups_walk l n next gs) (λ next. files_walk l n next (files_of gs)) (λ next. groups_are_files l n next gs)
    ∙ sym (files_joined l n at g.files (files_of gs))

-- ---- the walk finds what the table says

-- entries ahead are of smaller numbers, those behind of greater ones
others_before : (i : ℕ) (xs : List ℕ) → Each (λ (j : ℕ). j < i) xs → Others i xs
others_before i xs h = each_weaker (λ (j : ℕ). j < i) (λ (j : ℕ). (j == i) ≡ false) xs (λ j lt. ne_eqb j i (λ e. omega (arith, lt, e))) h

others_behind : (i : ℕ) (xs : List ℕ) → Each (λ (j : ℕ). i + 1 ≤ j) xs → Others i xs
others_behind i xs h = each_weaker (λ (j : ℕ). i + 1 ≤ j) (λ (j : ℕ). (j == i) ≡ false) xs (λ j le. ne_eqb j i (λ e. omega (arith, le, e))) h

Others-append : (i : ℕ) (xs ys : List ℕ) → Others i xs → Others i ys → Others i (xs ++ ys)
Others-append i xs ys o q = each_append (λ (j : ℕ). (j == i) ≡ false) xs ys o q

fits_as : (i c n : ℕ) (entry : Bool) (T : List ℕ) (ds : List DynamicSymbol) → (entry && (0 == c + 1)) ≡ false → ((p : ℕ) → is_at ds n entry c i (suc p) ≡ is_named i (slice_get (T ++ listed ds) p)) → (o : Option ℕ) → fits_at ds n entry c i o ≡ position_fits (T ++ listed ds) i o
fits_as i c n entry T ds z h None = refl
fits_as i c n entry T ds z h (Some zero) = rw (z, not_behind n 0 (omega arith)) refl
fits_as i c n entry T ds z h (Some (suc p)) = h p

all_found : (ds : List DynamicSymbol) (own : ℕ → FileRole) (E : List ℕ) (n i c : ℕ) (B : List ℕ) (ss : List Symbol) → n ≡ length E → Each (λ (j : ℕ). j < i) B → c ≡ length B → E ≡ B ++ by_roles own i ss → failed (over (test ds n) own i (Ok c) ss) ≡ misplaced (E ++ listed ds) i ss
all_found ds own E n i c B [] long low e f = refl
all_found ds own E n i c B (s ∷ ss) long low e f =
    elim (cases_Bool (is_undefined_entry (own i) s)) [
      | inl t ↦ (rw t (with_entry (λ d C. all_found ds own E n (i + 1) d C ss long) (rw t at f)))
      | inr u ↦ (rw u (without (λ d C. all_found ds own E n (i + 1) d C ss long) (rw u at f)))
    ]
  where
    more : Each (λ (j : ℕ). j < i + 1) B
    more = each_weaker (λ (j : ℕ). j < i) (λ (j : ℕ). j < i + 1) B (λ j lt. omega (arith, lt)) low

    behind : Others i (by_roles own (i + 1) ss)
    behind = others_behind i (by_roles own (i + 1) ss) (later own (i + 1) (i + 1) ss (omega arith))

    with_entry : ((d : ℕ) (C : List ℕ) → Each (λ (j : ℕ). j < i + 1) C → d ≡ length C → E ≡ C ++ by_roles own (i + 1) ss → failed (over (test ds n) own (i + 1) (Ok d) ss) ≡ misplaced (E ++ listed ds) (i + 1) ss) → E ≡ B ++ i ∷ by_roles own (i + 1) ss → failed (over (test ds n) own (i + 1) (if fits_at ds n true c i (dynsym_of s) then Ok (c + 1) else Err i) ss) ≡ (if position_fits (E ++ listed ds) i (dynsym_of s) then misplaced (E ++ listed ds) (i + 1) ss else Some i)
    with_entry rest f' =
        let R = by_roles own (i + 1) ss in
        let long' : length E ≡ length (B ++ i ∷ R) = ap length f' in
        let cut : length (B ++ i ∷ R) ≡ length B + suc (length R) = length-append B (i ∷ R) in
        let n' : n ≡ c + 1 + length R = omega (arith, long, long', cut, e) in
        let z : (0 == c + 1) ≡ false = ne_eqb 0 (c + 1) (λ q. omega (arith, q)) in
        let same = fits_as i c n true E ds z (λ p. subst (λ (T : List ℕ). is_at ds n true c i (suc p) ≡ is_named i (slice_get (T ++ listed ds) p)) (sym f') (at_entry i c n p B R ds (others_before i B low) behind e n')) (dynsym_of s) in
        let joint : (B ++ i ∷ []) ++ R ≡ B ++ i ∷ R = append_assoc B (i ∷ []) R in
        let low' : Each (λ (j : ℕ). j < i + 1) (B ++ i ∷ []) = each_append (λ (j : ℕ). j < i + 1) B (i ∷ []) more (omega arith, tt) in
        let one : length (B ++ i ∷ []) ≡ length B + 1 = length-append B (i ∷ []) in
        let e' : c + 1 ≡ length (B ++ i ∷ []) = omega (arith, e, one) in
        let again = rest (c + 1) (B ++ i ∷ []) low' e' (f' ∙ sym joint) in
        rw same (elim (cases_Bool (position_fits (E ++ listed ds) i (dynsym_of s))) [
          | inl t ↦ rw t again
          | inr u ↦ rw u (ap failed (stays ds n own (i + 1) i ss))
        ])

    without : ((d : ℕ) (C : List ℕ) → Each (λ (j : ℕ). j < i + 1) C → d ≡ length C → E ≡ C ++ by_roles own (i + 1) ss → failed (over (test ds n) own (i + 1) (Ok d) ss) ≡ misplaced (E ++ listed ds) (i + 1) ss) → E ≡ B ++ by_roles own (i + 1) ss → failed (over (test ds n) own (i + 1) (if fits_at ds n false c i (dynsym_of s) then Ok c else Err i) ss) ≡ (if position_fits (E ++ listed ds) i (dynsym_of s) then misplaced (E ++ listed ds) (i + 1) ss else Some i)
    without rest f' =
        let R = by_roles own (i + 1) ss in
        let others : Others i E = subst (λ (T : List ℕ). Others i T) (sym f') (Others-append i B R (others_before i B low) behind) in
        let same = fits_as i c n false E ds refl (λ p. at_listed i c n p E ds others long) (dynsym_of s) in
        let again = rest c B more e f' in
        rw same (elim (cases_Bool (position_fits (E ++ listed ds) i (dynsym_of s))) [
          | inl t ↦ rw t again
          | inr u ↦ rw u (ap failed (stays ds n own (i + 1) i ss))
        ])

-- where the ranges ascend and n is the number of undefined entries
pub walk_finds : (l : Layout) (n : ℕ) → Ascend (length l.symbols) 0 (files_of l.groups) → n ≡ length (undefined_entries l.symbols (files_of l.groups)) → whole_walk l n ≡ misplaced (dynamic_symbols l) 0 l.symbols
walk_finds l n h e =
    let files = files_of l.groups in
    let same = entries_by_roles l.symbols files h in
    let walk = files_test l n 0 0 files h in
    let found = all_found l.dynsyms (roles files) (undefined_entries l.symbols files) n 0 0 [] l.symbols e tt refl same in
    rw (groups_are_files l n (0, 0) l.groups, ← walk) found

pub few_entries : (l : Layout) → Ascend (length l.symbols) 0 (files_of l.groups) → length (undefined_entries l.symbols (files_of l.groups)) ≤ length l.symbols
few_entries l h = let same = entries_by_roles l.symbols (files_of l.groups) h in rw same (few_by_roles (roles (files_of l.groups)) 0 l.symbols)

-- ---- what the clause on indexes says of the ranges

-- a file's range ends within the symbols
abbrev Fits : ℕ → File → Type 0
Fits len f = (f.symbol_count == 0 || nat_le (f.first_symbol + f.symbol_count) len) ≡ true

files_ascend : (len end next : ℕ) (fs later : List File) → Each (Fits len) fs → through range_follows end fs ≡ Some next → Ascend len next later → Ascend len end (fs ++ later)
files_ascend len end next [] later fit order h = let at : end ≡ next = cc order in rw at h
files_ascend len end next (f ∷ fs) later fit order h =
    elim (cases_Bool (f.symbol_count == 0)) [
      | inl t ↦ rw t (files_ascend len end next fs later fit.1 (rw t at order) h)
      | inr k ↦ rw k (elim (cases_Bool (nat_le end f.first_symbol)) [
        | inl u ↦ (leb-true _ _ u, leb-true _ _ (rw k at fit.0), files_ascend len (f.first_symbol + f.symbol_count) next fs later fit.1 (rw (k, u) at order) h)
        | inr v ↦ cc (rw (k, v) at order)
      ])
    ]

groups_ascend : (len end i : ℕ) (gs : List Group) → Each (λ (g : Group). Each (Fits len) g.files) gs → range_out_of_order end i gs ≡ None → Ascend len end (files_of gs)
groups_ascend len end i [] fit order = tt
groups_ascend len end i (g ∷ gs) fit order = by (through range_follows end g.files) refl order (λ next h. groups_ascend len next (i + 1) gs fit.1 h)
  where
    by : (o : Option ℕ) → through range_follows end g.files ≡ o → or_place i o (λ next. range_out_of_order next (i + 1) gs) ≡ None → ((next : ℕ) → range_out_of_order next (i + 1) gs ≡ None → Ascend len next (files_of gs)) → Ascend len end (files_of (g ∷ gs))
    by None e h rest = cc h
    by (Some next) e h rest = files_ascend len end next g.files (files_of gs) fit.0 e (rest next h)

each_passes : {X : Type 0} (test : X → Bool) (i : ℕ) (xs : List X) → first_failing test i xs ≡ None → Each (λ x. test x ≡ true) xs
each_passes test i [] h = tt
each_passes test i (x ∷ xs) h =
    elim (cases_Bool (test x)) [
      | inl t ↦ (t, each_passes test (i + 1) xs (rw t at h))
      | inr f ↦ cc (rw f at h)
    ]

each_listed : {X : Type 0} (test : X → Bool) (xs : List X) → list_all test xs ≡ true → Each (λ x. test x ≡ true) xs
each_listed test [] h = tt
each_listed test (x ∷ xs) h = let w = and_parts (test x) (list_all test xs) h in (w.0, each_listed test xs w.1)

group_fits : (l : Layout) (g : Group) → group_indexes_fit l g ≡ true → Each (Fits (length l.symbols)) g.files
group_fits l g h = each_weaker (λ (f : File). file_indexes_fit l f ≡ true) (Fits (length l.symbols)) g.files (λ f k. (and_parts (f.symbol_count == 0 || nat_le (f.first_symbol + f.symbol_count) (length l.symbols)) (list_all (section_indexes_fit l) f.sections && (list_all (symbol_is_there l) f.copies && block_is_there l f)) k).0) (each_listed (file_indexes_fit l) g.files h)

pub ranges_ascend : (l : Layout) → check_indexes l ≡ Ok tt → Ascend (length l.symbols) 0 (files_of l.groups)
unfolding check_indexes
ranges_ascend l h =
    let order = fails 9 (range_out_of_order 0 0 l.groups) in
    let own = fails 9 (first_failing (definition_is_own l) 0 l.symbols) in
    let behind = first_error own order in
    let copied = fails 9 (first_double_copy l [] 0 l.groups) in
    let entry = fails 9 (unless (entry_is_there l l.entry)) in
    let parents = fails 9 (first_failing (parent_is_there l) 0 l.verdefs) in
    let listed = fails 9 (listed_misfit l) in
    let thunks = fails 9 (first_failing (thunks_are_there l) 0 l.thunk_blocks) in
    let starts = first_error entry (first_error copied behind) in
    let identity = fails 9 (unless (identity_is_there l)) in
    let merged = fails 9 (first_failing (merged_is_there l) 0 l.merged) in
    let sorted = fails 9 (first_failing (sorted_is_there l) 0 l.sorted) in
    let strings = first_error identity starts in
    let others = first_error merged strings in
    let begins = first_error sorted others in
    let beside = first_error thunks begins in
    let later = first_error listed (first_error parents beside) in
    let groups = fails 9 (first_failing (group_indexes_fit l) 0 l.groups) in
    let symbols = fails 9 (symbol_misfit l (files_of l.groups) 0 l.symbols) in
    let primary = fails 9 (unless (primary_is_there l)) in
    let p = rest_holds (fails 9 (first_failing (part_index_fits l) 0 l.parts)) (first_error primary (first_error symbols (first_error groups later))) h in
    let a = rest_holds primary (first_error symbols (first_error groups later)) p in
    let b = rest_holds symbols (first_error groups later) a in
    let e = rest_holds parents beside (rest_holds listed (first_error parents beside) (rest_holds groups later b)) in
    let c = rest_holds copied behind (rest_holds entry (first_error copied behind) (rest_holds identity starts (rest_holds merged strings (rest_holds sorted others (rest_holds thunks begins e))))) in
    let d = rest_holds own order c in
    let fit = each_weaker (λ (g : Group). group_indexes_fit l g ≡ true) (λ (g : Group). Each (Fits (length l.symbols)) g.files) l.groups (λ g k. group_fits l g k) (each_passes (group_indexes_fit l) 0 l.groups (None-from_fails 9 (first_failing (group_indexes_fit l) 0 l.groups) (first_holds groups later b))) in
    groups_ascend (length l.symbols) 0 0 l.groups fit (None-from_fails 9 (range_out_of_order 0 0 l.groups) d)

-- ---- how many undefined entries there are

pub count_is_exact : (l : Layout) → check_indexes l ≡ Ok tt → length l.symbols < 2 ^ 64 → min (2 ^ 64 - 1) (undefined_count l) ≡ length (undefined_entries l.symbols (files_of l.groups))
count_is_exact l h short =
    let few = few_entries l (ranges_ascend l h) in
    let same = groups_count l.symbols l.groups in
    rw same (omega (arith, few, short))

pub walk_finds_misplaced : (l : Layout) (n : ℕ) → check_indexes l ≡ Ok tt → n ≡ length (undefined_entries l.symbols (files_of l.groups)) → whole_walk l n ≡ misplaced (dynamic_symbols l) 0 l.symbols
walk_finds_misplaced l n h e = walk_finds l n (ranges_ascend l h) e

-- ---- the section of a listed symbol

found_is : (l : Layout) (fs later : List File) (i k : ℕ) → output_section l (file_of (fs ++ later) i) (at.Section k) ≡ unwrap_or (found_in l fs i k) (output_section l (file_of later i) (at.Section k))
found_is l [] later i k = refl
found_is l (f ∷ fs) later i k =
    elim (cases_Bool (nat_le f.first_symbol i && nat_lt i (f.first_symbol + f.symbol_count))) [
      | inl t ↦ rw t refl
      | inr n ↦ rw n (found_is l fs later i k)
    ]

pub section_is : (l : Layout) (gs : List Group) (i k : ℕ) → section_in l i k gs ≡ output_section l (file_of (files_of gs) i) (at.Section k)
section_is l [] i k = refl
section_is l (g ∷ gs) i k = rw (section_is l gs i k) (sym (found_is l g.files (files_of gs) i k))

member : {X : Type 0} (test : X → Bool) (xs : List X) (i : ℕ) (x : X) → list_all test xs ≡ true → slice_get xs i ≡ Some x → test x ≡ true
member test [] i x h e = cc e
member test (y ∷ xs) zero x h e = let same : y ≡ x = cc e in rw (← same) (and_parts (test y) (list_all test xs) h).0
member test (y ∷ xs) (suc i) x h e = member test xs i x (and_parts (test y) (list_all test xs) h).1 e

section_below : (l : Layout) (part : ℕ) → list_all part_is_below l.parts ≡ true → nat_lt (section_of l part) symbol_sections ≡ true
section_below l part h = by (slice_get l.parts part) refl
  where
    by : (o : Option Part) → slice_get l.parts part ≡ o → nat_lt (section_of_part o) symbol_sections ≡ true
    by None e = refl
    by (Some p) e = member part_is_below l.parts part p h e

place_below : (l : Layout) (f : Option File) (p : Place) → list_all part_is_below l.parts ≡ true → place_is_below p ≡ true → nat_lt (output_section l f p) symbol_sections ≡ true
place_below l f (at.Output k) h b = b
place_below l f (at.Section k) h b = by (input_of f k)
  where
    by : (o : Option InputSection) → nat_lt (section_of_input l o) symbol_sections ≡ true
    by None = refl
    by (Some s) = section_below l s.part h
place_below l f at.Undefined h b = refl
place_below l f at.Absolute h b = refl
place_below l f at.Common h b = refl

-- where no part and no symbol stands in a section at 0xff00 or behind, no listed symbol does
pub all_are_below : (l : Layout) (i : ℕ) (s : Symbol) (f : Option File) → all_below l ≡ true → slice_get l.symbols i ≡ Some s → nat_lt (output_section l f s.place) symbol_sections ≡ true
all_are_below l i s f h e =
    let w = and_parts (list_all part_is_below l.parts) (list_all symbol_is_below l.symbols) h in
    place_below l f s.place w.0 (member symbol_is_below l.symbols i s w.1 e)
