-- Symbols and files side by side find the first symbol astray.
use Rattle.std.proofs.Common.{◌≡◌, ℕ, Bool, zero, suc, ◌+◌, ◌-◌, ◌<◌, ◌≤◌, inl, inr, true, false, List, [], ◌∷◌, ◌++◌, length, take, drop, get_or, refl, sym, ap, ◌∙◌, subst, arith, drop-cons}
use Rattle.std.specs.Prelude.{Option, Some, None, is_some, option_and_then, unwrap_or, Result, Ok, Err, ◌&&◌, ◌==◌, if◌then◌else◌, nat_le, nat_lt}
use Rattle.std.specs.Bool.{MatchBool}
use Rattle.std.proofs.lemmas.Bool.{cases_Bool, leb-true, and_parts}
use Rattle.std.proofs.lemmas.Bool.Decides.{nat_tests}
use Rattle.std.proofs.lemmas.List.{drop-drop, length-drop, length-take-le}
use Rattle.wild_types.specs.declared.symbol.Symbol.{Symbol}
use Rattle.wild_types.specs.declared.file.File.{File}
use Rattle.wild_types.specs.declared.file.Group.{Group}
use Rattle.wild_types.specs.declared.layout.Layout.{Layout}
use Rattle.wild_types.specs.Lists.{first_failing, through}
use Rattle.wild_types.specs.Lookups.{files_of, file_of}
use Rattle.wild_plan_rules.specs.Indexes.{section_count, symbol_indexes_fit, symbol_misfit, range_follows, or_place, range_out_of_order}
use Rattle.wild_clauses.specs.SymbolIndexes.{range_lies, ranges_lie, all_ranges_lie, count_in, or_first, found_or, gap_astray, range_astray, file_walk, go_on, files_walk, groups_walk, walk_end}
use Rattle.wild_types.specs.FileSymbols.{range_of}

-- how many input sections the file of a symbol has
abbrev own : List File → ℕ → ℕ
own files j = section_count (file_of files j)

-- the first symbol that stands in no input section of as many as there are for it
abbrev astray_by : Layout → (ℕ → ℕ) → ℕ → List Symbol → Option ℕ
astray_by l count i [] = None
astray_by l count i (s ∷ ss) = if symbol_indexes_fit l (count i) s then astray_by l count (i + 1) ss else Some i

is_astray_by : (l : Layout) (files : List File) (i : ℕ) (ss : List Symbol) → symbol_misfit l files i ss ≡ astray_by l (own files) i ss
is_astray_by l files i [] = refl
is_astray_by l files i (s ∷ ss) = rw (is_astray_by l files (i + 1) ss)

-- counts that agree from i on find the same
agrees : (l : Layout) (c d : ℕ → ℕ) (i : ℕ) (ss : List Symbol) → ((j : ℕ) → i ≤ j → c j ≡ d j) → astray_by l c i ss ≡ astray_by l d i ss
agrees l c d i [] h = refl
agrees l c d i (s ∷ ss) h =
    let here = h i (omega arith) in
    let again = agrees l c d (i + 1) ss (λ j le. h j (omega arith)) in
    rw (here, again)

-- a run of symbols for which there are equally many
run : (l : Layout) (c : ℕ → ℕ) (m n i : ℕ) (ss : List Symbol) → ((j : ℕ) → i ≤ j → j < i + n → c j ≡ m) → astray_by l c i ss ≡ or_first (first_failing (symbol_indexes_fit l m) i (take n ss)) (astray_by l c (i + n) (drop n ss))
run l c m zero i ss h = let e : i + 0 ≡ i = omega arith in rw e
run l c m (suc n) i [] h = refl
run l c m (suc n) i (s ∷ ss) h =
    let here = h i (omega arith) (omega arith) in
    let again = run l c m n (i + 1) ss (λ j le lt. h j (omega arith) (omega arith)) in
    let e : i + suc n ≡ i + 1 + n = omega arith in
    elim (cases_Bool (symbol_indexes_fit l m s)) [
      | inl t ↦ rw (here, e, t) again
      | inr f ↦ rw (here, f)
    ]

behind_all : (l : Layout) (i : ℕ) (ss : List Symbol) → astray_by l (own []) i ss ≡ first_failing (symbol_indexes_fit l 0) i ss
behind_all l i [] = refl
behind_all l i (s ∷ ss) =
    let again = behind_all l (i + 1) ss in
    elim (cases_Bool (symbol_indexes_fit l 0 s)) [
      | inl t ↦ rw t again
      | inr f ↦ rw f
    ]

pub in_range : (a n j : ℕ) → a ≤ j → j < a + n → (nat_le a j && nat_lt j (a + n)) ≡ true
in_range a n j le lt = grind (arith, nat_tests)

pub before_range : (a n j : ℕ) → j < a → (nat_le a j && nat_lt j (a + n)) ≡ false
before_range a n j lt = grind (arith, nat_tests)

pub behind_range : (a n j : ℕ) → a + n ≤ j → (nat_le a j && nat_lt j (a + n)) ≡ false
behind_range a n j le = grind (arith, nat_tests)

pub empty_range : (a n j : ℕ) → (n == 0) ≡ true → (nat_le a j && nat_lt j (a + n)) ≡ false
empty_range a n j e = grind (arith, nat_tests)

-- the ranges of the files ascend from next on, and end at len or before
abbrev pub Ascend : ℕ → ℕ → List File → Type 0
Ascend len next [] = Unit {0}
Ascend len next (f ∷ fs) = MatchBool (f.symbol_count == 0) (Ascend len next fs) ((next ≤ f.first_symbol) × (f.first_symbol + f.symbol_count ≤ len) × Ascend len (f.first_symbol + f.symbol_count) fs)

-- a symbol before the ranges is in none
own_before : (len next : ℕ) (fs : List File) (j : ℕ) → Ascend len next fs → j < next → own fs j ≡ 0
own_before len next [] j h lt = refl
own_before len next (f ∷ fs) j h lt =
    elim (cases_Bool (f.symbol_count == 0)) [
      | inl t ↦ rw (empty_range f.first_symbol f.symbol_count j t) (own_before len next fs j (rw t at h) lt)
      | inr n ↦ (let w = rw n at h in rw (before_range f.first_symbol f.symbol_count j (omega arith)) (own_before len (f.first_symbol + f.symbol_count) fs j w.2 (omega arith)))
    ]

or_found : (g r : Option ℕ) (m : ℕ) (X : ℕ → Option ℕ) → or_first g (or_first r (X m)) ≡ go_on (found_or (or_first g r) m) (λ i. Some i) X
or_found None None m X = refl
or_found None (Some j) m X = refl
or_found (Some i) r m X = refl

length_range : (a n : ℕ) (sym : List Symbol) → a + n ≤ length sym → length (take n (drop a sym)) ≡ n
length_range a n sym h = length-take-le n (drop a sym) (rw length-drop (omega arith))

-- one file's step
file_step : (l : Layout) (next : ℕ) (f : File) (fs : List File) → Ascend (length l.symbols) next (f ∷ fs) → astray_by l (own (f ∷ fs)) next (drop next l.symbols) ≡ go_on (file_walk l next f) (λ i. Some i) (λ n. astray_by l (own fs) n (drop n l.symbols))
file_step l next f fs h =
    elim (cases_Bool (f.symbol_count == 0)) [
      | inl t ↦ rw t (agrees l _ _ next (drop next l.symbols) (λ j le. rw (empty_range f.first_symbol f.symbol_count j t)))
      | inr n ↦ rw n (step (rw n at h))
    ]
  where
    step : (next ≤ f.first_symbol) × (f.first_symbol + f.symbol_count ≤ length l.symbols) × Ascend (length l.symbols) (f.first_symbol + f.symbol_count) fs → astray_by l (own (f ∷ fs)) next (drop next l.symbols) ≡ go_on (found_or (or_first (gap_astray l next f) (range_astray l f)) (f.first_symbol + length (range_of l.symbols f))) (λ i. Some i) (λ n. astray_by l (own fs) n (drop n l.symbols))
    step w =
        let a = f.first_symbol in
        let n = f.symbol_count in
        let C : ℕ → ℕ = own (f ∷ fs) in
        let gap = run l C 0 (a - next) next (drop next l.symbols) (λ j le lt. let lt' : j < a = omega arith in rw (before_range a n j lt') (own_before (length l.symbols) (a + n) fs j w.2 (omega arith))) in
        let e : next + (a - next) ≡ a = omega arith in
        let gap' = rw (drop-drop, e) at gap in
        let range = run l C (length f.sections) n a (drop a l.symbols) (λ j le lt. rw (in_range a n j le lt)) in
        let range' = rw drop-drop at range in
        let rest = agrees l C (own fs) (a + n) (drop (a + n) l.symbols) (λ j le. rw (behind_range a n j le)) in
        let X : ℕ → Option ℕ = λ m. astray_by l (own fs) m (drop m l.symbols) in
        rw (length_range a n l.symbols w.1)
        (gap' ∙ ap (or_first (gap_astray l next f)) (range' ∙ ap (or_first (range_astray l f)) rest) ∙ or_found (gap_astray l next f) (range_astray l f) (a + n) X)

-- where the file's step leads, the ranges behind ascend
file_next : (l : Layout) (next n : ℕ) (f : File) (fs : List File) → Ascend (length l.symbols) next (f ∷ fs) → file_walk l next f ≡ Ok n → Ascend (length l.symbols) n fs
file_next l next n f fs h e =
    elim (cases_Bool (f.symbol_count == 0)) [
      | inl t ↦ (let same : Ok next ≡ Ok n = rw t at e in let at : next ≡ n = cc in rw (← at) (rw t at h))
      | inr k ↦ (let w = rw k at h in ended (or_first (gap_astray l next f) (range_astray l f)) w (rw k at e))
    ]
  where
    ended : (o : Option ℕ) → (next ≤ f.first_symbol) × (f.first_symbol + f.symbol_count ≤ length l.symbols) × Ascend (length l.symbols) (f.first_symbol + f.symbol_count) fs → found_or o (f.first_symbol + length (range_of l.symbols f)) ≡ Ok n → Ascend (length l.symbols) n fs
    ended (Some i) w e = cc
    ended None w e =
        let long = length_range f.first_symbol f.symbol_count l.symbols w.1 in
        let at : f.first_symbol + f.symbol_count ≡ n = cc (rw long at e) in
        rw (← at) w.2

files_step : (l : Layout) (next : ℕ) (fs later : List File) → Ascend (length l.symbols) next (fs ++ later) → (astray_by l (own (fs ++ later)) next (drop next l.symbols) ≡ go_on (files_walk l next fs) (λ i. Some i) (λ n. astray_by l (own later) n (drop n l.symbols))) × ((n : ℕ) → files_walk l next fs ≡ Ok n → Ascend (length l.symbols) n later)
files_step l next [] later h = (refl, λ n e. (let at : next ≡ n = cc in rw (← at) h))
files_step l next (f ∷ fs) later h =
    let here = file_step l next f (fs ++ later) h in
    by_walk (file_walk l next f) here (λ n e. file_next l next n f (fs ++ later) h e) (λ n. files_step l n fs later)
  where
    by_walk : (r : Result ℕ ℕ) → astray_by l (own (f ∷ fs ++ later)) next (drop next l.symbols) ≡ go_on r (λ i. Some i) (λ n. astray_by l (own (fs ++ later)) n (drop n l.symbols)) → ((n : ℕ) → r ≡ Ok n → Ascend (length l.symbols) n (fs ++ later)) → ((n : ℕ) → Ascend (length l.symbols) n (fs ++ later) → (astray_by l (own (fs ++ later)) n (drop n l.symbols) ≡ go_on (files_walk l n fs) (λ i. Some i) (λ n. astray_by l (own later) n (drop n l.symbols))) × ((m : ℕ) → files_walk l n fs ≡ Ok m → Ascend (length l.symbols) m later)) → (astray_by l (own (f ∷ fs ++ later)) next (drop next l.symbols) ≡ go_on (go_on r (λ i. Err i) (λ n. files_walk l n fs)) (λ i. Some i) (λ n. astray_by l (own later) n (drop n l.symbols))) × ((n : ℕ) → go_on r (λ i. Err i) (λ n. files_walk l n fs) ≡ Ok n → Ascend (length l.symbols) n later)
    by_walk (Err i) here next again = (here, λ n e. cc)
    by_walk (Ok n) here next again = (let w = again n (next n refl) in (here ∙ w.0, w.1))

groups_step : (l : Layout) (next : ℕ) (gs : List Group) → Ascend (length l.symbols) next (files_of gs) → astray_by l (own (files_of gs)) next (drop next l.symbols) ≡ walk_end l (groups_walk l next gs)
groups_step l next [] h = behind_all l next (drop next l.symbols)
groups_step l next (g ∷ gs) h =
    let here = files_step l next g.files (files_of gs) h in
    by_walk (files_walk l next g.files) here.0 here.1 (λ n. groups_step l n gs)
  where
    by_walk : (r : Result ℕ ℕ) → astray_by l (own (files_of (g ∷ gs))) next (drop next l.symbols) ≡ go_on r (λ i. Some i) (λ n. astray_by l (own (files_of gs)) n (drop n l.symbols)) → ((n : ℕ) → r ≡ Ok n → Ascend (length l.symbols) n (files_of gs)) → ((n : ℕ) → Ascend (length l.symbols) n (files_of gs) → astray_by l (own (files_of gs)) n (drop n l.symbols) ≡ walk_end l (groups_walk l n gs)) → astray_by l (own (files_of (g ∷ gs))) next (drop next l.symbols) ≡ walk_end l (go_on r (λ i. Err i) (λ n. groups_walk l n gs))
    by_walk (Err i) here next again = here
    by_walk (Ok n) here next again = here ∙ again n (next n refl)

files_ascend : (l : Layout) (next n : ℕ) (fs later : List File) → ranges_lie (length l.symbols) next fs ≡ Some n → Ascend (length l.symbols) n later → Ascend (length l.symbols) next (fs ++ later)
files_ascend l next n [] later lies h = let at : next ≡ n = cc in rw at h
files_ascend l next n (f ∷ fs) later lies h =
    elim (cases_Bool (f.symbol_count == 0)) [
      | inl t ↦ rw t (files_ascend l next n fs later (rw t at lies) h)
      | inr k ↦ rw k (behind (rw k at lies) (λ e. files_ascend l (f.first_symbol + f.symbol_count) n fs later e h))
    ]
  where
    behind : option_and_then (λ t. ranges_lie (length l.symbols) t fs) (if nat_le next f.first_symbol && nat_le (f.first_symbol + f.symbol_count) (length l.symbols) then Some (f.first_symbol + f.symbol_count) else None) ≡ Some n → (ranges_lie (length l.symbols) (f.first_symbol + f.symbol_count) fs ≡ Some n → Ascend (length l.symbols) (f.first_symbol + f.symbol_count) (fs ++ later)) → (next ≤ f.first_symbol) × (f.first_symbol + f.symbol_count ≤ length l.symbols) × Ascend (length l.symbols) (f.first_symbol + f.symbol_count) (fs ++ later)
    behind order again =
        elim (cases_Bool (nat_le next f.first_symbol && nat_le (f.first_symbol + f.symbol_count) (length l.symbols))) [
          | inl t ↦ (let both = and_parts (nat_le next f.first_symbol) (nat_le (f.first_symbol + f.symbol_count) (length l.symbols)) t in (leb-true _ _ both.0, leb-true _ _ both.1, again (rw t at order)))
          | inr u ↦ cc (rw u at order)
        ]

groups_ascend : (l : Layout) (next n : ℕ) (gs : List Group) → all_ranges_lie (length l.symbols) next gs ≡ Some n → Ascend (length l.symbols) next (files_of gs)
groups_ascend l next n [] lie = tt
groups_ascend l next n (g ∷ gs) lie = by_end (ranges_lie (length l.symbols) next g.files) refl lie (λ m e. groups_ascend l m n gs e)
  where
    by_end : (o : Option ℕ) → ranges_lie (length l.symbols) next g.files ≡ o → option_and_then (λ m. all_ranges_lie (length l.symbols) m gs) o ≡ Some n → ((m : ℕ) → all_ranges_lie (length l.symbols) m gs ≡ Some n → Ascend (length l.symbols) m (files_of gs)) → Ascend (length l.symbols) next (files_of (g ∷ gs))
    by_end None e lie again = cc
    by_end (Some m) e lie again = files_ascend l next m g.files (files_of gs) e (again m lie)

pub lie_ascend : (l : Layout) → is_some (all_ranges_lie (length l.symbols) 0 l.groups) ≡ true → Ascend (length l.symbols) 0 (files_of l.groups)
lie_ascend l lie = by (all_ranges_lie (length l.symbols) 0 l.groups) refl lie
  where
    by : (o : Option ℕ) → all_ranges_lie (length l.symbols) 0 l.groups ≡ o → is_some o ≡ true → Ascend (length l.symbols) 0 (files_of l.groups)
    by None e h = cc
    by (Some n) e h = groups_ascend l 0 n l.groups e

pub walk_finds : (l : Layout) → is_some (all_ranges_lie (length l.symbols) 0 l.groups) ≡ true → symbol_misfit l (files_of l.groups) 0 l.symbols ≡ walk_end l (groups_walk l 0 l.groups)
walk_finds l lie = is_astray_by l (files_of l.groups) 0 l.symbols ∙ groups_step l 0 l.groups (lie_ascend l lie)

-- ---- a range that begins where the one ahead ends

pub no_gap : (l : Layout) (next : ℕ) (f : File) → f.first_symbol ≤ next → gap_astray l next f ≡ None
no_gap l next f h = let e : f.first_symbol - next ≡ 0 = omega (arith, h) in rw e refl

-- ---- one symbol's own file

count_of : (files later : List File) (i : ℕ) → section_count (file_of (files ++ later) i) ≡ unwrap_or (count_in files i) (section_count (file_of later i))
count_of [] later i = refl
count_of (f ∷ fs) later i =
    elim (cases_Bool (nat_le f.first_symbol i && nat_lt i (f.first_symbol + f.symbol_count))) [
      | inl t ↦ rw t
      | inr n ↦ rw n (count_of fs later i)
    ]

own_step : (gs : List Group) (k i : ℕ) (g : Group) → k < length gs → g ≡ get_or gs k g → section_count (file_of (files_of (drop k gs)) i) ≡ unwrap_or (count_in g.files i) (section_count (file_of (files_of (drop (k + 1) gs)) i))
own_step gs k i g lt e =
    let more : suc k ≡ k + 1 = omega arith in
    let cut : drop k gs ≡ get_or gs k g ∷ drop (k + 1) gs = subst (λ (n : ℕ). drop k gs ≡ get_or gs k g ∷ drop n gs) more (drop-cons gs k g lt) in
    let cut' : drop k gs ≡ g ∷ drop (k + 1) gs = subst (λ (x : Group). drop k gs ≡ x ∷ drop (k + 1) gs) (sym e) cut in
    rw cut' (count_of g.files (files_of (drop (k + 1) gs)) i)

pub own_found : (gs : List Group) (k i n : ℕ) (g : Group) (fs : List File) → k < length gs → g ≡ get_or gs k g → fs ≡ g.files → count_in fs i ≡ Some n → section_count (file_of (files_of (drop k gs)) i) ≡ n
own_found gs k i n g fs lt e same found =
    let found' : count_in g.files i ≡ Some n = subst (λ (xs : List File). count_in xs i ≡ Some n) same found in
    own_step gs k i g lt e ∙ rw found'

pub own_later : (gs : List Group) (k i : ℕ) (g : Group) (fs : List File) → k < length gs → g ≡ get_or gs k g → fs ≡ g.files → count_in fs i ≡ None → section_count (file_of (files_of (drop k gs)) i) ≡ section_count (file_of (files_of (drop (k + 1) gs)) i)
own_later gs k i g fs lt e same none =
    let none' : count_in g.files i ≡ None = subst (λ (xs : List File). count_in xs i ≡ None) same none in
    own_step gs k i g lt e ∙ rw none'

-- ---- ranges that lie in order are out of order nowhere

file_follows : (len end n : ℕ) (f : File) → range_lies len end f ≡ Some n → range_follows end f ≡ Some n
file_follows len end n f h = by (f.symbol_count == 0) (nat_le end f.first_symbol) (nat_le (f.first_symbol + f.symbol_count) len) (Some (f.first_symbol + f.symbol_count)) h
  where
    by : (none from to : Bool) (next : Option ℕ) → (if none then Some end else (if from && to then next else None)) ≡ Some n → (if none then Some end else (if from then next else None)) ≡ Some n
    by true from to next k = k
    by false true true next k = k
    by false true false next k = cc
    by false false to next k = cc

files_follow : (len end n : ℕ) (fs : List File) → ranges_lie len end fs ≡ Some n → through range_follows end fs ≡ Some n
files_follow len end n [] h = h
files_follow len end n (f ∷ fs) h = by (range_lies len end f) refl h (λ m. files_follow len m n fs)
  where
    by : (o : Option ℕ) → range_lies len end f ≡ o → option_and_then (λ m. ranges_lie len m fs) o ≡ Some n → ((m : ℕ) → ranges_lie len m fs ≡ Some n → through range_follows m fs ≡ Some n) → option_and_then (λ m. through range_follows m fs) (range_follows end f) ≡ Some n
    by None e k again = cc
    by (Some m) e k again = rw (file_follows len end m f e) (again m k)

groups_follow : (len end i : ℕ) (gs : List Group) → is_some (all_ranges_lie len end gs) ≡ true → range_out_of_order end i gs ≡ None
groups_follow len end i [] h = refl
groups_follow len end i (g ∷ gs) h = by (ranges_lie len end g.files) refl h (λ m. groups_follow len m (i + 1) gs)
  where
    by : (o : Option ℕ) → ranges_lie len end g.files ≡ o → is_some (option_and_then (λ m. all_ranges_lie len m gs) o) ≡ true → ((m : ℕ) → is_some (all_ranges_lie len m gs) ≡ true → range_out_of_order m (i + 1) gs ≡ None) → or_place i (through range_follows end g.files) (λ next. range_out_of_order next (i + 1) gs) ≡ None
    by None e k again = cc
    by (Some m) e k again = rw (files_follow len end m g.files e) (again m k)

pub none_out_of_order : (l : Layout) (lie : Bool) → lie ≡ is_some (all_ranges_lie (length l.symbols) 0 l.groups) → lie ≡ true → range_out_of_order 0 0 l.groups ≡ None
none_out_of_order l lie e h = groups_follow (length l.symbols) 0 0 l.groups (sym e ∙ h)
