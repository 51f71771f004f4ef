-- One step of each loop, and its end.
use Rattle.std.proofs.Common.{◌≡◌, ℕ, ℤ, zero, suc, ◌+◌, ◌-◌, ◌*◌, ◌<◌, ◌≤◌, ◌⊎◌, List, [], ◌∷◌, ◌++◌, length, drop, get_or, refl, sym, ap, ◌∙◌, arith, inl, inr, subst}
use Rattle.std.specs.Prelude.{Option, Some, None, Result, Ok, Err, bytes_eq, if◌then◌else◌, slice_get, slice_set, IfSome}
use Rattle.std.specs.HashMap.{HashMap, get_by, UpdatesBy}
use Rattle.std.proofs.lemmas.Bool.{cases_Bool}
use Rattle.std.proofs.lemmas.List.{drop_more, drop_all, append_assoc, append-nil}
use Rattle.std.proofs.lemmas.Map.Text.{hash_map_updates_str}
use Rattle.std.proofs.lemmas.Option.{slice_get_past, slice_get-get_or}
use Rattle.wild_words.specs.declared.extents.Extent.{Extent}
use Rattle.wild_records.specs.ProgramHeader.{program_header_at}
use Rattle.wild_records.specs.declared.program_header.ProgramHeader.{ProgramHeader}
use Rattle.wild_loader.specs.Headers.{program_headers}
use Rattle.wild_loader.specs.declared.fault.LoadFault.{LoadFault}
use Rattle.wild_loader.specs.declared.fault.LoadFault.TheVariants as load_faults
use Rattle.wild_loader.specs.declared.memory.Memory.{Memory}
use Rattle.wild_loader.specs.declared.world.Answer.{Answer}
use Rattle.wild_loader.specs.declared.world.World.{World}
use Rattle.wild_loader.specs.Outcome.{Gives as LoaderGives}
use Rattle.wild_hashes.specs.declared.tables.ImageTables.{ImageTables}
use Rattle.wild_space.specs.declared.fault.BindFault.{BindFault}
use Rattle.wild_space.specs.declared.fault.BindFault.TheVariants as faults
use Rattle.wild_space.specs.declared.image.NamedImage.{NamedImage}
use Rattle.wild_space.specs.declared.symbols.Source.{Source}
use Rattle.wild_space.specs.Given.{◌>>=◌, load, Fails, Gives, steps}
use Rattle.wild_space.specs.Names.{named_from, IsTableFrom}
use Rattle.wild_space.specs.Order.{tables_of, target, with_image, with_targets, with_needed, with_next, walk, HasTables, AreTables}
use Rattle.wild_space.specs.OrderLaws.{tables_after}
use Rattle.wild_space.specs.Binds.{find_in, definition_or, first_definition, distance_of, modules_from}
use Rattle.wild_space.specs.Bound.{copies_in, no_copies, none_copies, memory_of_image, memories, with_bytes, with_copy, with_copies}
use Rattle.wild_space.specs.Overlaps.{has_addresses, extents_of}
use denote.Ref.{Bor}

-- ---- names

named_step : (xs : List NamedImage) (i : ℕ) (x : NamedImage) (name : List ℕ) → i < length xs → x ≡ get_or xs i x → named_from i (drop i xs) name ≡ (if bytes_eq x.name name then Some i else named_from (i + 1) (drop (i + 1) xs) name)
unfolding named_from
named_step xs i x name lt is =
    let rest : drop i xs ≡ x ∷ drop (i + 1) xs = drop_more xs i x lt ∙ ap (λ (q : NamedImage). q ∷ drop (i + 1) xs) (sym is) in
    rw rest refl

named_none : (i : ℕ) (xs : List NamedImage) (name : List ℕ) → length xs ≤ i → named_from i (drop i xs) name ≡ None
unfolding named_from
named_none i xs name h = rw (drop_all i xs h) refl

-- a table without entries is that of no images
pub table_start : {S : Type 0} (t : HashMap (Bor (List ℕ)) ℕ S) (xs : List NamedImage) (i : ℕ) → t.entries ≡ [] → length xs ≤ i → IsTableFrom i t (drop i xs)
table_start t xs i empty h = λ name. rw empty (sym (named_none i xs name h))

-- one more image at the front
pub table_step : {S : Type 0} (t u : HashMap (Bor (List ℕ)) ℕ S) (xs : List NamedImage) (i : ℕ) (x : NamedImage) (key : Bor (List ℕ)) → i < length xs → x ≡ get_or xs i x → key.now ≡ x.name → IsTableFrom (i + 1) t (drop (i + 1) xs) → UpdatesBy (λ a b. bytes_eq a.now b.now) (λ k. bytes_eq key.now k.now) t u (Some i) → IsTableFrom i u (drop i xs)
table_step t u xs i x key lt is same rest updates = λ name.
    hash_map_updates_str key.now t u (Some i) updates name
    ∙ ap (λ (n : List ℕ). if bytes_eq n name then Some i else get_by (λ k. bytes_eq name k.now) t) same
    ∙ ap (λ (o : Option ℕ). if bytes_eq x.name name then Some i else o) (rest name)
    ∙ sym (named_step xs i x name lt is)

pub named_before : (xs : List NamedImage) (i : ℕ) (name : List ℕ) (j : ℕ) → named_from i xs name ≡ Some j → j < i + length xs
unfolding named_from
named_before [] i name j h = cc
named_before (x ∷ xs) i name j h =
    elim (cases_Bool (bytes_eq x.name name)) [
      | inl t ↦ (let e : Some i ≡ Some j = rw t at h in let f : i ≡ j = cc in omega (arith, f))
      | inr n ↦ (let e : named_from (i + 1) xs name ≡ Some j = rw n at h in let r = named_before xs (i + 1) name j e in omega (arith, r))
    ]

-- the image with a name is one of them
pub named_within : (xs : List NamedImage) (name : List ℕ) (r : Option ℕ) → r ≡ named_from 0 xs name → IfSome r (λ j. j < length xs)
named_within xs name None h = tt
named_within xs name (Some j) h = let r = named_before xs 0 name j (sym h) in omega (arith, r)

-- ---- order

pub target_step : (xs : List NamedImage) (i : ℕ) (t : ImageTables) (k : ℕ) (needed order : List ℕ) → k < length needed → with_targets xs i t k (drop k needed) order ≡ (target xs i t k (get_or needed k 0) >>= λ j. with_targets xs i t (k + 1) (drop (k + 1) needed) (with_image order j))
unfolding with_targets
target_step xs i t k needed order lt = rw (drop_more needed k 0 lt) refl

pub target_end : (xs : List NamedImage) (i : ℕ) (t : ImageTables) (k : ℕ) (needed order : List ℕ) → length needed ≤ k → with_targets xs i t k (drop k needed) order ≡ Ok order
unfolding with_targets
target_end xs i t k needed order h = rw (drop_all k needed h) refl

pub walk_step : (xs : List NamedImage) (n p : ℕ) (order : List ℕ) → p < n → walk xs (n - p) p order ≡ (with_next xs order (slice_get order p) >>= λ more. walk xs (n - (p + 1)) (p + 1) more)
unfolding walk
walk_step xs n p order lt =
    let e : n - p ≡ suc (n - (p + 1)) = omega (arith, lt) in
    rw e refl

pub walk_end : (xs : List NamedImage) (n p : ℕ) (order : List ℕ) → n ≤ p → walk xs (n - p) p order ≡ Ok order
unfolding walk
walk_end xs n p order h =
    let e : n - p ≡ 0 = omega (arith, h) in
    rw e refl

-- past the order's end nothing is needed
pub walk_past : (xs : List NamedImage) (left p : ℕ) (order : List ℕ) → length order ≤ p → walk xs left p order ≡ Ok order
unfolding walk
walk_past xs zero p order h = refl
walk_past xs (suc left) p order h = rw (slice_get_past order p h) (walk_past xs left (p + 1) order (omega (arith, h)))

pub ruleset targets_steps = (target_step, target_end)

pub ruleset walk_steps = (walk_step, walk_end, walk_past)

-- ---- the tables of an order

pub tables_step : (xs : List NamedImage) (n : ℕ) (order : List ℕ) (ts : List ImageTables) → n < length order → tables_after xs (drop n order) ts ≡ (tables_of xs (get_or order n 0) >>= λ t. tables_after xs (drop (n + 1) order) (ts ++ t ∷ []))
unfolding tables_after
tables_step xs n order ts lt = rw (drop_more order n 0 lt) refl

pub tables_end : (xs : List NamedImage) (n : ℕ) (order : List ℕ) (ts : List ImageTables) → length order ≤ n → tables_after xs (drop n order) ts ≡ Ok ts
unfolding tables_after
tables_end xs n order ts h = rw (drop_all n order h) refl

pub tables_next : (xs : List NamedImage) (n : ℕ) (order : List ℕ) (ts more : List ImageTables) (t : ImageTables) (whole : Result (List ImageTables) BindFault) → n < length order → tables_of xs (get_or order n 0) ≡ Ok t → more ≡ ts ++ t ∷ [] → tables_after xs (drop n order) ts ≡ whole → tables_after xs (drop (n + 1) order) more ≡ whole
tables_next xs n order ts more t whole lt own is on =
    let step : tables_after xs (drop n order) ts ≡ tables_after xs (drop (n + 1) order) (ts ++ t ∷ []) = rw (tables_step xs n order ts lt, own) refl in
    ap (λ (q : List ImageTables). tables_after xs (drop (n + 1) order) q) is ∙ sym step ∙ on

pub ruleset tables_steps = (tables_step, tables_end)

-- ---- binds

pub definition_step : (xs : List NamedImage) (n : ℕ) (order name : List ℕ) → n < length order → first_definition xs n (drop n order) name ≡ (find_in xs (get_or order n 0) name >>= λ found. definition_or n found (first_definition xs (n + 1) (drop (n + 1) order) name))
unfolding first_definition
definition_step xs n order name lt = rw (drop_more order n 0 lt) refl

pub definition_end : (xs : List NamedImage) (n : ℕ) (order name : List ℕ) → length order ≤ n → first_definition xs n (drop n order) name ≡ Ok None
unfolding first_definition
definition_end xs n order name h = rw (drop_all n order h) refl

pub ruleset definition_steps = (definition_step, definition_end)

-- ---- worlds

pub modules_step : (xs : List NamedImage) (n : ℕ) (order : List ℕ) → n < length order → modules_from xs n (drop n order) ≡ (n + 1, distance_of xs (get_or order n 0)) ∷ modules_from xs (n + 1) (drop (n + 1) order)
unfolding modules_from
modules_step xs n order lt = rw (drop_more order n 0 lt) refl

pub modules_end : (xs : List NamedImage) (n : ℕ) (order : List ℕ) → length order ≤ n → modules_from xs n (drop n order) ≡ []
unfolding modules_from
modules_end xs n order h = rw (drop_all n order h) refl

pub ruleset modules_steps = (modules_step, modules_end)

-- ---- steps

pub steps_more : {S : Type 0} (step : ℕ → S → Result S BindFault) (count k : ℕ) (s : S) → k < count → steps step (count - k) k s ≡ (step k s >>= λ next. steps step (count - (k + 1)) (k + 1) next)
unfolding steps
steps_more step count k s lt =
    let e : count - k ≡ suc (count - (k + 1)) = omega (arith, lt) in
    rw e refl

pub steps_none : {S : Type 0} (step : ℕ → S → Result S BindFault) (count k : ℕ) (s : S) → count ≤ k → steps step (count - k) k s ≡ Ok s
unfolding steps
steps_none step count k s h =
    let e : count - k ≡ 0 = omega (arith, h) in
    rw e refl

pub ruleset all_steps = (steps_more, steps_none)

-- ---- COPY entries

pub none_copies_step : (xs : List NamedImage) (n : ℕ) (order : List ℕ) → n < length order → none_copies xs (drop n order) ≡ (copies_in xs (get_or order n 0) >>= λ ks. no_copies (get_or order n 0) ks >>= λ none. none_copies xs (drop (n + 1) order))
unfolding none_copies
none_copies_step xs n order lt = rw (drop_more order n 0 lt) refl

pub none_copies_end : (xs : List NamedImage) (n : ℕ) (order : List ℕ) → length order ≤ n → none_copies xs (drop n order) ≡ Ok tt
unfolding none_copies
none_copies_end xs n order h = rw (drop_all n order h) refl

pub ruleset none_copies_steps = (none_copies_step, none_copies_end)

-- ---- extents

abbrev extents_from : ℕ → List ℕ → ℕ → ℕ → ℕ → List Extent
extents_from base image count i start = extents_of base (program_headers image (count - i) (start + 56 * i))

extents_one : (base : ℕ) (h : ProgramHeader) (hs : List ProgramHeader) → extents_of base (h ∷ hs) ≡ extents_of base (h ∷ []) ++ extents_of base hs
unfolding extents_of
extents_one base h hs =
    elim (cases_Bool (has_addresses base h)) [
      | inl t ↦ rw t refl
      | inr f ↦ rw f refl
    ]

pub extents_next : (base : ℕ) (image : List ℕ) (count i start : ℕ) (acc more whole : List Extent) → i < count → more ≡ acc ++ extents_of base (program_header_at image (start + 56 * i) ∷ []) → acc ++ extents_from base image count i start ≡ whole → more ++ extents_from base image count (i + 1) start ≡ whole
unfolding program_headers
extents_next base image count i start acc more whole l is on =
    let h = program_header_at image (start + 56 * i) in
    let hs = program_headers image (count - (i + 1)) (start + 56 * (i + 1)) in
    let e : count - i ≡ suc (count - (i + 1)) = omega (arith, l) in
    let f : start + 56 * i + 56 ≡ start + 56 * (i + 1) = omega arith in
    let step : extents_from base image count i start ≡ extents_of base (h ∷ hs) = rw (e, f) refl in
    ap (λ (q : List Extent). q ++ extents_of base hs) is
    ∙ append_assoc acc (extents_of base (h ∷ [])) (extents_of base hs)
    ∙ ap (λ (q : List Extent). acc ++ q) (sym (extents_one base h hs) ∙ sym step)
    ∙ on

pub extents_done : (base : ℕ) (image : List ℕ) (count i start : ℕ) (acc whole : List Extent) → count ≤ i → acc ++ extents_from base image count i start ≡ whole → acc ≡ whole
unfolding program_headers extents_of
extents_done base image count i start acc whole l on =
    let e : count - i ≡ 0 = omega (arith, l) in
    let step : extents_from base image count i start ≡ [] = rw e refl in
    sym (append-nil acc) ∙ ap (λ (q : List Extent). acc ++ q) (sym step) ∙ on

-- ---- refusals

-- a fault is passed on
pub fails_on : {A B : Type 0} (e : BindFault) (a : Result A BindFault) (b : Result B BindFault) → (a ≡ Err e → b ≡ Err e) → Fails e a → Fails e b
fails_on (faults.Load i f) a b on h = on h
fails_on (faults.LookUp i f) a b on h = on h
fails_on (faults.Missing i k) a b on h = on h
fails_on (faults.CopyInLibrary i k) a b on h = on h
fails_on (faults.Undefined i k) a b on h = on h
fails_on (faults.NoAnswer v) a b on h = on h
fails_on (faults.Overlap v) a b on h = on h
fails_on faults.OutOfMemory a b on h = tt

pub fails_as : {A : Type 0} (e : BindFault) (a : Result A BindFault) → a ≡ Err e → Fails e a
fails_as (faults.Load i f) a h = h
fails_as (faults.LookUp i f) a h = h
fails_as (faults.Missing i k) a h = h
fails_as (faults.CopyInLibrary i k) a h = h
fails_as (faults.Undefined i k) a h = h
fails_as (faults.NoAnswer v) a h = h
fails_as (faults.Overlap v) a h = h
fails_as faults.OutOfMemory a h = tt

-- what the loader gives is what the definition gives of the image
pub load_gives : {A : Type 0} (i : ℕ) (result read : Result A LoadFault) → LoaderGives result read → Gives (load i result) (load i read)
load_gives i (Ok x) read h = ap (load i) h
load_gives i (Err load_faults.NotElf) read h = ap (load i) h
load_gives i (Err (load_faults.Cut o)) read h = ap (load i) h
load_gives i (Err (load_faults.NoTable t)) read h = ap (load i) h
load_gives i (Err (load_faults.UnknownDynamic n)) read h = ap (load i) h
load_gives i (Err (load_faults.UnknownSymbol k)) read h = ap (load i) h
load_gives i (Err (load_faults.NoAnswer v)) read h = ap (load i) h
load_gives i (Err (load_faults.Unloaded a)) read h = ap (load i) h
load_gives i (Err (load_faults.Wraps a)) read h = ap (load i) h
load_gives i (Err (load_faults.Overlap a)) read h = ap (load i) h
load_gives i (Err load_faults.OutOfMemory) read h = tt

pub target_refused : (xs : List NamedImage) (i : ℕ) (t : ImageTables) (k : ℕ) (needed order : List ℕ) (whole : Result (List ℕ) BindFault) (e : BindFault) → k < length needed → Err e ≡ target xs i t k (get_or needed k 0) → with_targets xs i t k (drop k needed) order ≡ whole → Fails e whole
target_refused xs i t k needed order whole e lt is on =
    let refused : with_targets xs i t k (drop k needed) order ≡ Err e = rw (target_step xs i t k needed order lt, sym is) refl in
    fails_as e whole (sym on ∙ refused)

walk_here : (xs : List NamedImage) (n p : ℕ) (order : List ℕ) → p < n → p < length order → walk xs (n - p) p order ≡ (with_needed xs (get_or order p 0) order >>= λ more. walk xs (n - (p + 1)) (p + 1) more)
walk_here xs n p order lt inside = rw (walk_step xs n p order lt, slice_get-get_or order p 0 inside) refl

pub walk_refused : (xs : List NamedImage) (n p : ℕ) (order : List ℕ) (whole : Result (List ℕ) BindFault) (e : BindFault) → p < n → p < length order → Fails e (with_needed xs (get_or order p 0) order) → walk xs (n - p) p order ≡ whole → Fails e whole
walk_refused xs n p order whole e lt inside fails on =
    let here = with_needed xs (get_or order p 0) order in
    let P : here ≡ Err e → whole ≡ Err e = λ h. sym on ∙ walk_here xs n p order lt inside ∙ rw h refl in
    fails_on e here whole P fails

pub walk_next : (xs : List NamedImage) (n p : ℕ) (order more : List ℕ) (whole : Result (List ℕ) BindFault) → p < n → p < length order → with_needed xs (get_or order p 0) order ≡ Ok more → walk xs (n - p) p order ≡ whole → walk xs (n - (p + 1)) (p + 1) more ≡ whole
walk_next xs n p order more whole lt inside is on =
    let here : walk xs (n - p) p order ≡ walk xs (n - (p + 1)) (p + 1) more = walk_here xs n p order lt inside ∙ rw is refl in
    sym here ∙ on

pub modules_next : (xs : List NamedImage) (n : ℕ) (order : List ℕ) (d : ℤ) (acc whole : List (ℕ × ℤ)) → n < length order → d ≡ distance_of xs (get_or order n 0) → acc ++ modules_from xs n (drop n order) ≡ whole → (acc ++ (n + 1, d) ∷ []) ++ modules_from xs (n + 1) (drop (n + 1) order) ≡ whole
modules_next xs n order d acc whole lt is on =
    let step : modules_from xs n (drop n order) ≡ (n + 1, d) ∷ modules_from xs (n + 1) (drop (n + 1) order) = modules_step xs n order lt ∙ ap (λ (z : ℤ). (n + 1, z) ∷ modules_from xs (n + 1) (drop (n + 1) order)) (sym is) in
    append_assoc acc ((n + 1, d) ∷ []) (modules_from xs (n + 1) (drop (n + 1) order)) ∙ ap (λ (t : List (ℕ × ℤ)). acc ++ t) (sym step) ∙ on

pub modules_done : (xs : List NamedImage) (n : ℕ) (order : List ℕ) (acc whole : List (ℕ × ℤ)) → length order ≤ n → acc ++ modules_from xs n (drop n order) ≡ whole → acc ≡ whole
modules_done xs n order acc whole h on = sym (append-nil acc) ∙ ap (λ (t : List (ℕ × ℤ)). acc ++ t) (sym (modules_end xs n order h)) ∙ on

-- ---- tables at places

pub get_last : {X : Type 0} (ys : List X) (y : X) (k : ℕ) → length ys ≡ k → slice_get (ys ++ y ∷ []) k ≡ Some y
get_last [] y zero h = refl
get_last [] y (suc k) h = absurd (omega (arith, h))
get_last (z ∷ zs) y zero h = absurd (omega (arith, h))
get_last (z ∷ zs) y (suc k) h = get_last zs y k (omega (arith, h))

pub get_front : {X : Type 0} (ys zs : List X) (k : ℕ) (y : X) → slice_get ys k ≡ Some y → slice_get (ys ++ zs) k ≡ Some y
get_front [] zs k y h = (let no : None ≡ Some y = h in let bad : ⊥ = cc in absurd bad)
get_front (x ∷ xs) zs zero y h = h
get_front (x ∷ xs) zs (suc k) y h = get_front xs zs k y h

from_push : {X : Type 0} (ys : List X) (y : X) (k : ℕ) (x : X) → slice_get (ys ++ y ∷ []) k ≡ Some x → (slice_get ys k ≡ Some x) ⊎ ((k ≡ length ys) × (x ≡ y))
from_push [] y zero x h = inr (refl, (let e : y ≡ x = cc in sym e))
from_push [] y (suc k) x h = (let no : None ≡ Some x = h in let bad : ⊥ = cc in absurd bad)
from_push (z ∷ zs) y zero x h = inl h
from_push (z ∷ zs) y (suc k) x h =
    elim (from_push zs y k x h) [
      | inl l ↦ inl l
      | inr r ↦ (let e = r.0 in inr (omega (arith, e), r.1))
    ]

pub no_tables : (xs : List NamedImage) (order : List ℕ) → AreTables xs order []
no_tables xs order = λ n t h. (let no : None ≡ Some t = h in let bad : ⊥ = cc in absurd bad)

pub tables_pushed : (xs : List NamedImage) (order : List ℕ) (ts : List ImageTables) (t : ImageTables) (n : ℕ) → length ts ≡ n → HasTables xs (get_or order n 0) t → AreTables xs order ts → AreTables xs order (ts ++ t ∷ [])
tables_pushed xs order ts t n many has are = λ m u h.
    elim (from_push ts t m u h) [
      | inl l ↦ are m u l
      | inr r ↦ (
          let at : n ≡ m = sym many ∙ sym r.0 in
          subst (λ (q : ImageTables). HasTables xs (get_or order m 0) q) (sym r.1) (subst (λ (q : ℕ). HasTables xs (get_or order q 0) t) at has))
    ]

-- ---- memories

pub later_long : (order : List ℕ) (n : ℕ) → n + 1 ≡ length order → length (drop 1 order) ≡ n
later_long [] n h = absurd (omega (arith, h))
later_long (i ∷ is) n h = omega (arith, h)

pub later_at : (order : List ℕ) (n : ℕ) → get_or (drop 1 order) n 0 ≡ get_or order (n + 1) 0
later_at [] n = refl
later_at (i ∷ is) n = (let e : n + 1 ≡ suc n = omega arith in rw e refl)

pub memories_end : (xs : List NamedImage) (js : List ℕ) (ws : List World) (k : ℕ) → length js ≤ k → memories xs (drop k js) (drop k ws) ≡ Ok []
unfolding memories
memories_end xs js ws k h = rw (drop_all k js h) refl

memories_step : (xs : List NamedImage) (js : List ℕ) (ws : List World) (k : ℕ) (w : World) → k < length js → k < length ws → w ≡ get_or ws k w → memories xs (drop k js) (drop k ws) ≡ (memories xs (drop (k + 1) js) (drop (k + 1) ws) >>= λ ms. memory_of_image xs (get_or js k 0) w >>= λ m. Ok (m ∷ ms))
unfolding memories
memories_step xs js ws k w lt in_worlds is =
    let rest : drop k ws ≡ w ∷ drop (k + 1) ws = drop_more ws k w in_worlds ∙ ap (λ (q : World). q ∷ drop (k + 1) ws) (sym is) in
    rw (drop_more js k 0 lt, rest) refl

pub memories_next : (xs : List NamedImage) (js : List ℕ) (ws : List World) (k : ℕ) (w : World) (ms : List Memory) (m : Memory) → k < length js → k < length ws → w ≡ get_or ws k w → memories xs (drop (k + 1) js) (drop (k + 1) ws) ≡ Ok ms → memory_of_image xs (get_or js k 0) w ≡ Ok m → memories xs (drop k js) (drop k ws) ≡ Ok (m ∷ ms)
memories_next xs js ws k w ms m lt in_worlds is rest own = rw (memories_step xs js ws k w lt in_worlds is, rest, own) refl

refused_from : (xs : List NamedImage) (js : List ℕ) (ws : List World) (k : ℕ) (e : BindFault) → memories xs (drop k js) (drop k ws) ≡ Err e → memories xs js ws ≡ Err e
unfolding memories
refused_from xs js ws zero e h = h
refused_from xs [] ws (suc k) e h = h
refused_from xs (j ∷ js) [] (suc k) e h = absurd (no_worlds (drop k js) h)
  where
    no_worlds : (is : List ℕ) → memories xs is [] ≡ Err e → ⊥
    no_worlds [] h = cc
    no_worlds (i ∷ is) h = cc
refused_from xs (j ∷ js) (w ∷ ws) (suc k) e h = rw (refused_from xs js ws k e h) refl

pub memories_refused : (xs : List NamedImage) (js : List ℕ) (ws : List World) (k : ℕ) (w : World) (ms : List Memory) (e : BindFault) → k < length js → k < length ws → w ≡ get_or ws k w → memories xs (drop (k + 1) js) (drop (k + 1) ws) ≡ Ok ms → Fails e (memory_of_image xs (get_or js k 0) w) → Fails e (memories xs js ws)
memories_refused xs js ws k w ms e lt in_worlds is rest fails =
    let P : memory_of_image xs (get_or js k 0) w ≡ Err e → memories xs js ws ≡ Err e = λ own. refused_from xs js ws k e (rw (memories_step xs js ws k w lt in_worlds is, rest, own) refl) in
    fails_on e (memory_of_image xs (get_or js k 0) w) (memories xs js ws) P fails

-- ---- bytes of copies

pub bytes_past : (answers : List Answer) (k : ℕ) (bytes : List ℕ) → length answers ≤ k → with_bytes answers k bytes ≡ answers
unfolding with_bytes
bytes_past [] k bytes h = refl
bytes_past (a ∷ rest) zero bytes h = absurd (omega (arith, h))
bytes_past (a ∷ rest) (suc k) bytes h = ap (λ (q : List Answer). a ∷ q) (bytes_past rest k bytes (omega (arith, h)))

pub bytes_set : (answers : List Answer) (k : ℕ) (bytes : List ℕ) (x : Answer) → k < length answers → x ≡ get_or answers k x → slice_set answers k (record { address = x.address; «module» = x.«module»; offset = x.offset; size = x.size; bytes = bytes }) ≡ with_bytes answers k bytes
unfolding with_bytes
bytes_set [] k bytes x lt is = absurd (omega (arith, lt))
bytes_set (a ∷ rest) zero bytes x lt is = rw is refl
bytes_set (a ∷ rest) (suc k) bytes x lt is = ap (λ (q : List Answer). a ∷ q) (bytes_set rest k bytes x (omega (arith, lt)) is)

pub copies_step : (order : List ℕ) (sources : List (Option Source)) (ms : List Memory) (ks : List ℕ) (i : ℕ) (answers : List Answer) → i < length ks → with_copies order sources ms (drop i ks) answers ≡ (with_copy order ms (get_or ks i 0) (slice_get sources (get_or ks i 0)) answers >>= λ more. with_copies order sources ms (drop (i + 1) ks) more)
unfolding with_copies
copies_step order sources ms ks i answers lt = rw (drop_more ks i 0 lt) refl

pub copies_end : (order : List ℕ) (sources : List (Option Source)) (ms : List Memory) (ks : List ℕ) (i : ℕ) (answers : List Answer) → length ks ≤ i → with_copies order sources ms (drop i ks) answers ≡ Ok answers
unfolding with_copies
copies_end order sources ms ks i answers h = rw (drop_all i ks h) refl

pub ruleset copies_steps = (copies_step, copies_end)

pub copies_next : (order : List ℕ) (sources : List (Option Source)) (ms : List Memory) (ks : List ℕ) (i : ℕ) (answers more : List Answer) (whole : Result (List Answer) BindFault) → i < length ks → with_copy order ms (get_or ks i 0) (slice_get sources (get_or ks i 0)) answers ≡ Ok more → with_copies order sources ms (drop i ks) answers ≡ whole → with_copies order sources ms (drop (i + 1) ks) more ≡ whole
copies_next order sources ms ks i answers more whole lt own on =
    let step : with_copies order sources ms (drop i ks) answers ≡ with_copies order sources ms (drop (i + 1) ks) more = rw (copies_step order sources ms ks i answers lt, own) refl in
    sym step ∙ on

pub copies_refused : (order : List ℕ) (sources : List (Option Source)) (ms : List Memory) (ks : List ℕ) (i : ℕ) (answers : List Answer) (whole : Result (List Answer) BindFault) (e : BindFault) → i < length ks → Fails e (with_copy order ms (get_or ks i 0) (slice_get sources (get_or ks i 0)) answers) → with_copies order sources ms (drop i ks) answers ≡ whole → Fails e whole
copies_refused order sources ms ks i answers whole e lt fails on =
    let here = with_copy order ms (get_or ks i 0) (slice_get sources (get_or ks i 0)) answers in
    let P : here ≡ Err e → whole ≡ Err e = λ h. sym on ∙ copies_step order sources ms ks i answers lt ∙ rw h refl in
    fails_on e here whole P fails

pub ruleset memories_steps = (memories_end, memories_next, memories_refused)
