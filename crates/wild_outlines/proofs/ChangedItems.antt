-- Lists in which one item is replaced, and the outline of a changed layout.
use Rattle.wild_outlines.proofs.Common.{◌≡◌, ℕ, zero, suc, ◌+◌, ◌≤◌, ◌⊎◌, Bool, true, false, List, [], ◌∷◌, map, length, Option, Some, None, refl, sym, ap, ◌∙◌, arith, inl, inr, if◌then◌else◌, option_and_then, slice_get, list_all, and_parts, cases_Bool, length-replicate, InputSection, File, Group, Layout, first_failing, total, each_section, Change, is_changeable, found_section, with_item, changed_section, changed_file, changed_group, changed_layout, place_unless, outline_section, outline_file, outline_group, outline}
use Rattle.std.proofs.lemmas.Bool.{and_from}
use Rattle.wild_change.specs.Change.{if_changeable, section_in_file, section_in_group}
use Rattle.wild_outlines.proofs.ListLemmas.{some_same, and_true}

-- ---- one item replaced

-- a function that does not distinguish the new item from the old one
pub map-with_item : {X Y : Type 0} (v : X → Y) (f : X → X) (i : ℕ) (xs : List X) (x : X) → slice_get xs i ≡ Some x → v (f x) ≡ v x → map v (with_item f i xs) ≡ map v xs
map-with_item v f i [] x h e = refl
map-with_item {X = X} v f zero (y ∷ ys) x h e = first y x h e
  where
    first : (y x : X) → Some y ≡ Some x → v (f x) ≡ v x → v (f y) ∷ map v ys ≡ v y ∷ map v ys
    first y x h e = cc
map-with_item v f (suc i) (y ∷ ys) x h e = ap (λ zs. v y ∷ zs) (map-with_item v f i ys x h e)

pub length-with_item : {X : Type 0} (f : X → X) (i : ℕ) (xs : List X) → length (with_item f i xs) ≡ length xs
length-with_item f i [] = refl
length-with_item f zero (y ∷ ys) = refl
length-with_item f (suc i) (y ∷ ys) = ap suc (length-with_item f i ys)

pub slice_get-with_item : {X : Type 0} (f : X → X) (i : ℕ) (xs : List X) (x : X) → slice_get xs i ≡ Some x → slice_get (with_item f i xs) i ≡ Some (f x)
slice_get-with_item f i [] x h = cc
slice_get-with_item f zero (y ∷ ys) x h = cc
slice_get-with_item f (suc i) (y ∷ ys) x h = slice_get-with_item f i ys x h

-- a sum grows by what the new item counts, and falls by what the old one counted
pub total-with_item : {X : Type 0} (n : X → ℕ) (f : X → X) (i : ℕ) (xs : List X) (x : X) → slice_get xs i ≡ Some x → total n (with_item f i xs) + n x ≡ total n xs + n (f x)
total-with_item n f i [] x h = cc
total-with_item n f zero (y ∷ ys) x h =
    let e = some_same h in
    let a = ap n e in
    let b = ap (λ z. n (f z)) e in
    omega (arith, a, b)
total-with_item n f (suc i) (y ∷ ys) x h = let e = total-with_item n f i ys x h in omega (arith, e)

-- each item passes, and so does the one at a place
pub list_all-at : {X : Type 0} (t : X → Bool) (i : ℕ) (xs : List X) (x : X) → slice_get xs i ≡ Some x → list_all t xs ≡ true → t x ≡ true
list_all-at t i [] x h a = cc
list_all-at t zero (y ∷ ys) x h a = ap t (sym (some_same h)) ∙ (and_parts (t y) (list_all t ys) a).0
list_all-at t (suc i) (y ∷ ys) x h a = list_all-at t i ys x h (and_parts (t y) (list_all t ys) a).1

-- if all items pass, then after one is replaced they do exactly if the new one does
pub list_all-replaced : {X : Type 0} (t : X → Bool) (f : X → X) (i : ℕ) (xs : List X) (x : X) → slice_get xs i ≡ Some x → list_all t xs ≡ true → list_all t (with_item f i xs) ≡ t (f x)
list_all-replaced t f i [] x h a = cc
list_all-replaced t f zero (y ∷ ys) x h a = rw (and_parts (t y) (list_all t ys) a).1 (and_true (t (f y)) ∙ ap (λ z. t (f z)) (some_same h))
list_all-replaced t f (suc i) (y ∷ ys) x h a =
    let q = and_parts (t y) (list_all t ys) a in
    rw q.0 (list_all-replaced t f i ys x h q.1)

-- a search that finds nothing says that all items pass, and the other way round
pub all_pass : {X : Type 0} (t : X → Bool) (i : ℕ) (xs : List X) → first_failing t i xs ≡ None → list_all t xs ≡ true
all_pass t i [] h = refl
all_pass t i (x ∷ xs) h =
    elim (cases_Bool (t x)) [
      | inl p ↦ and_from (t x) (list_all t xs) p (all_pass t (i + 1) xs (rw p at h))
      | inr p ↦ cc (rw p at h)
    ]

pub none_fails : {X : Type 0} (t : X → Bool) (i : ℕ) (xs : List X) → list_all t xs ≡ true → first_failing t i xs ≡ None
none_fails t i [] h = refl
none_fails t i (x ∷ xs) h =
    let p = and_parts (t x) (list_all t xs) h in
    rw p.0 (none_fails t (i + 1) xs p.1)

-- and a search finds the new item, unless it passes
pub failing-replaced : {X : Type 0} (t : X → Bool) (f : X → X) (i j : ℕ) (xs : List X) (x : X) → slice_get xs i ≡ Some x → list_all t xs ≡ true → first_failing t j (with_item f i xs) ≡ place_unless (j + i) (t (f x))
failing-replaced t f i j [] x h a = cc
failing-replaced t f zero j (y ∷ ys) x h a = here (cases_Bool (t (f y))) ∙ ap (λ z. place_unless (j + 0) (t (f z))) (some_same h)
  where
    here : (t (f y) ≡ true) ⊎ (t (f y) ≡ false) → first_failing t j (f y ∷ ys) ≡ place_unless (j + 0) (t (f y))
    here (inl p) = rw p (none_fails t (j + 1) ys (and_parts (t y) (list_all t ys) a).1)
    here (inr p) = rw p (ap (λ (n : ℕ). Some n) (omega arith))
failing-replaced t f (suc i) j (y ∷ ys) x h a =
    let q = and_parts (t y) (list_all t ys) a in
    let e : j + 1 + i ≡ j + suc i = omega arith in
    rw q.0 (failing-replaced t f i (j + 1) ys x h q.1 ∙ ap (λ (n : ℕ). place_unless n (t (f x))) e)

pub failing-first : {X : Type 0} (t : X → Bool) (f : X → X) (i : ℕ) (xs : List X) (x : X) → slice_get xs i ≡ Some x → list_all t xs ≡ true → first_failing t 0 (with_item f i xs) ≡ place_unless i (t (f x))
failing-first t f i xs x h a =
    let e : 0 + i ≡ i = omega arith in
    failing-replaced t f i 0 xs x h a ∙ ap (λ (n : ℕ). place_unless n (t (f x))) e

-- an item counts no more than all
pub total-at : {X : Type 0} (n : X → ℕ) (i : ℕ) (xs : List X) (x : X) → slice_get xs i ≡ Some x → n x ≤ total n xs
total-at n i [] x h = cc
total-at n zero (y ∷ ys) x h = let e = ap n (some_same h) in omega (arith, e)
total-at n (suc i) (y ∷ ys) x h = let e = total-at n i ys x h in omega (arith, e)

-- ---- the section that a change names

-- its group and its file
pub record FoundSection (l : Layout) (c : Change) (s : InputSection) : Type 0 where
  pub group : Group
  pub file : File
  pub in_layout : slice_get l.groups c.group ≡ Some group
  pub in_group : slice_get group.files c.file ≡ Some file
  pub in_file : slice_get file.sections c.section ≡ Some s
  pub changeable : is_changeable s.slot ≡ true

pub FoundSection-from_found : (l : Layout) (c : Change) (s : InputSection) → found_section l c ≡ Some s → FoundSection l c s
FoundSection-from_found l c s h = by_group (slice_get l.groups c.group) refl h
  where
    slot_fits : (b : Bool) (x : InputSection) → (if b then Some x else None) ≡ Some s → (b ≡ true) × (x ≡ s)
    slot_fits true x h = (refl, cc)
    slot_fits false x h = cc

    by_section : (g : Group) (f : File) (o : Option InputSection) → slice_get l.groups c.group ≡ Some g → slice_get g.files c.file ≡ Some f → slice_get f.sections c.section ≡ o → option_and_then if_changeable o ≡ Some s → FoundSection l c s
    by_section g f None a b d h = cc
    by_section g f (Some x) a b d h =
        let p = slot_fits (is_changeable x.slot) x h in
        record { group = g; file = f; in_layout = a; in_group = b; in_file = d ∙ ap (λ (y : InputSection). Some y) p.1; changeable = ap (λ (y : InputSection). is_changeable y.slot) (sym p.1) ∙ p.0 }

    by_file : (g : Group) (o : Option File) → slice_get l.groups c.group ≡ Some g → slice_get g.files c.file ≡ o → option_and_then if_changeable (option_and_then (section_in_file c) o) ≡ Some s → FoundSection l c s
    by_file g None a b h = cc
    by_file g (Some f) a b h = by_section g f (slice_get f.sections c.section) a b refl h

    by_group : (o : Option Group) → slice_get l.groups c.group ≡ o → option_and_then if_changeable (option_and_then (section_in_group c) o) ≡ Some s → FoundSection l c s
    by_group None a h = cc
    by_group (Some g) a h = by_file g (slice_get g.files c.file) a refl h

-- the same with the group and the file that look-ups give
unfoldable pub found_at : (l : Layout) (c : Change) (s : InputSection) (g : Group) (f : File) → found_section l c ≡ Some s → slice_get l.groups c.group ≡ Some g → slice_get g.files c.file ≡ Some f → FoundSection l c s
found_at l c s g f found in_layout in_group =
    let p = FoundSection-from_found l c s found in
    let group : p.group ≡ g = some_same (sym p.in_layout ∙ in_layout) in
    let file : p.file ≡ f = some_same (sym p.in_group ∙ (ap (λ (h : Group). slice_get h.files c.file) group ∙ in_group)) in
    record { group = g; file = f; in_layout = in_layout; in_group = in_group; in_file = ap (λ (h : File). slice_get h.sections c.section) (sym file) ∙ p.in_file; changeable = p.changeable }

-- with the group alone
unfoldable pub found_group : (l : Layout) (c : Change) (s : InputSection) (g : Group) → found_section l c ≡ Some s → slice_get l.groups c.group ≡ Some g → FoundSection l c s
found_group l c s g found in_layout =
    let p = FoundSection-from_found l c s found in
    found_at l c s g p.file found in_layout (ap (λ (h : Group). slice_get h.files c.file) (some_same (sym in_layout ∙ p.in_layout)) ∙ p.in_group)

-- ---- the outline of a changed layout

-- a section keeps its number of bytes
pub length-outline : (s : InputSection) → length (outline_section s).bytes ≡ length s.bytes
length-outline s =
    elim (cases_Bool (is_changeable s.slot)) [
      | inl t ↦ rw t (length-replicate (length s.bytes) 0)
      | inr f ↦ rw f refl
    ]

-- a section that may not be changed is its own outline
pub outline_section-fixed : (s : InputSection) → is_changeable s.slot ≡ false → outline_section s ≡ s
outline_section-fixed s h = rw h refl

pub outline_section-changed : (c : Change) (s : InputSection) → is_changeable s.slot ≡ true → length c.bytes ≡ length s.bytes → outline_section (changed_section c s) ≡ outline_section s
outline_section-changed c s t n = rw (t, n) refl

-- the outlines of the changed file and of its group
pub outline_file-changed : (l : Layout) (c : Change) (s : InputSection) (p : FoundSection l c s) → length c.bytes ≡ length s.bytes → outline_file (changed_file c p.file) ≡ outline_file p.file
outline_file-changed l c s p n =
    ap (λ (ss : List InputSection). record p.file { sections = ss })
    (map-with_item outline_section (changed_section c) c.section p.file.sections s p.in_file (outline_section-changed c s p.changeable n))

pub outline_group-changed : (l : Layout) (c : Change) (s : InputSection) (p : FoundSection l c s) → length c.bytes ≡ length s.bytes → outline_group (changed_group c p.group) ≡ outline_group p.group
outline_group-changed l c s p n =
    ap (λ (fs : List File). record p.group { files = fs }) (map-with_item outline_file (changed_file c) c.file p.group.files p.file p.in_group (outline_file-changed l c s p n))

-- a change that keeps the section's length leaves the outline
pub outline-found : (l : Layout) (c : Change) (s : InputSection) → FoundSection l c s → length c.bytes ≡ length s.bytes → outline (changed_layout l c) ≡ outline l
outline-found l c s p n = ap (λ (gs : List Group). record l { groups = gs }) (map-with_item outline_group (changed_group c) c.group l.groups p.group p.in_layout (outline_group-changed l c s p n))

pub outline-changed : (l : Layout) (c : Change) (s : InputSection) → found_section l c ≡ Some s → length c.bytes ≡ length s.bytes → outline (changed_layout l c) ≡ outline l
outline-changed l c s h n = outline-found l c s (FoundSection-from_found l c s h) n

-- what follows from the outline alone is the same after such a change
pub same_by_outline : {X : Type 0} (d : Layout → X) → ((l : Layout) → d (outline l) ≡ d l) → (l m : Layout) → outline m ≡ outline l → d m ≡ d l
same_by_outline d h l m e = sym (h m) ∙ (ap d e ∙ h l)

-- ---- one section replaced

-- where all sections pass a test, the search for one that fails finds the changed group, unless the new section passes
pub section_replaced : (t : InputSection → Bool) (l : Layout) (c : Change) (s : InputSection) → FoundSection l c s → first_failing (each_section t) 0 l.groups ≡ None
    → first_failing (each_section t) 0 (changed_layout l c).groups ≡ place_unless c.group (t (changed_section c s))
section_replaced t l c s p a =
    let groups = all_pass (each_section t) 0 l.groups a in
    let files = list_all-at (each_section t) c.group l.groups p.group p.in_layout groups in
    let sections = list_all-at (λ (f : File). list_all t f.sections) c.file p.group.files p.file p.in_group files in
    let file = list_all-replaced t (changed_section c) c.section p.file.sections s p.in_file sections in
    let group = list_all-replaced (λ (f : File). list_all t f.sections) (changed_file c) c.file p.group.files p.file p.in_group files in
    failing-first (each_section t) (changed_group c) c.group l.groups p.group p.in_layout groups ∙ ap (place_unless c.group) (group ∙ file)

-- the sum over all sections, less what the old section counts, plus what the new one does
pub sum_replaced : (n : InputSection → ℕ) (l : Layout) (c : Change) (s : InputSection) → FoundSection l c s
    → total (λ (g : Group). total (λ (f : File). total n f.sections) g.files) (changed_layout l c).groups + n s ≡ total (λ (g : Group). total (λ (f : File). total n f.sections) g.files) l.groups + n (changed_section c s)
sum_replaced n l c s p =
    let sections = total-with_item n (changed_section c) c.section p.file.sections s p.in_file in
    let files = total-with_item (λ (f : File). total n f.sections) (changed_file c) c.file p.group.files p.file p.in_group in
    let groups = total-with_item (λ (g : Group). total (λ (f : File). total n f.sections) g.files) (changed_group c) c.group l.groups p.group p.in_layout in
    omega (arith, sections, files, groups)
