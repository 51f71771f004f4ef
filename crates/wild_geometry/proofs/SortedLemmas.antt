-- Each section that is in a given order is named in it.
use Rattle.wild_geometry.proofs.Common.{◌≡◌, ℕ, zero, suc, ◌+◌, ◌<◌, inl, inr, ◌==◌, true, ◌&&◌, List, [], ◌∷◌, length, get_or, Contains, Option, Some, None, slice_get, flat_map, refl, sym, ap, ◌∙◌, arith, subst, cases_Bool, and_parts, eqb-true, slice_get-get_or, Contains-here, Contains-there, Contains-append_left, Contains-append_right, InputSection, File, Group, SortedSection, Layout, Input, as_loaded, unread, sorted_by, sorted_in_file, sorted_in_group, files_at, sorted_input, sorted_inputs}
use Rattle.wild_types.specs.declared.input.Slot.TheVariants as slot
use Rattle.wild_plan_rules.specs.Contents.{names_section, times_named, is_named_once, sections_named_once, files_named_once, sorted_named_once}

-- ---- what the clause says of a section

section_at : (l : Layout) (i j n k : ℕ) (ss : List InputSection) (c : ℕ) (d : InputSection) → sections_named_once l i j n ss ≡ true → k ≡ n + c → c < length ss → is_named_once l i j k (get_or ss c d) ≡ true
section_at l i j n k [] c d h e low = absurd (omega arith)
section_at l i j n k (s ∷ ss) zero d h e low =
    let same : k ≡ n = omega arith in
    rw same (and_parts (is_named_once l i j n s) (sections_named_once l i j (n + 1) ss) h).0
section_at l i j n k (s ∷ ss) (suc c) d h e low = section_at l i j (n + 1) k ss c d (and_parts (is_named_once l i j n s) (sections_named_once l i j (n + 1) ss) h).1 (omega arith) (omega arith)

file_at : (l : Layout) (i n j : ℕ) (fs : List File) (c : ℕ) (d : File) → files_named_once l i n fs ≡ true → j ≡ n + c → c < length fs → sections_named_once l i j 0 (get_or fs c d).sections ≡ true
file_at l i n j [] c d h e low = absurd (omega arith)
file_at l i n j (f ∷ fs) zero d h e low =
    let same : j ≡ n = omega arith in
    rw same (and_parts (sections_named_once l i n 0 f.sections) (files_named_once l i (n + 1) fs) h).0
file_at l i n j (f ∷ fs) (suc c) d h e low = file_at l i (n + 1) j fs c d (and_parts (sections_named_once l i n 0 f.sections) (files_named_once l i (n + 1) fs) h).1 (omega arith) (omega arith)

group_at : (l : Layout) (n i : ℕ) (gs : List Group) (c : ℕ) (d : Group) → sorted_named_once l n gs ≡ None → i ≡ n + c → c < length gs → files_named_once l i 0 (get_or gs c d).files ≡ true
group_at l n i [] c d h e low = absurd (omega arith)
group_at l n i (g ∷ gs) zero d h e low =
    elim (cases_Bool (files_named_once l n 0 g.files)) [
      | inl t ↦ (let same : i ≡ n = omega arith in rw same t)
      | inr f ↦ cc (rw f at h)
    ]
group_at l n i (g ∷ gs) (suc c) d h e low =
    elim (cases_Bool (files_named_once l n 0 g.files)) [
      | inl t ↦ group_at l (n + 1) i gs c d (rw t at h) (omega arith) (omega arith)
      | inr f ↦ cc (rw f at h)
    ]

-- ---- it is named

abbrev entry : ℕ → ℕ → ℕ → SortedSection
entry i j k = record { group = i; file = j; section = k }

is_entry : (i j k : ℕ) (x : SortedSection) → names_section i j k x ≡ true → x ≡ entry i j k
is_entry i j k x h =
    let a = and_parts (x.group == i) (x.file == j && x.section == k) h in
    let b = and_parts (x.file == j) (x.section == k) a.1 in
    let group = eqb-true _ _ a.0 in
    let file = eqb-true _ _ b.0 in
    let section = eqb-true _ _ b.1 in
    ap (λ (n : ℕ). record { group = n; file = x.file; section = x.section }) group ∙ ap (λ (n : ℕ). record { group = i; file = n; section = x.section }) file ∙ ap (λ (n : ℕ). record { group = i; file = j; section = n }) section

named_there : (i j k : ℕ) (xs : List SortedSection) → (times_named xs i j k == 1) ≡ true → Contains xs (entry i j k)
named_there i j k xs h = by xs (let e = eqb-true (times_named xs i j k) 1 h in omega arith)
  where
    by : (xs : List SortedSection) → 0 < times_named xs i j k → Contains xs (entry i j k)
    by [] low = absurd (omega arith)
    by (x ∷ xs) low =
        elim (cases_Bool (names_section i j k x)) [
          | inl t ↦ subst (λ (y : SortedSection). Contains (y ∷ xs) (entry i j k)) (sym (is_entry i j k x t)) (Contains-here (entry i j k) xs)
          | inr f ↦ Contains-there (entry i j k) x xs (by xs (rw f at low))
        ]

-- ---- and found by its name

one_input : (l : Layout) (f : File) (s : InputSection) → s.slot ≡ slot.Sorted → sorted_by l f s.slot s ≡ (record { file = f; section = as_loaded (unread l s) }) ∷ []
one_input l f s e = rw e refl

input_at : (l : Layout) (i j k : ℕ) (g : Group) (f : File) (s : InputSection) → slice_get l.groups i ≡ Some g → slice_get g.files j ≡ Some f → slice_get f.sections k ≡ Some s → s.slot ≡ slot.Sorted → sorted_input l (entry i j k) ≡ (record { file = f; section = as_loaded (unread l s) }) ∷ []
unfolding sorted_input
input_at l i j k g f s a b c e =
    ap (λ (o : Option Group). sorted_in_group l (slice_get (files_at o) j) k) a
    ∙ ap (λ (o : Option File). sorted_in_group l o k) b
    ∙ ap (sorted_in_file l f) c
    ∙ one_input l f s e

Contains-flat_map : {X Y : Type 0} (f : X → List Y) (xs : List X) (x : X) (y : Y) → Contains xs x → Contains (f x) y → Contains (flat_map f xs) y
Contains-flat_map {X} {Y} f xs x y c h = by xs c.0 c.1 c.2
  where
    by : (xs : List X) (i : ℕ) → i < length xs → get_or xs i x ≡ x → Contains (flat_map f xs) y
    by [] i low is = absurd (omega arith)
    by (z ∷ zs) zero low is = Contains-append_left (f z) (flat_map f zs) y (subst (λ (w : X). Contains (f w) y) (sym is) h)
    by (z ∷ zs) (suc i) low is = Contains-append_right (f z) (flat_map f zs) y (by zs i (omega arith) is)

sorted_test : (l : Layout) (i j k : ℕ) (s : InputSection) → s.slot ≡ slot.Sorted → is_named_once l i j k s ≡ true → (times_named l.sorted i j k == 1) ≡ true
sorted_test l i j k s e h = rw e at h

-- where the order names each sorted section, each is among those that stand
pub is_sorted_input : (l : Layout) → sorted_named_once l 0 l.groups ≡ None → (g : Group) (f : File) (s : InputSection) → Contains l.groups g → Contains g.files f → Contains f.sections s → s.slot ≡ slot.Sorted → Contains (sorted_inputs l) (record { file = f; section = as_loaded (unread l s) })
is_sorted_input l h g f s a b c e =
    let in_group = subst (λ (x : Group). files_named_once l a.0 0 x.files ≡ true) a.2 (group_at l 0 a.0 l.groups a.0 g h (omega arith) a.1) in
    let in_file = subst (λ (x : File). sections_named_once l a.0 b.0 0 x.sections ≡ true) b.2 (file_at l a.0 0 b.0 g.files b.0 f in_group (omega arith) b.1) in
    let once = subst (λ (x : InputSection). is_named_once l a.0 b.0 c.0 x ≡ true) c.2 (section_at l a.0 b.0 0 c.0 f.sections c.0 s in_file (omega arith) c.1) in
    let there = named_there a.0 b.0 c.0 l.sorted (sorted_test l a.0 b.0 c.0 s e once) in
    let group = slice_get-get_or l.groups a.0 g a.1 ∙ ap Some a.2 in
    let file = slice_get-get_or g.files b.0 f b.1 ∙ ap Some b.2 in
    let section = slice_get-get_or f.sections c.0 s c.1 ∙ ap Some c.2 in
    let input : Input = record { file = f; section = as_loaded (unread l s) } in
    let own = subst (λ (xs : List Input). Contains xs input) (sym (input_at l a.0 b.0 c.0 g f s group file section e)) (Contains-here input []) in
    Contains-flat_map (sorted_input l) l.sorted (entry a.0 b.0 c.0) input there own
