-- Where the files of inner groups are neither the first nor the last, the first group and the last alone can have a file out of its place.
use Rattle.std.proofs.Common.{◌≡◌, ℕ, suc, ◌+◌, ◌-◌, ◌≤◌, inl, inr, Bool, true, false, ◌&&◌, List, [], ◌∷◌, None, refl, sym, ap, ◌∙◌, subst, take, length, get_or, arith}
use Rattle.std.specs.Prelude.{◌==◌, not, if◌then◌else◌, Option, Some}
use Rattle.std.specs.List.{list_all, slice_range}
use Rattle.std.proofs.lemmas.Bool.{cases_Bool, and_parts, eqb-true}
use Rattle.wild_types.specs.declared.file.File.{File}
use Rattle.wild_types.specs.declared.file.Group.{Group}
use Rattle.wild_types.specs.declared.layout.Layout.{Layout}
use Rattle.wild_types.specs.FileRoles.{is_prelude, is_epilogue}
use Rattle.wild_types.specs.FileSymbols.{copies_of}
use Rattle.wild_types.specs.FilePlaces.{bool_eq, file_position_fits, later_positions_fit, group_positions_fit, first_misplaced_file}
use Rattle.wild_needs.specs.Needs.{is_read_only_input, has_no_dynamic_tables, file_needs_no_tables, group_needs_no_tables, inner_groups, inner_groups_need_no_tables}
use Rattle.wild_clauses.specs.Roles.{ends_misplaced}

neither : (a b : Bool) → not a ≡ true → not b ≡ true → (bool_eq a false && bool_eq b false) ≡ true
neither false false h k = refl
neither true b h k = cc
neither false true h k = cc

file_between : (f : File) → file_needs_no_tables f ≡ true → file_position_fits false false f ≡ true
file_between f h =
    let a = and_parts (not (is_prelude f.role) && not (is_epilogue f.role) && length (copies_of f) == 0) (list_all is_read_only_input f.sections) h in
    let b = and_parts (not (is_prelude f.role) && not (is_epilogue f.role)) (length (copies_of f) == 0) a.0 in
    let c = and_parts (not (is_prelude f.role)) (not (is_epilogue f.role)) b.0 in
    neither (is_prelude f.role) (is_epilogue f.role) c.0 c.1

files_between : (fs : List File) → list_all file_needs_no_tables fs ≡ true → later_positions_fit false fs ≡ true
files_between [] h = refl
files_between (f ∷ fs) h =
    let p = and_parts (file_needs_no_tables f) (list_all file_needs_no_tables fs) h in
    let here : file_position_fits false false f ≡ true = file_between f p.0 in
    rw here (files_between fs p.1)

group_between : (fs : List File) → list_all file_needs_no_tables fs ≡ true → group_positions_fit false false fs ≡ true
group_between [] h = refl
group_between (f ∷ fs) h = files_between (f ∷ fs) h

not_last : (g : Group) (gs : List Group) → (length (g ∷ gs) == 0) ≡ false
not_last g gs =
    elim (cases_Bool (length (g ∷ gs) == 0)) [
      | inl t ↦ (let none : length (g ∷ gs) ≡ 0 = eqb-true (length (g ∷ gs)) 0 t in absurd (omega (arith, none)))
      | inr f ↦ f
    ]

-- behind the first group
later_groups : (i at : ℕ) (x : Group) (xs : List Group) (last : Group) → last ≡ get_or (x ∷ xs) (length xs) last → list_all group_needs_no_tables (take (length xs) (x ∷ xs)) ≡ true → at ≡ i + length xs → first_misplaced_file false i (x ∷ xs) ≡ (if group_positions_fit false true last.files then None else Some at)
later_groups i at x [] last is h far =
    let same : last ≡ x = is in
    let here : at ≡ i = omega (arith, far) in
    rw (same, here) refl
later_groups i at x (y ∷ ys) last is h far =
    let p = and_parts (group_needs_no_tables x) (list_all group_needs_no_tables (take (length ys) (y ∷ ys))) h in
    let here : group_positions_fit false (length (y ∷ ys) == 0) x.files ≡ true = ap (λ (b : Bool). group_positions_fit false b x.files) (not_last y ys) ∙ group_between x.files p.0 in
    ap (λ (b : Bool). if b then first_misplaced_file false (i + 1) (y ∷ ys) else Some i) here ∙ later_groups (i + 1) at y ys last is p.1 (omega (arith, far))

all_groups : (gs : List Group) (first last : Group) → 2 ≤ length gs → first ≡ get_or gs 0 first → last ≡ get_or gs (length gs - 1) last → list_all group_needs_no_tables (slice_range gs 1 (length gs - 1)) ≡ true → first_misplaced_file true 0 gs ≡ ends_misplaced first last (length gs - 1)
all_groups [] first last many = absurd (omega (arith, many))
all_groups (x ∷ []) first last many = absurd (omega (arith, many))
all_groups (x ∷ y ∷ ys) first last many = λ begins ends none.
    let at : length (x ∷ y ∷ ys) - 1 ≡ suc (length ys) = omega arith in
    let count : length (x ∷ y ∷ ys) - 1 - 1 ≡ length ys = omega arith in
    let far : length (x ∷ y ∷ ys) - 1 ≡ 1 + length ys = omega arith in
    let A : ℕ → Type 0 = λ i. last ≡ get_or (x ∷ y ∷ ys) i last in
    let B : ℕ → Type 0 = λ n. list_all group_needs_no_tables (take n (y ∷ ys)) ≡ true in
    let same : first ≡ x = begins in
    let rest = later_groups 1 (length (x ∷ y ∷ ys) - 1) y ys last (subst A at ends) (subst B count none) far in
    let test : group_positions_fit true (length (y ∷ ys) == 0) x.files ≡ group_positions_fit true false first.files = ap (λ (b : Bool). group_positions_fit true b x.files) (not_last y ys) ∙ ap (λ (g : Group). group_positions_fit true false g.files) (sym same) in
    ap (λ (b : Bool). if b then first_misplaced_file false 1 (y ∷ ys) else Some 0) test
    ∙ ap (λ (o : Option ℕ). if group_positions_fit true false first.files then o else Some 0) rest

pub ends_told : (l : Layout) (inside : Bool) (gs : List Group) (first last : Group) → inside ≡ inner_groups_need_no_tables l → inside ≡ true → gs ≡ l.groups → 2 ≤ length gs → first ≡ get_or gs 0 first → last ≡ get_or gs (length gs - 1) last → first_misplaced_file true 0 l.groups ≡ ends_misplaced first last (length gs - 1)
ends_told l inside gs first last is h same many begins ends =
    let p = and_parts (has_no_dynamic_tables l) (list_all group_needs_no_tables (inner_groups l.groups)) (sym is ∙ h) in
    let Z : List Group → Type 0 = λ (xs : List Group). list_all group_needs_no_tables (slice_range xs 1 (length xs - 1)) ≡ true in
    ap (first_misplaced_file true 0) (sym same) ∙ all_groups gs first last many begins ends (subst Z (sym same) p.1)
