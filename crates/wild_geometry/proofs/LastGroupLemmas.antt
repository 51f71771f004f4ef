-- The last file is the last group's.
use Rattle.wild_geometry.proofs.Common.{◌≡◌, ℕ, ◌+◌, ◌<◌, inl, inr, ◌==◌, Bool, true, false, ◌&&◌, if◌then◌else◌, List, [], ◌∷◌, length, get_or, None, refl, sym, ap, ◌∙◌, arith, zero, suc, list_any, cases_Bool, and_parts, eq-eqb, ne_eqb, eqb-true, eqb-false, File, Group, bool_eq, file_position_fits, later_positions_fit, group_positions_fit, first_misplaced_file, is_prelude, is_epilogue, total, same_bool, bytes_if_last}
pub use Rattle.wild_needs.specs.Needs.{has_last}

-- a number, or none
abbrev pub some_if : ℕ → Bool → ℕ
some_if a b = if b then a else 0

-- one more file in front
last_step : (a : ℕ) (last own : Bool) (fs : List File) → own ≡ (last && length fs == 0) → total (λ (x : File). bytes_if_last x.role a) fs ≡ (if last then (if length fs == 0 then 0 else a) else 0) → (if own then a else 0) + total (λ (x : File). bytes_if_last x.role a) fs ≡ (if last then a else 0)
last_step a true own [] e h = rw e (omega arith)
last_step a true own (g ∷ gs) e h =
    let n = ne_eqb (length (g ∷ gs)) 0 (λ z. omega arith) in
    let none : own ≡ false = rw n at e in
    let rest = rw n at h in
    rw none (omega arith)
last_step a false own fs e h = rw e (omega arith)

later_last : (a : ℕ) (last : Bool) (fs : List File) → later_positions_fit last fs ≡ true → total (λ (f : File). bytes_if_last f.role a) fs ≡ (if last then (if length fs == 0 then 0 else a) else 0)
later_last a true [] h = refl
later_last a false [] h = refl
later_last a last (f ∷ fs) h =
    let n = ne_eqb (length (f ∷ fs)) 0 (λ z. omega arith) in
    let p = and_parts (file_position_fits false (last && length fs == 0) f) (later_positions_fit last fs) h in
    let e = same_bool (is_epilogue f.role) (last && length fs == 0) (and_parts (bool_eq (is_prelude f.role) false) (bool_eq (is_epilogue f.role) (last && length fs == 0)) p.0).1 in
    rw n (last_step a last (is_epilogue f.role) fs e (later_last a last fs p.1))

-- a group has one last file where it is the last group, and none elsewhere
files_last : (a : ℕ) (first last : Bool) (fs : List File) → group_positions_fit first last fs ≡ true → total (λ (f : File). bytes_if_last f.role a) fs ≡ (if last then a else 0)
files_last a true last [] h = cc
files_last a false true [] h = cc
files_last a false false [] h = refl
files_last a first last (f ∷ fs) h =
    let p = and_parts (file_position_fits first (last && length fs == 0) f) (later_positions_fit last fs) h in
    let e = same_bool (is_epilogue f.role) (last && length fs == 0) (and_parts (bool_eq (is_prelude f.role) first) (bool_eq (is_epilogue f.role) (last && length fs == 0)) p.0).1 in
    last_step a last (is_epilogue f.role) fs e (later_last a last fs p.1)

same_test : (a b c d : ℕ) → (a ≡ b → c ≡ d) → (c ≡ d → a ≡ b) → (a == b) ≡ (c == d)
same_test a b c d f g =
    elim (cases_Bool (a == b)) [
      | inl t ↦ t ∙ sym (eq-eqb c d (f (eqb-true a b t)))
      | inr n ↦ n ∙ sym (ne_eqb c d (λ e. eqb-false a b n (g e)))
    ]

-- the same of group number k
pub group_last : (a : ℕ) (first : Bool) (i : ℕ) (gs : List Group) → first_misplaced_file first i gs ≡ None → (k : ℕ) (d : Group) → k < length gs → total (λ (f : File). bytes_if_last f.role a) (get_or gs k d).files ≡ (if k + 1 == length gs then a else 0)
group_last a first i [] h k d l = absurd (omega arith)
group_last a first i (g ∷ gs) h zero d l =
    elim (cases_Bool (group_positions_fit first (length gs == 0) g.files)) [
      | inl t ↦ files_last a first (length gs == 0) g.files t ∙ ap (some_if a) (same_test (length gs) 0 (0 + 1) (length (g ∷ gs)) (λ e. omega arith) (λ e. omega arith))
      | inr f ↦ cc (rw f at h)
    ]
group_last a first i (g ∷ gs) h (suc k) d l =
    elim (cases_Bool (group_positions_fit first (length gs == 0) g.files)) [
      | inl t ↦ group_last a false (i + 1) gs (rw t at h) k d (omega arith) ∙ ap (some_if a) (same_test (k + 1) (length gs) (suc k + 1) (length (g ∷ gs)) (λ e. omega arith) (λ e. omega arith))
      | inr f ↦ cc (rw f at h)
    ]

-- ---- whether a group has it

-- where no file is the last one, none is found
none_last : (fs : List File) → total (λ (f : File). bytes_if_last f.role 1) fs ≡ 0 → list_any (λ (f : File). is_epilogue f.role) fs ≡ false
none_last [] h = refl
none_last (f ∷ fs) h =
    elim (cases_Bool (is_epilogue f.role)) [
      | inl t ↦ absurd (let e = rw t at h in omega arith)
      | inr n ↦ rw n (none_last fs (let e = rw n at h in omega arith))
    ]

-- and where one is, it is
some_last : (fs : List File) → total (λ (f : File). bytes_if_last f.role 1) fs ≡ 1 → list_any (λ (f : File). is_epilogue f.role) fs ≡ true
some_last [] h = cc
some_last (f ∷ fs) h =
    elim (cases_Bool (is_epilogue f.role)) [
      | inl t ↦ rw t refl
      | inr n ↦ rw n (some_last fs (let e = rw n at h in omega arith))
    ]

-- the last group has the last file
pub has_last-group : (gs : List Group) → first_misplaced_file true 0 gs ≡ None → (k : ℕ) (d : Group) → k < length gs → has_last (get_or gs k d) ≡ (k + 1 == length gs)
has_last-group gs h k d l =
    let one = group_last 1 true 0 gs h k d l in
    elim (cases_Bool (k + 1 == length gs)) [
      | inl t ↦ some_last (get_or gs k d).files (rw t at one) ∙ sym t
      | inr f ↦ none_last (get_or gs k d).files (rw f at one) ∙ sym f
    ]
