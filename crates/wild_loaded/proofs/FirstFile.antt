-- What the first file alone has stands once: in lists, and in tables.
use Rattle.wild_loaded.proofs.Common.{◌≡◌, ℕ, ◌≤◌, inl, inr, ◌==◌, Bool, true, false, ◌&&◌, List, [], ◌∷◌, ◌++◌, length, None, refl, ◌∙◌, arith, ◌+◌, if◌then◌else◌, Contains, cases_Bool, and_parts, append-nil, flat_map-same, Role, File, Group, Layout, is_prelude, is_epilogue, placed_files, content, file_content, table_bytes, IsLaidOut, placed_files_same_all}
use Rattle.std.proofs.Common.{flat_map}
use Rattle.wild_words.proofs.ListLemmas.{Contains-here}
use Rattle.wild_types.specs.declared.part.Role.TheVariants as role
use Rattle.wild_types.specs.FilePlaces.{bool_eq, file_position_fits, later_positions_fit, group_positions_fit, first_misplaced_file}
use Rattle.wild_types.proofs.FileLemmas.{same_bool}
use Rattle.wild_layout.specs.SearchTable.{search_table}

-- the first file has xs, the others have nothing
abbrev pub once : {X : Type 0} → List X → File → List X
once xs f = if is_prelude f.role then xs else []

placed_first : (first : Bool) (b : Bool) (f : File) → file_position_fits first b f ≡ true → is_prelude f.role ≡ first
placed_first first b f h = same_bool (is_prelude f.role) first (and_parts (bool_eq (is_prelude f.role) first) (bool_eq (is_epilogue f.role) b) h).0

later_none : {X : Type 0} (xs : List X) (last : Bool) (fs : List File) → later_positions_fit last fs ≡ true → flat_map (once xs) fs ≡ []
later_none xs last [] h = refl
later_none xs last (f ∷ fs) h =
    let a = and_parts (file_position_fits false (last && length fs == 0) f) (later_positions_fit last fs) h in
    let b = placed_first false (last && length fs == 0) f a.0 in
    rw b (later_none xs last fs a.1)

group_once : {X : Type 0} (xs : List X) (last : Bool) (fs : List File) → group_positions_fit true last fs ≡ true → flat_map (once xs) fs ≡ xs
group_once xs last [] h = cc
group_once xs last (f ∷ fs) h =
    let a = and_parts (file_position_fits true (last && length fs == 0) f) (later_positions_fit last fs) h in
    let b = placed_first true (last && length fs == 0) f a.0 in
    let rest = later_none xs last fs a.1 in
    rw (b, rest) (append-nil xs)

files_none : {X : Type 0} (xs : List X) (last : Bool) (fs : List File) → group_positions_fit false last fs ≡ true → flat_map (once xs) fs ≡ []
files_none xs last [] h = refl
files_none xs last (f ∷ fs) h =
    let a = and_parts (file_position_fits false (last && length fs == 0) f) (later_positions_fit last fs) h in
    let b = placed_first false (last && length fs == 0) f a.0 in
    rw b (later_none xs last fs a.1)

groups_none : {X : Type 0} (xs : List X) (i : ℕ) (gs : List Group) → first_misplaced_file false i gs ≡ None → flat_map (λ (g : Group). flat_map (once xs) g.files) gs ≡ []
groups_none xs i [] h = refl
groups_none xs i (g ∷ gs) h =
    elim (cases_Bool (group_positions_fit false (length gs == 0) g.files)) [
      | inr f ↦ cc (rw f at h)
      | inl t ↦
          (let none = files_none xs (length gs == 0) g.files t in
          let rest : first_misplaced_file false (i + 1) gs ≡ None = rw t at h in
          rw none (groups_none xs (i + 1) gs rest))
    ]

pub stands_once : {X : Type 0} (xs : List X) (gs : List Group) → 1 ≤ length gs → first_misplaced_file true 0 gs ≡ None → flat_map (λ (g : Group). flat_map (once xs) g.files) gs ≡ xs
stands_once xs [] some h = absurd (omega arith)
stands_once xs (g ∷ gs) some h =
    elim (cases_Bool (group_positions_fit true (length gs == 0) g.files)) [
      | inr f ↦ cc (rw f at h)
      | inl t ↦
          (let first = group_once xs (length gs == 0) g.files t in
          let rest : first_misplaced_file false 1 gs ≡ None = rw t at h in
          let none = groups_none xs 1 gs rest in
          rw (first, none) (append-nil xs))
    ]

-- ---- the first file

pub record FirstFile (l : Layout) : Type 0 where
  pub group : Group
  pub grouped : Contains l.groups group
  pub file : File
  pub filed : Contains group.files file
  pub first : is_prelude file.role ≡ true

first_of_files : (last : Bool) (fs : List File) → group_positions_fit true last fs ≡ true → (f : File) × Contains fs f × (is_prelude f.role ≡ true)
first_of_files last [] h = cc
first_of_files last (f ∷ fs) h = (f, Contains-here f fs, placed_first true (last && length fs == 0) f (and_parts (file_position_fits true (last && length fs == 0) f) (later_positions_fit last fs) h).0)

first_of_groups : (gs : List Group) → 1 ≤ length gs → first_misplaced_file true 0 gs ≡ None → (g : Group) × Contains gs g × (f : File) × Contains g.files f × (is_prelude f.role ≡ true)
first_of_groups [] some h = absurd (omega arith)
first_of_groups (g ∷ gs) some h =
    elim (cases_Bool (group_positions_fit true (length gs == 0) g.files)) [
      | inr f ↦ cc (rw f at h)
      | inl t ↦ (let x = first_of_files (length gs == 0) g.files t in (g, Contains-here g gs, x.0, x.1, x.2))
    ]

pub first_file : (l : Layout) → IsLaidOut l → FirstFile l
first_file l laid = (let x = first_of_groups l.groups laid.some_group laid.files in record { group = x.0; grouped = x.1; file = x.2; filed = x.3; first = x.4 })

-- ---- tables

only_front : (b : Bool) (xs : List ℕ) → ((if b then xs ++ [] else []) ++ []) ++ [] ≡ (if b then xs else [])
only_front true xs = append-nil ((xs ++ []) ++ []) ∙ append-nil (xs ++ []) ∙ append-nil xs
only_front false xs = refl

-- the bytes of a table that the first file alone gives
by_first : (l : Layout) (r : Role) (bs : List ℕ) → IsLaidOut l → ((g : Group) → content l r g ≡ flat_map (file_content l r) (placed_files l g)) → ((f : File) → file_content l r f ≡ once bs f) → table_bytes l r ≡ bs
by_first l r bs laid group each =
    flat_map-same (content l r) (λ (g : Group). flat_map (once bs) (placed_files l g)) l.groups (λ g. group g ∙ flat_map-same (file_content l r) (once bs) (placed_files l g) each)
    ∙ placed_files_same_all (once bs) l (λ at f. refl)
    ∙ stands_once bs l.groups laid.some_group laid.files

pub interpreter_bytes : (l : Layout) → IsLaidOut l → table_bytes l role.Interp ≡ l.interp
interpreter_bytes l laid = by_first l role.Interp l.interp laid (λ g. append-nil (flat_map (file_content l role.Interp) (placed_files l g))) (λ f. only_front (is_prelude f.role) l.interp)

pub search_bytes : (l : Layout) → IsLaidOut l → table_bytes l role.EhFrameHdr ≡ search_table l
search_bytes l laid = by_first l role.EhFrameHdr (search_table l) laid (λ g. append-nil (flat_map (file_content l role.EhFrameHdr) (placed_files l g))) (λ f. only_front (is_prelude f.role) (search_table l))
