-- The last file alone gives the hash tables.
use Rattle.wild_names.proofs.Common.{placed_files, placed_files_same, ◌≡◌, ℕ, ◌+◌, ◌≤◌, inl, inr, ◌==◌, Bool, true, false, ◌&&◌, if◌then◌else◌, List, [], ◌∷◌, ◌++◌, length, map, Some, None, flat_map, refl, ap, ◌∙◌, arith, cases_Bool, and_parts, ne_eqb, append-nil, File, Group, Layout, bool_eq, file_position_fits, later_positions_fit, group_positions_fit, first_misplaced_file, first_listed, is_prelude, is_epilogue, needs_dynsym, same_bool, file_content, content, table_bytes, IsLaidOut, sysv_hash_of, gnu_hash_of, gnu_header, gnu_table, sysv_table}
use Rattle.wild_words.proofs.Basics.{no_bytes}
use Rattle.wild_types.specs.declared.part.Role.TheVariants as role
use Rattle.wild_types.specs.declared.layout.GnuHash.{GnuHash}
use Rattle.wild_types.specs.declared.layout.SysvHash.{SysvHash}
use Rattle.wild_layout.specs.Content.{of_last, sysv_bytes, gnu_bytes}

-- each file gives these bytes where it is the last one, and else none
abbrev pub GivenByLast : (File → List ℕ) → List ℕ → Type 0
GivenByLast give bs = (f : File) → give f ≡ (if is_epilogue f.role then bs else [])

-- what one file gives, by its place
by_place : (give : File → List ℕ) (bs : List ℕ) (first last : Bool) (f : File) → GivenByLast give bs → file_position_fits first last f ≡ true → give f ≡ (if last then bs else [])
by_place give bs first last f each h =
    let is = same_bool (is_epilogue f.role) last (and_parts (bool_eq (is_prelude f.role) first) (bool_eq (is_epilogue f.role) last) h).1 in
    each f ∙ ap (λ (b : Bool). if b then bs else []) is

middles : (give : File → List ℕ) (bs : List ℕ) (fs : List File) → GivenByLast give bs → later_positions_fit false fs ≡ true → flat_map give fs ≡ []
middles give bs [] each h = refl
middles give bs (f ∷ fs) each h =
    let a = and_parts (file_position_fits false (false && length fs == 0) f) (later_positions_fit false fs) h in
    rw (by_place give bs false false f each a.0) (middles give bs fs each a.1)

-- a file and those behind it, the last of which is the last of all
files_end_with : (give : File → List ℕ) (bs : List ℕ) (first : Bool) (f : File) (fs : List File) → GivenByLast give bs → file_position_fits first (length fs == 0) f ≡ true → later_positions_fit true fs ≡ true → flat_map give (f ∷ fs) ≡ bs
files_end_with give bs first f [] each h rest = append-nil (give f) ∙ by_place give bs first true f each h
files_end_with give bs first f (g ∷ gs) each h rest =
    let n = ne_eqb (length (g ∷ gs)) 0 (λ z. omega arith) in
    let a = and_parts (file_position_fits false (true && length gs == 0) g) (later_positions_fit true gs) rest in
    rw (by_place give bs first false f each (rw n at h)) (files_end_with give bs false g gs each a.0 a.1)

-- the files of a group
in_group : (give : File → List ℕ) (bs : List ℕ) (first last : Bool) (fs : List File) → GivenByLast give bs → group_positions_fit first last fs ≡ true → flat_map give fs ≡ (if last then bs else [])
in_group give bs true last [] each h = cc
in_group give bs false true [] each h = cc
in_group give bs false false [] each h = refl
in_group give bs first true (f ∷ fs) each h =
    let a = and_parts (file_position_fits first (true && length fs == 0) f) (later_positions_fit true fs) h in
    files_end_with give bs first f fs each a.0 a.1
in_group give bs first false (f ∷ fs) each h =
    let a = and_parts (file_position_fits first (false && length fs == 0) f) (later_positions_fit false fs) h in
    rw (by_place give bs first false f each a.0) (middles give bs fs each a.1)

-- all groups, each of which gives what its files do
pub in_groups : (of : Group → List ℕ) (give : File → List ℕ) (bs : List ℕ) (first : Bool) (i : ℕ) (gs : List Group) → GivenByLast give bs → ((g : Group) → of g ≡ flat_map give g.files) → 1 ≤ length gs → first_misplaced_file first i gs ≡ None → flat_map of gs ≡ bs
in_groups of give bs first i [] each group some h = absurd (omega (arith, some))
in_groups of give bs first i (g ∷ []) each group some h =
    elim (cases_Bool (group_positions_fit first true g.files)) [
      | inl t ↦ append-nil (of g) ∙ group g ∙ in_group give bs first true g.files each t
      | inr f ↦ cc (rw f at h)
    ]
in_groups of give bs first i (g ∷ x ∷ xs) each group some h =
    let n = ne_eqb (length (x ∷ xs)) 0 (λ z. omega arith) in
    elim (cases_Bool (group_positions_fit first (length (x ∷ xs) == 0) g.files)) [
      | inl t ↦ (let own = group g ∙ in_group give bs first false g.files each (rw n at t) in rw own (in_groups of give bs false (i + 1) (x ∷ xs) each group (omega arith) (rw t at h)))
      | inr f ↦ cc (rw f at h)
    ]

-- ---- both tables

no_front : (b : Bool) (xs : List ℕ) → ((if b then no_bytes else no_bytes) ++ xs) ++ [] ≡ xs
no_front true xs = append-nil xs
no_front false xs = append-nil xs

by_need : (l : Layout) (f : File) (bs : List ℕ) → needs_dynsym l.kind ≡ true → of_last l f bs ≡ (if is_epilogue f.role then bs else [])
by_need l f bs needs = rw needs refl

pub sysv_stands : (l : Layout) (h : SysvHash) → IsLaidOut l → needs_dynsym l.kind ≡ true → l.sysv_hash ≡ Some h → table_bytes l role.SysvHash ≡ sysv_table h.buckets (first_listed l) (map sysv_hash_of l.dynsyms)
sysv_stands l h laid needs shape =
    let each : GivenByLast (file_content l role.SysvHash) (sysv_bytes l l.sysv_hash) = λ f. no_front (is_prelude f.role) (of_last l f (sysv_bytes l l.sysv_hash)) ∙ by_need l f (sysv_bytes l l.sysv_hash) needs in
    in_groups (content l role.SysvHash) (file_content l role.SysvHash) (sysv_bytes l l.sysv_hash) true 0 l.groups each (λ g. append-nil (flat_map (file_content l role.SysvHash) (placed_files l g)) ∙ placed_files_same (file_content l role.SysvHash) l g (λ at f. refl)) laid.some_group laid.files ∙ ap (sysv_bytes l) shape

pub gnu_stands : (l : Layout) (h : GnuHash) → IsLaidOut l → needs_dynsym l.kind ≡ true → l.gnu_hash ≡ Some h → table_bytes l role.GnuHash ≡ gnu_table (gnu_header h) (map gnu_hash_of l.dynsyms)
gnu_stands l h laid needs shape =
    let each : GivenByLast (file_content l role.GnuHash) (gnu_bytes l l.gnu_hash) = λ f. no_front (is_prelude f.role) (of_last l f (gnu_bytes l l.gnu_hash)) ∙ by_need l f (gnu_bytes l l.gnu_hash) needs in
    in_groups (content l role.GnuHash) (file_content l role.GnuHash) (gnu_bytes l l.gnu_hash) true 0 l.groups each (λ g. append-nil (flat_map (file_content l role.GnuHash) (placed_files l g)) ∙ placed_files_same (file_content l role.GnuHash) l g (λ at f. refl)) laid.some_group laid.files ∙ ap (gnu_bytes l) shape
