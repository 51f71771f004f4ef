-- What files and groups give, whose strings stand one behind the other.
use Rattle.wild_names.proofs.Common.{placed_files, placed_file, placed_files_same, ◌≡◌, ℕ, suc, ◌+◌, ◌^◌, ◌<◌, ◌≤◌, true, List, [], ◌∷◌, ◌++◌, length, take, Some, slice_get, flat_map, refl, sym, ap, ◌∙◌, arith, subst, length-append, append-nil, HasBytesAt, flat_map-same, flat_map-flat_map, HasBytesAt-whole, HasBytesAt-front, HasBytesAt-after, nil_if, Role, File, Group, Layout, file_strings, next_dynstr, is_prelude, needs_dynsym, total, files_of, share, group_share, file_content, content, table_bytes, IsLaidOut, string_bytes, length-string_bytes}
use Rattle.wild_types.specs.declared.part.Role.TheVariants as role
use Rattle.wild_names.proofs.BesideLemmas.{Belong, belong-append}

-- the bytes of a file's strings
abbrev pub strings_of : Layout → File → List ℕ
strings_of l f = string_bytes (file_strings l f)

-- ---- files

-- what files give, each by the offset of its strings
abbrev pub gathered : {E : Type 0} → (ℕ → File → List E) → Layout → ℕ → List File → List E
gathered give l at [] = []
gathered give l at (f ∷ fs) = give at f ++ gathered give l (next_dynstr l at f) fs

-- what each file gives where its strings stand belongs to what it has; so for files whose strings stand one behind the other
pub files_belong : {E N : Type 0} (R : E → N → Type 0) (give : ℕ → File → List E) (have : File → List N) (l : Layout) (whole : List ℕ) → length whole < 2 ^ 32
    → ((at : ℕ) (f : File) → HasBytesAt whole at (strings_of l f) → Belong R (give at f) (have f)) → (at : ℕ) (fs : List File) → HasBytesAt whole at (flat_map (strings_of l) fs) → Belong R (gathered give l at fs) (flat_map have fs)
files_belong R give have l whole small each at [] s = tt
files_belong R give have l whole small each at (f ∷ fs) s =
    let long = length-string_bytes (file_strings l f) in
    let later = HasBytesAt-after whole (strings_of l f) (flat_map (strings_of l) fs) at (length (strings_of l f)) refl s in
    let ends = later.fits in
    let is : at + length (strings_of l f) ≡ next_dynstr l at f = omega arith in
    let rest = files_belong R give have l whole small each (next_dynstr l at f) fs (subst (λ (n : ℕ). HasBytesAt whole n (flat_map (strings_of l) fs)) is later) in
    belong-append R (give at f) (gathered give l (next_dynstr l at f) fs) (have f) (flat_map have fs) (each at f (HasBytesAt-front whole (strings_of l f) (flat_map (strings_of l) fs) at s)) rest

-- ---- groups

-- a group's strings are those of its files
file_gives : (l : Layout) (f : File) → file_content l role.Dynstr f ≡ strings_of l f
file_gives l f = rw (nil_if (is_prelude f.role)) (append-nil (strings_of l f))

stood_gives : (l : Layout) (g : Group) → content l role.Dynstr g ≡ flat_map (strings_of l) (placed_files l g)
stood_gives l g = append-nil (flat_map (file_content l role.Dynstr) (placed_files l g)) ∙ flat_map-same (file_content l role.Dynstr) (strings_of l) (placed_files l g) (file_gives l)

strings_of_placed : (l : Layout) (at : ℕ) (f : File) → strings_of l (placed_file l at f) ≡ strings_of l f
unfolding file_strings
strings_of_placed l at f = refl

pub group_gives : (l : Layout) (g : Group) → content l role.Dynstr g ≡ flat_map (strings_of l) g.files
group_gives l g = stood_gives l g ∙ placed_files_same (strings_of l) l g (strings_of_placed l)

-- what each group gives, whose bytes of a role stand where it begins, belongs to what it has; so for groups whose bytes stand one
-- behind the other
pub groups_along : {E N : Type 0} (R : E → N → Type 0) (of : Group → List E) (have : Group → List N) (l : Layout) (r : Role) (start : Group → ℕ) (whole : List ℕ)
    → ((g : Group) → HasBytesAt whole (start g) (content l r g) → Belong R (of g) (have g)) → (at : ℕ) (gs : List Group)
    → ((j : ℕ) (g : Group) → slice_get gs j ≡ Some g → start g ≡ at + total (λ (x : Group). length (content l r x)) (take j gs)) → HasBytesAt whole at (flat_map (content l r) gs) → Belong R (flat_map of gs) (flat_map have gs)
groups_along R of have l r start whole each at [] starts s = tt
groups_along R of have l r start whole each at (g ∷ gs) starts s =
    let here = HasBytesAt-front whole (content l r g) (flat_map (content l r) gs) at s in
    let later = HasBytesAt-after whole (content l r g) (flat_map (content l r) gs) at (length (content l r g)) refl s in
    let begins = starts 0 g refl in
    let is : at ≡ start g = omega arith in
    let own = each g (subst (λ (n : ℕ). HasBytesAt whole n (content l r g)) is here) in
    let rest = groups_along R of have l r start whole each (at + length (content l r g)) gs (λ j d found. let e = starts (suc j) d found in omega arith) later in
    belong-append R (of g) (flat_map of gs) (have g) (flat_map have gs) own rest

-- ---- the string table

-- no group has more strings than its share
group_fits : (l : Layout) (g : Group) → length (content l role.Dynstr g) ≤ group_share l role.Dynstr g
group_fits l g = let e = ap length (stood_gives l g) in let n = fits (placed_files l g) in omega arith
  where
    fits : (fs : List File) → length (flat_map (strings_of l) fs) ≤ total (share l role.Dynstr) fs
    fits [] = omega arith
    fits (f ∷ fs) =
        let a = length-append (strings_of l f) (flat_map (strings_of l) fs) in
        let b = length-string_bytes (file_strings l f) in
        let c = fits fs in
        omega arith

table_fits : (l : Layout) (gs : List Group) → length (flat_map (content l role.Dynstr) gs) ≤ total (group_share l role.Dynstr) gs
table_fits l [] = omega arith
table_fits l (g ∷ gs) =
    let a = length-append (content l role.Dynstr g) (flat_map (content l role.Dynstr) gs) in
    let b = group_fits l g in
    let c = table_fits l gs in
    omega arith

pub strings_are_short : (l : Layout) → IsLaidOut l → length (table_bytes l role.Dynstr) < 2 ^ 32
strings_are_short l laid = let a = table_fits l l.groups in let b = laid.strings in omega arith

-- what all groups give belongs to what all files have
pub groups_belong : {E N : Type 0} (R : E → N → Type 0) (of : Group → List E) (have : File → List N) (l : Layout) → IsLaidOut l → needs_dynsym l.kind ≡ true
    → ((g : Group) → HasBytesAt (table_bytes l role.Dynstr) g.dynstr_start (flat_map (strings_of l) g.files) → Belong R (of g) (flat_map have g.files)) → Belong R (flat_map of l.groups) (flat_map have (files_of l.groups))
groups_belong R of have l laid needs each =
    let whole = table_bytes l role.Dynstr in
    let all = groups_along R of (λ (g : Group). flat_map have g.files) l role.Dynstr (λ (g : Group). g.dynstr_start) whole (λ g s. each g (subst (λ (bs : List ℕ). HasBytesAt whole g.dynstr_start bs) (group_gives l g) s)) 0 l.groups (λ j g found. let e = laid.starts j g found needs in omega arith) (HasBytesAt-whole whole) in
    subst (Belong R (flat_map of l.groups)) (sym (flat_map-flat_map have (λ (g : Group). g.files) l.groups)) all
