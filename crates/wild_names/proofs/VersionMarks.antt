-- The records of libraries that versions are needed of: the last of them is marked as such, and no other is.
use Rattle.wild_names.proofs.Common.{◌≡◌, ℕ, suc, ◌+◌, ◌-◌, inl, inr, ◌==◌, true, List, [], ◌∷◌, ◌++◌, length, filter, flat_map, refl, sym, ap, ◌∙◌, arith, subst, Option, Some, None, option_and_then, is_some, cases_Bool, eq-eqb, ne_eqb, length-append, filter-append, File, Group, VersionNeeds, Layout, next_dynstr, files_of, same_bool, needs_of, Need, IsLaidOut}
use Rattle.wild_types.specs.Lists.{through}
use Rattle.wild_needs.specs.Versions.{has_needs, need_count}
use Rattle.wild_plan_rules.specs.VersionTables.{mark_fits, mark_by, mark_step, needs_in, mark_astray}
use Rattle.wild_table_formats.specs.VersionLaws.{OnlyLastIsMarked}
use Rattle.wild_table_formats.specs.VersionNames.{library_offset, need_offsets}
use Rattle.wild_names.proofs.RunLemmas.{gathered}

-- ---- records

-- the record of a library whose strings stand at an offset, where versions are needed of it
abbrev pub record_by : Layout → ℕ → File → Option VersionNeeds → List Need
record_by l at f None = []
record_by l at f (Some n) = record { file = library_offset l at f; names = need_offsets l at f n; needs = n } ∷ []

-- a file's
abbrev pub record_of : Layout → ℕ → File → List Need
record_of l at f = record_by l at f (needs_of f)

-- those of a group
abbrev pub group_records : Layout → Group → List Need
group_records l g = gathered (record_of l) l g.dynstr_start g.files

-- those of all groups
abbrev pub all_records : Layout → List Need
all_records l = flat_map (group_records l) l.groups

-- ---- marks

-- of so many libraries that are left the last alone is marked
abbrev Marked : ℕ → List Need → Type 0
Marked left [] = Unit {0}
Marked left (n ∷ ns) = (n.needs.last ≡ (left == 1)) × Marked (left - 1) ns

marked_once : (left : ℕ) (ns : List Need) → left ≡ length ns → Marked left ns → OnlyLastIsMarked ns
marked_once left [] e h = tt
marked_once left (n ∷ []) e h = h.0 ∙ eq-eqb left 1 (omega arith)
marked_once left (n ∷ m ∷ ns) e h = (h.0 ∙ ne_eqb left 1 (λ z. omega arith), marked_once (left - 1) (m ∷ ns) (omega arith) h.1)

marked_append : (left : ℕ) (xs ys : List Need) → Marked left xs → Marked (left - length xs) ys → Marked left (xs ++ ys)
marked_append left [] ys h k = (let z : left - 0 ≡ left = omega arith in subst (λ (n : ℕ). Marked n ys) z k)
marked_append left (x ∷ xs) ys h k =
    let z : left - length (x ∷ xs) ≡ left - 1 - length xs = omega arith in
    (h.0, marked_append (left - 1) xs ys h.1 (subst (λ (n : ℕ). Marked n ys) z k))

-- ---- files

files_marked : (l : Layout) (left at : ℕ) (fs : List File) → is_some (through mark_step left fs) ≡ true → Marked left (gathered (record_of l) l at fs)
files_marked l left at [] h = tt
files_marked l left at (f ∷ fs) h = by (needs_of f) h (λ n e. files_marked l n (next_dynstr l at f) fs e)
  where
    by : (o : Option VersionNeeds) → is_some (option_and_then (λ t. through mark_step t fs) (mark_by left o)) ≡ true → ((n : ℕ) → is_some (through mark_step n fs) ≡ true → Marked n (gathered (record_of l) l (next_dynstr l at f) fs))
        → Marked left (record_by l at f o ++ gathered (record_of l) l (next_dynstr l at f) fs)
    by None again rest = rest left again
    by (Some n) again rest =
        elim (cases_Bool (mark_fits left n)) [
          | inl t ↦ (same_bool n.last (left == 1) t, rest (left - 1) (rw t at again))
          | inr u ↦ cc (rw u at again)
        ]

-- a record for each file that has versions which are needed
files_counted : (l : Layout) (at : ℕ) (fs : List File) → length (gathered (record_of l) l at fs) ≡ length (filter has_needs fs)
files_counted l at [] = refl
files_counted l at (f ∷ fs) = by (needs_of f) refl (files_counted l (next_dynstr l at f) fs)
  where
    by : (o : Option VersionNeeds) → needs_of f ≡ o → length (gathered (record_of l) l (next_dynstr l at f) fs) ≡ length (filter has_needs fs) → length (record_by l at f o ++ gathered (record_of l) l (next_dynstr l at f) fs) ≡ length (filter has_needs (f ∷ fs))
    by None e h = rw e h
    by (Some n) e h = rw e (ap suc h)

-- ---- groups

groups_marked : (l : Layout) (left i : ℕ) (gs : List Group) → mark_astray left i gs ≡ None → Marked left (flat_map (group_records l) gs)
groups_marked l left i [] h = tt
groups_marked l left i (g ∷ gs) h =
    elim (cases_Bool (is_some (through mark_step left g.files))) [
      | inl t ↦
          (let own = files_marked l left g.dynstr_start g.files t in
          let count = files_counted l g.dynstr_start g.files in
          let z : left - needs_in g ≡ left - length (group_records l g) = omega arith in
          let rest = groups_marked l (left - needs_in g) (i + 1) gs (rw t at h) in
          marked_append left (group_records l g) (flat_map (group_records l) gs) own (subst (λ (n : ℕ). Marked n (flat_map (group_records l) gs)) z rest))
      | inr n ↦ cc (rw n at h)
    ]

groups_counted : (l : Layout) (gs : List Group) → length (flat_map (group_records l) gs) ≡ length (filter has_needs (files_of gs))
groups_counted l [] = refl
groups_counted l (g ∷ gs) =
    let a = length-append (group_records l g) (flat_map (group_records l) gs) in
    let b = files_counted l g.dynstr_start g.files in
    let c = groups_counted l gs in
    let d = ap (λ (fs : List File). length fs) (filter-append has_needs g.files (files_of gs)) in
    let e = length-append (filter has_needs g.files) (filter has_needs (files_of gs)) in
    omega arith

-- ---- the clause

-- the last record is marked, and no other
pub records_end_once : (l : Layout) → IsLaidOut l → OnlyLastIsMarked (all_records l)
records_end_once l laid = marked_once (need_count l) (all_records l) (sym (groups_counted l l.groups)) (groups_marked l (need_count l) 0 l.groups laid.versions.marks)
