-- The entries of libraries, and the names that they tell.
use Rattle.wild_names.proofs.Common.{◌≡◌, ℕ, inl, inr, Bool, true, if◌then◌else◌, List, [], ◌∷◌, ◌++◌, filter, flat_map, refl, sym, ap, ◌∙◌, subst, cases_Bool, HasBytesAt, HasBytesAt-front, DynamicEntry, File, Group, Layout, next_dynstr, dynstr_prefix_strings, entry_names, file_strings, is_library, needs_dynamic, files_of, version_names, string, string_bytes, table_bytes, all_needed, IsLaidOut}
use Rattle.wild_records.specs.Abi.Dynamic.{dt_needed}
use Rattle.wild_types.specs.declared.part.Role.TheVariants as role
use Rattle.wild_types.specs.declared.file.FileRole.TheVariants as file_role
use Rattle.wild_needs.specs.DynamicStrings.{needed_of, needed_from, needed_entries}
use Rattle.wild_types.proofs.FileLemmas.{library_role}
use Rattle.wild_names.specs.Laws.{libraries}
use Rattle.wild_names.proofs.BesideLemmas.{Belong}
use Rattle.wild_names.proofs.RunLemmas.{strings_of, gathered, files_belong, groups_belong, strings_are_short}

-- the entry names the library, and its name stands where the entry tells
pub record NamesLibrary (strings : List ℕ) (d : DynamicEntry) (f : File) : Type 0 where
  pub at : ℕ
  pub is : d ≡ record { tag = dt_needed; value = at }
  pub stands : HasBytesAt strings at (string f.lib_name)

-- the file, where it is a library
abbrev library_of : File → List File
library_of f = if is_library f.role then f ∷ [] else []

leads : (l : Layout) (f : File) → f.role ≡ file_role.Dynamic → dynstr_prefix_strings l f ≡ f.lib_name ∷ []
leads l f h = rw h refl

-- the strings behind those in front
abbrev later_names : Layout → File → List (List ℕ)
later_names l f = entry_names l f ++ version_names l f

-- a library's strings begin with its name
name_first : (l : Layout) (f : File) → needs_dynamic l.kind ≡ true → is_library f.role ≡ true → strings_of l f ≡ string f.lib_name ++ string_bytes (later_names l f)
unfolding file_strings
name_first l f needs h =
    let e = leads l f (library_role f.role h) in
    let P : Bool → Type 0 = λ b. string_bytes (if b then dynstr_prefix_strings l f ++ later_names l f else []) ≡ string f.lib_name ++ string_bytes (later_names l f) in
    subst P (sym needs) (ap (λ (ss : List (List ℕ)). string_bytes (ss ++ later_names l f)) e)

file_belongs : (l : Layout) (whole : List ℕ) → needs_dynamic l.kind ≡ true → (at : ℕ) (f : File) → HasBytesAt whole at (strings_of l f) → Belong (NamesLibrary whole) (needed_of at f) (library_of f)
file_belongs l whole needs at f s =
    elim (cases_Bool (is_library f.role)) [
      | inl t ↦ rw t (record {
        first = record { at = at; is = refl; stands = HasBytesAt-front whole (string f.lib_name) (string_bytes (later_names l f)) at (subst (λ (bs : List ℕ). HasBytesAt whole at bs) (name_first l f needs t) s) };
        rest = tt;
      })
      | inr n ↦ rw n tt
    ]

-- ---- groups

needed_is_gathered : (l : Layout) (at : ℕ) (fs : List File) → gathered needed_of l at fs ≡ needed_from l at fs
needed_is_gathered l at [] = refl
needed_is_gathered l at (f ∷ fs) = ap (λ (ds : List DynamicEntry). needed_of at f ++ ds) (needed_is_gathered l (next_dynstr l at f) fs)

needed_of_group : (l : Layout) (g : Group) → needs_dynamic l.kind ≡ true → gathered needed_of l g.dynstr_start g.files ≡ needed_entries l g
unfolding needed_entries
needed_of_group l g needs =
    let P : Bool → Type 0 = λ b. needed_from l g.dynstr_start g.files ≡ (if b then needed_from l g.dynstr_start g.files else []) in
    needed_is_gathered l g.dynstr_start g.files ∙ subst P (sym needs) refl

found_are : (fs : List File) → flat_map library_of fs ≡ filter (λ (f : File). is_library f.role) fs
found_are [] = refl
found_are (f ∷ fs) =
    elim (cases_Bool (is_library f.role)) [
      | inl t ↦ rw t (ap (λ (xs : List File). f ∷ xs) (found_are fs))
      | inr n ↦ rw n (found_are fs)
    ]

-- each entry of the front of the dynamic section names its library
pub libraries_belong : (l : Layout) → IsLaidOut l → needs_dynamic l.kind ≡ true → Belong (NamesLibrary (table_bytes l role.Dynstr)) (all_needed l) (libraries l)
libraries_belong l laid needs =
    let whole = table_bytes l role.Dynstr in
    let small = strings_are_short l laid in
    let all = groups_belong (NamesLibrary whole) (needed_entries l) library_of l laid needs (λ g s.
    subst (λ (ds : List DynamicEntry). Belong (NamesLibrary whole) ds (flat_map library_of g.files)) (needed_of_group l g needs) (files_belong (NamesLibrary whole) needed_of library_of l whole small (file_belongs l whole needs) g.dynstr_start g.files s)) in
    subst (Belong (NamesLibrary whole) (all_needed l)) (found_are (files_of l.groups)) all
