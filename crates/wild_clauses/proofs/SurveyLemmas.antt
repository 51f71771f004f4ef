-- What the walk ahead of the clauses tells of all groups; and what is not looked for where all files are ordinary.
use Rattle.std.proofs.Common.{◌≡◌, ℕ, ◌+◌, ◌-◌, ◌^◌, Bool, true, false, ◌&&◌, List, [], ◌∷◌, ◌++◌, None, refl, sym, ap, ◌∙◌, length, map, min, arith}
use Rattle.std.specs.Prelude.{◌==◌, not, if◌then◌else◌, Option, Some, is_none}
use Rattle.std.specs.List.{list_all, filter, flat_map}
use Rattle.std.proofs.lemmas.Bool.{and_parts, eqb-true}
use Rattle.wild_types.specs.declared.input.InputSection.{InputSection}
use Rattle.wild_types.specs.declared.file.File.{File}
use Rattle.wild_types.specs.declared.file.Group.{Group}
use Rattle.wild_types.specs.declared.file.VersionNeeds.{VersionNeeds}
use Rattle.wild_types.specs.declared.layout.Layout.{Layout}
use Rattle.wild_types.specs.Lists.{total}
use Rattle.wild_types.specs.Lookups.{canonical, files_of}
use Rattle.wild_types.specs.FileRoles.{is_library}
use Rattle.wild_types.specs.FileSymbols.{copied_definitions, first_double_copy}
use Rattle.wild_needs.specs.Versions.{has_needs, is_needed, need_count}
use Rattle.wild_needs.specs.DynamicPlaces.{need_number}
use Rattle.wild_needs.proofs.StringLemmas.{length_needed}
use Rattle.wild_plan_rules.specs.Contents.{has_share_for_each_part, is_sorted, sections_named_once, files_named_once, sorted_named_once}
use Rattle.wild_plan_rules.specs.Places.{relocations_in, relocations_of, relocation_count}
use Rattle.wild_clauses.specs.FileTests.{section_passes, symbols_are_there, library_names_fit, file_passes, group_passes, groups_pass}
use Rattle.wild_plan_rules.specs.MergedSections.{is_unmerged, are_unmerged}
use Rattle.wild_clauses.specs.Survey.{Survey, is_unsorted, has_no_copies_or_versions, is_ordinary, is_ordinary_group, are_ordinary, fold_steps, section_step, file_passes_without_sections, survey_before_sections, file_step, survey_before_files, group_step, empty_survey, survey_of}

and_true : (a : Bool) → (a && true) ≡ a
and_true true = refl
and_true false = refl

and_moved : (a b c : Bool) → ((a && b) && c) ≡ (a && (b && c))
and_moved true b c = refl
and_moved false b c = refl

-- ---- one answer of several, step by step

along_all : {S X : Type 0} (step : S → X → S) (told : S → Bool) (test : X → Bool) → ((v : S) (x : X) → told (step v x) ≡ (told v && test x)) → (v : S) (xs : List X) → told (fold_steps step v xs) ≡ (told v && list_all test xs)
unfolding fold_steps
along_all step told test one v [] = sym (and_true (told v))
along_all step told test one v (x ∷ xs) =
    along_all step told test one (step v x) xs
    ∙ ap (λ (b : Bool). b && list_all test xs) (one v x)
    ∙ and_moved (told v) (test x) (list_all test xs)

along_sum : {S X : Type 0} (step : S → X → S) (count : S → ℕ) (f : X → ℕ) → ((v : S) (x : X) → min (2 ^ 64 - 1) (count (step v x)) ≡ min (2 ^ 64 - 1) (count v + f x)) → (v : S) (xs : List X) → min (2 ^ 64 - 1) (count (fold_steps step v xs)) ≡ min (2 ^ 64 - 1) (count v + total f xs)
unfolding fold_steps
along_sum step count f one v [] = omega arith
along_sum step count f one v (x ∷ xs) =
    let rest = along_sum step count f one (step v x) xs in
    let here = one v x in
    omega (arith, rest, here)

-- ---- whether all pass

file_passed : (l : Layout) (v : Survey) (f : File) → (file_step l v f).tests_pass ≡ (v.tests_pass && file_passes l f)
unfolding file_passes file_passes_without_sections section_step survey_before_sections file_step
file_passed l v f =
    let own = symbols_are_there l f && library_names_fit f in
    let sections = list_all (section_passes l) f.sections in
    along_all (section_step l) (λ (u : Survey). u.tests_pass) (section_passes l) (λ u s. refl) (survey_before_sections l v f) f.sections
    ∙ and_moved v.tests_pass own sections
    ∙ ap (λ (b : Bool). v.tests_pass && b) (and_moved (symbols_are_there l f) (library_names_fit f) sections)

group_passed : (l : Layout) (v : Survey) (g : Group) → (group_step l v g).tests_pass ≡ (v.tests_pass && group_passes l g)
unfolding group_passes survey_before_files group_step
group_passed l v g =
    along_all (file_step l) (λ (u : Survey). u.tests_pass) (file_passes l) (file_passed l) (survey_before_files l v g) g.files
    ∙ and_moved v.tests_pass (has_share_for_each_part (length l.parts) g) (list_all (file_passes l) g.files)

pub passed_told : (l : Layout) (v : Survey) → v ≡ survey_of l → v.tests_pass ≡ groups_pass l
unfolding survey_of groups_pass
passed_told l v is =
    ap (λ (u : Survey). u.tests_pass) is
    ∙ along_all (group_step l) (λ (u : Survey). u.tests_pass) (group_passes l) (group_passed l) empty_survey l.groups

-- ---- whether all are ordinary

file_ordinary : (l : Layout) (v : Survey) (f : File) → (file_step l v f).has_no_copies_versions_or_sorting ≡ (v.has_no_copies_versions_or_sorting && is_ordinary f)
unfolding section_step survey_before_sections file_step
file_ordinary l v f =
    along_all (section_step l) (λ (u : Survey). u.has_no_copies_versions_or_sorting) is_unsorted (λ u s. refl) (survey_before_sections l v f) f.sections
    ∙ and_moved v.has_no_copies_versions_or_sorting (has_no_copies_or_versions f) (list_all is_unsorted f.sections)

group_ordinary : (l : Layout) (v : Survey) (g : Group) → (group_step l v g).has_no_copies_versions_or_sorting ≡ (v.has_no_copies_versions_or_sorting && is_ordinary_group g)
unfolding survey_before_files group_step
group_ordinary l v g = along_all (file_step l) (λ (u : Survey). u.has_no_copies_versions_or_sorting) is_ordinary (file_ordinary l) (survey_before_files l v g) g.files

pub ordinary_told : (l : Layout) (v : Survey) → v ≡ survey_of l → v.has_no_copies_versions_or_sorting ≡ are_ordinary l.groups
unfolding survey_of are_ordinary
ordinary_told l v is =
    ap (λ (u : Survey). u.has_no_copies_versions_or_sorting) is
    ∙ along_all (group_step l) (λ (u : Survey). u.has_no_copies_versions_or_sorting) is_ordinary_group (group_ordinary l) empty_survey l.groups

-- ---- whether no section is one of merged strings

file_unmerged : (l : Layout) (v : Survey) (f : File) → (file_step l v f).unmerged ≡ (v.unmerged && list_all is_unmerged f.sections)
unfolding section_step survey_before_sections file_step
file_unmerged l v f = along_all (section_step l) (λ (u : Survey). u.unmerged) is_unmerged (λ u s. refl) (survey_before_sections l v f) f.sections

group_unmerged : (l : Layout) (v : Survey) (g : Group) → (group_step l v g).unmerged ≡ (v.unmerged && list_all (λ (f : File). list_all is_unmerged f.sections) g.files)
unfolding survey_before_files group_step
group_unmerged l v g = along_all (file_step l) (λ (u : Survey). u.unmerged) (λ (f : File). list_all is_unmerged f.sections) (file_unmerged l) (survey_before_files l v g) g.files

pub unmerged_told : (l : Layout) (v : Survey) → v ≡ survey_of l → v.unmerged ≡ are_unmerged l
unfolding survey_of
unmerged_told l v is =
    ap (λ (u : Survey). u.unmerged) is
    ∙ along_all (group_step l) (λ (u : Survey). u.unmerged) (λ (g : Group). list_all (λ (f : File). list_all is_unmerged f.sections) g.files) (group_unmerged l) empty_survey l.groups

-- ---- how many relocations there are

section_count : (l : Layout) (v : Survey) (s : InputSection) → min (2 ^ 64 - 1) (section_step l v s).relocations ≡ min (2 ^ 64 - 1) (v.relocations + length s.relocations)
unfolding section_step
section_count l v s = omega arith

file_count : (l : Layout) (v : Survey) (f : File) → min (2 ^ 64 - 1) (file_step l v f).relocations ≡ min (2 ^ 64 - 1) (v.relocations + relocations_in f)
unfolding survey_before_sections file_step
file_count l v f = along_sum (section_step l) (λ (u : Survey). u.relocations) (λ (s : InputSection). length s.relocations) (section_count l) (survey_before_sections l v f) f.sections

group_count : (l : Layout) (v : Survey) (g : Group) → min (2 ^ 64 - 1) (group_step l v g).relocations ≡ min (2 ^ 64 - 1) (v.relocations + relocations_of g)
unfolding survey_before_files group_step
group_count l v g = along_sum (file_step l) (λ (u : Survey). u.relocations) relocations_in (file_count l) (survey_before_files l v g) g.files

pub relocations_told : (l : Layout) (v : Survey) → v ≡ survey_of l → min (2 ^ 64 - 1) v.relocations ≡ min (2 ^ 64 - 1) (relocation_count l)
unfolding survey_of
relocations_told l v is =
    let zero : 0 + total relocations_of l.groups ≡ total relocations_of l.groups = omega arith in
    ap (λ (u : Survey). min (2 ^ 64 - 1) u.relocations) is
    ∙ along_sum (group_step l) (λ (u : Survey). u.relocations) relocations_of (group_count l) empty_survey l.groups
    ∙ ap (min (2 ^ 64 - 1)) zero

-- ---- ordinary files

record IsOrdinary (f : File) : Type 0 where
  copies : (length f.copies == 0) ≡ true
  needs : is_none f.verneed ≡ true
  sections : list_all is_unsorted f.sections ≡ true

IsOrdinary-from_test : (f : File) → is_ordinary f ≡ true → IsOrdinary f
unfolding has_no_copies_or_versions
IsOrdinary-from_test f h =
    let a = and_parts (length f.copies == 0 && is_none f.verneed) (list_all is_unsorted f.sections) h in
    let b = and_parts (length f.copies == 0) (is_none f.verneed) a.0 in
    record { copies = b.0; needs = b.1; sections = a.1 }

-- no library needs versions
needs_none : (f : File) → is_none f.verneed ≡ true → has_needs f ≡ false
needs_none f h = by (is_library f.role) f.verneed h
  where
    by : (b : Bool) (o : Option VersionNeeds) → is_none o ≡ true → is_needed (if b then o else None) ≡ false
    by true None k = refl
    by true (Some n) k = cc
    by false o k = refl

files_need_none : (fs : List File) → list_all is_ordinary fs ≡ true → length (filter has_needs fs) ≡ 0
files_need_none [] h = refl
files_need_none (f ∷ fs) h =
    let p = and_parts (is_ordinary f) (list_all is_ordinary fs) h in
    rw (needs_none f (IsOrdinary-from_test f p.0).needs) (files_need_none fs p.1)

groups_need_none : (gs : List Group) → list_all is_ordinary_group gs ≡ true → length (filter has_needs (files_of gs)) ≡ 0
groups_need_none [] h = refl
groups_need_none (g ∷ gs) h =
    let p = and_parts (is_ordinary_group g) (list_all is_ordinary_group gs) h in
    let cut = length_needed g.files (files_of gs) in
    let here = files_need_none g.files p.0 in
    let rest = groups_need_none gs p.1 in
    omega (arith, cut, here, rest)

pub none_needed : (l : Layout) (ordinary : Bool) → ordinary ≡ are_ordinary l.groups → ordinary ≡ true → 0 ≡ need_number l
unfolding are_ordinary need_number
none_needed l ordinary is h = let count : need_count l ≡ 0 = groups_need_none l.groups (sym is ∙ h) in omega (arith, count)

-- no symbol is copied
list_copies_none : (l : Layout) (cs : List ℕ) → (length cs == 0) ≡ true → map (canonical l) cs ≡ []
list_copies_none l [] h = refl
list_copies_none l (c ∷ cs) h = let none : length (c ∷ cs) ≡ 0 = eqb-true (length (c ∷ cs)) 0 h in absurd (omega (arith, none))

files_copy_none : (l : Layout) (fs : List File) → list_all is_ordinary fs ≡ true → flat_map (λ (f : File). map (canonical l) f.copies) fs ≡ []
files_copy_none l [] h = refl
files_copy_none l (f ∷ fs) h =
    let p = and_parts (is_ordinary f) (list_all is_ordinary fs) h in
    rw (list_copies_none l f.copies (IsOrdinary-from_test f p.0).copies) (files_copy_none l fs p.1)

groups_copy_none : (l : Layout) (earlier : List ℕ) (i : ℕ) (gs : List Group) → list_all is_ordinary_group gs ≡ true → first_double_copy l earlier i gs ≡ None
groups_copy_none l earlier i [] h = refl
groups_copy_none l earlier i (g ∷ gs) h =
    let p = and_parts (is_ordinary_group g) (list_all is_ordinary_group gs) h in
    let none : copied_definitions l g ≡ [] = files_copy_none l g.files p.0 in
    rw none (groups_copy_none l (earlier ++ []) (i + 1) gs p.1)

pub none_copied : (l : Layout) (ordinary : Bool) → ordinary ≡ are_ordinary l.groups → ordinary ≡ true → None ≡ first_double_copy l [] 0 l.groups
unfolding are_ordinary
none_copied l ordinary is h = sym (groups_copy_none l [] 0 l.groups (sym is ∙ h))

-- no section is in a given order
sections_sort_none : (l : Layout) (group file k : ℕ) (ss : List InputSection) → list_all is_unsorted ss ≡ true → sections_named_once l group file k ss ≡ true
sections_sort_none l group file k [] h = refl
sections_sort_none l group file k (s ∷ ss) h =
    let p = and_parts (is_unsorted s) (list_all is_unsorted ss) h in
    let here : not (is_sorted s.slot) ≡ true = p.0 in
    rw here (sections_sort_none l group file (k + 1) ss p.1)

files_sort_none : (l : Layout) (group k : ℕ) (fs : List File) → list_all is_ordinary fs ≡ true → files_named_once l group k fs ≡ true
files_sort_none l group k [] h = refl
files_sort_none l group k (f ∷ fs) h =
    let p = and_parts (is_ordinary f) (list_all is_ordinary fs) h in
    rw (sections_sort_none l group k 0 f.sections (IsOrdinary-from_test f p.0).sections) (files_sort_none l group (k + 1) fs p.1)

groups_sort_none : (l : Layout) (i : ℕ) (gs : List Group) → list_all is_ordinary_group gs ≡ true → sorted_named_once l i gs ≡ None
groups_sort_none l i [] h = refl
groups_sort_none l i (g ∷ gs) h =
    let p = and_parts (is_ordinary_group g) (list_all is_ordinary_group gs) h in
    rw (files_sort_none l i 0 g.files p.0) (groups_sort_none l (i + 1) gs p.1)

pub none_sorted : (l : Layout) (ordinary : Bool) → ordinary ≡ are_ordinary l.groups → ordinary ≡ true → None ≡ sorted_named_once l 0 l.groups
unfolding are_ordinary
none_sorted l ordinary is h = sym (groups_sort_none l 0 l.groups (sym is ∙ h))
