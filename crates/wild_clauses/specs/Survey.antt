-- What one pass over all groups computes before the clauses are tested.
--   is_ordinary f        the file has no sorted section, no copies, and needs no versions
--   are_ordinary gs      the files of all groups are ordinary
--   section_step l v s   the survey after a section; likewise after a file and a group
--   survey_of l           the survey of all groups
--   is_simple s          the symbol is plain and has no index of the dynamic symbol table
--   are_simple ss        all symbols are simple
use Rattle.std.specs.Prelude.{◌+◌, ◌-◌, ◌^◌, ◌==◌, Bool, true, not, ◌&&◌, List, [], ◌∷◌, length, is_none, min}
use Rattle.std.specs.List.{list_all}
use Rattle.wild_types.specs.declared.input.Slot.TheVariants as slot
use Rattle.wild_types.specs.declared.input.InputSection.{InputSection}
use Rattle.wild_types.specs.declared.file.File.{File}
use Rattle.wild_types.specs.declared.file.Group.{Group}
use Rattle.wild_types.specs.declared.layout.Layout.{Layout}
use Rattle.wild_types.specs.declared.symbol.Symbol.{Symbol}
pub use Rattle.wild_clauses.specs.declared.survey.Survey.{Survey}
use Rattle.wild_plan_rules.specs.Contents.{has_share_for_each_part, is_sorted}
use Rattle.wild_plan_rules.specs.MergedSections.{is_unmerged}
use Rattle.wild_clauses.specs.FileTests.{section_passes, symbols_are_there, library_names_fit}
use Rattle.wild_clauses.specs.Positions.{is_unlisted}
use Rattle.wild_plan_rules.specs.SlotFlags.{is_plain}

-- the section is not sorted
abbrev pub is_unsorted : InputSection → Bool
is_unsorted s = not (is_sorted s.slot)

-- without looking at its sections
unfoldable pub has_no_copies_or_versions : File → Bool
has_no_copies_or_versions f = length f.copies == 0 && is_none f.verneed

abbrev pub is_ordinary : File → Bool
is_ordinary f = has_no_copies_or_versions f && list_all is_unsorted f.sections

abbrev pub is_ordinary_group : Group → Bool
is_ordinary_group g = list_all is_ordinary g.files

unfoldable pub are_ordinary : List Group → Bool
are_ordinary gs = list_all is_ordinary_group gs

-- ---- one item after another

-- the state after all items
unfoldable pub fold_steps : {S X : Type 0} → (S → X → S) → S → List X → S
fold_steps step v [] = v
fold_steps step v (x ∷ xs) = fold_steps step (step v x) xs

unfoldable pub section_step : Layout → Survey → InputSection → Survey
section_step l v s = record {
  tests_pass = v.tests_pass && section_passes l s;
  has_no_copies_versions_or_sorting = v.has_no_copies_versions_or_sorting && is_unsorted s;
  unmerged = v.unmerged && is_unmerged s;
  relocations = min (2 ^ 64 - 1) (v.relocations + length s.relocations);
}

-- the tests on a file without its sections
unfoldable pub file_passes_without_sections : Layout → File → Bool
file_passes_without_sections l f = symbols_are_there l f && library_names_fit f

unfoldable pub survey_before_sections : Layout → Survey → File → Survey
survey_before_sections l v f = record {
  tests_pass = v.tests_pass && file_passes_without_sections l f;
  has_no_copies_versions_or_sorting = v.has_no_copies_versions_or_sorting && has_no_copies_or_versions f;
  unmerged = v.unmerged;
  relocations = v.relocations;
}

unfoldable pub file_step : Layout → Survey → File → Survey
file_step l v f = fold_steps (section_step l) (survey_before_sections l v f) f.sections

-- without its files
unfoldable pub survey_before_files : Layout → Survey → Group → Survey
survey_before_files l v g = record {
  tests_pass = v.tests_pass && has_share_for_each_part (length l.parts) g;
  has_no_copies_versions_or_sorting = v.has_no_copies_versions_or_sorting;
  unmerged = v.unmerged;
  relocations = v.relocations;
}

unfoldable pub group_step : Layout → Survey → Group → Survey
group_step l v g = fold_steps (file_step l) (survey_before_files l v g) g.files

abbrev pub empty_survey : Survey
empty_survey = record { tests_pass = true; has_no_copies_versions_or_sorting = true; unmerged = true; relocations = 0 }

unfoldable pub survey_of : Layout → Survey
survey_of l = fold_steps (group_step l) empty_survey l.groups

-- ---- symbols

abbrev pub is_simple : Symbol → Bool
is_simple s = is_plain s && is_unlisted s

unfoldable pub are_simple : List Symbol → Bool
are_simple ss = list_all is_simple ss
