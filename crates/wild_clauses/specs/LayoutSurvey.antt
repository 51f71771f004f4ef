-- Properties of a layout that are computed once, before its clauses are tested.
--   IsLayoutSurvey l s   s has these: whether each group passes, whether all files are ordinary, whether no section has merged strings,
--                whether the files' ranges of symbols ascend, how many relocations there are, and whether the inner groups contribute
--                to no table
use Rattle.std.specs.Prelude.{◌≡◌, ◌-◌, ◌^◌, length, is_some, min}
use Rattle.wild_types.specs.declared.layout.Layout.{Layout}
use Rattle.wild_needs.specs.Needs.{inner_groups_need_no_tables}
use Rattle.wild_clauses.specs.declared.layout_survey.LayoutSurvey.{LayoutSurvey}
use Rattle.wild_clauses.specs.FileTests.{groups_pass}
use Rattle.wild_clauses.specs.SymbolIndexes.{all_ranges_lie}
use Rattle.wild_plan_rules.specs.Places.{relocation_count}
use Rattle.wild_plan_rules.specs.MergedSections.{are_unmerged}
use Rattle.wild_clauses.specs.Survey.{are_ordinary}

pub record IsLayoutSurvey (l : Layout) (s : LayoutSurvey) : Type 0 where
  pub no_inner_tables : s.inner_groups_need_no_tables ≡ inner_groups_need_no_tables l
  pub unmerged : s.unmerged ≡ are_unmerged l
  pub ranges_in_order : s.ranges_in_order ≡ is_some (all_ranges_lie (length l.symbols) 0 l.groups)
  pub tests_pass : s.tests_pass ≡ groups_pass l
  pub ordinary : s.has_no_copies_versions_or_sorting ≡ are_ordinary l.groups
  pub relocations : min (2 ^ 64 - 1) s.relocations ≡ min (2 ^ 64 - 1) (relocation_count l)
