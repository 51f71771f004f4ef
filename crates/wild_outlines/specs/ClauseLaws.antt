-- The clauses of a well-formed layout after a change.
--   PassesTests l c s f   section s of file f and the one that replaces it pass these tests, each in its own layout
--   ChangesAreTested   the change may be made if they do
--   ClausesByOutline   a change that may be made leaves all clauses satisfied
use Rattle.std.specs.Prelude.{◌≡◌, ◌+◌, ◌-◌, ◌^◌, ◌<◌, true, length, Some, Ok}
use Rattle.wild_types.specs.declared.input.InputSection.{InputSection}
use Rattle.wild_types.specs.declared.file.File.{File}
use Rattle.wild_types.specs.declared.layout.Layout.{Layout}
use Rattle.wild_types.specs.Kinds.{is_partial_link}
use Rattle.wild_change.specs.declared.change.Change.{Change}
use Rattle.wild_change.specs.Change.{found_section, changed_section, changed_file, changed_layout}
use Rattle.wild_placement.specs.PlacedSections.{placed_section}
use Rattle.wild_needs.specs.Entries.{rela_places, words_of, dynamic_relocations}
use Rattle.wild_plan_rules.specs.Places.{relocation_count}
use Rattle.wild_plan_rules.specs.Partial.{file_tables_fit}
use Rattle.wild_plan_rules.specs.WellFormed.{first_clause}
use Rattle.wild_clauses.specs.FileTests.{section_passes}
use Rattle.wild_outlines.specs.MayChange.{MayChange, file_at}

-- the tests by which a change may be made, with the section and its file after the change as the changed layout has them
pub record PassesTests (l : Layout) (c : Change) (s : InputSection) (f : File) : Type 0 where
  pub same_length : length c.bytes ≡ length s.bytes
  pub passes : section_passes (changed_layout l c) (changed_section c s) ≡ true
  pub few : relocation_count l + length c.relocations < 2 ^ 32 - 1 + length s.relocations
  pub tables : is_partial_link l.kind ≡ true → file_tables_fit (changed_file c f) ≡ true
  pub rela : length (rela_places (changed_layout l c) (placed_section (changed_layout l c) (changed_file c f) 0 (changed_section c s))) ≡ length (rela_places l (placed_section l f 0 s))
  pub relr : length (words_of (changed_layout l c) (placed_section (changed_layout l c) (changed_file c f) 0 (changed_section c s))) ≡ length (words_of l (placed_section l f 0 s))
  pub dynamic : length (dynamic_relocations (changed_layout l c) (placed_section (changed_layout l c) (changed_file c f) 0 (changed_section c s))) ≡ length (dynamic_relocations l (placed_section l f 0 s))

-- a change that passes them may be made
abbrev pub ChangesAreTested : Type 0
ChangesAreTested = (l : Layout) (c : Change) (s : InputSection) (f : File) → found_section l c ≡ Some s → file_at l c ≡ Some f → PassesTests l c s f → MayChange l c s

-- if all clauses hold and the change may be made, they hold of the changed layout
abbrev pub ClausesByOutline : Type 0
ClausesByOutline = (l : Layout) (c : Change) (s : InputSection) → first_clause l ≡ Ok tt → MayChange l c s → first_clause (changed_layout l c) ≡ Ok tt
