-- When a changed section passes all clauses and needs the same shares: conditions on the section itself and on a few numbers.
--   written_section l s   the section as a file writes it
--   KeepsCounts l s t     sections s and t have as many entries in the tables of dynamic relocations
--   file_at l c           the file that has the section that the change names
--   MayChange l c s       the change replaces section s, and the section that it makes passes the tests of all clauses
use Rattle.std.specs.Prelude.{◌≡◌, ◌+◌, ◌-◌, ◌^◌, ◌<◌, true, length, Option, Some, option_and_then, slice_get}
use Rattle.wild_types.specs.declared.input.InputSection.{InputSection}
use Rattle.wild_types.specs.declared.file.File.{File}
use Rattle.wild_types.specs.declared.file.Group.{Group}
use Rattle.wild_types.specs.declared.layout.Layout.{Layout}
use Rattle.wild_types.specs.Kinds.{is_partial_link}
use Rattle.wild_change.specs.declared.change.Change.{Change}
use Rattle.wild_change.specs.Change.{found_section, changed_section, changed_file}
use Rattle.wild_placement.specs.ReversedWords.{with_word_order}
use Rattle.wild_placement.specs.PlacedSections.{unread}
use Rattle.wild_needs.specs.Entries.{rela_places, words_of, dynamic_relocations}
use Rattle.wild_plan_rules.specs.Places.{relocation_count}
use Rattle.wild_plan_rules.specs.Partial.{file_tables_fit}
use Rattle.wild_clauses.specs.FileTests.{section_passes}

-- a loaded or debug section as a file writes it: its words in the output's order, and in a relocatable object no relocations
abbrev pub written_section : Layout → InputSection → InputSection
written_section l s = with_word_order (unread l s)

-- the numbers of relative entries, of RELR words, and of entries that name a symbol or a resolver are the same for both sections
pub record KeepsCounts (l : Layout) (s t : InputSection) : Type 0 where
  pub rela : length (rela_places l (written_section l t)) ≡ length (rela_places l (written_section l s))
  pub relr : length (words_of l (written_section l t)) ≡ length (words_of l (written_section l s))
  pub dynamic : length (dynamic_relocations l (written_section l t)) ≡ length (dynamic_relocations l (written_section l s))

-- the file that has the section
abbrev pub file_at : Layout → Change → Option File
file_at l c = option_and_then (λ (g : Group). slice_get g.files c.file) (slice_get l.groups c.group)

-- the change replaces section s, and the section that it makes passes the tests of all clauses:
--   it has the length of s, and passes each test on a single section
--   all sections together have fewer than 2^32 - 1 relocations
--   in a relocatable object, the tables of relocations of its file have an entry for each of its relocations
--   it has as many entries in the tables of dynamic relocations as s, so that shares are what is needed
pub record MayChange (l : Layout) (c : Change) (s : InputSection) : Type 0 where
  pub found : found_section l c ≡ Some s
  pub same_length : length c.bytes ≡ length s.bytes
  pub passes : section_passes l (changed_section c s) ≡ true
  pub few : relocation_count l + length c.relocations < 2 ^ 32 - 1 + length s.relocations
  pub tables : is_partial_link l.kind ≡ true → (f : File) → file_at l c ≡ Some f → file_tables_fit (changed_file c f) ≡ true
  pub counts : KeepsCounts l s (changed_section c s)
