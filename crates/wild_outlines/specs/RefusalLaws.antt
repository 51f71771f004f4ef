-- The faults of a changed layout, by the changed section, its file and its group alone.
--   place_unless i ok          number i, unless the test passes
--   entry_room l r s           the bytes that section s, as placed, needs of the part of role r
--   needs_no_part l s r        there is a part of role r, or section s needs none
--   changed_clause l i f s     the first clause that fails, if section s of file f of group number i was changed
--   has_counted_entries r      the share of a part of that role depends on the numbers of dynamic relocations
--   changed_shares l i g       the faults of the shares that group g, which has number i, has of such parts
--   HasFaultsOfGroup           these and the faults of the changed group are all faults of the changed layout
--   RefusalsByGroup            this holds after each change that keeps the length of its section, if there were no faults
use Rattle.std.specs.Prelude.{◌≡◌, ℕ, ◌-◌, ◌*◌, ◌^◌, ◌==◌, ◌||◌, Bool, true, false, nat_lt, if◌then◌else◌, List, [], ◌++◌, length, Option, Some, None, Result, slice_get}
use Rattle.std.specs.List.{list_any}
use Rattle.wild_types.specs.declared.fault.Clause.{Clause}
use Rattle.wild_types.specs.declared.fault.Error.{Error}
use Rattle.wild_types.specs.declared.input.InputSection.{InputSection}
use Rattle.wild_types.specs.declared.file.File.{File}
use Rattle.wild_types.specs.declared.file.Group.{Group}
use Rattle.wild_types.specs.declared.part.Part.{Part}
use Rattle.wild_types.specs.declared.part.Role.{Role}
use Rattle.wild_types.specs.declared.part.Role.TheVariants as role
use Rattle.wild_types.specs.declared.layout.Layout.{Layout}
use Rattle.wild_types.specs.FilePlaces.{given}
use Rattle.wild_types.specs.Lists.{first_failing, unless}
use Rattle.wild_types.specs.Parts.{has_role}
use Rattle.wild_records.specs.Relocations.{rela_size, relr_size}
use Rattle.wild_placement.specs.PlacedSections.{placed_section}
use Rattle.wild_needs.specs.Entries.{rela_places, words_of, dynamic_relocations}
use Rattle.wild_needs.specs.Needs.{needs}
use Rattle.wild_change.specs.declared.change.Change.{Change}
use Rattle.wild_change.specs.Change.{found_section, changed_section, changed_file, changed_group, changed_layout}
use Rattle.wild_plan_rules.specs.ClauseTests.{fails, first_error}
use Rattle.wild_plan_rules.specs.Contents.{fields_lie, relocations_are_read}
use Rattle.wild_plan_rules.specs.Fronts.{reversed_fits}
use Rattle.wild_plan_rules.specs.Indexes.{section_indexes_fit}
use Rattle.wild_plan_rules.specs.Partial.{file_tables_fit}
use Rattle.wild_plan_rules.specs.Places.{relocation_count, roles}
use Rattle.wild_plan_rules.specs.WellFormed.{first_clause}
use Rattle.wild_layout.specs.Faults.{flat_map_from, clause_errors, share_errors, has_spare, part_errors, group_errors, errors}

-- number i, unless the test passes
abbrev pub place_unless : ℕ → Bool → Option ℕ
place_unless i ok = if ok then None else Some i

-- the bytes that a placed section needs of the part of a role: for relative relocations an entry or RELR words, and an entry for each
-- field that the loader fills by a symbol or a resolver (gABI, "Relocation", "Relative Relocation Table")
abbrev pub entry_room : Layout → Role → InputSection → ℕ
entry_room l role.RelaDynRelative s = rela_size * length (rela_places l s)
entry_room l role.RelaDynGeneral s = rela_size * length (dynamic_relocations l s)
entry_room l role.RelrDyn s = relr_size * length (words_of l s)
entry_room l other s = 0

-- there is a part of role r, or the section needs none
abbrev pub needs_no_part : Layout → InputSection → Role → Bool
needs_no_part l s r = list_any (has_role r) l.parts || entry_room l r s == 0

-- the clauses that a change can break: the number of all relocations (2), the roles that need a part (4), the indexes (9), fields (10)
-- and words (20) of the section, and the tables of relocations of its file (21)
unfoldable pub changed_clause : Layout → ℕ → File → InputSection → Result (Unit {0}) Clause
changed_clause l i f s =
    first_error (fails 2 (unless (nat_lt (relocation_count l) (2 ^ 32 - 1))))
    (first_error (fails 4 (first_failing (needs_no_part l (placed_section l f 0 s)) 0 roles))
    (first_error (fails 9 (place_unless i (section_indexes_fit l s)))
    (first_error (fails 10 (place_unless i (fields_lie l.machine s)))
    (first_error (fails 10 (place_unless i (relocations_are_read s)))
    (first_error (fails 20 (place_unless i (reversed_fits l.machine s)))
    (fails 21 (place_unless i (file_tables_fit f))))))))

-- the parts of entries and words for dynamic relocations
abbrev pub has_counted_entries : Role → Bool
has_counted_entries role.RelaDynRelative = true
has_counted_entries role.RelaDynGeneral = true
has_counted_entries role.RelrDyn = true
has_counted_entries other = false

-- the fault of the share of part k
abbrev pub changed_share : Layout → ℕ → Group → ℕ → Part → List Error
changed_share l i g k p = if has_counted_entries p.role then share_errors (has_spare p g) k i (given k g) (needs l k i) else []

-- the faults of the shares of all such parts
abbrev pub changed_shares : Layout → ℕ → Group → List Error
changed_shares l i g = flat_map_from (changed_share l i g) 0 l.parts

-- what these tests say of the changed layout: the first clause that fails, the faults of shares, those of groups, and so all faults
pub record HasFaultsOfGroup (l : Layout) (c : Change) (s : InputSection) (g : Group) (f : File) : Type 0 where
  pub clause : first_clause (changed_layout l c) ≡ changed_clause (changed_layout l c) c.group (changed_file c f) (changed_section c s)
  pub shares : flat_map_from (part_errors (changed_layout l c)) 0 (changed_layout l c).parts ≡ changed_shares (changed_layout l c) c.group (changed_group c g)
  pub groups : flat_map_from (group_errors (changed_layout l c)) 0 (changed_layout l c).groups ≡ group_errors (changed_layout l c) c.group (changed_group c g)
  pub errors : errors (changed_layout l c)
      ≡ clause_errors (changed_clause (changed_layout l c) c.group (changed_file c f) (changed_section c s))
      ++ changed_shares (changed_layout l c) c.group (changed_group c g)
      ++ group_errors (changed_layout l c) c.group (changed_group c g)

-- a layout that had no faults has these after a change that keeps the length of its section
abbrev pub RefusalsByGroup : Type 0
RefusalsByGroup =
    (l : Layout) (c : Change) (s : InputSection) (g : Group) (f : File) → found_section l c ≡ Some s → length c.bytes ≡ length s.bytes → slice_get l.groups c.group ≡ Some g → slice_get g.files c.file ≡ Some f
    → errors l ≡ [] → HasFaultsOfGroup l c s g f
