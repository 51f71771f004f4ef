-- The tests of all clauses that need one file and no other. A single pass over the groups evaluates them together.
--   relocation_passes l s r   the relocation passes each test on a single relocation
--   section_passes l s        the section passes, and so do its relocations
--   file_passes l f           the file passes, and so do its sections
--   group_passes l g          the files pass, and there is a share for each part
--   groups_pass l             all groups pass
--   parts_fit l               the tests of clause 8 on parts
use Rattle.std.specs.Prelude.{Bool, ◌==◌, ◌&&◌, ◌||◌, nat_lt, nat_le, ◌+◌, length}
use Rattle.std.specs.List.{list_all}
use Rattle.wild_types.specs.declared.input.InputRelocation.{InputRelocation}
use Rattle.wild_types.specs.declared.input.InputSection.{InputSection}
use Rattle.wild_types.specs.declared.file.File.{File}
use Rattle.wild_types.specs.declared.file.Group.{Group}
use Rattle.wild_types.specs.declared.layout.Layout.{Layout}
use Rattle.wild_plan_rules.specs.Places.{ends_low}
use Rattle.wild_plan_rules.specs.Contents.{has_share_for_each_part, length_fits, frames_part_fits, discarded_is_empty, part_is_raw, merged_is_raw, identity_is_raw, primary_fits, front_is_free, allocation_agrees, bytes_take_room, field_lies, is_read_well}
use Rattle.wild_plan_rules.specs.Indexes.{index_fits, header_is_there, relocation_index_fits, symbol_is_there, block_is_there}
use Rattle.wild_plan_rules.specs.ZeroFree.{name_fits, input_name_fits, needs_names_fit}
use Rattle.wild_plan_rules.specs.Fronts.{reversed_fits}
use Rattle.wild_plan_rules.specs.Partial.{is_of_kind}

-- the tests of clause 8 on a section
abbrev pub passes_all : Layout → InputSection → Bool
passes_all l s = length_fits s && (frames_part_fits l s && (discarded_is_empty s && (part_is_raw l s && (allocation_agrees l s && bytes_take_room l s))))

-- the parts of merged strings, of the linker's identity string and of thunks pass their tests
abbrev pub parts_fit : Layout → Bool
parts_fit l = list_all (merged_is_raw l) l.merged && (identity_is_raw l && (primary_fits l && front_is_free l))

-- clauses 9 and 10: the symbol exists, the field lies in the section, and the reader of the input did not fail at the relocation
unfoldable pub relocation_passes : Layout → InputSection → InputRelocation → Bool
relocation_passes l s r = relocation_index_fits l r && (field_lies l.machine s r && is_read_well r)

-- clause 9 without relocations
abbrev pub headers_are_there : Layout → InputSection → Bool
headers_are_there l s = nat_lt s.part (length l.parts) && (index_fits (length l.sections) s.singleton && list_all (header_is_there l) s.members)

-- clauses 1, 8, 9, 10, 19, 20 and 21
unfoldable pub section_passes : Layout → InputSection → Bool
section_passes l s =
    ends_low s.address s.size
    && (passes_all l s
    && (headers_are_there l s
    && (list_all (relocation_passes l s) s.relocations
    && (input_name_fits s
    && (reversed_fits l.machine s
    && is_of_kind l s)))))

-- clause 9 without sections
abbrev pub symbols_are_there : Layout → File → Bool
symbols_are_there l f = (f.symbol_count == 0 || nat_le (f.first_symbol + f.symbol_count) (length l.symbols)) && (list_all (symbol_is_there l) f.copies && block_is_there l f)

-- clause 19 without sections
abbrev pub library_names_fit : File → Bool
library_names_fit f = name_fits f.lib_name && needs_names_fit f.verneed

unfoldable pub file_passes : Layout → File → Bool
file_passes l f = symbols_are_there l f && (library_names_fit f && list_all (section_passes l) f.sections)

-- and clause 7
unfoldable pub group_passes : Layout → Group → Bool
group_passes l g = has_share_for_each_part (length l.parts) g && list_all (file_passes l) g.files

unfoldable pub groups_pass : Layout → Bool
groups_pass l = list_all (group_passes l) l.groups
