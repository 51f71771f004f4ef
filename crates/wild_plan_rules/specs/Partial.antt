-- The clause on relocatable objects: what only they may have, and what they may not have (gABI, "ELF Header": ET_REL).
--   has_no_segments l .. is_no_debug l s   the tests of what such an object may not have
--   is_of_kind l s        only such an object has relocation tables, groups and sections with an output section of their own
--   table_fits f s        a relocation table has a target in its file, and an entry for each of the target's relocations
--   group_fits_members s  a group has one word for its flags and one for each member (gABI, "Section Groups")
use Rattle.std.specs.Prelude.{ℕ, ◌+◌, ◌*◌, ◌==◌, Bool, true, false, not, ◌&&◌, ◌||◌, List, length, Option, Some, None, is_none, slice_get}
use Rattle.std.specs.List.{list_all}
use Rattle.wild_records.specs.Relocations.{rela_size}
use Rattle.wild_types.specs.declared.input.Slot.{Slot}
use Rattle.wild_types.specs.declared.input.Slot.TheVariants as slot
use Rattle.wild_types.specs.declared.input.InputSection.{InputSection}
use Rattle.wild_types.specs.declared.file.File.{File}
use Rattle.wild_types.specs.declared.file.Group.{Group}
use Rattle.wild_types.specs.declared.layout.Thunk.{Thunk}
use Rattle.wild_types.specs.declared.layout.Layout.{Layout}
use Rattle.wild_types.specs.declared.symbol.Resolution.{Resolution}
use Rattle.wild_types.specs.declared.symbol.Symbol.{Symbol}
use Rattle.wild_types.specs.Kinds.{is_partial_link}
use Rattle.wild_types.specs.Lookups.{is_debug, is_rela}

-- ---- what a relocatable object may not have

-- segments: no loader reads the object
abbrev pub has_no_segments : Layout → Bool
has_no_segments l = not (is_partial_link l.kind) || length l.segments == 0

abbrev pub is_slotless : Option Resolution → Bool
is_slotless None = true
is_slotless (Some r) = is_none r.got_address && is_none r.plt_address

-- slots and stubs: the output of the next link has them
abbrev pub has_no_slot : Layout → Symbol → Bool
has_no_slot l s = not (is_partial_link l.kind) || is_slotless s.resolution

abbrev pub has_no_pair : Layout → Bool
has_no_pair l = not (is_partial_link l.kind) || is_none l.tlsld

abbrev pub has_no_thunks : Layout → List Thunk → Bool
has_no_thunks l b = not (is_partial_link l.kind) || length b == 0

-- dynamic symbols, for the same reason
abbrev pub lists_no_symbols : Layout → Bool
lists_no_symbols l = not (is_partial_link l.kind) || length l.dynsyms == 0

abbrev pub is_indexless : Option Resolution → Bool
is_indexless None = true
is_indexless (Some r) = is_none r.dynamic_symbol_index

abbrev pub has_no_index : Layout → Symbol → Bool
has_no_index l s = not (is_partial_link l.kind) || is_indexless s.resolution

-- sections for debuggers: in such an object they are linked like all others
abbrev pub is_no_debug : Layout → InputSection → Bool
is_no_debug l s = not (is_partial_link l.kind) || not (is_debug s.slot)

-- ---- what only a relocatable object may have

abbrev pub is_group : Slot → Bool
is_group slot.Group = true
is_group other = false

abbrev pub is_of_kind : Layout → InputSection → Bool
is_of_kind l s = is_partial_link l.kind || (not (is_rela s.slot) && (not (is_group s.slot) && is_none s.singleton))

-- the table has as many entries as the target has relocations
abbrev pub has_entries : ℕ → Option InputSection → Bool
has_entries size None = false
has_entries size (Some t) = size == rela_size * length t.relocations

abbrev pub table_fits : File → InputSection → Bool
table_fits f s = not (is_rela s.slot) || has_entries s.size (slice_get f.sections s.target)

abbrev pub file_tables_fit : File → Bool
file_tables_fit f = list_all (table_fits f) f.sections

abbrev pub tables_fit : Group → Bool
tables_fit g = list_all file_tables_fit g.files

-- one word for its flags, and one for each member
abbrev pub group_fits_members : InputSection → Bool
group_fits_members s = not (is_group s.slot) || s.size == 4 + 4 * length s.members

-- relocation tables and groups have data
abbrev pub table_has_data : InputSection → Bool
table_has_data s = not (is_rela s.slot || is_group s.slot) || not s.nobits
