-- Clause 6: where the tables are that a loader reads (gABI, "Relocation", "Dynamic Section").
--   holds_entries parts k s       the bytes of the SHT_RELA section k are exactly those of the parts with entries
--   entries_follow parts q        the part of the other entries begins where that of the relative ones ends
--   table_is_loaded l p           one segment loads the whole of a table that a loader reads, at its addresses
use Rattle.std.specs.Prelude.{ℕ, ◌+◌, ◌==◌, Bool, true, not, ◌&&◌, ◌||◌, if◌then◌else◌, List, [], ◌∷◌, Option, Some, None}
use Rattle.std.specs.List.{list_any}
use Rattle.wild_records.specs.Abi.Section.{sht_rela}
use Rattle.wild_records.specs.Abi.Segment.{pt_load}
use Rattle.wild_types.specs.declared.layout.Layout.{Layout}
use Rattle.wild_types.specs.declared.part.Part.{Part}
use Rattle.wild_types.specs.declared.part.Role.{Role}
use Rattle.wild_types.specs.declared.part.Role.TheVariants as role
use Rattle.wild_types.specs.declared.section.Section.{Section}
use Rattle.wild_types.specs.declared.section.Segment.{Segment}
use Rattle.wild_types.specs.Kinds.{needs_dynamic}
use Rattle.wild_types.specs.Lists.{total}
use Rattle.wild_types.specs.Lookups.{allocated, is_allocated_section, is_header_only_at, kind_at}
use Rattle.wild_types.specs.Parts.{has_role, part_with, is_entry_role, bytes_in, is_table_role, is_look_up_role, has_hashes}
use Rattle.wild_plan_rules.specs.Places.{within}

-- an allocated section of type SHT_RELA contains those parts and no other bytes (gABI, "Sections")
abbrev pub holds_entries : List (Option Part) → ℕ → Section → Bool
holds_entries parts k s = not (allocated s.flags && s.kind == sht_rela) || total (bytes_in k) parts == s.size

-- the first SHT_RELA section, from number k on, that has other bytes
abbrev pub entries_astray : List (Option Part) → ℕ → List Section → Option ℕ
entries_astray parts k [] = None
entries_astray parts k (s ∷ ss) = if holds_entries parts k s then entries_astray parts (k + 1) ss else Some k

-- those parts are in such sections
abbrev pub is_in_entries_section : Layout → Part → Bool
is_in_entries_section l p = not (is_entry_role p.role) || (is_allocated_section l p.section && kind_at l p.section == sht_rela)

-- ---- entries with addends are one table, which begins with the relative ones (LSB, "Dynamic Entries", DT_RELACOUNT)

-- the part begins where the other ends, in the file and in memory
abbrev pub begins_at_end_of : Option Part → Part → Bool
begins_at_end_of None q = true
begins_at_end_of (Some p) q = q.offset == p.offset + p.size && q.address == p.address + p.size

-- the part of the entries that are not relative does so
abbrev pub entries_follow : List Part → Part → Bool
entries_follow parts q = not (has_role role.RelaDynGeneral q) || begins_at_end_of (part_with role.RelaDynRelative parts) q

-- the part that follows in the same table
abbrev pub rest_of_table : List Part → Part → Option Part
rest_of_table parts p = if has_role role.RelaDynRelative p then part_with role.RelaDynGeneral parts else None

-- ---- tables of entries, which a loader finds by the dynamic section and reads out of one segment

-- the table is read from one segment: relocation entries, or, if names are looked up, a table for that
abbrev pub is_read_from_one_segment : Layout → Role → Bool
is_read_from_one_segment l r = is_table_role r || (is_look_up_role r && has_hashes l)

-- the file bytes of the segment include those of the part, and address minus offset is the same for both; if the part's section is
-- omitted, the segment includes its addresses
abbrev pub holds_part : Layout → Part → Segment → Bool
holds_part l p g =
    if is_header_only_at l p.section
    then within g.address g.mem_size p.address p.size
    else within g.offset g.file_size p.offset p.size && p.offset + g.address == p.address + g.offset

abbrev pub carries_part : Layout → Part → Segment → Bool
carries_part l p g = g.kind == pt_load && holds_part l p g

-- the same for the rest of its table, if that has bytes
abbrev pub carries_rest : Layout → Option Part → Segment → Bool
carries_rest l None g = true
carries_rest l (Some q) g = q.size == 0 || carries_part l q g

abbrev pub carries_table : Layout → Part → Option Part → Segment → Bool
carries_table l p rest g = carries_part l p g && carries_rest l rest g

-- one segment loads the whole table at its addresses
abbrev pub table_is_loaded : Layout → Part → Bool
table_is_loaded l p =
    not (needs_dynamic l.kind) || not (is_read_from_one_segment l p.role) || p.size == 0 || list_any (carries_table l p (rest_of_table l.parts p)) l.segments
