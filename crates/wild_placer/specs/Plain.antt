-- The memory of an image without a dynamic section: that of its segments, with the entries of its relocation sections applied.
--   rela_headers l e       the headers of the layout's sections, as far as relocation entries are read by them
--   load_plain l w image   the memory of the segments of an image in a world, with these entries applied; or the first fault
--   is_plain l             the layout is of an output that is loaded, without a dynamic section
--   load_by plain l w image   that memory, or else what the loader makes of the image
use Rattle.std.specs.Prelude.{ℕ, Bool, not, ◌&&◌, ◌==◌, if◌then◌else◌, List, [], map, drop, Result}
use Rattle.std.specs.List.{list_all}
use Rattle.wild_types.specs.declared.layout.Layout.{Layout}
use Rattle.wild_types.specs.declared.section.Section.{Section}
use Rattle.wild_types.specs.declared.section.Segment.{Segment}
use Rattle.wild_types.specs.Kinds.{is_partial_link}
use Rattle.wild_records.specs.Abi.Segment.{pt_dynamic}
use Rattle.wild_records.specs.declared.file_header.FileHeader.{FileHeader}
use Rattle.wild_records.specs.declared.relocations.Rela.{Rela}
use Rattle.wild_records.specs.declared.section_header.SectionHeader.{SectionHeader}
use Rattle.wild_table_formats.specs.Headers.{section_type}
use Rattle.wild_loader.specs.declared.fault.LoadFault.{LoadFault}
use Rattle.wild_loader.specs.declared.memory.Memory.{Memory}
use Rattle.wild_loader.specs.declared.tables.Tables.{Tables}
use Rattle.wild_loader.specs.declared.world.World.{World}
use Rattle.wild_loader.specs.Outcome.{◌>>=◌}
use Rattle.wild_loader.specs.Headers.{header, machine_of, program_headers}
use Rattle.wild_loader.specs.Memory.{memory_of}
use Rattle.wild_loader.specs.Relocate.{relocate}
use Rattle.wild_loader.specs.Segments.{segments}
use Rattle.wild_loader.specs.Tables.{section_entries}
use Rattle.wild_loader.specs.Load.{load}

-- the header of a section, as far as relocation entries are read by it (gABI, "Section Header")
abbrev pub rela_header : Layout → Section → SectionHeader
rela_header l s = record { name = 0; kind = section_type l s; flags = s.flags; address = 0; offset = s.offset; size = s.size; link = 0; info = 0; align = 0; entry_size = 0 }

-- those of all sections but section 0; none if the image has no section headers
abbrev pub rela_headers : Layout → FileHeader → List SectionHeader
rela_headers l e = if e.section_offset == 0 then [] else map (rela_header l) (drop 1 l.sections)

-- the tables of relocation sections
abbrev pub entry_tables : List Rela → Tables
entry_tables entries = record { words = []; entries = entries; jumps = [] }

-- the memory of the segments of an image whose file header is read, with the entries of its relocation sections applied
abbrev pub plain_with : Layout → World → List ℕ → FileHeader → Result Memory LoadFault
plain_with l w image e =
    segments w.base image (program_headers image e.program_count e.program_offset)
    >>= λ runs. section_entries image (rela_headers l e) []
    >>= λ entries. relocate w (memory_of (machine_of e) runs) (entry_tables entries)

-- the memory of the segments of an image in a world, with these entries applied; or the first fault
unfoldable pub load_plain : Layout → World → List ℕ → Result Memory LoadFault
load_plain l w image = header image >>= plain_with l w image

-- the layout is of an output that is loaded, without a dynamic section, so that the tables are those of relocation sections (gABI, "Dynamic
-- Section", "Relocation")
abbrev pub is_plain : Layout → Bool
is_plain l = not (is_partial_link l.kind) && list_all (λ (g : Segment). not (g.kind == pt_dynamic)) l.segments

-- that memory, or else what the loader makes of the image
abbrev pub load_by : Bool → Layout → World → List ℕ → Result Memory LoadFault
load_by plain l w image = if plain then load_plain l w image else load w image
