-- Which part, section or segment a C struct represents.
use Rattle.std.specs.Prelude.{ℕ, if◌then◌else◌, List, Option, Some, None}
use Rattle.wild_types.specs.declared.part.Part.{Part}
use Rattle.wild_types.specs.declared.section.Section.{Section}
use Rattle.wild_types.specs.declared.section.Segment.{Segment}
use Rattle.wild_c_layout.specs.Codes.{role_of}
use Rattle.wild_c_layout.specs.Values.{is_set}
use Rattle.wild_c_layout.specs.declared.output.CPart.{CPart}
use Rattle.wild_c_layout.specs.declared.output.CSection.{CSection}
use Rattle.wild_c_layout.specs.declared.output.CSegment.{CSegment}

-- a part of the image
unfoldable pub part_of : CPart → Part
part_of p = record { role = role_of p.role; section = p.section; offset = p.offset; address = p.address; size = p.size; align = p.align }

-- the bytes with which the padding of a section is filled, if there are some
abbrev pub fill_of : CSection → Option (List ℕ)
fill_of s = if is_set s.has_fill then Some s.fill else None

-- a section of the output (gABI, "Section Header")
unfoldable pub section_of : CSection → Section
section_of s = record {
  name = s.name.now;
  kind = s.kind;
  flags = s.flags;
  address = s.address;
  offset = s.offset;
  size = s.size;
  link = s.link;
  info = s.info;
  align = s.align;
  entsize = s.entsize;
  fill = fill_of s;
  section_symbol = is_set s.section_symbol;
}

-- a segment (gABI, "Program Header")
unfoldable pub segment_of : CSegment → Segment
segment_of s = record {
  kind = s.kind;
  flags = s.flags;
  offset = s.offset;
  address = s.address;
  physical = s.physical;
  file_size = s.file_size;
  mem_size = s.mem_size;
  align = s.align;
}
