-- The clauses on sizes, counts, and the places of parts and sections.
--   is_in_loaded_section l p   a part that a loader or a program reads is in an allocated section with data
use Rattle.std.specs.Prelude.{ℕ, ◌+◌, ◌%◌, ◌^◌, ◌==◌, Bool, true, not, ◌&&◌, ◌||◌, if◌then◌else◌, nat_le, List, [], ◌∷◌, ◌++◌, drop, length, Option, Some, None, slice_get}
use Rattle.std.specs.Int.{is_power_of_two}
use Rattle.std.specs.List.{list_any, list_all}
use Rattle.wild_records.specs.Abi.Section.{sht_null}
use Rattle.wild_records.specs.FileHeader.{file_header_size}
use Rattle.wild_types.specs.declared.part.Part.{Part}
use Rattle.wild_types.specs.declared.part.Role.{Role}
use Rattle.wild_types.specs.declared.part.Role.TheVariants as role
use Rattle.wild_types.specs.declared.section.Section.{Section}
use Rattle.wild_types.specs.declared.section.Segment.{Segment}
use Rattle.wild_types.specs.declared.input.InputSection.{InputSection}
use Rattle.wild_types.specs.declared.file.File.{File}
use Rattle.wild_types.specs.declared.file.Group.{Group}
use Rattle.wild_types.specs.declared.layout.Layout.{Layout}
use Rattle.wild_types.specs.Lists.{first_failing, total}
use Rattle.wild_types.specs.Kinds.{is_partial_link, is_fixed_static}
use Rattle.wild_types.specs.Lookups.{allocated, is_allocated_section, fills_file, has_data, takes_file_bytes}
use Rattle.wild_types.specs.Parts.{role_place, has_role, is_loaded_role}

-- ---- clause 1: sizes and alignments

-- the page size is a power of two from 4096 to 65536
abbrev pub page_fits : ℕ → Bool
page_fits n = is_power_of_two n && nat_le 4096 n && nat_le n 65536

-- a range of bytes ends at 2^62 or before
abbrev pub ends_low : ℕ → ℕ → Bool
ends_low start size = nat_le (start + size) (2 ^ 62)

abbrev pub zero_or_power : ℕ → Bool
zero_or_power n = n == 0 || is_power_of_two n

abbrev pub part_fits : Part → Bool
part_fits p = is_power_of_two p.align && ends_low p.address p.size && ends_low p.offset p.size

abbrev pub section_fits : Section → Bool
section_fits s = is_power_of_two s.align && ends_low s.address s.size && ends_low s.offset s.size

abbrev pub first_section_fits : Section → Bool
first_section_fits s = zero_or_power s.align && ends_low s.address s.size && ends_low s.offset s.size

-- the first section that does not fit; section 0 may have alignment 0
abbrev pub section_misfit : List Section → Option ℕ
section_misfit [] = None
section_misfit (s ∷ ss) = if first_section_fits s then first_failing section_fits 1 ss else Some 0

abbrev pub segment_fits : Segment → Bool
segment_fits g = zero_or_power g.align && ends_low g.address g.mem_size && ends_low g.offset g.file_size

abbrev pub group_fits : Group → Bool
group_fits g = list_all (λ (f : File). list_all (λ (s : InputSection). ends_low s.address s.size) f.sections) g.files

-- ---- clause 2: counts

-- how many relocations a file, a group and the layout have
abbrev pub relocations_in : File → ℕ
relocations_in f = total (λ (s : InputSection). length s.relocations) f.sections

abbrev pub relocations_of : Group → ℕ
relocations_of g = total relocations_in g.files

abbrev pub relocation_count : Layout → ℕ
relocation_count l = total relocations_of l.groups

-- ---- clause 3: the order of the parts

abbrev pub multiple_of : ℕ → ℕ → Bool
multiple_of align n = not (align == 0) && n % align == 0

-- the first part with file bytes that begins before the end of the previous one, or is not aligned
abbrev pub part_out_of_order : Layout → ℕ → ℕ → List Part → Option ℕ
part_out_of_order l i end [] = None
part_out_of_order l i end (p ∷ ps) =
    if takes_file_bytes l p.section
    then (if nat_le end p.offset && multiple_of p.align p.offset then part_out_of_order l (i + 1) (p.offset + p.size) ps else Some i)
    else part_out_of_order l (i + 1) end ps

-- ---- clause 4: the roles

-- the first part, raw ones excepted, with the role of an earlier part
abbrev pub repeated_role : List Part → ℕ → List Part → Option ℕ
repeated_role earlier i [] = None
repeated_role earlier i (p ∷ ps) =
    if not (has_role role.Raw p) && list_any (has_role p.role) earlier
    then Some i
    else repeated_role (earlier ++ p ∷ []) (i + 1) ps

-- none if a part of that role exists, else the role's place
abbrev pub role_missing : Role → List Part → Option ℕ
role_missing r parts = if list_any (has_role r) parts then None else Some (role_place r)

-- none if the first part of that role is at that offset; else the part's place, or the role's if there is no such part
abbrev pub role_not_at : Role → ℕ → ℕ → List Part → Option ℕ
role_not_at r offset i [] = Some (role_place r)
role_not_at r offset i (p ∷ ps) =
    if has_role r p
    then (if p.offset == offset then None else Some i)
    else role_not_at r offset (i + 1) ps

-- the program headers follow the file header; a relocatable object has none. Else the part's place, or the role's
abbrev pub program_headers_astray : Layout → Option ℕ
program_headers_astray l = if is_partial_link l.kind then None else role_not_at role.ProgramHeaders file_header_size 0 l.parts

-- all roles, each at its place
abbrev pub roles : List Role
roles =
    role.Raw ∷ role.FileHeader ∷ role.ProgramHeaders ∷ role.SectionHeaders ∷ role.Shstrtab ∷ role.Got ∷ role.GotRelr
    ∷ role.PltGot ∷ role.RelaPlt ∷ role.RelaDynRelative ∷ role.RelaDynGeneral ∷ role.RelrDyn ∷ role.Dynsym ∷ role.Dynstr
    ∷ role.GnuVersion ∷ role.GnuVersionD ∷ role.GnuVersionR ∷ role.SysvHash ∷ role.GnuHash ∷ role.EhFrame
    ∷ role.EhFrameHdr ∷ role.Dynamic ∷ role.SymtabLocal ∷ role.SymtabGlobal ∷ role.SymtabShndxLocal
    ∷ role.SymtabShndxGlobal ∷ role.Strtab ∷ role.Interp ∷ role.BuildId ∷ role.Property ∷ []

-- a fixed static executable has no dynamic section (gABI, "Dynamic Section"); else the role's place
abbrev pub unexpected_dynamic : Layout → Option ℕ
unexpected_dynamic l =
    if is_fixed_static l.kind && list_any (has_role role.Dynamic) l.parts then Some (role_place role.Dynamic) else None

-- ---- clause 6: what segments load

-- the sections after section 0, of an output that is loaded
abbrev pub loaded_sections : Layout → List Section
loaded_sections l = if is_partial_link l.kind then [] else drop 1 l.sections

-- ---- clause 5: parts in sections

abbrev pub first_section_is_null : List Section → Bool
first_section_is_null [] = true
first_section_is_null (s ∷ ss) = s.kind == sht_null && length s.name == 0

-- a range of m bytes at b lies in a range of n bytes at a
abbrev pub within : ℕ → ℕ → ℕ → ℕ → Bool
within a n b m = nat_le a b && nat_le (b + m) (a + n)

-- address minus offset is the same for the part and its section
abbrev pub is_level : Section → Part → Bool
is_level s p = nat_le s.address p.address && p.address + s.offset == p.offset + s.address

-- the part lies in the section: by its file bytes, and in an allocated section with the same address minus offset; in a section
-- without file bytes by its addresses
abbrev pub lies_in : Layout → Section → Part → Bool
lies_in l s p =
    if fills_file l s
    then within s.offset s.size p.offset p.size && (not (allocated s.flags) || is_level s p)
    else within s.address s.size p.address p.size

abbrev pub lies_by : Layout → Option Section → Part → Bool
lies_by l None p = true
lies_by l (Some s) p = lies_in l s p

abbrev pub part_lies : Layout → Part → Bool
part_lies l p = p.section == 0 || lies_by l (slice_get l.sections p.section) p

-- such a part is in an allocated section with data, except in relocatable objects
abbrev pub is_in_loaded_section : Layout → Part → Bool
is_in_loaded_section l p =
    is_partial_link l.kind || not (is_loaded_role p.role) || (is_allocated_section l p.section && has_data l p.section)

-- a part that is not raw is in a section with data, or in no section
abbrev pub takes_room : Layout → Part → Bool
takes_room l p = has_role role.Raw p || has_data l p.section
