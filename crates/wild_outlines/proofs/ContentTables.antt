-- What a group contributes to the parts of an outline.
use Rattle.wild_outlines.proofs.Common.{◌≡◌, ◌-◌, ◌++◌, length, Option, Some, None, option_map, slice_get, refl, ap, ◌∙◌, length-map, slice_get-map, File, Group, InputSection, GnuHash, Layout, Role, placed_files, outline_group, outline}
use Rattle.std.proofs.Common.{flat_map}
use Rattle.wild_types.specs.declared.layout.SysvHash.{SysvHash}
use Rattle.wild_types.specs.declared.part.Role.TheVariants as role
use Rattle.wild_layout.specs.Content.{dynamic_room, file_part_bytes, frame_bytes_of, frames_bytes, gnu_bytes, group_bytes, last_file_room, sysv_bytes, unique_table, file_content, content}
use Rattle.wild_outlines.proofs.ListLemmas.{flat_map-same}
use Rattle.wild_outlines.proofs.Decisions.{item_bytes-outline}
use Rattle.wild_outlines.proofs.FramesPlaced.{placed_files-outline}
use Rattle.wild_outlines.proofs.ContentNeeds.{needed_entries-outline, file_items-same_file, file_strings-same_file, group_relr_got-same_group, needed_entries-same_group, table_strings-same_file}
use Rattle.wild_outlines.proofs.ContentRelocations.{file_entries-outline, file_words-outline, header_bytes-outline, slot_bytes-outline, block_bytes-outline, file_generals-outline}
use Rattle.wild_outlines.proofs.ClausesGroups.{first_listed-outline}
use Rattle.wild_outlines.proofs.ContentDynamic.{file_definitions-outline, group_needs-outline, group_symbols-outline}
use Rattle.wild_outlines.proofs.ContentHeaders.{file_header-outline, program_header-outline, section_headers_of-outline}
use Rattle.wild_outlines.proofs.ContentSymbols.{named_entry-each, table_entries-outline}
use Rattle.wild_outlines.proofs.FramesTable.{search_table-outline}
use Rattle.wild_outlines.proofs.SharesTables.{dynamic_entries-outline, section_symbols-outline}
use Rattle.wild_outlines.proofs.ValuesFiles.{share_of-outline}
use Rattle.wild_outlines.proofs.SharesLemmas.{sorted_words-outline}

frame_bytes_of-outline : (l : Layout) (f : File) (s : InputSection) → frame_bytes_of (outline l) f s ≡ frame_bytes_of l f s
unfolding frame_bytes_of
frame_bytes_of-outline l f s = simp (item_bytes-outline l)

frames_bytes-outline : (l : Layout) (f : File) → frames_bytes (outline l) f ≡ frames_bytes l f
unfolding frames_bytes
frames_bytes-outline l f = simp (flat_map-same (frame_bytes_of (outline l) f) (frame_bytes_of l f) f.sections (frame_bytes_of-outline l f))

gnu_bytes-outline : (l : Layout) (h : Option GnuHash) → gnu_bytes (outline l) h ≡ gnu_bytes l h
gnu_bytes-outline l None = refl
gnu_bytes-outline l (Some h) = refl

sysv_bytes-outline : (l : Layout) (h : Option SysvHash) → sysv_bytes (outline l) h ≡ sysv_bytes l h
sysv_bytes-outline l None = refl
sysv_bytes-outline l (Some h) = simp (first_listed-outline l)

file_part_bytes-outline : (l : Layout) (r : Role) (f : File) → file_part_bytes (outline l) r f ≡ file_part_bytes l r f
file_part_bytes-outline l role.RelaDynRelative f = simp (file_entries-outline l)
file_part_bytes-outline l role.RelaDynGeneral f = simp (file_generals-outline l)
file_part_bytes-outline l role.RelrDyn f = simp (file_words-outline l)
file_part_bytes-outline l role.Dynstr f = simp (file_strings-same_file l)
file_part_bytes-outline l role.GnuVersion f = refl
file_part_bytes-outline l role.GnuVersionD f = simp (file_definitions-outline l)
file_part_bytes-outline l role.SysvHash f = simp (sysv_bytes-outline l)
file_part_bytes-outline l role.GnuHash f = simp (gnu_bytes-outline l)
file_part_bytes-outline l role.SymtabShndxLocal f = simp (section_symbols-outline l, named_entry-each l, file_items-same_file l)
file_part_bytes-outline l role.SymtabShndxGlobal f = simp (section_symbols-outline l, named_entry-each l, file_items-same_file l)
file_part_bytes-outline l role.Strtab f = simp (table_strings-same_file l)
file_part_bytes-outline l role.EhFrame f = simp (frames_bytes-outline l)
file_part_bytes-outline l other f = refl

unique_table-outline : (l : Layout) (r : Role) → unique_table (outline l) r ≡ unique_table l r
unique_table-outline l role.FileHeader = simp (file_header-outline l)
unique_table-outline l role.ProgramHeaders = simp (program_header-outline l)
unique_table-outline l role.SectionHeaders = simp (section_headers_of-outline l)
unique_table-outline l role.Shstrtab = refl
unique_table-outline l role.EhFrameHdr = simp (search_table-outline l)
unique_table-outline l other = refl

last_file_room-outline : (l : Layout) (o : Option Group) → last_file_room (outline l) (option_map outline_group o) ≡ last_file_room l o
last_file_room-outline l None = refl
last_file_room-outline l (Some g) = simp (needed_entries-outline l g, length-map l.groups outline_group, share_of-outline l (length l.groups - 1) role.Dynamic)

dynamic_room-outline : (l : Layout) → dynamic_room (outline l) ≡ dynamic_room l
dynamic_room-outline l = simp (length-map l.groups outline_group, slice_get-map outline_group l.groups (length l.groups - 1), last_file_room-outline l (slice_get l.groups (length l.groups - 1)))

group_bytes-outline : (l : Layout) (r : Role) (g : Group) → group_bytes (outline l) r g ≡ group_bytes l r g
group_bytes-outline l role.RelrDyn g = simp (group_relr_got-same_group l, sorted_words-outline l)
group_bytes-outline l role.Dynsym g = simp (group_symbols-outline l)
group_bytes-outline l role.GnuVersionR g = simp (group_needs-outline l)
group_bytes-outline l role.Dynamic g = simp (needed_entries-same_group l, dynamic_entries-outline l, dynamic_room-outline l)
group_bytes-outline l role.SymtabLocal g = simp (table_entries-outline l)
group_bytes-outline l role.SymtabGlobal g = simp (table_entries-outline l)
group_bytes-outline l r g = simp (block_bytes-outline l)

file_content-outline : (l : Layout) (r : Role) (f : File) → file_content (outline l) r f ≡ file_content l r f
file_content-outline l r f = simp (unique_table-outline l r, header_bytes-outline l r, file_part_bytes-outline l r f, slot_bytes-outline l r f)

pub content-outline : (l : Layout) (r : Role) (g : Group) → content (outline l) r g ≡ content l r g
content-outline l r g =
    ap (λ bs. bs ++ group_bytes (outline l) r g) (ap (flat_map (file_content (outline l) r)) (placed_files-outline l g) ∙ flat_map-same (file_content (outline l) r) (file_content l r) (placed_files l g) (file_content-outline l r))
    ∙ ap (λ bs. flat_map (file_content l r) (placed_files l g) ++ bs) (group_bytes-outline l r g)
