-- What a file writes to tables that depend on no section is the same for the outline.
use Rattle.wild_outlines.proofs.Common.{◌≡◌, ℕ, ◌+◌, ◌*◌, ◌-◌, false, List, [], ◌∷◌, ◌++◌, map, length, Option, Some, None, refl, ap, ◌∙◌, if◌then◌else◌, option_map, option_to_list, slice_get, flat_map, length-map, slice_get-map, FileRole, File, Group, InputSection, Layout, GnuHash, Machine, Role, Symbol, is_partial_link, total, files_of, next_dynstr, file_items, outline_section, outline_file, outline_group, outline}
use Rattle.wild_records.specs.declared.dynamic.DynamicEntry.{DynamicEntry}
use Rattle.wild_types.specs.declared.file.FileRole.TheVariants as file_role
use Rattle.wild_types.specs.declared.layout.SysvHash.{SysvHash}
use Rattle.wild_types.specs.declared.kind.Machine.TheVariants as machine
use Rattle.wild_types.specs.declared.part.Role.TheVariants as role
use Rattle.wild_types.specs.FileSymbols.{own_symbols}
use Rattle.wild_types.specs.Kinds.{needs_dynamic, needs_dynsym}
use Rattle.wild_needs.specs.declared.dynamic.DynamicTag.{DynamicTag}
use Rattle.wild_needs.specs.declared.dynamic.DynamicTag.TheVariants as tags
use Rattle.wild_needs.specs.Dynamic.{dynamic_entry, all_tags, entry_with, dynamic_number, entry_of, tag_entries, dynamic_entries}
use Rattle.wild_needs.specs.DynamicPlaces.{need_number, bti_stubs, section_named, first_entries, entries_bytes}
use Rattle.wild_needs.specs.DynamicStrings.{named_strings, text_room, dynstr_prefix_strings, entry_names, file_strings, needed_count, start_among, start_in, string_start}
use Rattle.wild_needs.specs.TableSymbols.{item_name, side, marked_sections, singleton_sections, section_symbols, local_count, global_count, null_strings, table_strings}
use Rattle.wild_needs.specs.Versions.{version_names}
use Rattle.wild_needs.specs.Needs.{bytes_per_image, sysv_room, gnu_room, last_dynamic, bytes_if_last, long_room, file_table_bytes, reads_sections, first_share}
use Rattle.wild_needs.specs.SlotShares.{symbol_share, slot_share, header_share, relr_got_places, group_relr_got, block_of, words_of_relr_got, relr_got_share}
use Rattle.wild_records.specs.Relocations.{relr_size}
use Rattle.wild_records.specs.Frames.{eh_frame_hdr_size, eh_frame_hdr_entry_size}
use Rattle.wild_records.specs.Dynamic.{dynamic_entry_size}
use Rattle.wild_records.specs.SymtabEntry.{symtab_entry_size}
use Rattle.wild_outlines.proofs.ListLemmas.{flat_map-same, total-same}
use Rattle.wild_outlines.proofs.ClausesGroups.{flat_map-mapped, files_of-outline, undefined_entries-outline, need_count-outline}
use Rattle.wild_outlines.proofs.ClausesSlots.{slots_of-outline}
use Rattle.wild_outlines.proofs.SharesFrames.{all_fdes-outline}

-- ---- strings of dynamic symbols

prefix-outline : (l : Layout) (f : File) (r : FileRole) → f.role ≡ r → dynstr_prefix_strings (outline l) (outline_file f) ≡ dynstr_prefix_strings l f
unfolding named_strings
prefix-outline l f file_role.Prelude e = rw e refl
prefix-outline l f file_role.Dynamic e = rw e refl
prefix-outline l f file_role.Epilogue e = rw e refl
prefix-outline l f other e = rw e refl

pub file_strings-outline : (l : Layout) (f : File) → file_strings (outline l) (outline_file f) ≡ file_strings l f
unfolding file_strings
file_strings-outline l f = ap (λ ss. if needs_dynsym l.kind then ss ++ (entry_names l f ++ version_names l f) else []) (prefix-outline l f f.role refl)

pub start_among-outline : (l : Layout) (at : ℕ) (fs : List File) → start_among (outline l) at (map outline_file fs) ≡ start_among l at fs
start_among-outline l at [] = refl
start_among-outline l at (f ∷ fs) = rw (file_strings-outline l f, start_among-outline l (next_dynstr l at f) fs) refl

start_in-outline : (l : Layout) (o : Option Group) → start_in (outline l) (option_map outline_group o) ≡ start_in l o
start_in-outline l None = refl
start_in-outline l (Some g) = start_among-outline l g.dynstr_start g.files

pub string_start-outline : (l : Layout) → string_start (outline l) ≡ string_start l
unfolding string_start
string_start-outline l =
    ap (λ n. start_in (outline l) (slice_get (map outline_group l.groups) (n - 1))) (length-map l.groups outline_group)
    ∙ (ap (start_in (outline l)) (slice_get-map outline_group l.groups (length l.groups - 1)) ∙ start_in-outline l (slice_get l.groups (length l.groups - 1)))

-- ---- entries of the dynamic section

bti_stubs-outline : (l : Layout) (m : Machine) → bti_stubs (outline l) m ≡ bti_stubs l m
bti_stubs-outline l machine.AArch64 = refl
bti_stubs-outline l machine.X86_64 = refl

need_number-outline : (l : Layout) → need_number (outline l) ≡ need_number l
unfolding need_number
need_number-outline l = rw (need_count-outline l.groups) refl

pub dynamic_entry-outline : (l : Layout) (tag : DynamicTag) → dynamic_entry (outline l) tag ≡ dynamic_entry l tag
unfolding dynamic_entry section_named first_entries entries_bytes
dynamic_entry-outline l tags.VersionNeedCount = rw (need_number-outline l) refl
dynamic_entry-outline l tags.BtiPlt = rw (bti_stubs-outline l l.machine) refl
dynamic_entry-outline l other = refl

pub tag_entries-outline : (l : Layout) → tag_entries (outline l) ≡ tag_entries l
unfolding tag_entries
tag_entries-outline l =
    ap (λ (es : List DynamicEntry). if needs_dynamic l.kind then es else []) (flat_map-same (entry_of (outline l)) (entry_of l) all_tags (λ tag. ap (entry_with (dynamic_number tag)) (dynamic_entry-outline l tag)))

pub dynamic_entries-outline : (l : Layout) → dynamic_entries (outline l) ≡ dynamic_entries l
unfolding dynamic_entries named_strings
dynamic_entries-outline l = rw (string_start-outline l, tag_entries-outline l) refl

-- ---- hash tables

sysv_room-outline : (l : Layout) (o : Option SysvHash) → sysv_room (outline l) o ≡ sysv_room l o
sysv_room-outline l None = refl
sysv_room-outline l (Some h) = rw (undefined_entries-outline l.symbols l.groups) refl

gnu_room-outline : (l : Layout) (o : Option GnuHash) → gnu_room (outline l) o ≡ gnu_room l o
gnu_room-outline l None = refl
gnu_room-outline l (Some h) = refl

-- ---- `.symtab`

pub file_items-outline : (l : Layout) (f : File) → file_items (outline l) (outline_file f) ≡ file_items l f
unfolding file_items
file_items-outline l f = refl

pub singleton_sections-outline : (l : Layout) → singleton_sections (outline l) ≡ singleton_sections l
singleton_sections-outline l =
    ap (λ fs. flat_map (λ (f : File). flat_map (λ (s : InputSection). option_to_list s.singleton) f.sections) fs) (files_of-outline l.groups)
    ∙ flat_map-mapped (λ (f : File). flat_map (λ (s : InputSection). option_to_list s.singleton) f.sections) (λ (f : File). flat_map (λ (s : InputSection). option_to_list s.singleton) f.sections) outline_file
    (λ (f : File). flat_map-mapped (λ (s : InputSection). option_to_list s.singleton) (λ (s : InputSection). option_to_list s.singleton) outline_section (λ s. refl) f.sections) (files_of l.groups)

pub section_symbols-outline : (l : Layout) → section_symbols (outline l) ≡ section_symbols l
unfolding section_symbols
section_symbols-outline l = ap (λ ks. if is_partial_link l.kind then marked_sections 0 l.sections ++ ks else []) (singleton_sections-outline l)

local_count-outline : (l : Layout) (f : File) → local_count (outline l) (outline_file f) ≡ local_count l f
local_count-outline l f = rw (section_symbols-outline l, file_items-outline l f) refl

global_count-outline : (l : Layout) (f : File) → global_count (outline l) (outline_file f) ≡ global_count l f
global_count-outline l f = ap (λ xs. length (side false xs)) (file_items-outline l f)

pub table_strings-outline : (l : Layout) (f : File) → table_strings (outline l) (outline_file f) ≡ table_strings l f
unfolding table_strings
table_strings-outline l f = ap (λ xs. null_strings l f ++ map item_name xs) (file_items-outline l f)

-- ---- the tables of a file

pub file_table_bytes-outline : (l : Layout) (r : Role) (f : File) → reads_sections r ≡ false → file_table_bytes (outline l) r (outline_file f) ≡ file_table_bytes l r f
file_table_bytes-outline l role.RelaDynRelative f h = cc
file_table_bytes-outline l role.RelaDynGeneral f h = cc
file_table_bytes-outline l role.RelrDyn f h = cc
file_table_bytes-outline l role.EhFrame f h = cc
file_table_bytes-outline l role.Dynstr f h = ap (total text_room) (file_strings-outline l f)
file_table_bytes-outline l role.SysvHash f h = ap (last_dynamic l f.role) (sysv_room-outline l l.sysv_hash)
file_table_bytes-outline l role.GnuHash f h = ap (last_dynamic l f.role) (gnu_room-outline l l.gnu_hash)
file_table_bytes-outline l role.Dynamic f h = ap (λ (es : List DynamicEntry). dynamic_entry_size * (needed_count l f + bytes_if_last f.role (length es))) (dynamic_entries-outline l)
file_table_bytes-outline l role.SymtabLocal f h = ap (λ n. symtab_entry_size * n) (local_count-outline l f)
file_table_bytes-outline l role.SymtabGlobal f h = ap (λ n. symtab_entry_size * n) (global_count-outline l f)
file_table_bytes-outline l role.SymtabShndxLocal f h = ap (long_room l role.SymtabShndxLocal) (local_count-outline l f)
file_table_bytes-outline l role.SymtabShndxGlobal f h = ap (long_room l role.SymtabShndxGlobal) (global_count-outline l f)
file_table_bytes-outline l role.Strtab f h = ap (total text_room) (table_strings-outline l f)
file_table_bytes-outline l other f h = refl

-- ---- slots

symbol_share-outline : (l : Layout) (r : Role) (s : Symbol) → symbol_share (outline l) r s ≡ symbol_share l r s
symbol_share-outline l role.Got s = rw (slots_of-outline l s) refl
symbol_share-outline l role.GotRelr s = rw (slots_of-outline l s) refl
symbol_share-outline l role.PltGot s = rw (slots_of-outline l s) refl
symbol_share-outline l role.RelaPlt s = rw (slots_of-outline l s) refl
symbol_share-outline l role.RelaDynRelative s = rw (slots_of-outline l s) refl
symbol_share-outline l role.RelaDynGeneral s = rw (slots_of-outline l s) refl
symbol_share-outline l role.RelrDyn s = rw (slots_of-outline l s) refl
symbol_share-outline l other s = refl

pub slot_share-outline : (l : Layout) (r : Role) (f : File) → slot_share (outline l) r (outline_file f) ≡ slot_share l r f
unfolding slot_share
slot_share-outline l r f = total-same (symbol_share (outline l) r) (symbol_share l r) (own_symbols l f) (symbol_share-outline l r)

header_share-outline : (l : Layout) (r : Role) → header_share (outline l) r ≡ header_share l r
header_share-outline l role.Got = refl
header_share-outline l role.RelaDynGeneral = refl
header_share-outline l other = refl

bytes_per_image-outline : (l : Layout) (r : Role) → bytes_per_image (outline l) r ≡ bytes_per_image l r
bytes_per_image-outline l role.EhFrameHdr = ap (λ n. if l.options.eh_frame_hdr then eh_frame_hdr_size + eh_frame_hdr_entry_size * n else 0) (all_fdes-outline l)
bytes_per_image-outline l role.FileHeader = refl
bytes_per_image-outline l role.ProgramHeaders = refl
bytes_per_image-outline l role.SectionHeaders = refl
bytes_per_image-outline l role.Shstrtab = refl
bytes_per_image-outline l role.Interp = refl
bytes_per_image-outline l other = refl

pub first_share-outline : (l : Layout) (r : Role) → first_share (outline l) r ≡ first_share l r
first_share-outline l r = rw (bytes_per_image-outline l r, header_share-outline l r) refl

relr_got_places-outline : (l : Layout) (s : Symbol) → relr_got_places (outline l) s ≡ relr_got_places l s
relr_got_places-outline l s = rw (slots_of-outline l s) refl

pub group_relr_got-outline : (l : Layout) (g : Group) → group_relr_got (outline l) (outline_group g) ≡ group_relr_got l g
unfolding group_relr_got
group_relr_got-outline l g =
    flat_map-mapped (λ (f : File). flat_map (relr_got_places (outline l)) (own_symbols (outline l) f)) (λ (f : File). flat_map (relr_got_places l) (own_symbols l f)) outline_file
    (λ (f : File). flat_map-same (relr_got_places (outline l)) (relr_got_places l) (own_symbols l f) (relr_got_places-outline l)) g.files

pub relr_got_share-outline : (l : Layout) (r : Role) (g : Group) → relr_got_share (outline l) r (outline_group g) ≡ relr_got_share l r g
relr_got_share-outline l role.RelrDyn g = ap (λ ps. relr_size * length (words_of_relr_got (block_of ps))) (group_relr_got-outline l g)
relr_got_share-outline l other g = refl
