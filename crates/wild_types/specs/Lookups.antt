-- Look-ups in a layout.
--   bit flags n            the flag is set
--   kind_at l k            the type of the section with header index k; SHT_NULL if there is none
--   is_allocated_part l p  the part is in a section other than section 0 that is allocated (SHF_ALLOC)
--   is_without_data s      the section's type is that of sections without bytes in the file
--   is_header_only l s          only the section's header is written: the image is a debug file, and the section is allocated and no note
--   fills_file l s         the section has bytes in the file
--   has_data l k           the type of the section with header index k is that of sections with bytes in the file
--   takes_file_bytes l k   that section has bytes in the file
--   has_range_bytes l s           the input section is placed in its part in file order, and contributes bytes
--   is_filled l s          these bytes are in the image
--   is_read s              the relocations are read: the section is loaded or holds frames, and has data
--   has_written_relocations s           they are applied to its bytes
--   is_counted s           they are counted
--   image_size l           the greatest end of a file range of a part or a section
--   has_address l s        the input section has an address
--   canonical l i          the symbol that defines symbol i
--   file_of files i        the first file whose range of symbols contains i
--   place_of address r     the address of the field of a relocation, if the section's bytes are at address, modulo 2^64
--   packs l at             a relative relocation of that place is packed as RELR
--   has_symtab l            the output has a `.symtab`
use Rattle.std.specs.Prelude.{ℕ, ◌+◌, ◌%◌, ◌^◌, ◌==◌, ◌&&◌, ◌||◌, Bool, true, false, not, if◌then◌else◌, List, [], length, Option, Some, None, nat_lt, nat_le, max, ◌∷◌, drop, option_and_then, unwrap_or, slice_get}
use Rattle.std.specs.List.{flat_map}
use Rattle.wild_types.specs.declared.input.InputRelocation.{InputRelocation}
use Rattle.wild_types.specs.declared.input.InputSection.{InputSection}
use Rattle.wild_types.specs.declared.file.File.{File}
use Rattle.wild_types.specs.declared.layout.Layout.{Layout}
use Rattle.wild_types.specs.Kinds.{is_position_independent, is_partial_link}
use Rattle.std.specs.Int.RustNames.{bit_and}
use Rattle.wild_records.specs.Abi.Section.{sht_null, sht_note, sht_nobits, shf_write, shf_alloc, shf_execinstr, shf_tls, shn_loreserve}
use Rattle.wild_types.specs.declared.part.Part.{Part}
use Rattle.wild_types.specs.declared.section.Section.{Section}
use Rattle.wild_types.specs.declared.input.Slot.{Slot}
use Rattle.wild_types.specs.declared.input.Slot.TheVariants as slot
use Rattle.wild_types.specs.declared.file.Group.{Group}

-- the flag is set
unfoldable pub bit : ℕ → ℕ → Bool
bit flags n = bit_and flags n == n

-- the program may write to the section
abbrev pub writable : ℕ → Bool
writable flags = bit flags shf_write

-- the section occupies memory
abbrev pub allocated : ℕ → Bool
allocated flags = bit flags shf_alloc

-- the section holds instructions
abbrev pub executable : ℕ → Bool
executable flags = bit flags shf_execinstr

-- each thread has its own copy of the section
abbrev pub thread_local : ℕ → Bool
thread_local flags = bit flags shf_tls

abbrev pub kind_of : Option Section → ℕ
kind_of None = sht_null
kind_of (Some s) = s.kind

-- the type of a section (sh_type); SHT_NULL if there is none
abbrev pub kind_at : Layout → ℕ → ℕ
kind_at l k = kind_of (slice_get l.sections k)

abbrev pub flags_of : Option Section → ℕ
flags_of None = 0
flags_of (Some s) = s.flags

abbrev pub section_of_part : Option Part → ℕ
section_of_part None = 0
section_of_part (Some p) = p.section

-- the header index of the section that contains a part; 0 if there is none
abbrev pub section_of : Layout → ℕ → ℕ
section_of l part = section_of_part (slice_get l.parts part)

-- a section other than section 0 that is allocated
abbrev pub is_allocated_section : Layout → ℕ → Bool
is_allocated_section l k = not (k == 0) && allocated (flags_of (slice_get l.sections k))

-- the part is in an allocated section
abbrev pub is_allocated_part : Layout → ℕ → Bool
is_allocated_part l part = is_allocated_section l (section_of l part)

-- the section takes memory, but no bytes in the file (gABI, "Section Header", sh_type: SHT_NOBITS)
abbrev pub is_without_data : Section → Bool
is_without_data s = s.kind == sht_nobits

abbrev pub without_data : Option Section → Bool
without_data None = false
without_data (Some s) = is_without_data s

-- of an allocated section a debug file has the header only; notes are kept, because debuggers identify the image by them (gABI,
-- "Sections": SHF_ALLOC, SHT_NOTE)
abbrev pub is_header_only : Layout → Section → Bool
is_header_only l s = l.options.only_keep_debug && (allocated s.flags && not (s.kind == sht_note))

abbrev pub header_only : Layout → Option Section → Bool
header_only l None = false
header_only l (Some s) = is_header_only l s

-- only the header is written of the section with index k; false for section 0
abbrev pub is_header_only_at : Layout → ℕ → Bool
is_header_only_at l k = not (k == 0) && header_only l (slice_get l.sections k)

-- the part is in a section of which only the header is written
abbrev pub is_header_only_part : Layout → ℕ → Bool
is_header_only_part l part = is_header_only_at l (section_of l part)

-- a section other than section 0 has bytes in the file
abbrev pub fills_file : Layout → Section → Bool
fills_file l s = not (is_without_data s) && not (is_header_only l s)

-- the section with header index k has data: its type is not SHT_NOBITS; the file has these bytes unless only the header is written
abbrev pub has_data : Layout → ℕ → Bool
has_data l k = not (without_data (slice_get l.sections k))

-- the contents of the section take bytes of the file
abbrev pub takes_file_bytes : Layout → ℕ → Bool
takes_file_bytes l k = has_data l k && not (is_header_only_at l k)

abbrev pub is_loaded : Slot → Bool
is_loaded slot.Loaded = true
is_loaded other = false

abbrev pub is_frame : Slot → Bool
is_frame slot.Frame = true
is_frame other = false

abbrev pub is_discarded : Slot → Bool
is_discarded slot.Discard = true
is_discarded other = false

abbrev pub is_debug : Slot → Bool
is_debug slot.Debug = true
is_debug other = false

-- a table of relocations, in a relocatable object (gABI, "Sections": SHT_RELA)
abbrev pub is_rela : Slot → Bool
is_rela slot.Rela = true
is_rela other = false

-- sections that are loaded, in file order or sorted, and those that debuggers read: their relocations are counted, if they have data
abbrev pub has_counted : Slot → Bool
has_counted slot.Loaded = true
has_counted slot.Sorted = true
has_counted slot.Debug = true
has_counted other = false

-- the input section contributes bytes; without data it contributes zeros if its output section has data; the bytes of a table of
-- relocations are generated
abbrev pub has_bytes : Layout → InputSection → Bool
has_bytes l s =
    if s.nobits then has_counted s.slot && (not (s.size == 0) && has_data l (section_of l s.part))
    else if is_rela s.slot then not (s.size == 0)
    else not (length s.bytes == 0)

-- the section is placed in its part in file order: a loaded section, a debug section, and in a relocatable object a table of
-- relocations and a group (gABI, "Sections": SHT_RELA, SHT_GROUP)
abbrev pub has_range : Slot → Bool
has_range slot.Loaded = true
has_range slot.Debug = true
has_range slot.Rela = true
has_range slot.Group = true
has_range other = false

-- the input section is placed in file order and contributes bytes: its own, zeros, or generated ones
abbrev pub has_range_bytes : Layout → InputSection → Bool
has_range_bytes l s = has_range s.slot && has_bytes l s

-- and these bytes are in the image
abbrev pub is_filled : Layout → InputSection → Bool
is_filled l s = has_range_bytes l s && not (is_header_only_part l s.part)

-- a loader may apply relocations to a loaded section and to frames
abbrev pub has_relocations : Slot → Bool
has_relocations slot.Loaded = true
has_relocations slot.Frame = true
has_relocations other = false

-- an input section's relocations are read if it has data
abbrev pub is_read : InputSection → Bool
is_read s = has_relocations s.slot && not s.nobits

-- relocations are applied to the bytes of loaded sections, of frames and of debug sections
abbrev pub has_fields : Slot → Bool
has_fields slot.Loaded = true
has_fields slot.Frame = true
has_fields slot.Debug = true
has_fields other = false

abbrev pub has_written_relocations : InputSection → Bool
has_written_relocations s = has_fields s.slot && not s.nobits

-- the relocations are counted for the output section
abbrev pub is_counted : InputSection → Bool
is_counted s = has_counted s.slot && not s.nobits

-- a section that is placed, in file order or in sort order, contributes bytes
abbrev pub brings_bytes : Layout → InputSection → Bool
brings_bytes l s = (has_range s.slot || has_counted s.slot) && has_bytes l s

-- and these bytes are in the image
abbrev pub owns_bytes : Layout → InputSection → Bool
owns_bytes l s = brings_bytes l s && not (is_header_only_part l s.part)

abbrev pub file_end : Bool → ℕ → ℕ → ℕ
file_end takes offset size = if takes && not (size == 0) then offset + size else 0

abbrev pub parts_end : Layout → List Part → ℕ
parts_end l [] = 0
parts_end l (p ∷ ps) = max (file_end (takes_file_bytes l p.section) p.offset p.size) (parts_end l ps)

abbrev pub sections_end : Layout → List Section → ℕ
sections_end l [] = 0
sections_end l (s ∷ ss) = max (file_end (fills_file l s) s.offset s.size) (sections_end l ss)

-- the greatest end of a file range of a part, or of a section other than section 0
unfoldable pub image_size : Layout → ℕ
image_size l = max (parts_end l l.parts) (sections_end l (drop 1 l.sections))

-- an input section has an address if it is not discarded, and the address is not 0 or the part is not allocated
abbrev pub has_address : Layout → InputSection → Bool
has_address l s = not (is_discarded s.slot) && (not (s.address == 0) || not (is_allocated_part l s.part))

-- the symbol that defines a symbol
abbrev pub canonical : Layout → ℕ → ℕ
canonical l i = unwrap_or (option_and_then (λ s. s.definition) (slice_get l.symbols i)) i

-- all files, in the order of processing
abbrev pub files_of : List Group → List File
files_of groups = flat_map (λ g. g.files) groups

-- the first file whose range of symbols contains i
abbrev pub file_of : List File → ℕ → Option File
file_of [] i = None
file_of (f ∷ fs) i = if nat_le f.first_symbol i && nat_lt i (f.first_symbol + f.symbol_count) then Some f else file_of fs i

-- the address of the field
abbrev pub place_of : ℕ → InputRelocation → ℕ
place_of address r = (address + r.offset) % 2 ^ 64

-- RELR is enabled, and the place is even, so that a RELR word can name it
abbrev pub packs : Layout → ℕ → Bool
packs l place = l.options.relr && place % 2 == 0

-- no address of a fixed output changes, and only the relocations of loaded sections and frames with data are read
abbrev pub may_have_relative : Layout → InputSection → Bool
may_have_relative l s = is_position_independent l.kind && is_read s

-- the output has a `.symtab`: a relocatable object always has one (gABI, "Symbol Table")
abbrev pub has_symtab : Layout → Bool
has_symtab l = is_partial_link l.kind || not l.options.strip_all

-- more sections than a 16-bit index can number (gABI, "Special Section Indexes", SHN_LORESERVE)
abbrev pub has_many_sections : Layout → Bool
has_many_sections l = nat_lt shn_loreserve (length l.sections)
