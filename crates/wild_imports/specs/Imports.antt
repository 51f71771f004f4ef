-- What one image needs of others, and what it defines for them.
--   needed_offsets image t    the string table offsets of the names in DT_NEEDED entries, in order
--   thread_start image t      the address of the image's thread-local data
--   name_of image t e         the name of a dynamic symbol
--   find_definition image t name   the defined dynamic symbol that the look-up of a name finds
--   copied_symbols machine t  the symbols of COPY entries
use Rattle.std.specs.Prelude.{ℕ, Bool, true, false, ◌==◌, if◌then◌else◌, List, [], ◌∷◌, ◌++◌, map, Option, Some, None, Result, Ok}
use Rattle.std.specs.List.{filter}
use Rattle.wild_records.specs.Abi.Dynamic.{dt_needed}
use Rattle.wild_records.specs.Abi.Section.{shn_undef}
use Rattle.wild_records.specs.Abi.Segment.{pt_tls}
use Rattle.wild_records.specs.declared.dynamic.DynamicEntry.{DynamicEntry}
use Rattle.wild_records.specs.declared.program_header.ProgramHeader.{ProgramHeader}
use Rattle.wild_records.specs.declared.relocations.Rela.{Rela}
use Rattle.wild_records.specs.declared.symtab_entry.SymtabEntry.{SymtabEntry}
use Rattle.wild_loader.specs.declared.kind.DynamicKind.{DynamicKind}
use Rattle.wild_loader.specs.declared.kind.DynamicKind.TheVariants as kinds
use Rattle.wild_loader.specs.declared.memory.Machine.{Machine}
use Rattle.wild_loader.specs.declared.tables.Tables.{Tables}
use Rattle.wild_loader.specs.Changes.{kind_of}
use Rattle.wild_hashes.specs.declared.fault.ImageFault.{ImageFault}
use Rattle.wild_hashes.specs.declared.tables.ImageTables.{ImageTables}
use Rattle.wild_hashes.specs.Image.{◌>>>◌}
use Rattle.wild_hashes.specs.ImageTables.{headers_of, entries_of, text_at, symbol_at, find_name}

-- ---- what an image needs

-- the values of the entries of type DT_NEEDED (gABI, "Dynamic Section")
abbrev pub needed_values : List DynamicEntry → List ℕ
needed_values ds = map (λ (d : DynamicEntry). d.value) (filter (λ (d : DynamicEntry). d.tag == dt_needed) ds)

-- the string table offsets of the names that the image needs
unfoldable pub needed_offsets : List ℕ → ImageTables → List ℕ
needed_offsets image t = needed_values (entries_of image t.entries)

-- ---- what it defines

-- the address of the first segment of type PT_TLS; 0 without one
unfoldable pub thread_address : List ProgramHeader → ℕ
thread_address [] = 0
thread_address (h ∷ hs) = if h.kind == pt_tls then h.address else thread_address hs

-- the address of the image's thread-local data
abbrev pub thread_start : List ℕ → ImageTables → ℕ
thread_start image t = thread_address (headers_of image t.headers)

-- the name of a dynamic symbol
abbrev pub name_of : List ℕ → ImageTables → SymtabEntry → Result (List ℕ) ImageFault
name_of image t e = text_at image t e.name

-- a symbol that a look-up finds, if it is defined: its section is not SHN_UNDEF
abbrev pub definition_at : List ℕ → ImageTables → Option ℕ → Result (Option ℕ) ImageFault
definition_at image t None = Ok None
definition_at image t (Some k) = symbol_at image t k >>> λ e. if e.section == shn_undef then Ok None else Ok (Some k)

-- the defined dynamic symbol that the look-up of a name finds
unfoldable pub find_definition : List ℕ → ImageTables → List ℕ → Result (Option ℕ) ImageFault
find_definition image t name = find_name image t name >>> λ found. definition_at image t found

-- ---- what it copies

-- the kind is the one that copies a symbol's bytes
abbrev pub is_copy_kind : Option DynamicKind → Bool
is_copy_kind (Some kinds.Copy) = true
is_copy_kind kind = false

-- the symbols of the COPY entries among these
unfoldable pub copies_among : Machine → List Rela → List ℕ
copies_among machine [] = []
copies_among machine (r ∷ rs) = if is_copy_kind (kind_of machine r.number) then r.symbol ∷ copies_among machine rs else copies_among machine rs

-- the symbols of all COPY entries, in the order in which entries are applied
abbrev pub copied_symbols : Machine → Tables → List ℕ
copied_symbols machine t = copies_among machine t.entries ++ copies_among machine t.jumps
