-- The entries of `.symtab` (gABI, "Symbol Table").
--   table_fields l f x         the fields of a symbol of a file, of its slot, its stub or a thunk to it; or the fault
--   file_table l f             the symbols of a file's entries, each with its name, and whether it is local
--   side_entries local at ns   the local entries, or the others; the names of all are consecutive strings from offset at
--   group_table l g            the symbols of a group's entries
--   table_entries l local g    the local entries of a group, or the others
--   long_indexes local ns      the extended section indexes of the local entries, or of the others
use Rattle.std.specs.Prelude.{ℕ, ◌+◌, ◌-◌, ◌/◌, ◌%◌, ◌^◌, ◌==◌, Bool, true, false, not, ◌&&◌, if◌then◌else◌, min, List, [], ◌∷◌, ◌++◌, map, codes, Option, Some, None, option_map, unwrap_or, is_some, Result, Ok, Err, slice_get}
use Rattle.std.specs.List.{flat_map, filter}
use Rattle.wild_words.specs.Words.{word}
use Rattle.wild_records.specs.Abi.Section.{shn_undef, shn_abs}
use Rattle.wild_records.specs.Abi.Symbol.{stt_func, stt_section}
use Rattle.wild_records.specs.SymbolSections.{split_index}
use Rattle.wild_records.specs.declared.symtab_entry.SymtabEntry.{SymtabEntry}
use Rattle.wild_types.specs.declared.fault.Fault.{Fault}
use Rattle.wild_types.specs.declared.fault.Fault.TheVariants as faults
use Rattle.wild_types.specs.declared.fault.Missing.TheVariants as missing
use Rattle.wild_types.specs.declared.part.Part.{Part}
use Rattle.wild_types.specs.declared.part.Role.{Role}
use Rattle.wild_types.specs.declared.part.Role.TheVariants as role
use Rattle.wild_types.specs.declared.symbol.Place.{Place}
use Rattle.wild_types.specs.declared.symbol.Place.TheVariants as at
use Rattle.wild_types.specs.declared.symbol.Symbol.{Symbol}
use Rattle.wild_types.specs.declared.file.FileRole.{FileRole}
use Rattle.wild_types.specs.declared.file.File.{File}
use Rattle.wild_types.specs.declared.file.Group.{Group}
use Rattle.wild_needs.specs.declared.table.SymtabName.{SymtabName}
use Rattle.wild_needs.specs.declared.table.SymtabName.TheVariants as named
use Rattle.wild_types.specs.declared.layout.Layout.{Layout}
use Rattle.wild_types.specs.Addresses.{raw_value}
use Rattle.wild_needs.specs.DynamicStrings.{offset_after_string, text_room}
use Rattle.wild_needs.specs.DynamicSymbols.{output_section}
use Rattle.wild_types.specs.FileRoles.{is_prelude, is_library}
use Rattle.wild_types.specs.FileThunks.{thunk_size}
use Rattle.wild_types.specs.Flags.{has_flag, copy_relocation, canonical_plt, downgrade_to_local}
use Rattle.wild_types.specs.Lists.{total}
use Rattle.wild_types.specs.Parts.{part_with}
use Rattle.wild_slot.specs.SlotParts.{begins_relr_got}
use Rattle.wild_slot.specs.SymbolWords.{slots_of}
use Rattle.wild_types.specs.SymbolSlots.{got_of, plt_of}
use Rattle.wild_needs.specs.TableSymbols.{TableSymbol, file_items, item_name, is_local, section_symbols}
use Rattle.wild_types.specs.Kinds.{is_partial_link}
use Rattle.wild_types.specs.Lookups.{has_symtab, is_discarded}
use Rattle.wild_table_formats.specs.SectionSymbols.{symbol_section}
use Rattle.wild_types.specs.declared.input.InputSection.{InputSection}
use Rattle.std.specs.Option.{option_or}
use Rattle.wild_table_formats.specs.DynamicFields.{with_type, undefined_with, section_named, some_section, part_section, is_thread_symbol, has_stub_address, stub_or_zero, common_section}
use Rattle.wild_table_formats.specs.DynamicEntries.{no_fields, entry_at}
use Rattle.wild_table_formats.specs.declared.symbols.SymbolAttributes.{SymbolAttributes}
use Rattle.wild_table_formats.specs.declared.symbols.SymbolFields.{SymbolFields}
use Rattle.wild_table_formats.specs.declared.symbols.TableFields.{TableFields}

-- ---- attributes

-- a symbol that was made local has binding STB_LOCAL (gABI, STB_LOCAL)
abbrev pub table_info : Symbol → ℕ
table_info s = if has_flag s.flags downgrade_to_local then s.info % 16 else s.info

-- a library's symbol has no visibility
abbrev pub table_attributes : FileRole → Symbol → SymbolAttributes
table_attributes role s = record { info = table_info s; other = if is_library role then 0 else s.other; size = s.size }

abbrev pub with_function : SymbolAttributes → SymbolAttributes
with_function a = record a { info = with_type a.info stt_func }

-- ---- sections

-- without an extended section index
abbrev pub short : SymbolFields → TableFields
short fields = record { fields = fields; long = 0 }

-- the fields with a value in a section; or the fault that symbol i has no section. An extended index is modulo 2^32
abbrev pub in_table_section : ℕ → Option ℕ → ℕ → SymbolAttributes → Result TableFields Fault
in_table_section i None value a = Err (faults.MissingResolution missing.Section i)
in_table_section i (Some k) value a = Ok (record { fields = record { section = (split_index k).0; value = value; attributes = a }; long = (split_index k).1 % 2 ^ 32 })

-- st_value of a thread-local symbol is its offset from the start of the TLS segment (gABI, "Symbol Table", st_value)
abbrev pub counted_from : Layout → Symbol → ℕ → ℕ
counted_from l s v = if is_thread_symbol s then (v + (2 ^ 64 - l.tls.start)) % 2 ^ 64 else v

-- in a section; or the fault that symbol i has no address
abbrev pub at_address : Layout → ℕ → Symbol → Option ℕ → Option ℕ → SymbolAttributes → Result TableFields Fault
at_address l i s section None a = Err (faults.MissingResolution missing.Address i)
at_address l i s section (Some v) a = in_table_section i section (counted_from l s v) a

-- the offset of a symbol of an input section in the output section of a relocatable object (gABI, "Symbol Table", st_value: an offset from
-- the beginning of the section)
abbrev pub offset_within : Layout → ℕ → ℕ → InputSection → Option ℕ
offset_within l i value s = if is_some s.singleton then Some value else option_or (raw_value l i) (if is_discarded s.slot then None else Some ((s.address + value) % 2 ^ 64))

abbrev pub offset_by : Layout → ℕ → ℕ → Option InputSection → Option ℕ
offset_by l i value None = raw_value l i
offset_by l i value (Some s) = offset_within l i value s

-- the offset of symbol i in a relocatable object, otherwise its address
abbrev pub table_value : Layout → ℕ → Symbol → Option ℕ
table_value l i s = if is_partial_link l.kind then offset_by l i s.value (symbol_section l i) else raw_value l i

-- in its section, or at its PLT stub
abbrev pub table_placed : Layout → ℕ → FileRole → Symbol → Option ℕ → Result TableFields Fault
table_placed l i r s section =
    if has_stub_address l s
    then in_table_section i (part_section (part_with role.PltGot l.parts)) (stub_or_zero s) (with_function (table_attributes r s))
    else at_address l i s section (table_value l i s) (table_attributes r s)

-- a symbol in the headers, before all sections, gets section 1
abbrev pub first_or : ℕ → ℕ
first_or k = if k == 0 then 1 else k

-- in a relocatable object an undefined symbol has no size
abbrev pub undefined_attributes : Layout → FileRole → Symbol → SymbolAttributes
undefined_attributes l role s = if is_partial_link l.kind then record (table_attributes role s) { size = 0 } else table_attributes role s

-- of a symbol that this output defines, or of an undefined one; section is the output section of its input section
abbrev pub table_at : Layout → ℕ → FileRole → Symbol → ℕ → Place → Result TableFields Fault
table_at l i role s section at.Undefined = Ok (short (undefined_with (undefined_attributes l role s)))
table_at l i role s section at.Absolute = Ok (short (record { section = shn_abs; value = s.value; attributes = table_attributes role s }))
table_at l i role s section at.Common = table_placed l i role s (common_section l s)
table_at l i role s section (at.Output k) = table_placed l i role s (Some (first_or k))
table_at l i role s section (at.Section k) = table_placed l i role s (some_section section)

-- a library's function with a canonical PLT entry (x86-64 psABI, "Function Addresses")
abbrev pub table_canonical : ℕ → FileRole → Symbol → Place → Option ℕ → Result TableFields Fault
table_canonical i role s at.Undefined stub = Ok (short (undefined_with (table_attributes role s)))
table_canonical i role s other None = Err (faults.MissingResolution missing.Stub i)
table_canonical i role s other (Some stub) = Ok (short (record { section = shn_undef; value = stub; attributes = with_function (table_attributes role s) }))

-- a library's symbol with a COPY relocation is in .bss
abbrev pub table_by : Layout → ℕ → FileRole → Symbol → ℕ → Result TableFields Fault
table_by l i role s section =
    if is_library role && has_flag s.flags canonical_plt then table_canonical i role s s.place (plt_of s)
    else if is_library role && has_flag s.flags copy_relocation then at_address l i s (section_named l (codes ".bss")) (raw_value l i) (table_attributes role s)
    else table_at l i role s section s.place

-- ---- slots and stubs

-- the attributes of the entry of a slot or a stub, all 0
abbrev pub no_attributes : SymbolAttributes
no_attributes = record { info = 0; other = 0; size = 0 }

-- the part that contains the symbol's first slot
abbrev pub slot_role : Layout → Symbol → Role
slot_role l s = if begins_relr_got (slots_of l s).words then role.GotRelr else role.Got

-- the address of a slot or a stub, in the section of its part
abbrev pub at_part : Layout → ℕ → Role → Option ℕ → Result TableFields Fault
at_part l i r address = in_table_section i (part_section (part_with r l.parts)) (unwrap_or address 0) no_attributes

-- ---- thunks

-- a local function (gABI, "Symbol Table": STB_LOCAL, STT_FUNC)
abbrev pub thunk_attributes : SymbolAttributes
thunk_attributes = record { info = stt_func; other = 0; size = thunk_size }

-- at an address in the section of the part that contains the thunks
abbrev pub thunk_fields : Layout → ℕ → ℕ → Result TableFields Fault
thunk_fields l i address = in_table_section i (part_section (slice_get l.parts l.primary_part)) address thunk_attributes

-- ---- symbols

abbrev pub fields_of : Layout → File → SymtabName → ℕ → Symbol → Result TableFields Fault
fields_of l f named.Itself i s = table_by l i f.role s (output_section l (Some f) s.place)
fields_of l f named.Slot i s = at_part l i (slot_role l s) (got_of s)
fields_of l f named.Stub i s = at_part l i role.PltGot (plt_of s)
fields_of l f (named.Thunk a) i s = thunk_fields l i a

-- the fields of an entry, or its fault
unfoldable pub table_fields : Layout → File → TableSymbol → Result TableFields Fault
table_fields l f x = fields_of l f x.named x.index x.symbol

-- ---- entries

-- a name, none for a section symbol; whether the symbol is local; and the other fields of its entry
pub record NamedEntry : Type 0 where
  pub name : Option (List ℕ)
  pub local : Bool
  pub fields : TableFields

abbrev pub no_table_fields : TableFields
no_table_fields = short no_fields

abbrev pub table_fields_or_null : Result TableFields Fault → TableFields
table_fields_or_null (Ok fields) = fields
table_fields_or_null (Err f) = no_table_fields

abbrev pub named_entry : Layout → File → TableSymbol → NamedEntry
named_entry l f x = record { name = Some (item_name x); local = is_local x; fields = table_fields_or_null (table_fields l f x) }

-- the null symbol, an entry of zeros with the empty string as its name
abbrev pub null_entry : NamedEntry
null_entry = record { name = Some []; local = true; fields = no_table_fields }

-- a section symbol: local, without a name, at the start of its section (gABI, "Symbol Table": STB_LOCAL, STT_SECTION)
abbrev pub section_fields : ℕ → TableFields
section_fields k = record { fields = record { section = (split_index k).0; value = 0; attributes = record { info = stt_section; other = 0; size = 0 } }; long = (split_index k).1 % 2 ^ 32 }

abbrev pub section_entry : ℕ → NamedEntry
section_entry k = record { name = None; local = true; fields = section_fields k }

abbrev pub null_entries : Layout → File → List NamedEntry
null_entries l f = if has_symtab l && is_prelude f.role then null_entry ∷ map section_entry (section_symbols l) else []

-- the symbols of a file's entries
abbrev pub file_table : Layout → File → List NamedEntry
file_table l f = null_entries l f ++ map (named_entry l f) (file_items l f)

-- the symbols of a group's entries
unfoldable pub group_table : Layout → Group → List NamedEntry
group_table l g = flat_map (file_table l) g.files

abbrev pub is_side : Bool → NamedEntry → Bool
is_side true n = n.local
is_side false n = not n.local

-- st_name, and the offset after the name; without a name st_name is 0, the offset of the empty string at the start of the table
abbrev pub name_at : ℕ → Option (List ℕ) → ℕ
name_at at None = 0
name_at at (Some name) = at

abbrev pub offset_after_name : ℕ → Option (List ℕ) → ℕ
offset_after_name at None = at
offset_after_name at (Some name) = offset_after_string at name

-- the local entries, or the others; the names of all are consecutive strings
unfoldable pub side_entries : Bool → ℕ → List NamedEntry → List SymtabEntry
side_entries local at [] = []
side_entries local at (n ∷ ns) = (if is_side local n then entry_at (name_at at n.name) n.fields.fields ∷ [] else []) ++ side_entries local (offset_after_name at n.name) ns

-- the entries of a group; its strings begin at the layout's offset
unfoldable pub table_entries : Layout → Bool → Group → List SymtabEntry
table_entries l local g = side_entries local g.strtab_start (group_table l g)

-- ---- extended section indexes

-- one for each entry; 0 if st_shndx has its section (gABI, SHT_SYMTAB_SHNDX)
abbrev pub long_indexes : Bool → List NamedEntry → List ℕ
long_indexes local ns = map (λ (n : NamedEntry). n.fields.long) (filter (is_side local) ns)

abbrev pub index_bytes : List ℕ → List ℕ
index_bytes ns = flat_map (word 4) ns
