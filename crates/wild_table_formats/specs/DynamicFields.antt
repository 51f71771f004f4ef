-- The fields of the entries of .dynsym (gABI, "Symbol Table").
--   undefined_fields role s    those of a symbol that another module defines
--   named_sections l           the output sections of symbols that no input section defines
--   exported_symbol_fields l i s        those of symbol i, which is exported; or the fault of a symbol without section or stub
use Rattle.std.specs.Prelude.{ℕ, ◌+◌, ◌-◌, ◌*◌, ◌/◌, ◌%◌, ◌^◌, ◌==◌, Bool, ◌&&◌, if◌then◌else◌, List, Option, Some, None, option_map, unwrap_or, is_some, Result, Ok, Err, bytes_eq, codes}
use Rattle.std.specs.List.{position_from}
use Rattle.wild_records.specs.Abi.Section.{shn_undef, shn_abs}
use Rattle.wild_records.specs.Abi.Symbol.{stt_func, stt_tls, stt_gnu_ifunc}
use Rattle.wild_records.specs.SymbolSections.{split_index}
use Rattle.wild_types.specs.declared.fault.Fault.{Fault}
use Rattle.wild_types.specs.declared.fault.Fault.TheVariants as faults
use Rattle.wild_types.specs.declared.fault.Missing.TheVariants as missing
use Rattle.wild_types.specs.declared.part.Part.{Part}
use Rattle.wild_types.specs.declared.part.Role.TheVariants as role
use Rattle.wild_types.specs.declared.section.Section.{Section}
use Rattle.wild_types.specs.declared.symbol.Place.{Place}
use Rattle.wild_types.specs.declared.symbol.Place.TheVariants as at
use Rattle.wild_types.specs.declared.symbol.Resolution.{Resolution}
use Rattle.wild_types.specs.declared.symbol.Symbol.{Symbol}
use Rattle.wild_types.specs.declared.file.FileRole.{FileRole}
use Rattle.wild_types.specs.declared.file.FileRole.TheVariants as file_role
use Rattle.wild_types.specs.declared.file.File.{File}
use Rattle.wild_types.specs.declared.layout.Layout.{Layout}
use Rattle.wild_needs.specs.DynamicSymbols.{output_section}
use Rattle.wild_types.specs.FileRoles.{is_library}
use Rattle.wild_types.specs.Flags.{has_flag, ifunc, copy_relocation, canonical_plt}
use Rattle.wild_types.specs.Kinds.{has_fixed_load_address}
use Rattle.wild_types.specs.Lookups.{files_of, file_of}
use Rattle.wild_types.specs.Parts.{part_with}
use Rattle.wild_types.specs.SymbolSlots.{plt_of}
use Rattle.wild_table_formats.specs.declared.symbols.SymbolAttributes.{SymbolAttributes}
use Rattle.wild_table_formats.specs.declared.symbols.SymbolFields.{SymbolFields}
use Rattle.wild_table_formats.specs.declared.symbols.NamedSections.{NamedSections}

-- ---- attributes

-- the layout's type, binding, visibility and size of a symbol
abbrev pub own_attributes : Symbol → SymbolAttributes
own_attributes s = record { info = s.info; other = s.other; size = s.size }

-- st_info with its binding kept and its type replaced
abbrev pub with_type : ℕ → ℕ → ℕ
with_type info type = info / 16 * 16 + type

-- an ifunc of a library is an ordinary function for this output
abbrev pub library_info : ℕ → ℕ
library_info info = if info % 16 == stt_gnu_ifunc then with_type info stt_func else info

-- a library's symbol has neither visibility nor size
abbrev pub library_attributes : ℕ → SymbolAttributes
library_attributes info = record { info = info; other = 0; size = 0 }

-- ---- symbols that other modules define

abbrev pub undefined_with : SymbolAttributes → SymbolFields
undefined_with a = record { section = shn_undef; value = 0; attributes = a }

abbrev pub undefined_fields : FileRole → Symbol → SymbolFields
undefined_fields role s = undefined_with (if is_library role then library_attributes (library_info s.info) else own_attributes s)

-- ---- exported symbols

-- the header index of the first section with a name (gABI, "Special Sections")
abbrev pub section_named : Layout → List ℕ → Option ℕ
section_named l name = position_from (λ (s : Section). bytes_eq s.name name) 0 l.sections

-- a header index; none for section 0
abbrev pub some_section : ℕ → Option ℕ
some_section k = if k == 0 then None else Some k

abbrev pub part_section : Option Part → Option ℕ
part_section None = None
part_section (Some p) = some_section p.section

-- the output sections of symbols that no input section defines: .bss, .tbss, and the sections of PLT stubs, of GOT words, and of the
-- GOT words that are relocated by RELR
abbrev pub named_sections : Layout → NamedSections
named_sections l = record {
  bss = section_named l (codes ".bss");
  tbss = section_named l (codes ".tbss");
  stubs = part_section (part_with role.PltGot l.parts);
  got = part_section (part_with role.Got l.parts);
  block = part_section (part_with role.GotRelr l.parts);
}

-- the fields with a value in a section; or the fault that symbol i has no section
abbrev pub in_section : ℕ → Option ℕ → ℕ → SymbolAttributes → Result SymbolFields Fault
in_section i None value a = Err (faults.MissingResolution missing.Section i)
in_section i (Some k) value a = Ok (record { section = (split_index k).0; value = value; attributes = a })

-- the resolved address of a symbol; 0 if it has none
abbrev pub resolved_value : Symbol → ℕ
resolved_value s = unwrap_or (option_map (λ (r : Resolution). r.raw_value) s.resolution) 0

abbrev pub is_thread_symbol : Symbol → Bool
is_thread_symbol s = s.info % 16 == stt_tls

-- st_value of a thread-local symbol is its offset from the start of the TLS segment (gABI, "Symbol Table", st_value)
abbrev pub value_in : Layout → Symbol → ℕ
value_in l s = if is_thread_symbol s then (resolved_value s + (2 ^ 64 - l.tls.start)) % 2 ^ 64 else resolved_value s

-- an ifunc's entry has its PLT stub's address in an output with a fixed load address, where pointers to it must compare equal
abbrev pub has_stub_address : Layout → Symbol → Bool
has_stub_address l s = has_flag s.flags ifunc && (is_some (plt_of s) && has_fixed_load_address l.kind)

abbrev pub stub_or_zero : Symbol → ℕ
stub_or_zero s = unwrap_or (plt_of s) 0

abbrev pub as_function : Symbol → SymbolAttributes
as_function s = record { info = with_type s.info stt_func; other = s.other; size = s.size }

abbrev pub common_section : Layout → Symbol → Option ℕ
common_section l s = if is_thread_symbol s then section_named l (codes ".tbss") else section_named l (codes ".bss")

-- in its section, or at its PLT stub
abbrev pub placed_fields : Layout → ℕ → Symbol → Option ℕ → Result SymbolFields Fault
placed_fields l i s section =
    if has_stub_address l s
    then in_section i (part_section (part_with role.PltGot l.parts)) (stub_or_zero s) (as_function s)
    else in_section i section (value_in l s) (own_attributes s)

-- of a symbol that this output defines, or of an undefined one
abbrev pub fields_at : Layout → ℕ → Symbol → ℕ → Place → Result SymbolFields Fault
fields_at l i s section at.Undefined = Ok (undefined_with (own_attributes s))
fields_at l i s section at.Absolute = Ok (record { section = shn_abs; value = s.value; attributes = own_attributes s })
fields_at l i s section at.Common = placed_fields l i s (common_section l s)
fields_at l i s section other = placed_fields l i s (some_section section)

-- a library's function with a canonical PLT entry is undefined, with the stub's address as its value (x86-64 psABI, "Function
-- Addresses")
abbrev pub canonical_fields : ℕ → Symbol → Place → Option ℕ → Result SymbolFields Fault
canonical_fields i s at.Undefined stub = Ok (undefined_with (library_attributes s.info))
canonical_fields i s other None = Err (faults.MissingResolution missing.Stub i)
canonical_fields i s other (Some stub) = Ok (record { section = shn_undef; value = stub; attributes = library_attributes (with_type s.info stt_func) })

-- a symbol with a COPY relocation is in .bss
abbrev pub copied_fields : Layout → ℕ → Symbol → Result SymbolFields Fault
copied_fields l i s = in_section i (section_named l (codes ".bss")) (resolved_value s) (own_attributes s)

abbrev pub exported_fields_in : Layout → ℕ → FileRole → Symbol → ℕ → Result SymbolFields Fault
exported_fields_in l i role s section =
    if is_library role && has_flag s.flags canonical_plt then canonical_fields i s s.place (plt_of s)
    else if is_library role && has_flag s.flags copy_relocation then copied_fields l i s
    else fields_at l i s section s.place

abbrev pub role_of : Option File → FileRole
role_of None = file_role.Object
role_of (Some f) = f.role

-- the fields of symbol i
abbrev pub exported_symbol_fields : Layout → ℕ → Symbol → Result SymbolFields Fault
exported_symbol_fields l i s = exported_fields_in l i (role_of (file_of (files_of l.groups) i)) s (output_section l (file_of (files_of l.groups) i) s.place)
