-- The entries of `.rela.dyn` that name symbols and resolvers: those of fields that the dynamic linker fills, and COPY relocations
-- (x86-64 psABI, "Relocation Types"; aaelf64, "Dynamic relocations").
--   dynamic_relocation l at flags r  the entry of a relocation, of bytes at an address, whose field the dynamic linker fills; 0 for what a symbol lacks
--   section_generals l s   the entries of an input section, in the order of the relocations
--   copy_entry l i         the COPY entry of symbol i
--   file_generals l f      the entries of a file: copied symbols, and then fields
use Rattle.std.specs.Prelude.{ℕ, ◌%◌, ◌^◌, List, ◌++◌, map, Some, unwrap_or}
use Rattle.std.specs.Int.{w64, cast_signed}
use Rattle.std.specs.List.{flat_map}
use Rattle.wild_records.specs.declared.relocations.Rela.{Rela}
use Rattle.wild_reloc.specs.declared.dynamic.DynamicRelocationKind.TheVariants.{Absolute, Copy, Irelative}
use Rattle.wild_types.specs.declared.input.InputRelocation.{InputRelocation}
use Rattle.wild_types.specs.declared.input.InputSection.{InputSection}
use Rattle.wild_types.specs.declared.file.File.{File}
use Rattle.wild_types.specs.declared.layout.Layout.{Layout}
use Rattle.wild_slot.specs.declared.treatment.Treatment.{Treatment}
use Rattle.wild_slot.specs.declared.treatment.Treatment.TheVariants.{Symbolic, Indirect, Extent}
use Rattle.wild_types.specs.Lookups.{place_of}
use Rattle.wild_needs.specs.Entries.{dynamic_relocations}
use Rattle.wild_placement.specs.PlacedSections.{processed_sections}
use Rattle.wild_types.specs.FileSymbols.{copies_of}
use Rattle.wild_slot.specs.SlotParts.{type_of}
use Rattle.wild_slot.specs.Treatment.{treatment}
use Rattle.wild_layout.specs.Decide.{addend_bits}
use Rattle.wild_layout.specs.RelativeRelocations.{value_or_0}
use Rattle.wild_layout.specs.SymbolValues.{raw_address}
use Rattle.wild_layout.specs.SlotValues.{index_of, decided_address}

-- an entry for a place, with an addend modulo 2^64; r_info has the low 32 bits of type and index (gABI, "Relocation",
-- ELF64_R_INFO)
abbrev pub entry_for : ℕ → ℕ → ℕ → ℕ → Rela
entry_for place number symbol addend = record { offset = place; number = number % 2 ^ 32; symbol = symbol % 2 ^ 32; addend = cast_signed w64 addend }

abbrev pub index_or_zero : Layout → ℕ → ℕ
index_or_zero l i = unwrap_or (index_of l i) 0

abbrev pub dynamic_relocation_by : Layout → ℕ → InputRelocation → Treatment → Rela
dynamic_relocation_by l at r (Symbolic i) = entry_for (place_of at r) (type_of l.machine Absolute) (index_or_zero l i) (addend_bits r)
dynamic_relocation_by l at r (Indirect i) = entry_for (place_of at r) (type_of l.machine Irelative) 0 (value_or_0 (decided_address l i))
dynamic_relocation_by l at r (Extent row i) = entry_for (place_of at r) r.number (index_or_zero l i) (addend_bits r)
dynamic_relocation_by l at r other = entry_for (place_of at r) 0 0 0

-- the entry of a relocation of bytes at an address, with the flags of their section
abbrev pub dynamic_relocation : Layout → ℕ → ℕ → InputRelocation → Rela
dynamic_relocation l at flags r = dynamic_relocation_by l at r (treatment l flags r)

-- the entries of an input section
unfoldable pub section_generals : Layout → InputSection → List Rela
section_generals l s = map (dynamic_relocation l s.address s.flags) (dynamic_relocations l s)

-- the COPY entry for a symbol's address
abbrev pub copy_entry : Layout → ℕ → Rela
copy_entry l i = entry_for (value_or_0 (raw_address l (Some i))) (type_of l.machine Copy) (index_or_zero l i) 0

-- the entries of a file with placed sections
unfoldable pub file_generals : Layout → File → List Rela
file_generals l f = map (copy_entry l) (copies_of f) ++ flat_map (section_generals l) (processed_sections l f)
