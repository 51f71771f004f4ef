-- What a file contributes to the dynamic relocations that name a symbol or a resolver, by relocation and by section.
--   dynamic_relocation_in l s r               the entry of a relocation, if the dynamic linker computes its field
--   dynamic_relocation_bytes l s r            its bytes
--   section_general_bytes l s   the bytes of an input section's entries
--   copy_bytes l i              the bytes of the COPY entry of symbol i
use Rattle.std.specs.Prelude.{ℕ, List, [], ◌∷◌, if◌then◌else◌, Option, Some, None, option_to_list}
use Rattle.wild_records.specs.declared.relocations.Rela.{Rela}
use Rattle.wild_types.specs.declared.input.InputRelocation.{InputRelocation}
use Rattle.wild_types.specs.declared.input.InputSection.{InputSection}
use Rattle.wild_types.specs.declared.layout.Layout.{Layout}
use Rattle.wild_needs.specs.Entries.{has_dynamic_entry}
use Rattle.wild_slot.specs.Treatment.{treatment}
use Rattle.wild_table_formats.specs.RelativeEntries.{rela_bytes}
use Rattle.wild_layout.specs.DynamicRelocations.{dynamic_relocation, section_generals, copy_entry}

-- the entry of a relocation, if the dynamic linker computes its field
unfoldable pub dynamic_relocation_in : Layout → InputSection → InputRelocation → Option Rela
dynamic_relocation_in l s r = if has_dynamic_entry (treatment l s.flags r) then Some (dynamic_relocation l s.address s.flags r) else None

unfoldable pub dynamic_relocation_bytes : Layout → InputSection → InputRelocation → List ℕ
dynamic_relocation_bytes l s r = rela_bytes (option_to_list (dynamic_relocation_in l s r))

-- the bytes of an input section's entries
unfoldable pub section_general_bytes : Layout → InputSection → List ℕ
section_general_bytes l s = rela_bytes (section_generals l s)

-- the bytes of the COPY entry of a symbol
unfoldable pub copy_bytes : Layout → ℕ → List ℕ
copy_bytes l i = rela_bytes (copy_entry l i ∷ [])
