-- Entries of dynamic relocations, GOT words and PLT stubs in an outline.
use Rattle.wild_outlines.proofs.Common.{◌≡◌, ℕ, refl, ap, ◌∙◌, fun_ext, File, Group, InputRelocation, InputSection, Layout, Role, processed_sections, words_of, outline}
use Rattle.std.proofs.Common.{flat_map}
use Rattle.wild_types.specs.FileSymbols.{copies_of}
use Rattle.wild_types.specs.declared.part.Role.TheVariants as role
use Rattle.wild_slot.specs.declared.slot_parts.EntryPart.{EntryPart}
use Rattle.wild_slot.specs.declared.slot_parts.WordPart.{WordPart}
use Rattle.wild_slot.specs.declared.treatment.Treatment.{Treatment}
use Rattle.wild_slot.specs.declared.treatment.Treatment.TheVariants.{Symbolic}
use Rattle.wild_layout.specs.DynamicRelocations.{dynamic_relocation, dynamic_relocation_by, file_generals, section_generals, copy_entry}
use Rattle.wild_layout.specs.RelativeRelocations.{file_entries, file_words, section_entries}
use Rattle.wild_layout.specs.SlotBytes.{block_bytes, flat_places_of, header_bytes, relr_slots_in, slot_bytes, slot_entries_of, slot_words_of, stub_bytes, stubs_of, symbol_entries}
use Rattle.wild_outlines.proofs.ListLemmas.{flat_map-same, map-same}
use Rattle.wild_outlines.proofs.ValuesFiles.{raw_value-outline}
use Rattle.wild_outlines.proofs.FramesPlaced.{processed_sections-outline}
use Rattle.wild_outlines.proofs.SharesSections.{words_of-outline, treatment-outline, dynamic_relocations-outline}
use Rattle.wild_outlines.proofs.ValuesSymbols.{address_for-outline}
use Rattle.wild_outlines.proofs.ClausesSlots.{slots_of-outline}
use Rattle.wild_outlines.proofs.ContentNeeds.{group_relr_got-same_group, words_in-each}

dynamic_relocation_by-outline : (l : Layout) (at : ℕ) (r : InputRelocation) (t : Treatment) → dynamic_relocation_by (outline l) at r t ≡ dynamic_relocation_by l at r t
dynamic_relocation_by-outline l at r (Symbolic i) = refl
dynamic_relocation_by-outline l at r other = refl

dynamic_relocation-each : (l : Layout) (at flags : ℕ) → dynamic_relocation (outline l) at flags ≡ dynamic_relocation l at flags
dynamic_relocation-each l at flags = fun_ext (λ r. simp (dynamic_relocation_by-outline l, treatment-outline l))

section_generals-outline : (l : Layout) (s : InputSection) → section_generals (outline l) s ≡ section_generals l s
unfolding section_generals
section_generals-outline l s = simp (dynamic_relocation-each l, dynamic_relocations-outline l)

copy_entry-outline : (l : Layout) (i : ℕ) → copy_entry (outline l) i ≡ copy_entry l i
copy_entry-outline l i = simp (raw_value-outline l)

generals_of_sections : (l : Layout) (f : File) → flat_map (section_generals (outline l)) (processed_sections (outline l) f) ≡ flat_map (section_generals l) (processed_sections l f)
generals_of_sections l f = ap (flat_map (section_generals (outline l))) (processed_sections-outline l f) ∙ flat_map-same (section_generals (outline l)) (section_generals l) (processed_sections l f) (section_generals-outline l)

pub file_generals-outline : (l : Layout) (f : File) → file_generals (outline l) f ≡ file_generals l f
unfolding file_generals
file_generals-outline l f = simp (map-same (copy_entry (outline l)) (copy_entry l) (copies_of f) (copy_entry-outline l), generals_of_sections l f)

section_entries-outline : (l : Layout) (s : InputSection) → section_entries (outline l) s ≡ section_entries l s
unfolding section_entries
section_entries-outline l s = simp (address_for-outline l, treatment-outline l)

pub header_bytes-outline : (l : Layout) (r : Role) → header_bytes (outline l) r ≡ header_bytes l r
header_bytes-outline l role.Got = refl
header_bytes-outline l other = refl

relr_slots_in-each : (l : Layout) → relr_slots_in (outline l) ≡ relr_slots_in l
relr_slots_in-each l = fun_ext (λ s. simp (slots_of-outline l))

flat_places_of-outline : (l : Layout) (f : File) → flat_places_of (outline l) f ≡ flat_places_of l f
unfolding flat_places_of
flat_places_of-outline l f = simp (relr_slots_in-each l)

symbol_entries-each : (l : Layout) (part : EntryPart) → symbol_entries part (outline l) ≡ symbol_entries part l
symbol_entries-each l part = fun_ext (λ s. simp (slots_of-outline l))

slot_entries_of-outline : (l : Layout) (part : EntryPart) (f : File) → slot_entries_of part (outline l) f ≡ slot_entries_of part l f
unfolding slot_entries_of
slot_entries_of-outline l part f = simp (symbol_entries-each l)

slot_words_of-outline : (l : Layout) (part : WordPart) (f : File) → slot_words_of part (outline l) f ≡ slot_words_of part l f
unfolding slot_words_of
slot_words_of-outline l part f = simp (words_in-each l)

stub_bytes-each : (l : Layout) → stub_bytes (outline l) ≡ stub_bytes l
stub_bytes-each l = fun_ext (λ s. simp (slots_of-outline l))

stubs_of-outline : (l : Layout) (f : File) → stubs_of (outline l) f ≡ stubs_of l f
unfolding stubs_of
stubs_of-outline l f = simp (stub_bytes-each l)

pub slot_bytes-outline : (l : Layout) (r : Role) (f : File) → slot_bytes (outline l) r f ≡ slot_bytes l r f
slot_bytes-outline l role.Got f = simp (slot_words_of-outline l)
slot_bytes-outline l role.GotRelr f = simp (slot_words_of-outline l)
slot_bytes-outline l role.PltGot f = simp (stubs_of-outline l)
slot_bytes-outline l role.RelaPlt f = simp (slot_entries_of-outline l)
slot_bytes-outline l role.RelaDynRelative f = simp (slot_entries_of-outline l)
slot_bytes-outline l role.RelaDynGeneral f = simp (slot_entries_of-outline l)
slot_bytes-outline l role.RelrDyn f = simp (flat_places_of-outline l)
slot_bytes-outline l other f = refl

pub block_bytes-outline : (l : Layout) (r : Role) (g : Group) → block_bytes (outline l) r g ≡ block_bytes l r g
block_bytes-outline l role.RelrDyn g = simp (group_relr_got-same_group l)
block_bytes-outline l other g = refl

pub file_entries-outline : (l : Layout) (f : File) → file_entries (outline l) f ≡ file_entries l f
file_entries-outline l f = ap (flat_map (section_entries (outline l))) (processed_sections-outline l f) ∙ flat_map-same (section_entries (outline l)) (section_entries l) (processed_sections l f) (section_entries-outline l)

pub file_words-outline : (l : Layout) (f : File) → file_words (outline l) f ≡ file_words l f
file_words-outline l f = flat_map-same (words_of (outline l)) (words_of l) f.sections (words_of-outline l)
