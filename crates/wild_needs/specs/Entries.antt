-- The relative relocations of a position-independent output: entries with addends, or RELR words (gABI, "Relocation", "Relative
-- Relocation Table"); and the entries that name a symbol or a resolver.
--   is_relative_by l flags r           a relocation writes an address that changes with the load bias, in a section with such flags
--   may_be_relative n                  a relocation of type n can write one
--   listed_at, relr_place_at            the place of a relocation, if it has an entry, and if it is packed
--   rela_places, relr_places    the places of a section's relative relocations: those that have an entry, and those
--                                   that are packed
--   entry_count l f, word_count l f   the numbers of entries and of RELR words of a file
--   may_have_dynamic_entry flags n             an entry that names a symbol or a resolver can fill the field of a relocation of type n
--   may_have_entry l symbol         it can name that symbol, or its resolver
--   dynamic_relocations l s            the relocations of a section whose fields are filled by such entries
--   general_count l f               the number of such entries of a file, with those of its copy relocations
use Rattle.std.specs.Prelude.{ℕ, ◌+◌, ◌==◌, ◌&&◌, ◌||◌, Bool, true, false, not, if◌then◌else◌, List, [], length, Option, Some, None, option_to_list}
use Rattle.std.specs.List.{flat_map, filter}
use Rattle.wild_records.specs.Abi.Relocation.{r_aarch64_abs64, r_x86_64_64, r_x86_64_size32, r_x86_64_size64}
use Rattle.wild_relr.specs.RunWords.{packed}
use Rattle.wild_types.specs.declared.input.InputRelocation.{InputRelocation}
use Rattle.wild_types.specs.declared.input.InputSection.{InputSection}
use Rattle.wild_types.specs.declared.file.File.{File}
use Rattle.wild_types.specs.declared.layout.Layout.{Layout}
use Rattle.wild_slot.specs.declared.treatment.Treatment.{Treatment}
use Rattle.wild_slot.specs.declared.treatment.Treatment.TheVariants.{BaseRelative, Symbolic, Indirect, Extent}
use Rattle.wild_types.specs.Flags.{has_flag, interposable, ifunc}
use Rattle.wild_types.specs.Lists.{total}
use Rattle.wild_types.specs.Lookups.{is_read, writable, place_of, packs, may_have_relative}
use Rattle.wild_slot.specs.Treatment.{flags_at, treatment}
use Rattle.wild_types.specs.FileSymbols.{copies_of}
use Rattle.wild_placement.specs.PlacedSections.{processed_sections, sorted_sections}

abbrev pub is_base_relative : Treatment → Bool
is_base_relative BaseRelative = true
is_base_relative other = false

-- the relocation writes an address that changes with the load bias, in a section with such flags
abbrev pub is_relative_by : Layout → ℕ → InputRelocation → Bool
is_relative_by l flags r = is_base_relative (treatment l flags r)

-- the types that can write such an address: those of 8-byte addresses
abbrev pub may_be_relative : ℕ → Bool
may_be_relative n = n == r_x86_64_64 || n == r_aarch64_abs64

abbrev pub is_relative : Layout → InputSection → InputRelocation → Bool
is_relative l s r = is_relative_by l s.flags r

-- its place if it has an entry, in a section with such flags at an address
abbrev pub listed_at : Layout → ℕ → ℕ → InputRelocation → Option ℕ
listed_at l flags address r = if is_relative_by l flags r && not (packs l (place_of address r)) then Some (place_of address r) else None

abbrev pub rela_place : Layout → InputSection → InputRelocation → Option ℕ
rela_place l s r = listed_at l s.flags s.address r

-- its place if it is packed
abbrev pub relr_place_at : Layout → ℕ → ℕ → InputRelocation → Option ℕ
relr_place_at l flags address r = if is_relative_by l flags r && packs l (place_of address r) then Some (place_of address r) else None

abbrev pub relr_place : Layout → InputSection → InputRelocation → Option ℕ
relr_place l s r = relr_place_at l s.flags s.address r

-- the items that f yields for the relocations of a section, if it may have relative relocations
abbrev pub relative_items : {X : Type 0} → Layout → InputSection → (InputRelocation → Option X) → List X
relative_items l s f = if may_have_relative l s then flat_map (λ r. option_to_list (f r)) s.relocations else []

-- the places that have an entry, in the order of the relocations
unfoldable pub rela_places : Layout → InputSection → List ℕ
rela_places l s = relative_items l s (rela_place l s)

-- the places that are packed
unfoldable pub relr_places : Layout → InputSection → List ℕ
relr_places l s = relative_items l s (relr_place l s)

-- the RELR words of an input section: its places are a separate run
abbrev pub words_of : Layout → InputSection → List ℕ
words_of l s = packed (relr_places l s)

-- the number of relative entries of a file with placed sections
abbrev pub entry_count : Layout → File → ℕ
entry_count l f = total (λ s. length (rela_places l s)) (processed_sections l f)

-- the number of RELR words of its own sections
abbrev pub word_count : Layout → File → ℕ
word_count l f = total (λ s. length (words_of l s)) f.sections

-- the RELR words of the sorted sections, each section's a separate run
abbrev pub sorted_words : Layout → List ℕ
sorted_words l = flat_map (words_of l) (sorted_sections l)

-- ---- entries that name a symbol or a resolver

-- such an entry fills the field
abbrev pub has_dynamic_entry : Treatment → Bool
has_dynamic_entry (Symbolic i) = true
has_dynamic_entry (Indirect i) = true
has_dynamic_entry (Extent row i) = true
has_dynamic_entry other = false

-- the types whose fields such an entry can fill: an 8-byte address in a writable section, and a size
abbrev pub may_have_dynamic_entry : ℕ → ℕ → Bool
may_have_dynamic_entry flags n = may_be_relative n && writable flags || (n == r_x86_64_size32 || n == r_x86_64_size64)

-- the symbols that such an entry can name: interposable ones and IFUNCs
abbrev pub may_have_entry : Layout → Option ℕ → Bool
may_have_entry l None = false
may_have_entry l (Some i) = interposable (flags_at l i) || has_flag (flags_at l i) ifunc

-- the relocations of an input section whose fields such entries fill, in order
unfoldable pub dynamic_relocations : Layout → InputSection → List InputRelocation
dynamic_relocations l s = if is_read s then filter (λ r. has_dynamic_entry (treatment l s.flags r)) s.relocations else []

-- the number of entries of a file for copy relocations and for fields
unfoldable pub general_count : Layout → File → ℕ
general_count l f = length (copies_of f) + total (λ s. length (dynamic_relocations l s)) (processed_sections l f)
