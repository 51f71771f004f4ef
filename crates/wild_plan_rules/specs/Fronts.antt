-- The clauses on the front of a part in the first group, on reversed sections, on properties, and on debug-only images.
--   reversed_fits m s        a reversed section has only whole words, and so have its relocations
--   merged_fill l            the first merged strings that do not fill their part's share of the first group
--   identity_fills l         the linker's identity string, if it has bytes, fills that share
--   front_shared l           the first merged strings whose part contains other merged strings too
--   properties_differ ..     the first property with the type of an earlier one
--   keeps_tables l           a relocatable object is no debug-only image
--   dynamic_is_dropped l p   in a debug-only image the dynamic section is not written
--   headers_are_kept l p     headers and section names are written
use Rattle.std.specs.Prelude.{ℕ, ◌+◌, ◌%◌, ◌==◌, Bool, true, false, not, ◌&&◌, ◌||◌, if◌then◌else◌, List, [], ◌∷◌, ◌++◌, length, Option, Some, None, slice_get}
use Rattle.std.specs.List.{flat_map, list_all, list_any}
use Rattle.wild_placement.specs.ReversedWords.{word_size}
use Rattle.wild_types.specs.declared.kind.Machine.{Machine}
use Rattle.wild_types.specs.declared.input.InputRelocation.{InputRelocation}
use Rattle.wild_types.specs.declared.input.InputSection.{InputSection}
use Rattle.wild_types.specs.declared.file.Group.{Group}
use Rattle.wild_types.specs.declared.layout.Merged.{Merged}
use Rattle.wild_types.specs.declared.layout.Property.{Property}
use Rattle.wild_types.specs.declared.layout.Layout.{Layout}
use Rattle.wild_types.specs.declared.part.Part.{Part}
use Rattle.wild_types.specs.declared.part.Role.{Role}
use Rattle.wild_types.specs.declared.part.Role.TheVariants as role
use Rattle.wild_records.specs.Abi.Section.{sht_note}
use Rattle.wild_types.specs.Kinds.{is_partial_link}
use Rattle.wild_types.specs.Lookups.{kind_at, is_header_only_at}
use Rattle.wild_types.specs.Parts.{has_role}
use Rattle.wild_types.specs.FilePlaces.{given}
use Rattle.wild_types.specs.Lists.{first_failing}
use Rattle.wild_types.specs.Rows.{field_bytes}

-- ---- clause 20: reversed sections

-- the field is a whole word
abbrev pub is_whole_word : Machine → InputRelocation → Bool
is_whole_word m r = r.offset % word_size == 0 && field_bytes m r.number == word_size

-- a section whose words are reversed has only whole words, and its relocations are of whole words
abbrev pub reversed_fits : Machine → InputSection → Bool
reversed_fits m s = not s.reversed || (s.size % word_size == 0 && list_all (is_whole_word m) s.relocations)

-- ---- clause 22: merged strings, the linker's identity string, properties

abbrev pub given_by : ℕ → Option Group → ℕ
given_by part None = 0
given_by part (Some g) = given part g

-- the part's share of the first group has exactly this size
abbrev pub fills_front : Layout → ℕ → ℕ → Bool
fills_front l part n = given_by part (slice_get l.groups 0) == n

-- the size of merged strings
abbrev pub merged_size : Merged → ℕ
merged_size m = length (flat_map (λ bs. bs) m.strings)

abbrev pub merged_fits : Layout → Merged → Bool
merged_fits l m = fills_front l m.part (merged_size m)

-- the first merged strings that do not fill their part's share of the first group
abbrev pub merged_fill : Layout → Option ℕ
merged_fill l = first_failing (merged_fits l) 0 l.merged

-- the linker's identity string, if it has bytes, fills that share
abbrev pub identity_fills : Layout → Bool
identity_fills l = length l.identity.bytes == 0 || fills_front l l.identity.part (length l.identity.bytes)

-- the part contains merged strings, and these have bytes
abbrev pub has_bytes_in_part : ℕ → Merged → Bool
has_bytes_in_part part m = m.part == part && not (0 == merged_size m)

-- the first merged strings with bytes, from number i on, whose part also contains later ones of the list
abbrev pub front_shared : ℕ → List Merged → Option ℕ
front_shared i [] = None
front_shared i (m ∷ ms) = if has_bytes_in_part m.part m && list_any (has_bytes_in_part m.part) ms then Some i else front_shared (i + 1) ms

-- the linker's identity string, if it has bytes, shares its part with no merged strings
abbrev pub identity_is_alone : Layout → Bool
identity_is_alone l = length l.identity.bytes == 0 || not (list_any (has_bytes_in_part l.identity.part) l.merged)

-- ---- debug-only images

-- a relocatable object keeps all that the next linker reads
abbrev pub keeps_tables : Layout → Bool
keeps_tables l = not (l.options.only_keep_debug && is_partial_link l.kind)

-- a debug-only image has no dynamic section: a loader would look there for tables that were not written. Since sections of notes
-- are written (gABI, "Sections": SHT_NOTE), the dynamic section is in none
abbrev pub dynamic_is_dropped : Layout → Part → Bool
dynamic_is_dropped l p = not (l.options.only_keep_debug && (has_role role.Dynamic p && kind_at l p.section == sht_note))

-- the headers and the section names
abbrev pub is_header_role : Role → Bool
is_header_role role.FileHeader = true
is_header_role role.ProgramHeaders = true
is_header_role role.SectionHeaders = true
is_header_role role.Shstrtab = true
is_header_role other = false

-- these are written: they are in no section that is omitted
abbrev pub headers_are_kept : Layout → Part → Bool
headers_are_kept l p = not (is_header_role p.role && is_header_only_at l p.section)

-- the property has that type
abbrev pub has_type : ℕ → Property → Bool
has_type ptype p = p.ptype == ptype

-- the first property, from number i on, with the type of an earlier one
abbrev pub properties_differ : List Property → ℕ → List Property → Option ℕ
properties_differ earlier i [] = None
properties_differ earlier i (p ∷ ps) = if list_any (has_type p.ptype) earlier then Some i else properties_differ (earlier ++ p ∷ []) (i + 1) ps
