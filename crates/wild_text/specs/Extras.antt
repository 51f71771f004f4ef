-- Which JSON values encode the order of sections, merged strings, the linker's identity string and properties. Other members
-- are unknown.
use Rattle.std.specs.Prelude.{ℕ, ◌||◌, List, [], ◌∷◌, codes, is_some, if◌then◌else◌, Result, Ok}
use Rattle.serde_json.specs.Data.{Data}
use Rattle.serde_json.specs.Find.{get}
use Rattle.wild_types.specs.declared.layout.SortedSection.{SortedSection}
use Rattle.wild_types.specs.declared.layout.Merged.{Merged}
use Rattle.wild_types.specs.declared.layout.Identity.{Identity}
use Rattle.wild_types.specs.declared.layout.Property.{Property}
use Rattle.wild_types.specs.declared.layout.PropertyValue.TheVariants as values
use Rattle.wild_text.specs.Reads.{◌>>=◌}
use Rattle.wild_text.specs.Values.{u32_in, u64_in, hex_in, list_in}
use Rattle.wild_text.specs.Members.{field, an_object, known_only}

-- a section whose place follows the order of the layout
unfoldable pub sorted_section_in : Data → Result SortedSection (List ℕ)
sorted_section_in d = do
  whole ← an_object d
  group ← field (codes "group") u64_in 0 d
  file ← field (codes "file") u64_in 0 d
  section ← field (codes "section") u64_in 0 d
  all_known ← known_only (codes "group" ∷ codes "file" ∷ codes "section" ∷ []) d
  Ok (record { group = group; file = file; section = section })

-- the merged strings of a part
unfoldable pub merged_in : Data → Result Merged (List ℕ)
merged_in d = do
  whole ← an_object d
  part ← field (codes "part") u64_in 0 d
  strings ← field (codes "strings") (list_in hex_in) [] d
  all_known ← known_only (codes "part" ∷ codes "strings" ∷ []) d
  Ok (record { part = part; strings = strings })

-- the linker's identity string
unfoldable pub identity_in : Data → Result Identity (List ℕ)
identity_in d = do
  whole ← an_object d
  part ← field (codes "part") u64_in 0 d
  bytes ← field (codes "bytes") hex_in [] d
  all_known ← known_only (codes "part" ∷ codes "bytes" ∷ []) d
  Ok (record { part = part; bytes = bytes })

-- a property of pointer authentication (aaelf64, "Program Property")
unfoldable pub authentication_in : Data → Result Property (List ℕ)
authentication_in d = do
  ptype ← field (codes "ptype") u32_in 0 d
  platform ← field (codes "platform") u64_in 0 d
  version ← field (codes "version") u64_in 0 d
  all_known ← known_only (codes "ptype" ∷ codes "platform" ∷ codes "version" ∷ []) d
  Ok (record { ptype = ptype; value = values.PointerAuthentication platform version })

-- a property of four bytes (x86-64 psABI, "Program Property")
unfoldable pub word_property_in : Data → Result Property (List ℕ)
word_property_in d = do
  ptype ← field (codes "ptype") u32_in 0 d
  value ← field (codes "value") u32_in 0 d
  all_known ← known_only (codes "ptype" ∷ codes "value" ∷ []) d
  Ok (record { ptype = ptype; value = values.Word value })

-- a property; one of pointer authentication if that member is present
unfoldable pub property_in : Data → Result Property (List ℕ)
property_in d = do
  whole ← an_object d
  if is_some (get (codes "platform") d) || is_some (get (codes "version") d) then authentication_in d else word_property_in d
