-- Which dynamic symbol, version, thunk, sorted section, merged strings or property a C struct represents.
use Rattle.std.specs.Prelude.{ℕ, if◌then◌else◌, List, map}
use Rattle.wild_types.specs.declared.layout.DynamicSymbol.{DynamicSymbol}
use Rattle.wild_types.specs.declared.layout.Merged.{Merged}
use Rattle.wild_types.specs.declared.layout.Property.{Property}
use Rattle.wild_types.specs.declared.layout.PropertyValue.{PropertyValue}
use Rattle.wild_types.specs.declared.layout.PropertyValue.TheVariants as property
use Rattle.wild_types.specs.declared.layout.SortedSection.{SortedSection}
use Rattle.wild_types.specs.declared.layout.Thunk.{Thunk}
use Rattle.wild_types.specs.declared.layout.VersionDefinition.{VersionDefinition}
use Rattle.wild_c_layout.specs.Values.{is_set, present}
use Rattle.wild_c_layout.specs.declared.extras.CDynamicSymbol.{CDynamicSymbol}
use Rattle.wild_c_layout.specs.declared.extras.CMerged.{CMerged}
use Rattle.wild_c_layout.specs.declared.extras.CProperty.{CProperty}
use Rattle.wild_c_layout.specs.declared.extras.CSortedSection.{CSortedSection}
use Rattle.wild_c_layout.specs.declared.extras.CThunk.{CThunk}
use Rattle.wild_c_layout.specs.declared.extras.CThunkBlock.{CThunkBlock}
use Rattle.wild_c_layout.specs.declared.extras.CVersionDefinition.{CVersionDefinition}
use Rattle.wild_c_layout.specs.declared.values.CBytes.{CBytes}

-- the bytes that a struct in a list has
abbrev pub listed_bytes : CBytes → List ℕ
listed_bytes b = b.bytes.now

-- a defined symbol of the dynamic symbol table
abbrev pub dynamic_symbol_of : CDynamicSymbol → DynamicSymbol
dynamic_symbol_of s = record { symbol = s.symbol; name = s.name.now; version = s.version }

-- a version that the output defines
abbrev pub version_definition_of : CVersionDefinition → VersionDefinition
version_definition_of v = record { name = v.name.now; parent = present v.parent }

-- a thunk
abbrev pub thunk_of : CThunk → Thunk
thunk_of t = record { symbol = t.symbol; address = t.address }

-- the thunks of a block
abbrev pub thunks_of : CThunkBlock → List Thunk
thunks_of b = map thunk_of b.thunks.now

-- an input section that is placed by sort order
abbrev pub sorted_section_of : CSortedSection → SortedSection
sorted_section_of s = record { group = s.group; file = s.file; section = s.section }

-- the merged strings of a part
abbrev pub merged_of : CMerged → Merged
merged_of m = record { part = m.part; strings = map listed_bytes m.strings.now }

-- the value of a program property
abbrev pub property_value_of : CProperty → PropertyValue
property_value_of p = if is_set p.is_pointer_authentication then property.PointerAuthentication p.platform p.version else property.Word p.word

-- a program property
abbrev pub property_of : CProperty → Property
property_of p = record { ptype = p.ptype; value = property_value_of p }
