-- GNU notes (gABI, "Note Section"; the Linux Extensions to gABI, "Program Property").
--   build_id_note id      the build id note
--   property_note ps      the note of the output's properties
use Rattle.std.specs.Prelude.{ℕ, ◌+◌, List, [], ◌∷◌, ◌++◌, length, Option, Some, None}
use Rattle.std.specs.List.{flat_map}
use Rattle.wild_words.specs.Words.{word}
use Rattle.wild_words.specs.Record.{spell}
use Rattle.wild_records.specs.Notes.{note_header_fields}
use Rattle.wild_records.specs.declared.notes.NoteHeader.{NoteHeader}
use Rattle.wild_records.specs.Abi.Note.{nt_gnu_build_id, nt_gnu_property_type_0}
use Rattle.wild_types.specs.declared.layout.Property.{Property}
use Rattle.wild_types.specs.declared.layout.PropertyValue.{PropertyValue}
use Rattle.wild_types.specs.declared.layout.PropertyValue.TheVariants as values

-- "GNU" with a zero
abbrev pub gnu_name : List ℕ
gnu_name = 71 ∷ 78 ∷ 85 ∷ 0 ∷ []

-- a GNU note of that type
abbrev pub gnu_note : ℕ → List ℕ → List ℕ
gnu_note kind description = spell (note_header_fields (record { name_size = length gnu_name; descriptor_size = length description; kind = kind })) ++ (gnu_name ++ description)

abbrev pub build_id_note : Option (List ℕ) → List ℕ
build_id_note None = []
build_id_note (Some id) = gnu_note nt_gnu_build_id id

-- the size of the value, the value, and zeros up to a multiple of 8 bytes
abbrev pub value_bytes : PropertyValue → List ℕ
value_bytes (values.Word v) = word 4 4 ++ (word 4 v ++ word 4 0)
value_bytes (values.PointerAuthentication platform version) = word 4 16 ++ (word 8 platform ++ word 8 version)

abbrev pub property_bytes : Property → List ℕ
property_bytes p = word 4 p.ptype ++ value_bytes p.value

-- the note of the properties; empty if there are none
abbrev pub property_note : List Property → List ℕ
property_note [] = []
property_note (p ∷ ps) = gnu_note nt_gnu_property_type_0 (flat_map property_bytes (p ∷ ps))
