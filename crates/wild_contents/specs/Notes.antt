-- Parts of GNU notes.
--   gnu_front kind size     the header of a GNU note whose descriptor has `size` bytes, and the name
--   word_property t v       a property of type t whose value is a word; signed_property t p v the pointer authentication property
use Rattle.std.specs.Prelude.{ℕ, List, ◌++◌, length}
use Rattle.wild_words.specs.Words.{word}
use Rattle.wild_words.specs.Record.{spell}
use Rattle.wild_records.specs.Notes.{note_header_fields}
use Rattle.wild_types.specs.declared.layout.PropertyValue.TheVariants as values
use Rattle.wild_layout.specs.Notes.{gnu_name, value_bytes}

-- the header and the name
abbrev pub gnu_front : ℕ → ℕ → List ℕ
gnu_front kind size = spell (note_header_fields (record { name_size = length gnu_name; descriptor_size = size; kind = kind })) ++ gnu_name

-- a property whose value is a word
abbrev pub word_property : ℕ → ℕ → List ℕ
word_property t v = word 4 t ++ value_bytes (values.Word v)

-- the pointer authentication property
abbrev pub signed_property : ℕ → ℕ → ℕ → List ℕ
signed_property t p v = word 4 t ++ value_bytes (values.PointerAuthentication p v)
