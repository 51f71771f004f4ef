-- Input sections whose words are written in reverse order (`.ctors` and `.dtors`, whose words become those of `.init_array` and
-- `.fini_array`).
--   reversed_word_bytes bs          the words of 8 bytes in reverse order
--   reversed_offset n r        the relocation, of a section of n bytes, at its word's new offset
--   reversed_section s                 the section with its words in reverse order
use Rattle.std.specs.Prelude.{ℕ, ◌-◌, ◌*◌, ◌+◌, ◌/◌, if◌then◌else◌, false, List, [], length, map, None, slice_range}
use Rattle.std.specs.List.{flat_map, range_with_len}
use Rattle.wild_types.specs.declared.input.InputRelocation.{InputRelocation}
use Rattle.wild_types.specs.declared.input.InputSection.{InputSection}

-- the size of a word in bytes
abbrev pub word_size : ℕ
word_size = 8

-- word i, counted from the end
abbrev pub word_from_end : List ℕ → ℕ → List ℕ
word_from_end bs i = slice_range bs (length bs - word_size * (i + 1)) (length bs - word_size * i)

-- the words in reverse order
unfoldable pub reversed_word_bytes : List ℕ → List ℕ
reversed_word_bytes bs = flat_map (word_from_end bs) (range_with_len 0 (length bs / word_size))

-- the relocation at the new offset of its word, in a section of n bytes
abbrev pub reversed_offset : ℕ → InputRelocation → InputRelocation
reversed_offset n r = record { offset = n - r.offset - word_size; number = r.number; symbol = r.symbol; addend = r.addend; malformed = r.malformed }

-- the section with its words in reverse order
abbrev pub reversed_section : InputSection → InputSection
reversed_section s = record {
  slot = s.slot;
  name = [];
  part = s.part;
  address = s.address;
  size = s.size;
  flags = s.flags;
  nobits = s.nobits;
  reversed = false;
  singleton = None;
  target = 0;
  members = [];
  bytes = reversed_word_bytes s.bytes;
  strings = [];
  relocations = map (reversed_offset s.size) s.relocations;
}

-- the section, with its words in reverse order if it is a reversed one
unfoldable pub with_word_order : InputSection → InputSection
with_word_order s = if s.reversed then reversed_section s else s
