-- The tables of a group: GOT words, stubs, RELA entries and RELR words.
--   Tables                         what callers see of them
--   with_address l place value t   with an address at a place recorded, in RELR or by a RELA entry
--   with_relr_slot l place value t      the same, in RELR by its own address word
--   room_for l place t             the table of a place fits in its share, or InsufficientAllocation
use Rattle.std.specs.Prelude.{ℕ, ◌*◌, nat_lt, if◌then◌else◌, List, [], ◌∷◌, ◌++◌, length, Result, Ok, Err}
use Rattle.wild_records.specs.declared.relocations.Rela.{Rela}
use Rattle.wild_records.specs.Relocations.{rela_size, relr_size}
use Rattle.wild_reloc.specs.declared.dynamic.DynamicRelocationKind.TheVariants.{Relative}
use Rattle.wild_types.specs.declared.kind.Machine.{Machine}
use Rattle.wild_types.specs.declared.part.Role.{Role}
use Rattle.wild_types.specs.declared.part.Role.TheVariants as role
use Rattle.wild_types.specs.declared.fault.Error.{Error}
use Rattle.wild_types.specs.declared.layout.Layout.{Layout}
use Rattle.wild_types.specs.Lookups.{packs}
use Rattle.wild_types.specs.Shares.{part_of, share_of, insufficient}
use Rattle.wild_relr.specs.Encoding.{State, after}
use Rattle.wild_relr.specs.RunWords.{after_relr_slot, nothing}
use Rattle.wild_table_formats.specs.RelativeEntries.{Entries}
use Rattle.wild_table_formats.specs.RelrWords.{Words}
use Rattle.wild_table_formats.specs.GotWords.{GotWords, Stubs}
use Rattle.wild_slot.specs.SlotParts.{type_of, address_entry}

-- a group's tables in the order of their roles, and the index of the part of the last one
pub record Tables : Type 0 where
  pub group : ℕ
  pub got : GotWords
  pub block : GotWords
  pub stubs : Stubs
  pub plt : Entries
  pub relative : Entries
  pub general : Entries
  pub packed : Words
  pub packed_part : ℕ

-- the number of bytes of the entries of rela_dyn_relative
abbrev pub relative_used : Tables → ℕ
relative_used t = rela_size * length t.relative.entries

-- the number of bytes of the RELR words
abbrev pub packed_used : Tables → ℕ
packed_used t = relr_size * length t.packed.state.words

abbrev pub no_words : Layout → ℕ → Role → GotWords
no_words l group r = record { words = []; room = share_of l group r }

abbrev pub empty_rela_table : Layout → ℕ → Role → Entries
empty_rela_table l group r = record { entries = []; room = share_of l group r }

-- empty tables with the sizes of the group's shares
abbrev pub no_entries : Layout → ℕ → Tables
no_entries l group = record {
  group = group;
  got = no_words l group role.Got;
  block = no_words l group role.GotRelr;
  stubs = record { bytes = []; room = share_of l group role.PltGot };
  plt = empty_rela_table l group role.RelaPlt;
  relative = empty_rela_table l group role.RelaDynRelative;
  general = empty_rela_table l group role.RelaDynGeneral;
  packed = record { state = nothing; room = share_of l group role.RelrDyn };
  packed_part = part_of l role.RelrDyn;
}

-- ---- addresses in outputs with relative relocations

-- the type that adds the base (x86-64 psABI and aaelf64, "Relocation Types": R_X86_64_RELATIVE, R_AARCH64_RELATIVE)
abbrev pub relative_type : Machine → ℕ
relative_type m = type_of m Relative

-- the RELATIVE entry, with which a loader stores base plus value at the place
abbrev pub relative_entry : Layout → ℕ → ℕ → Rela
relative_entry l place value = address_entry l.machine place value

abbrev pub more_words : List ℕ → GotWords → GotWords
more_words ws t = record { words = t.words ++ ws; room = t.room }

abbrev pub more_stubs : List ℕ → Stubs → Stubs
more_stubs bytes t = record { bytes = t.bytes ++ bytes; room = t.room }

abbrev pub more_entries : List Rela → Entries → Entries
more_entries es t = record { entries = t.entries ++ es; room = t.room }

-- a RELATIVE entry appended
abbrev pub with_entry : Layout → ℕ → ℕ → Tables → Tables
with_entry l place value t = record t { relative = more_entries (relative_entry l place value ∷ []) t.relative }

-- with other RELR words
abbrev pub with_words : State → Tables → Tables
with_words s t = record t { packed = record { state = s; room = t.packed.room } }

-- with an address at a place recorded: in RELR if the layout packs the place, otherwise by a RELA entry
abbrev pub with_address : Layout → ℕ → ℕ → Tables → Tables
with_address l place value t = if packs l place then with_words (after t.packed.state place) t else with_entry l place value t

-- the same, in RELR by its own address word
abbrev pub with_relr_slot : Layout → ℕ → ℕ → Tables → Tables
with_relr_slot l place value t = if packs l place then with_words (after_relr_slot t.packed.state place) t else with_entry l place value t

-- the file's content of the place: the value in RELR, since a loader adds the base to it; 0 with a RELA entry
abbrev pub site_word : Layout → ℕ → ℕ → ℕ
site_word l place value = if packs l place then value else 0

-- ---- sizes

-- the entries of rela_dyn_relative fit in their share; otherwise the fault has both sizes
abbrev pub room_for_entries : Layout → Tables → Result (Unit {0}) Error
room_for_entries l t =
    if nat_lt t.relative.room (relative_used t)
    then Err (insufficient (part_of l role.RelaDynRelative) t.group t.relative.room (relative_used t))
    else Ok tt

-- the RELR words fit in their share; otherwise the fault has both sizes
abbrev pub room_for_words : Layout → Tables → Result (Unit {0}) Error
room_for_words l t =
    if nat_lt t.packed.room (packed_used t)
    then Err (insufficient (part_of l role.RelrDyn) t.group t.packed.room (packed_used t))
    else Ok tt

-- the table in which the address at a place is recorded fits in its share
abbrev pub room_for : Layout → ℕ → Tables → Result (Unit {0}) Error
room_for l place t = if packs l place then room_for_words l t else room_for_entries l t
