-- The tables of a group with something appended.
--   with_slot_words l at ws t   the words of a slot at address at, and their entries, each in its part
--   with_slot l r stub t    the slots of a resolution, and its stub, given by its bytes or by a distance that is out of range
--   with_header l t         the reserved words of the GOT and the module pair
--   with_block base n t     the RELR words of n slots in `got_relr`
--   with_general e t        an entry of `rela_dyn_general`
--   copy_entry_of l i           the COPY entry of symbol i, or the fault of a symbol without resolution or index
--   with_copy l i t         the COPY entry of symbol i
use Rattle.std.specs.Prelude.{ℕ, ℤ, if◌then◌else◌, List, [], ◌∷◌, Option, Some, None, option_and_then, unwrap_or, Result, Ok, Err, slice_get}
use Rattle.wild_records.specs.declared.relocations.Rela.{Rela}
use Rattle.wild_reloc.specs.declared.dynamic.DynamicRelocationKind.{DynamicRelocationKind}
use Rattle.wild_reloc.specs.declared.dynamic.DynamicRelocationKind.TheVariants.{Copy}
use Rattle.wild_types.specs.declared.fault.Fault.{Fault}
use Rattle.wild_types.specs.declared.fault.Fault.TheVariants as faults
use Rattle.wild_types.specs.declared.fault.Missing.TheVariants as missing
use Rattle.wild_types.specs.declared.layout.Layout.{Layout}
use Rattle.wild_types.specs.declared.symbol.Resolution.{Resolution}
use Rattle.wild_types.specs.declared.symbol.Symbol.{Symbol}
use Rattle.wild_types.specs.Lookups.{canonical}
use Rattle.wild_relr.specs.Encoding.{State}
use Rattle.wild_relr.specs.RunWords.{after_relr_slot, after_block}
use Rattle.wild_table_formats.specs.RelrWords.{Words}
use Rattle.wild_slot.specs.declared.slot.SlotWord.{SlotWord}
use Rattle.wild_slot.specs.declared.slot_parts.WordPart.TheVariants as words
use Rattle.wild_slot.specs.declared.slot_parts.EntryPart.TheVariants as entries
use Rattle.wild_slot.specs.Slots.{SlotContent, setting_of, slot}
use Rattle.wild_needs.specs.SlotShares.{storage_words, header_words}
use Rattle.wild_slot.specs.SlotParts.{type_of, entry_at, slot_words, slot_entries, relr_slot_places}
use Rattle.wild_table_formats.specs.GroupTables.{Tables, more_words, more_stubs, more_entries, with_words}

-- each place recorded by its own address word
abbrev pub after_relr_slots : State → List ℕ → State
after_relr_slots s [] = s
after_relr_slots s (p ∷ ps) = after_relr_slots (after_relr_slot s p) ps

abbrev pub more_places : List ℕ → Words → Words
more_places ps t = record { state = after_relr_slots t.state ps; room = t.room }

-- the words of a slot at address at, and their entries, each in its part
abbrev pub with_slot_words : Layout → ℕ → List SlotWord → Tables → Tables
with_slot_words l at ws t = record t {
  got = more_words (slot_words words.Got l.options.relr at ws) t.got;
  block = more_words (slot_words words.RelrGot l.options.relr at ws) t.block;
  plt = more_entries (slot_entries entries.Plt l.machine l.options.relr at ws) t.plt;
  relative = more_entries (slot_entries entries.Relative l.machine l.options.relr at ws) t.relative;
  general = more_entries (slot_entries entries.General l.machine l.options.relr at ws) t.general;
  packed = more_places (relr_slot_places l.options.relr at ws) t.packed;
}

-- the stub's distance from its slot if that is out of range; bytes_of has the stub's bytes otherwise
abbrev pub distance_of : Result (List ℕ) ℕ → Option ℕ
distance_of (Ok bytes) = None
distance_of (Err distance) = Some distance

abbrev pub bytes_of : Result (List ℕ) ℕ → List ℕ
bytes_of (Ok bytes) = bytes
bytes_of (Err distance) = []

-- the slots of a resolution in a layout
abbrev pub content_of : Layout → Resolution → Result (List ℕ) ℕ → SlotContent
content_of l r stub = slot (setting_of l) (distance_of stub) r

abbrev pub stub_of : SlotContent → Result (List ℕ) ℕ → List ℕ
stub_of c stub = if c.has_stub then bytes_of stub else []

-- the words of a slot at address at, and a stub
abbrev pub with_content : Layout → ℕ → List SlotWord → List ℕ → Tables → Tables
with_content l at ws stub t = record (with_slot_words l at ws t) { stubs = more_stubs stub t.stubs }

-- the slots of a resolution, and its stub
abbrev pub with_slot : Layout → Resolution → Result (List ℕ) ℕ → Tables → Tables
with_slot l r stub t = with_content l (unwrap_or r.got_address 0) (content_of l r stub).words (stub_of (content_of l r stub) stub) t

-- ---- the start of the GOT, and single entries

-- the reserved words at the start of the GOT, which are 0 in the file, and the module pair of the output's own TLS segment with its
-- entry
abbrev pub with_header : Layout → Tables → Tables
with_header l t = record t {
  got = more_words (header_words l) t.got;
  general = more_entries (slot_entries entries.General l.machine l.options.relr (unwrap_or l.tlsld 0) (storage_words l)) t.general;
}

-- the places of n consecutive slots from base, in RELR by one address word and its bitmaps
abbrev pub with_block : ℕ → ℕ → Tables → Tables
with_block base n t = with_words (after_block t.packed.state base n) t

-- an entry appended to `rela_dyn_general`
abbrev pub with_general : Rela → Tables → Tables
with_general e t = record t { general = more_entries (e ∷ []) t.general }

-- the RELA entry with which a loader fills a place from a symbol (gABI, "Relocation")
abbrev pub symbol_entry : Layout → ℕ → ℤ → ℕ → DynamicRelocationKind → Rela
symbol_entry l at addend symbol kind = record { offset = at; number = type_of l.machine kind; symbol = symbol; addend = addend }

-- the COPY entry, with which a loader copies the symbol's bytes to its address in this output
abbrev pub copy_entry : Layout → Resolution → ℕ → Rela
copy_entry l r d = entry_at l.machine r.raw_value (record { kind = Copy; symbol = d; addend = 0 })

-- the resolution of the symbol that defines symbol i
abbrev pub resolution_of : Layout → ℕ → Option Resolution
resolution_of l i = option_and_then (λ (s : Symbol). s.resolution) (slice_get l.symbols (canonical l i))

abbrev pub copy_entry_at : Layout → ℕ → Resolution → Option ℕ → Result Rela Fault
copy_entry_at l i r None = Err (faults.MissingResolution missing.DynamicSymbol i)
copy_entry_at l i r (Some d) = Ok (copy_entry l r d)

abbrev pub copy_entry_for : Layout → ℕ → Option Resolution → Result Rela Fault
copy_entry_for l i None = Err (faults.MissingResolution missing.Address i)
copy_entry_for l i (Some r) = copy_entry_at l i r r.dynamic_symbol_index

-- the COPY entry of symbol i, or the fault of a symbol without a resolution or without a dynamic symbol index
abbrev pub copy_entry_of : Layout → ℕ → Result Rela Fault
copy_entry_of l i = copy_entry_for l i (resolution_of l i)

abbrev pub with_copy_result : Result Rela Fault → Tables → Tables
with_copy_result (Err f) t = t
with_copy_result (Ok e) t = with_general e t

-- the COPY entry of symbol i appended; nothing for a symbol with a fault
abbrev pub with_copy : Layout → ℕ → Tables → Tables
with_copy l i t = with_copy_result (copy_entry_of l i) t
