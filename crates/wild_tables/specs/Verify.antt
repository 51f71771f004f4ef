-- Whether sizes of parts are those that a resolution needs.
--   open_setting kind options         the output's settings that slots depend on, with a TLS segment that contains every address
--   needed_sizes kind options r       the bytes that a resolution's slots need of each part, in the order of roles
--   first_difference i given needed   the sizes are those needed, or the fault of the first that is not
use Rattle.std.specs.Prelude.{ℕ, ◌+◌, ◌-◌, ◌*◌, ◌^◌, nat_lt, if◌then◌else◌, List, [], ◌∷◌, length, None, unwrap_or, Result, Ok, Err}
use Rattle.wild_records.specs.Relocations.{rela_size, relr_size}
use Rattle.wild_types.specs.declared.kind.Machine.TheVariants.{X86_64}
use Rattle.wild_types.specs.declared.kind.OutputKind.{OutputKind}
use Rattle.wild_types.specs.declared.options.Options.{Options}
use Rattle.wild_types.specs.declared.symbol.Resolution.{Resolution}
use Rattle.wild_types.specs.declared.fault.Error.{Error}
use Rattle.wild_types.specs.Shares.{insufficient, excessive}
use Rattle.wild_slot.specs.declared.slot.Setting.{Setting}
use Rattle.wild_slot.specs.declared.slot.SlotWord.{SlotWord}
use Rattle.wild_slot.specs.declared.slot_parts.WordPart.{WordPart}
use Rattle.wild_slot.specs.declared.slot_parts.WordPart.TheVariants as words
use Rattle.wild_slot.specs.declared.slot_parts.EntryPart.{EntryPart}
use Rattle.wild_slot.specs.declared.slot_parts.EntryPart.TheVariants as entries
use Rattle.wild_slot.specs.Slots.{SlotContent, slot}
use Rattle.wild_slot.specs.SlotParts.{slot_words, slot_entries, relr_slot_places}

-- sizes do not depend on the bounds of the TLS segment, as long as the symbol lies in it
abbrev pub open_setting : OutputKind → Options → Setting
open_setting kind options = record { kind = kind; relr = options.relr; tls = record { start = 0; end = 2 ^ 64 - 1; align = 1 }; thread_pointer = 0 }

abbrev pub words_size : WordPart → Options → ℕ → List SlotWord → ℕ
words_size part options at ws = 8 * length (slot_words part options.relr at ws)

-- the number of entries does not depend on the machine, so any machine will do
abbrev pub entries_size : EntryPart → Options → ℕ → List SlotWord → ℕ
entries_size part options at ws = rela_size * length (slot_entries part X86_64 options.relr at ws)

unfoldable pub content_sizes : Options → ℕ → SlotContent → List ℕ
content_sizes options at c =
    0 ∷ 0 ∷ 0 ∷ 0 ∷ 0
    ∷ words_size words.Got options at c.words
    ∷ words_size words.RelrGot options at c.words
    ∷ (if c.has_stub then 16 else 0)
    ∷ entries_size entries.Plt options at c.words
    ∷ entries_size entries.Relative options at c.words
    ∷ entries_size entries.General options at c.words
    ∷ relr_size * length (relr_slot_places options.relr at c.words)
    ∷ 0 ∷ 0 ∷ 0 ∷ 0 ∷ 0 ∷ 0 ∷ 0 ∷ 0 ∷ 0 ∷ 0 ∷ 0 ∷ 0 ∷ 0 ∷ 0 ∷ 0 ∷ 0 ∷ 0 ∷ 0 ∷ []

-- the bytes that the slots before the first fault need
abbrev pub needed_sizes : OutputKind → Options → Resolution → List ℕ
needed_sizes kind options r = content_sizes options (unwrap_or r.got_address 0) (slot (open_setting kind options) None r)

-- the fault has the index i of the role
abbrev pub first_difference : ℕ → List ℕ → List ℕ → Result (Unit {0}) Error
first_difference i [] ns = Ok tt
first_difference i (g ∷ gs) [] = Ok tt
first_difference i (g ∷ gs) (n ∷ ns) =
    if nat_lt g n then Err (insufficient i 0 g n)
    else if nat_lt n g then Err (excessive i 0 g n)
    else first_difference (i + 1) gs ns
