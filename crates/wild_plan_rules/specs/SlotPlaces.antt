-- Clause 11: addresses of slots and stubs (x86-64 psABI, "Global Offset Table (GOT)", "Procedure Linkage Table").
--   slots_astray l       the first symbol whose slot is not the next free word of its part, or whose stub is not the next free
--                        stub, or whose slot no file writes
--   has_no_places s      the symbol has neither slot nor stub
--   slot_is_even s       a slot's address is a multiple of 8
--   block_needs_relr l p   there is a block of slots only if addresses are packed (RELR)
--   block_has_base p     and its address is not 0
--   pair_follows l       the module pair of the output's own thread-local data follows the reserved words
use Rattle.std.specs.Prelude.{ℕ, ◌+◌, ◌*◌, ◌%◌, ◌^◌, ◌≤◌, ◌==◌, Bool, true, not, ◌&&◌, ◌||◌, if◌then◌else◌, nat_lt, List, [], ◌∷◌, length, Option, Some, None, is_some, Result, Ok, Err, slice_range}
use Rattle.wild_types.specs.declared.part.Part.{Part}
use Rattle.wild_types.specs.declared.part.Role.{Role}
use Rattle.wild_types.specs.declared.part.Role.TheVariants as role
use Rattle.wild_types.specs.declared.file.File.{File}
use Rattle.wild_types.specs.declared.file.Group.{Group}
use Rattle.wild_types.specs.declared.symbol.Symbol.{Symbol}
use Rattle.wild_types.specs.declared.layout.Layout.{Layout}
use Rattle.wild_slot.specs.declared.slot_parts.WordPart.TheVariants as words
use Rattle.wild_plan_rules.specs.declared.slot_places.SlotCursor.{SlotCursor}
use Rattle.wild_types.specs.Lists.{first_failing}
use Rattle.wild_types.specs.Parts.{has_role, part_with}
use Rattle.wild_types.specs.SymbolSlots.{got_of, plt_of, lacks_slots}
use Rattle.wild_needs.specs.SlotShares.{word_size, stub_size, words_in, header_words}
use Rattle.wild_types.specs.FileRoles.{writes_slots}
use Rattle.wild_types.specs.FileSymbols.{own_symbols}
use Rattle.wild_slot.specs.SymbolWords.{slots_of}
use Rattle.wild_slot.specs.SlotParts.{begins_relr_got}

-- ---- addresses of the parts

abbrev pub address_of_part : Option Part → ℕ
address_of_part None = 0
address_of_part (Some p) = p.address

-- the address of the part of a role; 0 without such a part
abbrev pub start_of : Layout → Role → ℕ
start_of l r = address_of_part (part_with r l.parts)

-- ---- the next free places

-- each is at most 2^70, plus 40 bytes for each symbol so far
pub record IsBounded (n : SlotCursor) : Type 0 where
  pub got : n.got ≤ 2 ^ 70 + 40 * n.symbol
  pub block : n.block ≤ 2 ^ 70 + 40 * n.symbol
  pub stub : n.stub ≤ 2 ^ 70 + 40 * n.symbol

-- after the reserved words and the module pair of the GOT
abbrev pub first_free : Layout → SlotCursor
first_free l = record { got = start_of l role.Got + word_size * length (header_words l); block = start_of l role.GotRelr; stub = start_of l role.PltGot; symbol = 0 }

abbrev pub is_free_place : ℕ → Option ℕ → Bool
is_free_place free None = true
is_free_place free (Some at) = at == free

-- the slots of the symbol are the next free words, and its stub is the next free stub
abbrev pub has_next_places : Layout → SlotCursor → Symbol → Bool
has_next_places l n s = is_free_place (if begins_relr_got (slots_of l s).words then n.block else n.got) (got_of s) && is_free_place n.stub (plt_of s)

-- the next free places after those of the symbol
abbrev pub free_after : Layout → SlotCursor → Symbol → SlotCursor
free_after l n s = record {
  got = n.got + word_size * length (words_in words.Got l s);
  block = n.block + word_size * length (words_in words.RelrGot l s);
  stub = if (slots_of l s).has_stub then n.stub + stub_size else n.stub;
  symbol = n.symbol + 1;
}

-- the next step, if this one did not fail
abbrev pub and_then : {S : Type 0} → Result S ℕ → (S → Result S ℕ) → Result S ℕ
and_then (Err e) next = Err e
and_then (Ok s) next = next s

-- a step with each item in turn, up to the first that fails
unfoldable pub walk : {S X : Type 0} → (S → X → Result S ℕ) → S → List X → Result S ℕ
walk step s [] = Ok s
walk step s (x ∷ xs) = and_then (step s x) (λ t. walk step t xs)

abbrev pub symbol_step : Layout → SlotCursor → Symbol → Result SlotCursor ℕ
symbol_step l n s = if has_next_places l n s then Ok (free_after l n s) else Err n.symbol

-- the same step for a symbol without a slot
abbrev pub step_without_slot : SlotCursor → Symbol → Result SlotCursor ℕ
step_without_slot n s = if is_free_place n.stub (plt_of s) then Ok (record n { symbol = n.symbol + 1 }) else Err n.symbol

-- the first symbol with a slot, from the next symbol up to number `to`
abbrev pub slot_before : Layout → SlotCursor → ℕ → Option ℕ
slot_before l n to = first_failing lacks_slots n.symbol (slice_range l.symbols n.symbol to)

abbrev pub unless_some : {S : Type 0} → Option ℕ → Result S ℕ → Result S ℕ
unless_some None r = r
unless_some (Some i) r = Err i

-- the symbols of a file; those before its range belong to no file, and the range follows those of earlier files
abbrev pub range_step : Layout → SlotCursor → File → Result SlotCursor ℕ
range_step l n f =
    if nat_lt f.first_symbol n.symbol
    then Err f.first_symbol
    else unless_some (slot_before l n f.first_symbol) (walk (symbol_step l) (record n { symbol = f.first_symbol }) (own_symbols l f))

abbrev pub file_step : Layout → SlotCursor → File → Result SlotCursor ℕ
file_step l n f = if writes_slots f.role && not (f.symbol_count == 0) then range_step l n f else Ok n

abbrev pub group_step : Layout → SlotCursor → Group → Result SlotCursor ℕ
group_step l n g = walk (file_step l) n g.files

abbrev pub last_astray : Layout → Result SlotCursor ℕ → Option ℕ
last_astray l (Err i) = Some i
last_astray l (Ok n) = slot_before l n (length l.symbols)

-- the first symbol whose slot or stub is misplaced
abbrev pub slots_astray : Layout → Option ℕ
slots_astray l = last_astray l (walk (group_step l) (first_free l) l.groups)

-- the symbol has neither a slot nor a stub
abbrev pub has_no_places : Symbol → Bool
has_no_places s = lacks_slots s && not (is_some (plt_of s))

-- ---- the other tests

abbrev pub is_even_slot : Option ℕ → Bool
is_even_slot None = true
is_even_slot (Some at) = at % word_size == 0

abbrev pub slot_is_even : Symbol → Bool
slot_is_even s = is_even_slot (got_of s)

abbrev pub block_needs_relr : Layout → Part → Bool
block_needs_relr l p = not (has_role role.GotRelr p) || l.options.relr

abbrev pub block_has_base : Part → Bool
block_has_base p = not (has_role role.GotRelr p) || not (p.address == 0)

abbrev pub pair_follows_by : Layout → Option ℕ → Bool
pair_follows_by l None = true
pair_follows_by l (Some at) = at == start_of l role.Got + word_size * l.got_header

abbrev pub pair_follows : Layout → Bool
pair_follows l = pair_follows_by l l.tlsld
