-- Clause 14: a symbol's flags agree with its slots and its stub (x86-64 psABI, "Global Offset Table (GOT)", "Procedure Linkage
-- Table"; ELF Handling For Thread-Local Storage). A symbol is not tested if another one defines it and it has no resolution of its
-- own: its flags are never used.
--   is_tested l i s                 symbol i is tested
--   first_tested_failing l t i ss   the number of the first tested symbol that fails, counted from i on
--   takes_block_word l s           the slot is in the block of slots that RELR relocates
--   is_plain s                     the symbol has neither slots nor a stub
--   agrees_in_all l s              the symbol passes each test
use Rattle.std.specs.Prelude.{ℕ, ◌+◌, ◌==◌, Bool, true, not, ◌&&◌, ◌||◌, if◌then◌else◌, List, [], ◌∷◌, Option, Some, None, is_some}
use Rattle.wild_types.specs.declared.symbol.Resolution.{Resolution}
use Rattle.wild_types.specs.declared.symbol.Symbol.{Symbol}
use Rattle.wild_types.specs.declared.layout.Layout.{Layout}
use Rattle.wild_types.specs.FilePlaces.{bool_eq}
use Rattle.wild_types.specs.SymbolSlots.{got_of, plt_of, has_dynamic_symbol, has_thread_slot}
use Rattle.wild_types.specs.Flags.{has_flag, interposable, has_link_time_address, absolute, dynamic, ifunc, got_slot, copy_relocation, canonical_plt, ifunc_got_for_address, canonical_plt_got_for_address}
use Rattle.wild_types.specs.Kinds.{is_position_independent}
use Rattle.wild_types.specs.Lookups.{canonical}

-- ---- which symbols are tested

abbrev pub is_tested : Layout → ℕ → Symbol → Bool
is_tested l i s = canonical l i == i || is_some s.resolution

abbrev pub first_tested_failing : Layout → (Symbol → Bool) → ℕ → List Symbol → Option ℕ
first_tested_failing l test i [] = None
first_tested_failing l test i (s ∷ ss) = if is_tested l i s && not (test s) then Some i else first_tested_failing l test (i + 1) ss

-- ---- the tests, in their order

-- a symbol of another module is interposable
abbrev pub dynamic_is_interposable : Symbol → Bool
dynamic_is_interposable s = not (has_flag s.flags dynamic) || interposable s.flags

abbrev pub is_value : Option Resolution → Bool
is_value None = true
is_value (Some r) = holds r.plt_address
  where
    holds : Option ℕ → Bool
    holds None = true
    holds (Some stub) = r.raw_value == stub

-- the stub of another module's symbol that is not copied is its canonical address
abbrev pub stub_is_value : Symbol → Bool
stub_is_value s = not (has_flag s.flags dynamic) || (has_flag s.flags copy_relocation || is_value s.resolution)

-- a stub has a slot, whose content is its target
abbrev pub stub_has_slot : Symbol → Bool
stub_has_slot s = not (is_some (plt_of s)) || is_some (got_of s)

-- at most one second slot
abbrev pub one_slot_for_address : Symbol → Bool
one_slot_for_address s = not (has_flag s.flags ifunc_got_for_address) || not (has_flag s.flags canonical_plt_got_for_address)

-- a symbol with a slot for thread-local data is no function
abbrev pub thread_slot_alone : Symbol → Bool
thread_slot_alone s = not (has_thread_slot s.flags) || (not (has_flag s.flags ifunc) && not (is_some (plt_of s)))

-- a resolver is the output's own symbol
abbrev pub resolver_is_own : Symbol → Bool
resolver_is_own s = not (has_flag s.flags ifunc) || not (has_flag s.flags dynamic)

-- there is a slot exactly if a flag says which kind: one for an address, or one or more for thread-local data
abbrev pub slot_agrees : Symbol → Bool
slot_agrees s = bool_eq (is_some (got_of s)) (has_flag s.flags got_slot || has_thread_slot s.flags) && (not (has_flag s.flags got_slot) || not (has_thread_slot s.flags))

-- a resolver is in the image and moves with its base
abbrev pub resolver_moves : Symbol → Bool
resolver_moves s = not (has_flag s.flags ifunc) || not (has_flag s.flags absolute)

-- the slot contains an address that RELR relocates; it is in the block of such slots
abbrev pub takes_block_word : Layout → Symbol → Bool
takes_block_word l s =
    is_some (got_of s) && (not (has_thread_slot s.flags) && (not (has_flag s.flags canonical_plt) && (not (has_dynamic_symbol s.flags) && (not (has_flag s.flags ifunc) && (l.options.relr && (is_position_independent l.kind && has_link_time_address s.flags))))))

-- a second slot directly follows the first, so the first is not in the block
abbrev pub second_slot_fits : Layout → Symbol → Bool
second_slot_fits l s = (not (has_flag s.flags ifunc_got_for_address) && not (has_flag s.flags canonical_plt_got_for_address)) || not (takes_block_word l s)

-- neither slots nor stub, and no flag that requires one
abbrev pub is_plain : Symbol → Bool
is_plain s =
    not (has_flag s.flags dynamic) && (not (has_flag s.flags ifunc) && (not (has_flag s.flags got_slot) && (not (has_thread_slot s.flags) && (not (has_flag s.flags ifunc_got_for_address) && (not (has_flag s.flags canonical_plt_got_for_address) && (not (is_some (got_of s)) && not (is_some (plt_of s))))))))

-- ---- all tests at once

abbrev pub agrees_in_all : Layout → Symbol → Bool
agrees_in_all l s =
    dynamic_is_interposable s && (stub_is_value s && (stub_has_slot s && (one_slot_for_address s && (thread_slot_alone s && (resolver_is_own s && (slot_agrees s && (resolver_moves s && second_slot_fits l s)))))))
