-- The conditions of rewrite rows on the symbol and the output (x86-64 psABI, "Linker Optimization").
--   takes_value test q     the value passes the test
--   takes_symbol test q    the symbol passes the test
--   is_mandatory duty q    the row is applied even if rewriting is off
use Rattle.std.specs.Prelude.{ℕ, ◌+◌, ◌-◌, ◌%◌, ◌^◌, ◌==◌, Bool, true, false, not, ◌&&◌, ◌||◌, Option, Some, None}
use Rattle.wild_types.specs.Kinds.{has_fixed_load_address, is_static_executable, is_position_independent}
use Rattle.wild_types.specs.Flags.{has_flag, has_link_time_address, absolute, ifunc, undefined_weak}
use Rattle.wild_reloc.specs.Range.{of_bits, contains}
use Rattle.wild_reloc.specs.declared.range.Sign.{Sign}
use Rattle.wild_reloc.specs.declared.range.Sign.TheVariants.{Unsigned, Signed}
use Rattle.wild_relax.specs.declared.row.SymbolTest.{SymbolTest}
use Rattle.wild_relax.specs.declared.row.SymbolTest.TheVariants as symbol
use Rattle.wild_relax.specs.declared.row.ValueTest.{ValueTest}
use Rattle.wild_relax.specs.declared.row.ValueTest.TheVariants as value
use Rattle.wild_relax.specs.declared.row.Duty.{Duty}
use Rattle.wild_relax.specs.declared.row.Duty.TheVariants as duty
use Rattle.wild_relax.specs.Question.{Question, relocation_of, is_known, is_own}

-- a field of 32 bits can hold the value
abbrev pub is_in_32 : Sign → Option ℕ → Bool
is_in_32 sign None = false
is_in_32 sign (Some v) = contains (of_bits 32 sign) v

-- such a value that is known at link time
abbrev pub is_held : Sign → Question → Bool
is_held sign q = is_known q && is_in_32 sign q.value

-- the distance from a place to the value is less than 2^20 forwards, or at most 2^20 backwards (Arm Architecture Reference
-- Manual, C6.2, "ADR"); 0 is no address
abbrev pub is_in_reach : ℕ → Option ℕ → Bool
is_in_reach place None = false
is_in_reach place (Some v) = not (v == 0) && contains (of_bits 21 Signed) ((v + (2 ^ 64 - place)) % 2 ^ 64)

-- from a place that many bytes after the relocation
abbrev pub is_near : ℕ → Question → Bool
is_near behind q = is_in_reach ((q.address + (relocation_of q).offset + behind) % 2 ^ 64) q.value

-- the row accepts the symbol's value in that output
abbrev pub takes_value : ValueTest → Question → Bool
takes_value value.Any q = true
takes_value value.Own q = is_own q
takes_value value.OwnSigned q = is_own q && is_held Signed q
takes_value value.OwnUnsigned q = is_own q && is_held Unsigned q
takes_value value.OwnMoving q = is_own q && not (is_known q)
takes_value value.OwnFixed q = is_own q && (has_link_time_address q.flags || has_fixed_load_address q.kind)
takes_value (value.OwnNear behind) q = is_own q && has_link_time_address q.flags && not (has_flag q.flags undefined_weak) && is_near behind q
takes_value value.Interposable q = not (is_own q)

-- the value of an IFUNC comes from a call at run time, so rows of other symbols do not write it
abbrev pub takes_symbol : SymbolTest → Question → Bool
takes_symbol symbol.Ifunc q = has_flag q.flags ifunc
takes_symbol symbol.Plain q = not (has_flag q.flags ifunc)
takes_symbol symbol.UndefinedWeak q = not (has_flag q.flags ifunc) && has_flag q.flags undefined_weak
takes_symbol symbol.Any q = true

-- applied even if rewriting is off, because no loader fills the slot or there is no slot
abbrev pub is_mandatory : Duty → Question → Bool
is_mandatory duty.Never q = false
is_mandatory duty.Static q = is_static_executable q.kind
is_mandatory duty.StaticAbsolute q = is_static_executable q.kind && has_flag q.flags absolute
is_mandatory duty.StaticMovable q = is_static_executable q.kind && is_position_independent q.kind
is_mandatory duty.Always q = true
