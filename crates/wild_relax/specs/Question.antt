-- The properties of a relocation on which rewrite rows depend.
--   Question          the relocations of a section, one of them, and the properties of its symbol, section and output
--   relocation_of q   the relocation in question
--   next_of q         the relocation after it
--   is_known q        the symbol's value is known at link time
--   is_own q          the symbol is not interposable: this output's definition is used
use Rattle.std.specs.Prelude.{ℕ, ℤ, pos, negsuc, ◌+◌, ◌==◌, Bool, false, not, ◌&&◌, ◌||◌, List, Option, None, slice_get, slice_index_or}
use Rattle.wild_types.specs.declared.kind.OutputKind.{OutputKind}
use Rattle.wild_types.specs.declared.symbol.ValueFlags.{ValueFlags}
use Rattle.wild_types.specs.Kinds.{has_fixed_load_address}
use Rattle.wild_types.specs.Flags.{has_flag, interposable, has_link_time_address, absolute}
use Rattle.wild_relax.specs.declared.reference.RelocationInfo.{RelocationInfo}
use Rattle.wild_relax.specs.declared.reference.Reference.{Reference}

-- the section's relocations and the index of the one in question; the section's bytes, flags (`sh_flags`) and address; the
-- symbol's flags and its value, if it has one; the kind of output, and whether rewriting is on
pub record Question : Type 0 where
  pub relocations : List RelocationInfo
  pub at : ℕ
  pub bytes : List ℕ
  pub flags : ValueFlags
  pub kind : OutputKind
  pub section_flags : ℕ
  pub relax : Bool
  pub value : Option ℕ
  pub address : ℕ

abbrev pub question : Reference → Question
question r = record {
  relocations = r.relocations.now;
  at = r.at;
  bytes = r.bytes.now;
  flags = r.flags;
  kind = r.kind;
  section_flags = r.section_flags;
  relax = r.relax;
  value = r.value;
  address = r.address;
}

-- a relocation that does nothing
abbrev pub no_relocation : RelocationInfo
no_relocation = record { number = 0; offset = 0; symbol = None; addend = pos 0; names_tls_get_addr = false }

-- relocation i; if there is none, a relocation that does nothing
abbrev pub entry_at : List RelocationInfo → ℕ → RelocationInfo
entry_at relocations i = slice_index_or relocations i no_relocation

abbrev pub relocation_of : Question → RelocationInfo
relocation_of q = entry_at q.relocations q.at

abbrev pub next_of : Question → Option RelocationInfo
next_of q = slice_get q.relocations (q.at + 1)

-- the value does not depend on the base, or the output has a fixed base
abbrev pub is_known : Question → Bool
is_known q = has_flag q.flags absolute || has_link_time_address q.flags && has_fixed_load_address q.kind

abbrev pub is_own : Question → Bool
is_own q = not (interposable q.flags)

-- the addend -4 of a four-byte field at the end of its instruction, because distances are relative to the instruction's end
unfoldable pub minus_four : ℤ → Bool
minus_four (pos n) = false
minus_four (negsuc n) = n == 3

unfoldable pub zero : ℤ → Bool
zero (pos n) = n == 0
zero (negsuc n) = false
