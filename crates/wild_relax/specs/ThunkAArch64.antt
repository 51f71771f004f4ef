-- Thunks of AArch64: code near a branch that jumps to a target too far for the branch (Arm Architecture Reference Manual, C6.2).
--   thunk_aarch64 thunk target   the thunk at an address that jumps to a target
--   is_variant other             the symbol's calling convention is not the base standard's
use Rattle.std.specs.Prelude.{ℕ, ◌+◌, ◌/◌, ◌%◌, ◌^◌, ◌==◌, Bool, ◌&&◌, nat_le, nat_lt, List, [], ◌∷◌}
use Rattle.wild_reloc.specs.Immediate.{word_with_immediate}
use Rattle.wild_reloc.specs.declared.instruction.AArch64Instruction.TheVariants.{Adr, Imm12}
use Rattle.wild_slot.specs.StubAArch64.{spelled, page_of, distance_from}

-- the distance between the pages, whether a thunk can encode it, and the thunk's bytes
pub record Thunk : Type 0 where
  pub distance : ℕ
  pub reaches : Bool
  pub bytes : List ℕ

-- `adrp x16; add x16, x16; br x16`, with the low 21 bits of the distance in pages
abbrev pub thunk_words : ℕ → ℕ → List ℕ
thunk_words k target = word_with_immediate Adr (k / 4096 % 2 ^ 21) 0x90000010 ∷ word_with_immediate Imm12 (target % 4096) 0x91000210 ∷ 0xd61f0200 ∷ []

-- the distance between the pages is less than 2^20 pages forwards, or at most 2^20 backwards
abbrev pub thunk_aarch64 : (thunk target : ℕ) → Thunk
thunk_aarch64 thunk target = record {
  distance = distance_from (page_of thunk) (page_of target);
  reaches = nat_le (thunk / 4096) (target / 4096 + 2 ^ 20) && nat_lt (target / 4096) (thunk / 4096 + 2 ^ 20);
  bytes = spelled (thunk_words (distance_from (page_of thunk) (page_of target)) target);
}

-- the bit of st_other ("ELF for the Arm 64-bit Architecture", "Symbol Table", STO_AARCH64_VARIANT_PCS)
abbrev pub is_variant : ℕ → Bool
is_variant other = other / 128 % 2 == 1
