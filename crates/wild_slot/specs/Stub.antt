-- Stubs: code that jumps to the address in a slot (x86-64 psABI, "Procedure Linkage Table").
--   Stub                    the distance to the slot, whether it is within the stub's range, and the stub's bytes
--   stub_x86_64 slot stub   the stub at address stub for the slot at address slot
use Rattle.std.specs.Prelude.{ℕ, ◌+◌, ◌-◌, ◌%◌, ◌^◌, Bool, List, [], ◌∷◌}
use Rattle.wild_words.specs.Words.{word, place}
use Rattle.wild_reloc.specs.Range.{of_bits, contains}
use Rattle.wild_reloc.specs.declared.range.Sign.TheVariants.{Signed}

-- the distance to the slot, whether it is within the stub's range, and the stub's bytes
pub record Stub : Type 0 where
  pub distance : ℕ
  pub reaches : Bool
  pub bytes : List ℕ

-- `endbr64`, `bnd jmp [rip + displacement]`, `nop`, with displacement 0
abbrev pub stub_template : List ℕ
stub_template = 0xf3 ∷ 0x0f ∷ 0x1e ∷ 0xfa ∷ 0xf2 ∷ 0xff ∷ 0x25 ∷ 0 ∷ 0 ∷ 0 ∷ 0 ∷ 0x0f ∷ 0x1f ∷ 0x44 ∷ 0 ∷ 0 ∷ []

-- from the end of the jump, 11 bytes after the stub's start, to the slot, modulo 2^64
abbrev pub displacement_x86_64 : (slot stub : ℕ) → ℕ
displacement_x86_64 slot stub = (slot + (2 ^ 64 - (stub + 11) % 2 ^ 64)) % 2 ^ 64

-- the displacement is 7 bytes after the stub's start, and is a signed number of 32 bits
abbrev pub stub_x86_64 : (slot stub : ℕ) → Stub
stub_x86_64 slot stub = record {
  distance = displacement_x86_64 slot stub;
  reaches = contains (of_bits 32 Signed) (displacement_x86_64 slot stub);
  bytes = place 7 (word 4 (displacement_x86_64 slot stub)) stub_template;
}
