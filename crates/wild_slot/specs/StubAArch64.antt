-- Stubs of AArch64: code that jumps to the address in a slot ("ELF for the Arm 64-bit Architecture", "Program Linkage Table"; Arm
-- Architecture Reference Manual, C6.2).
--   spelled ws                   instruction words as bytes
--   stub_aarch64 slot stub bti   the stub at address stub for the slot at address slot; with bti it begins with a landing pad
use Rattle.std.specs.Prelude.{ℕ, ◌+◌, ◌-◌, ◌*◌, ◌/◌, ◌%◌, ◌^◌, Bool, ◌&&◌, nat_le, nat_lt, if◌then◌else◌, List, [], ◌∷◌, ◌++◌}
use Rattle.std.specs.List.{flat_map}
use Rattle.wild_words.specs.Words.{word}
use Rattle.wild_reloc.specs.Immediate.{word_with_immediate}
use Rattle.wild_reloc.specs.declared.instruction.AArch64Instruction.TheVariants.{Adr, Imm12}
use Rattle.wild_slot.specs.Stub.{Stub}

-- instruction words as bytes, four each, little-endian
abbrev pub spelled : List ℕ → List ℕ
spelled ws = flat_map (word 4) ws

-- the first byte of the page of 4096 bytes that contains an address
abbrev pub page_of : ℕ → ℕ
page_of a = a / 4096 * 4096

-- s - p, modulo 2^64
abbrev pub distance_from : ℕ → ℕ → ℕ
distance_from p s = (s + (2 ^ 64 - p)) % 2 ^ 64

-- `adrp x16; ldr x17, [x16]; br x17`, for a slot k bytes after the start of the page of `adrp`
abbrev pub jump_to_slot : ℕ → List ℕ
jump_to_slot k = word_with_immediate Adr (k / 4096) 0x90000010 ∷ word_with_immediate Imm12 (k % 4096 / 8) 0xf9400211 ∷ 0xd61f0220 ∷ []

-- followed by `nop`, or after `bti c`
abbrev pub stub_words : Bool → ℕ → List ℕ
stub_words bti k = if bti then 0xd503245f ∷ jump_to_slot k else jump_to_slot k ++ (0xd503201f ∷ [])

-- the page from which the slot is counted is that of `adrp`, which follows the landing pad
abbrev pub stub_page : ℕ → Bool → ℕ
stub_page stub bti = page_of (if bti then (stub + 4) % 2 ^ 64 else stub)

-- the slot must be at or after that page, less than 2^32 bytes from it
abbrev pub stub_aarch64 : (slot stub : ℕ) → (bti : Bool) → Stub
stub_aarch64 slot stub bti = record {
  distance = distance_from (stub_page stub bti) slot;
  reaches = nat_le (stub_page stub bti) slot && nat_lt slot (stub_page stub bti + 2 ^ 32);
  bytes = spelled (stub_words bti (slot - stub_page stub bti));
}
