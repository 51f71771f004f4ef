-- The filling of padding bytes in a section.
--   code_filling m    four bytes between sections of code
--   filling m flags   four bytes for a section with those flags (sh_flags)
--   repeated_bytes bs n     four bytes repeated, n bytes in all
use Rattle.std.specs.Prelude.{ℕ, ◌%◌, if◌then◌else◌, List, [], ◌∷◌, map, slice_index}
use Rattle.std.specs.List.{range_with_len}
use Rattle.wild_types.specs.declared.kind.Machine.{Machine}
use Rattle.wild_types.specs.declared.kind.Machine.TheVariants.{X86_64, AArch64}
use Rattle.wild_types.specs.Lookups.{executable}

-- `int3` ("Intel 64 and IA-32 Architectures Software Developer's Manual", volume 2, "INT n/INTO/INT3/INT1"); `nop` (Arm
-- Architecture Reference Manual, C6.2)
abbrev pub code_filling : Machine → List ℕ
code_filling X86_64 = 0xcc ∷ 0xcc ∷ 0xcc ∷ 0xcc ∷ []
code_filling AArch64 = 0x1f ∷ 0x20 ∷ 0x03 ∷ 0xd5 ∷ []

-- zeros if the section has no code
abbrev pub filling : Machine → (flags : ℕ) → List ℕ
filling m flags = if executable flags then code_filling m else 0 ∷ 0 ∷ 0 ∷ 0 ∷ []

-- the byte at an offset in the repeated bytes
abbrev pub repeated_byte : List ℕ → ℕ → ℕ
repeated_byte bs k = slice_index bs (k % 4)

-- cut at the end
abbrev pub repeated_bytes : List ℕ → ℕ → List ℕ
repeated_bytes bs n = map (repeated_byte bs) (range_with_len 0 n)
