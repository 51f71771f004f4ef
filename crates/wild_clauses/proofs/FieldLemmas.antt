-- No field has more than eight bytes.
use Rattle.std.proofs.Common.{◌≡◌, ℕ, ◌+◌, ◌≤◌, ◌==◌, nat_le, true, Option, Some, None, arith, refl, ap, ◌∙◌}
use Rattle.std.proofs.lemmas.Bool.{le-leb, or_right}
use Rattle.wild_reloc.specs.Field.{byte_count, size_width}
use Rattle.wild_reloc.specs.declared.info.Width.{Width}
use Rattle.wild_reloc.specs.declared.info.Width.TheVariants.{Zero, One, Two, Four, Eight}
use Rattle.wild_reloc.specs.declared.info.RelocationSize.{RelocationSize}
use Rattle.wild_reloc.specs.declared.info.RelocationSize.TheVariants.{ByteSize, BitMasking}
use Rattle.wild_reloc.specs.declared.info.RelocationKindInfo.{RelocationKindInfo}
use Rattle.wild_records.specs.Abi.Relocation.{r_x86_64_pc32}
use Rattle.wild_reloc.specs.TableX86_64.{x86_64_row}
use Rattle.wild_types.specs.declared.kind.Machine.{Machine}
use Rattle.wild_types.specs.declared.kind.Machine.TheVariants.{X86_64}
use Rattle.wild_types.specs.declared.input.InputRelocation.{InputRelocation}
use Rattle.wild_types.specs.declared.input.InputSection.{InputSection}
use Rattle.wild_types.specs.Rows.{row_of, row_width, field_bytes}
use Rattle.wild_plan_rules.specs.Contents.{field_lies}

byte_count-most : (w : Width) → byte_count w ≤ 8
byte_count-most Zero = omega arith
byte_count-most One = omega arith
byte_count-most Two = omega arith
byte_count-most Four = omega arith
byte_count-most Eight = omega arith

size_width-most : (z : RelocationSize) → size_width z ≤ 8
size_width-most (ByteSize w) = byte_count-most w
size_width-most (BitMasking m) = omega arith

row_width-most : (o : Option RelocationKindInfo) → row_width o ≤ 8
row_width-most None = omega arith
row_width-most (Some row) = size_width-most row.size

-- where eight bytes lie in the section the field does
pub field_lies_early : (m : Machine) (s : InputSection) (r : InputRelocation) → r.offset + 8 ≤ s.size → field_lies m s r ≡ true
field_lies_early m s r h =
    let most = row_width-most (row_of m r.number) in
    or_right (field_bytes m r.number == 0) (nat_le (r.offset + field_bytes m r.number) s.size) (le-leb (r.offset + field_bytes m r.number) s.size (omega arith))

four_bytes : 4 ≡ field_bytes X86_64 r_x86_64_pc32
unfolding row_of x86_64_row
four_bytes = refl

-- the field of the most common type has four
pub common_field : (m : Machine) (n : ℕ) → X86_64 ≡ m → r_x86_64_pc32 ≡ n → 4 ≡ field_bytes m n
common_field m n a b = four_bytes ∙ ap (λ (x : Machine). field_bytes x r_x86_64_pc32) a ∙ ap (field_bytes m) b
