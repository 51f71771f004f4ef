-- Stubs jump to their slots.
use Rattle.std.proofs.Common.{◌≡◌, ℕ, ◌+◌, ◌-◌, ◌*◌, ◌/◌, ◌%◌, ◌^◌, ◌<◌, true, refl, arith}
use Rattle.std.proofs.lemmas.Bool.Decides.{nat_tests}
use Rattle.wild_words.specs.Words.{word, number, place}
use Rattle.wild_reloc.specs.Range.{of_bits, contains}
use Rattle.wild_reloc.specs.declared.range.Sign.TheVariants.{Signed}
use Rattle.wild_loader.specs.Instruction.{signed_32, sum_64}
use Rattle.wild_loader.specs.InstructionX86_64.{meaning_x86_64}
use Rattle.wild_slot.specs.Stub.{displacement_x86_64}
use Rattle.wild_relax.specs.Laws.{StubsJump}

-- a displacement of 32 bits is read back
pub read_back : (d : ℕ) → d < 2 ^ 64 → contains (of_bits 32 Signed) d ≡ true → signed_32 (d % 256 + 256 * (d / 256 % 256 + 256 * (d / 256 / 256 % 256 + 256 * (d / 256 / 256 / 256 % 256 + 256 * 0)))) ≡ d
read_back d h range =
    let e : d % 256 + 256 * (d / 256 % 256 + 256 * (d / 256 / 256 % 256 + 256 * (d / 256 / 256 / 256 % 256 + 256 * 0))) ≡ d % 2 ^ 32 = omega arith in
    rw e (grind (arith, nat_tests))

pub lands : (base slot stub d : ℕ) → d ≡ (slot + (2 ^ 64 - (stub + 11) % 2 ^ 64)) % 2 ^ 64 → sum_64 (base + stub + 11) d ≡ (base + slot) % 2 ^ 64
lands base slot stub d e = omega arith

pub stubs_jump : StubsJump
unfolding meaning_x86_64 word number place
stubs_jump base slot stub hs hb range =
    let d = displacement_x86_64 slot stub in
    let r = read_back d (omega arith) range in
    rw (r, lands base slot stub d refl) refl
