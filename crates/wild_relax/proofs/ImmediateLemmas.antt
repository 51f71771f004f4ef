-- Immediates in place of slots do what is demanded, over explicit bytes.
use Rattle.std.proofs.Common.{◌≡◌, ℕ, ◌+◌, ◌*◌, ◌/◌, ◌%◌, ◌^◌, [], ◌∷◌, refl, arith, ⊎_elim}
use Rattle.std.specs.Prelude.{Some, ◌⊎◌}
use Rattle.std.proofs.lemmas.Bool.Decides.{nat_tests}
use Rattle.wild_words.specs.Words.{word, number, place}
use Rattle.wild_loader.specs.declared.instruction.Operand.TheVariants.{Word}
use Rattle.wild_loader.specs.Instruction.{Reader, signed_32, sum_64}
use Rattle.wild_loader.specs.InstructionX86_64.{meaning_x86_64}
use Rattle.wild_relax.specs.declared.pattern.Prefix.TheVariants.{Rex, Rex2}
use Rattle.wild_relax.specs.declared.pattern.Operation.{Operation}
use Rattle.wild_relax.specs.declared.pattern.Operation.TheVariants as operation
use Rattle.wild_relax.specs.declared.pattern.Pattern.TheVariants as pattern
use Rattle.wild_relax.specs.declared.row.Made.TheVariants as made
use Rattle.wild_relax.specs.Pattern.{opcode}
use Rattle.wild_relax.specs.KeepX86_64.{ReadsNumbers}
use Rattle.wild_relax.proofs.KeepLemmas.{SlotByte, IsWide, Back, Same}

-- ModRM has the digit and the register
digit : (d m : ℕ) → (0xc0 + 8 * d + m / 8 % 8) / 8 ≡ 24 + d
digit d m = omega arith

register : (d m : ℕ) → (0xc0 + 8 * d + m / 8 % 8) % 8 ≡ m / 8 % 8
register d m = omega arith

pub rex_immediate : (o : Operation) (read : Reader) (a value p m x0 x1 x2 x3 : ℕ) → IsWide p → SlotByte m → ReadsNumbers read → Back value → Same (pattern.Wide Rex o) (made.Immediate Rex o) read a value value (p ∷ opcode o ∷ m ∷ x0 ∷ x1 ∷ x2 ∷ x3 ∷ [])
unfolding meaning_x86_64 word number place
rex_immediate operation.Mov read a value p m x0 x1 x2 x3 wide slot numbers back =
    ⊎_elim (λ e. rw e (rw (slot, digit 0 m, register 0 m, back, numbers value) refl)) (λ e. rw e (rw (slot, digit 0 m, register 0 m, back, numbers value) refl)) wide
rex_immediate operation.Sub read a value p m x0 x1 x2 x3 wide slot numbers back =
    ⊎_elim (λ e. rw e (rw (slot, digit 5 m, register 5 m, back, numbers value) refl)) (λ e. rw e (rw (slot, digit 5 m, register 5 m, back, numbers value) refl)) wide
rex_immediate operation.Cmp read a value p m x0 x1 x2 x3 wide slot numbers back =
    ⊎_elim (λ e. rw e (rw (slot, digit 7 m, register 7 m, back, numbers value) refl)) (λ e. rw e (rw (slot, digit 7 m, register 7 m, back, numbers value) refl)) wide
rex_immediate operation.Add read a value p m x0 x1 x2 x3 wide slot numbers back =
    ⊎_elim (λ e. rw e (rw (slot, digit 0 m, register 0 m, back, numbers value) refl)) (λ e. rw e (rw (slot, digit 0 m, register 0 m, back, numbers value) refl)) wide

pub rex2_immediate : (o : Operation) (read : Reader) (a value p m x0 x1 x2 x3 : ℕ) → IsWide p → SlotByte m → ReadsNumbers read → Back value → Same (pattern.Wide Rex2 o) (made.Immediate Rex2 o) read a value value (0xd5 ∷ p ∷ opcode o ∷ m ∷ x0 ∷ x1 ∷ x2 ∷ x3 ∷ [])
unfolding meaning_x86_64 word number place
rex2_immediate operation.Mov read a value p m x0 x1 x2 x3 wide slot numbers back =
    ⊎_elim (λ e. rw e (rw (slot, digit 0 m, register 0 m, back, numbers value) refl)) (λ e. rw e (rw (slot, digit 0 m, register 0 m, back, numbers value) refl)) wide
rex2_immediate operation.Sub read a value p m x0 x1 x2 x3 wide slot numbers back =
    ⊎_elim (λ e. rw e (rw (slot, digit 5 m, register 5 m, back, numbers value) refl)) (λ e. rw e (rw (slot, digit 5 m, register 5 m, back, numbers value) refl)) wide
rex2_immediate operation.Cmp read a value p m x0 x1 x2 x3 wide slot numbers back =
    ⊎_elim (λ e. rw e (rw (slot, digit 7 m, register 7 m, back, numbers value) refl)) (λ e. rw e (rw (slot, digit 7 m, register 7 m, back, numbers value) refl)) wide
rex2_immediate operation.Add read a value p m x0 x1 x2 x3 wide slot numbers back =
    ⊎_elim (λ e. rw e (rw (slot, digit 0 m, register 0 m, back, numbers value) refl)) (λ e. rw e (rw (slot, digit 0 m, register 0 m, back, numbers value) refl)) wide

-- of 32 bits: whatever sign the number has, the register has its bits
abbrev pub Low : ℕ → Type 0
Low value = signed_32 (number (word 4 value)) % 2 ^ 32 ≡ value % 2 ^ 32

pub low_bits : (value : ℕ) → Low value
unfolding word number
low_bits value =
    let e : value % 256 + 256 * (value / 256 % 256 + 256 * (value / 256 / 256 % 256 + 256 * (value / 256 / 256 / 256 % 256 + 256 * 0))) ≡ value % 2 ^ 32 = omega arith in
    rw e (grind (arith, nat_tests))

pub bare_immediate : (read : Reader) (a value m x0 x1 x2 x3 : ℕ) → SlotByte m → ReadsNumbers read → Low value → Same pattern.Mov made.MovImmediate read a value value (0x8b ∷ m ∷ x0 ∷ x1 ∷ x2 ∷ x3 ∷ [])
unfolding meaning_x86_64 word number place
bare_immediate read a value m x0 x1 x2 x3 slot numbers low =
    rw (slot, digit 0 m, register 0 m, numbers (signed_32 (number (word 4 value))), low) refl

-- ---- descriptors

abbrev pub IsWide2 : ℕ → Type 0
IsWide2 p = ((p ≡ 0x08) ⊎ (p ≡ 0x0c)) ⊎ IsWide p

pub rex_descriptor : (read : Reader) (a value p m x0 x1 x2 x3 : ℕ) → IsWide p → SlotByte m → ReadsNumbers read → Back value → Same (pattern.Lea Rex) (made.Immediate Rex operation.Mov) read a value value (p ∷ 0x8d ∷ m ∷ x0 ∷ x1 ∷ x2 ∷ x3 ∷ [])
unfolding meaning_x86_64 word number place
rex_descriptor read a value p m x0 x1 x2 x3 wide slot numbers back =
    ⊎_elim (λ e. rw e (rw (slot, digit 0 m, register 0 m, back, numbers value) refl)) (λ e. rw e (rw (slot, digit 0 m, register 0 m, back, numbers value) refl)) wide

pub rex2_descriptor : (read : Reader) (a value p m x0 x1 x2 x3 : ℕ) → IsWide2 p → SlotByte m → ReadsNumbers read → Back value → Same (pattern.Lea Rex2) (made.Immediate Rex2 operation.Mov) read a value value (0xd5 ∷ p ∷ 0x8d ∷ m ∷ x0 ∷ x1 ∷ x2 ∷ x3 ∷ [])
unfolding meaning_x86_64 word number place
rex2_descriptor read a value p m x0 x1 x2 x3 wide slot numbers back =
    ⊎_elim
    (⊎_elim (λ e. rw e (rw (slot, digit 0 m, register 0 m, back, numbers value) refl)) (λ e. rw e (rw (slot, digit 0 m, register 0 m, back, numbers value) refl)))
    (⊎_elim (λ e. rw e (rw (slot, digit 0 m, register 0 m, back, numbers value) refl)) (λ e. rw e (rw (slot, digit 0 m, register 0 m, back, numbers value) refl)))
    wide

pub rex_descriptor_slot : (read : Reader) (a v value p m x0 x1 x2 x3 : ℕ) → IsWide p → SlotByte m → Back value → read (Word (sum_64 (a + 7) value)) ≡ Some v → Same (pattern.Lea Rex) made.Load read a v value (p ∷ 0x8d ∷ m ∷ x0 ∷ x1 ∷ x2 ∷ x3 ∷ [])
unfolding meaning_x86_64 word number place
rex_descriptor_slot read a v value p m x0 x1 x2 x3 wide slot back land =
    ⊎_elim (λ e. rw e (rw (slot, back, land) refl)) (λ e. rw e (rw (slot, back, land) refl)) wide

pub rex2_descriptor_slot : (read : Reader) (a v value p m x0 x1 x2 x3 : ℕ) → IsWide2 p → SlotByte m → Back value → read (Word (sum_64 (a + 8) value)) ≡ Some v → Same (pattern.Lea Rex2) made.Load read a v value (0xd5 ∷ p ∷ 0x8d ∷ m ∷ x0 ∷ x1 ∷ x2 ∷ x3 ∷ [])
unfolding meaning_x86_64 word number place
rex2_descriptor_slot read a v value p m x0 x1 x2 x3 wide slot back land =
    ⊎_elim
    (⊎_elim (λ e. rw e (rw (slot, back, land) refl)) (λ e. rw e (rw (slot, back, land) refl)))
    (⊎_elim (λ e. rw e (rw (slot, back, land) refl)) (λ e. rw e (rw (slot, back, land) refl)))
    wide
