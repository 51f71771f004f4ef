-- What each rewrite writes does what is demanded, over explicit bytes.
use Rattle.std.proofs.Common.{◌≡◌, ℕ, ◌+◌, ◌-◌, true, List, [], ◌∷◌, refl, ⊎_elim}
use Rattle.std.specs.Prelude.{◌⊎◌, ◌==◌, bit_and, slice_range}
use Rattle.wild_words.specs.Words.{word, number, place}
use Rattle.wild_loader.specs.Instruction.{Reader, signed_32, sum_64}
use Rattle.wild_loader.specs.InstructionX86_64.{meaning_x86_64, effect_x86_64, demand_x86_64}
use Rattle.wild_relax.specs.declared.pattern.Prefix.TheVariants.{Rex, Rex2}
use Rattle.wild_relax.specs.declared.pattern.Operation.TheVariants as operation
use Rattle.wild_relax.specs.declared.pattern.Pattern.{Pattern}
use Rattle.wild_relax.specs.declared.pattern.Pattern.TheVariants as pattern
use Rattle.wild_relax.specs.declared.row.Made.{Made}
use Rattle.wild_relax.specs.declared.row.Made.TheVariants as made
use Rattle.wild_relax.specs.Pattern.{field_of}
use Rattle.wild_relax.specs.RewriteX86_64.{change_of, made_bytes}
use Rattle.wild_relax.specs.KeepX86_64.{ReadsNumbers}

-- the bytes of the pattern with those of the field
abbrev pub placed : Pattern → Made → List ℕ → List ℕ → List ℕ
placed p m bytes old =
    let start = field_of p - (change_of m).back in
    place (start + (change_of m).field) bytes (place start (made_bytes m (slice_range old start (start + (change_of m).size))) old)

abbrev pub SlotByte : ℕ → Type 0
SlotByte m = (bit_and m 0xc7 == 5) ≡ true

abbrev pub IsWide : ℕ → Type 0
IsWide p = (p ≡ 0x48) ⊎ (p ≡ 0x4c)

-- the field is read back
abbrev pub Back : ℕ → Type 0
Back value = signed_32 (number (word 4 value)) ≡ value

abbrev pub Same : Pattern → Made → Reader → ℕ → ℕ → ℕ → List ℕ → Type 0
Same p m read a v value old = effect_x86_64 read a (placed p m (word 4 value) old) ≡ demand_x86_64 v a old

-- ---- distances

pub lea_bare : (read : Reader) (a v value m x0 x1 x2 x3 : ℕ) → SlotByte m → ReadsNumbers read → Back value → sum_64 (a + 6) value ≡ v → Same pattern.Mov made.Lea read a v value (0x8b ∷ m ∷ x0 ∷ x1 ∷ x2 ∷ x3 ∷ [])
unfolding meaning_x86_64 word number place
lea_bare read a v value m x0 x1 x2 x3 slot numbers back land = rw (slot, back, land, numbers v) refl

pub call_direct : (read : Reader) (a v value x0 x1 x2 x3 : ℕ) → ReadsNumbers read → Back value → sum_64 (a + 6) value ≡ v → Same pattern.Call made.DirectCall read a v value (0xff ∷ 0x15 ∷ x0 ∷ x1 ∷ x2 ∷ x3 ∷ [])
unfolding meaning_x86_64 word number place
call_direct read a v value x0 x1 x2 x3 numbers back land = rw (back, land, numbers v) refl

pub jump_direct : (read : Reader) (a v value x0 x1 x2 x3 : ℕ) → ReadsNumbers read → Back value → sum_64 (a + 5) value ≡ v → Same pattern.Jump made.DirectJump read a v value (0xff ∷ 0x25 ∷ x0 ∷ x1 ∷ x2 ∷ x3 ∷ [])
unfolding meaning_x86_64 word number place
jump_direct read a v value x0 x1 x2 x3 numbers back land = rw (back, land, numbers v) refl

pub lea_rex : (read : Reader) (a v value p m x0 x1 x2 x3 : ℕ) → IsWide p → SlotByte m → ReadsNumbers read → Back value → sum_64 (a + 7) value ≡ v → Same (pattern.Wide Rex operation.Mov) made.Lea read a v value (p ∷ 0x8b ∷ m ∷ x0 ∷ x1 ∷ x2 ∷ x3 ∷ [])
unfolding meaning_x86_64 word number place
lea_rex read a v value p m x0 x1 x2 x3 wide slot numbers back land =
    ⊎_elim (λ e. rw e (rw (slot, back, land, numbers v) refl)) (λ e. rw e (rw (slot, back, land, numbers v) refl)) wide

pub lea_rex2 : (read : Reader) (a v value p m x0 x1 x2 x3 : ℕ) → IsWide p → SlotByte m → ReadsNumbers read → Back value → sum_64 (a + 8) value ≡ v → Same (pattern.Wide Rex2 operation.Mov) made.Lea read a v value (0xd5 ∷ p ∷ 0x8b ∷ m ∷ x0 ∷ x1 ∷ x2 ∷ x3 ∷ [])
unfolding meaning_x86_64 word number place
lea_rex2 read a v value p m x0 x1 x2 x3 wide slot numbers back land =
    ⊎_elim (λ e. rw e (rw (slot, back, land, numbers v) refl)) (λ e. rw e (rw (slot, back, land, numbers v) refl)) wide
