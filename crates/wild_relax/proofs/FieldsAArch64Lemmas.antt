-- The fields of AArch64's instructions agree.
use Rattle.std.proofs.Common.{◌≡◌, ℕ, ◌/◌, ◌%◌, ◌^◌, ◌<◌, refl, ap, ◌∙◌, arith}
use Rattle.wild_words.specs.Words.{word, number}
use Rattle.wild_reloc.specs.Immediate.{insert_bits, word_with_immediate}
use Rattle.wild_reloc.specs.TableAArch64.{static_row, thread_row}
use Rattle.wild_reloc.specs.declared.instruction.AArch64Instruction.{AArch64Instruction}
use Rattle.wild_reloc.specs.declared.instruction.AArch64Instruction.TheVariants.{Adr, Imm12, Imm14, Imm16, Imm19, Imm26}
use Rattle.wild_aarch64.specs.Immediate as judge
use Rattle.wild_aarch64.specs.Machine.{page}
use Rattle.wild_aarch64.specs.Row.{Kept, HighOffset, LowOffset, SlotPage, SlotLow, Distance, distance}
use Rattle.wild_relax.specs.FieldsAArch64.{field_of, FieldsAgree, TypesHaveForms, PartsAreFields}

pub fields_agree : FieldsAgree
unfolding insert_bits judge.insert_bits
fields_agree Adr bits w = refl
fields_agree Imm12 bits w = refl
fields_agree Imm14 bits w = refl
fields_agree Imm16 bits w = refl
fields_agree Imm19 bits w = refl
fields_agree Imm26 bits w = refl

pub types_have_forms : TypesHaveForms
types_have_forms = refl

pub read_back : (w : ℕ) → w < 2 ^ 32 → number (word 4 w) ≡ w
unfolding word number
read_back w h = omega arith

-- a field that is written into a word's bytes
into_word : (i : AArch64Instruction) (bits cut w : ℕ) → bits ≡ cut → w < 2 ^ 32 → word 4 (word_with_immediate i bits (number (word 4 w))) ≡ word 4 (judge.word_with_immediate (field_of i) cut w)
into_word i bits cut w e h =
    ap (λ (u : ℕ). word 4 (word_with_immediate i bits u)) (read_back w h) ∙ (ap (λ (u : ℕ). word 4 u) (fields_agree i bits w) ∙ ap (λ (b : ℕ). word 4 (judge.word_with_immediate (field_of i) b w)) e)

pub parts_are_fields : PartsAreFields
unfolding static_row thread_row
parts_are_fields Kept a x w h = refl
parts_are_fields HighOffset a x w h = into_word Imm16 (x % 2 ^ 32 / 2 ^ 16) (x % 2 ^ 32 / 2 ^ 16) w refl h
parts_are_fields LowOffset a x w h = into_word Imm16 (x % 2 ^ 16 / 2 ^ 0) (x % 2 ^ 16) w (omega arith) h
parts_are_fields SlotPage a x w h = into_word Adr (distance (page a) (page x) % 2 ^ 33 / 2 ^ 12) (distance (page a) (page x) % 2 ^ 33 / 2 ^ 12) w refl h
parts_are_fields SlotLow a x w h = into_word Imm12 (x % 2 ^ 12 / 2 ^ 3) (x % 2 ^ 12 / 2 ^ 3) w refl h
parts_are_fields Distance a x w h = into_word Adr (distance a x % 2 ^ 21 / 2 ^ 0) (distance a x % 2 ^ 21) w (omega arith) h
