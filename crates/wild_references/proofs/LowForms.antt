-- Fields that have bits of an address below its page: what they read as is the same of each number with the same bits there.
use Rattle.wild_references.proofs.Common.{◌≡◌, ℕ, ◌+◌, ◌-◌, ◌/◌, ◌%◌, ◌^◌, inl, inr, Bool, true, false, List, sym, ◌∙◌, arith, subst, ◌==◌, ◌&&◌, ◌||◌, and_parts, or_cases, eqb-true, number, Form, WithinPower, NoField, Plain, Full, Bits, Reads, immediate}
use Rattle.wild_reloc.specs.Formula.{Field, Check, NoCheck, BelowPower, ReadsBits}

abbrev is_unchecked : Check → Bool
is_unchecked NoCheck = true
is_unchecked other = false

abbrev is_few : ℕ → Bool
is_few low = low == 0 || (low == 1 || (low == 2 || (low == 3 || low == 4)))

-- bits 11 to low of a multiple of 2^low
abbrev is_bits : (high low unit : ℕ) → Bool
is_bits high low unit = high == 11 && (unit == 2 ^ low && is_few low)

-- these, unchecked (aaelf64, "Relocation operations": the types of low bits)
abbrev pub is_low : Form → Bool
is_low (Bits field high low check unit) = is_unchecked check && is_bits high low unit
is_low other = false

record AreBits (low : ℕ) : Type 0 where
  same : (v x : ℕ) → v % 4096 ≡ x % 4096 → v / 2 ^ low % 2 ^ (11 + 1 - low) ≡ x / 2 ^ low % 2 ^ (11 + 1 - low)
  whole : (v x : ℕ) → v % 4096 ≡ x % 4096 → v % 2 ^ low ≡ 0 → x % 2 ^ low ≡ 0

few_bits : (low : ℕ) → is_few low ≡ true → AreBits low
few_bits low h =
    elim (or_cases (low == 0) (low == 1 || (low == 2 || (low == 3 || low == 4))) h) [
      | inl a ↦ subst AreBits (sym (eqb-true low 0 a)) (record { same = λ v x e. omega (arith, e); whole = λ v x e f. omega (arith, e, f) })
      | inr h ↦ elim (or_cases (low == 1) (low == 2 || (low == 3 || low == 4)) h) [
        | inl a ↦ subst AreBits (sym (eqb-true low 1 a)) (record { same = λ v x e. omega (arith, e); whole = λ v x e f. omega (arith, e, f) })
        | inr h ↦ elim (or_cases (low == 2) (low == 3 || low == 4) h) [
          | inl a ↦ subst AreBits (sym (eqb-true low 2 a)) (record { same = λ v x e. omega (arith, e); whole = λ v x e f. omega (arith, e, f) })
          | inr h ↦ elim (or_cases (low == 3) (low == 4) h) [
            | inl a ↦ subst AreBits (sym (eqb-true low 3 a)) (record { same = λ v x e. omega (arith, e); whole = λ v x e f. omega (arith, e, f) })
            | inr a ↦ subst AreBits (sym (eqb-true low 4 a)) (record { same = λ v x e. omega (arith, e); whole = λ v x e f. omega (arith, e, f) })
          ]
        ]
      ]
    ]

reads_bits : (field : Field) (high low : ℕ) (check : Check) (unit w v x : ℕ) → is_unchecked check ≡ true → is_bits high low unit ≡ true → ReadsBits field high low check unit w v → v % 4096 ≡ x % 4096 → ReadsBits field high low check unit w x
reads_bits field high low (BelowPower n) unit w v x c h r e = cc
reads_bits field high low (WithinPower n) unit w v x c h r e = cc
reads_bits field high low NoCheck unit w v x c h r e =
    let a = and_parts (high == 11) (unit == 2 ^ low && is_few low) h in
    let b = and_parts (unit == 2 ^ low) (is_few low) a.1 in
    let top = eqb-true high 11 a.0 in
    let step = eqb-true unit (2 ^ low) b.0 in
    let are = few_bits low b.1 in
    let bits = subst (λ (k : ℕ). immediate field w ≡ v / 2 ^ low % 2 ^ (k + 1 - low)) top r.bits ∙ are.same v x e in
    let whole = are.whole v x e (subst (λ (k : ℕ). v % k ≡ 0) step r.whole) in
    record {
      bits = subst (λ (k : ℕ). immediate field w ≡ x / 2 ^ low % 2 ^ (k + 1 - low)) (sym top) bits;
      passes = tt;
      decodes = tt;
      whole = subst (λ (k : ℕ). x % k ≡ 0) (sym step) whole;
    }

-- so such a field reads as each of these numbers
pub reads_low : (form : Form) (bytes : List ℕ) (v x : ℕ) → is_low form ≡ true → Reads form bytes v → v % 4096 ≡ x % 4096 → Reads form bytes x
reads_low NoField bytes v x h r e = cc
reads_low (Plain bits reading) bytes v x h r e = cc
reads_low Full bytes v x h r e = cc
reads_low (Bits field high low check unit) bytes v x h r e = (let a = and_parts (is_unchecked check) (is_bits high low unit) h in reads_bits field high low check unit (number bytes) v x a.0 a.1 r e)
