-- Runs of words of AArch64 code with their fields filled.
use Rattle.wild_references.proofs.Common.{◌≡◌, ℕ, zero, suc, ◌*◌, ◌%◌, ◌^◌, Bool, true, false, List, [], ◌∷◌, refl, sym, ap, ◌∙◌, subst, arith, ◌==◌, ◌&&◌, ◌||◌, map, Option, Some, None, option_and_then, and_parts, ne_eqb, r_aarch64_adr_prel_pg_hi21, r_aarch64_add_abs_lo12_nc, r_aarch64_tlsie_adr_gottprel_page21, r_aarch64_tlsie_ld64_gottprel_lo12_nc, r_aarch64_tlsdesc_adr_page21, r_aarch64_tlsdesc_ld64_lo12, r_aarch64_tlsdesc_add_lo12, r_aarch64_tlsdesc_call, AdrField, Imm12Field, immediate, others, sign_extended, Code, Adrp, Add, Ldr, Blr, has_fixed_bits, read, does, page, run, meaning, shapes, Set, Action, Operand, Number, Word, Reader, Effect, effect, as_value, action_of, has_known_meaning, is_run}
use Rattle.std.proofs.Common.{eqb-true, eq-eqb}
use Rattle.wild_aarch64.specs.declared.operand.Operand as run-operand
use Rattle.wild_aarch64.specs.declared.operand.Operand.TheVariants as has
use Rattle.wild_aarch64.specs.declared.operand.Deed.TheVariants as runs
use Rattle.wild_aarch64.specs.declared.template.Template.{Template}
use Rattle.wild_aarch64.specs.declared.template.Template.TheVariants as kinds
use Rattle.wild_aarch64.specs.Immediate.{word_with_immediate, bits_of_field, Imm12, Imm21}
use Rattle.wild_aarch64.specs.Slice.{signed}
use Rattle.wild_aarch64.specs.Forms.{d, n, adrp, add, ldr}
use Rattle.wild_aarch64.specs.Machine.{sum_64}
use Rattle.wild_aarch64.specs.Template.{codes_of, fits, begins, register_in}
use Rattle.wild_aarch64.proofs.FieldLemmas.{adrp_field, add_field, ldr_field}
use Rattle.wild_loader.specs.declared.instruction.Operand.TheVariants.{Offset}
use Rattle.wild_meaning.specs.WordsAArch64.{are_filled}
use Rattle.wild_references.proofs.FilledAArch64.{put_back}

-- ---- words whose field is filled

pub adrp_read : (w u x : ℕ) → has_fixed_bits adrp.fixed w ≡ true → others AdrField w ≡ others AdrField u → sign_extended 33 (immediate AdrField u * 2 ^ 12) ≡ x → read u ≡ Some (Adrp (d w) x)
adrp_read w u x s keeps decodes =
    let put : word_with_immediate Imm21 (immediate AdrField u) w ≡ u = put_back AdrField Imm21 w u (immediate AdrField u) refl keeps refl in
    let at : bits_of_field Imm21 (immediate AdrField u) ≡ immediate AdrField u = omega arith in
    subst (λ (k : ℕ). read k ≡ Some (Adrp (d w) x)) put (adrp_field w (immediate AdrField u) s ∙ ap (λ (i : ℕ). Some (Adrp (d w) (signed 33 (i * 4096)))) at ∙ ap (λ (k : ℕ). Some (Adrp (d w) k)) decodes)

pub add_read : (w u : ℕ) → has_fixed_bits add.fixed w ≡ true → others Imm12Field w ≡ others Imm12Field u → read u ≡ Some (Add (d w) (n w) (immediate Imm12Field u))
add_read w u s keeps =
    let put : word_with_immediate Imm12 (immediate Imm12Field u) w ≡ u = put_back Imm12Field Imm12 w u (immediate Imm12Field u) refl keeps refl in
    let at : bits_of_field Imm12 (immediate Imm12Field u) ≡ immediate Imm12Field u = omega arith in
    subst (λ (k : ℕ). read k ≡ Some (Add (d w) (n w) (immediate Imm12Field u))) put (add_field w (immediate Imm12Field u) s ∙ ap (λ (i : ℕ). Some (Add (d w) (n w) i)) at)

pub ldr_read : (w u : ℕ) → has_fixed_bits ldr.fixed w ≡ true → others Imm12Field w ≡ others Imm12Field u → read u ≡ Some (Ldr (d w) (n w) (immediate Imm12Field u * 8))
ldr_read w u s keeps =
    let put : word_with_immediate Imm12 (immediate Imm12Field u) w ≡ u = put_back Imm12Field Imm12 w u (immediate Imm12Field u) refl keeps refl in
    let at : bits_of_field Imm12 (immediate Imm12Field u) ≡ immediate Imm12Field u = omega arith in
    subst (λ (k : ℕ). read k ≡ Some (Ldr (d w) (n w) (immediate Imm12Field u * 8))) put (ldr_field w (immediate Imm12Field u) s ∙ ap (λ (i : ℕ). Some (Ldr (d w) (n w) (i * 8))) at)

-- a word without a field is as it was
blr_read : (r : ℕ) (o : Option Code) → fits (Blr r) o ≡ true → o ≡ Some (Blr r)
blr_read r None h = cc
blr_read r (Some (Blr q)) h = ap (λ (k : ℕ). Some (Blr k)) (sym (eqb-true r q h))
blr_read r (Some c) h = cc

-- ---- what they do

-- what a run of the input asks for, and what the words in memory do
abbrev pub RunDoes : Reader → ℕ → ℕ → List ℕ → List ℕ → Type 0
RunDoes r a t old new = (e : Effect) × (option_and_then (effect (as_value t)) (option_and_then action_of (run (shapes old) a [])) ≡ Some e) × (option_and_then (effect r) (option_and_then action_of (meaning a new)) ≡ Some e)

abbrev pub set_to : ℕ → Operand → Action
set_to q x = record { deed = Set q; width = 64; operand = x }

-- where both set one register, and the operand of the words in memory reads as what is asked for
sets_it : (r : Reader) (a t q : ℕ) (old new : List ℕ) (x y : run-operand.Operand) (v u : Operand) → run (shapes old) a [] ≡ Some (does (runs.Sets q) x) → action_of (does (runs.Sets q) x) ≡ Some (set_to q v) → meaning a new ≡ Some (does (runs.Sets q) y) → action_of (does (runs.Sets q) y) ≡ Some (set_to q u)
    → r u ≡ Some t → RunDoes r a t old new
sets_it r a t q old new x y v u asked known done told reads = (
  record { deed = Set q; width = 64; value = t % 2 ^ 64 },
  ap (λ o. option_and_then (effect (as_value t)) (option_and_then action_of o)) asked ∙ ap (λ o. option_and_then (effect (as_value t)) o) known,
  ap (λ o. option_and_then (effect r) (option_and_then action_of o)) done ∙ ap (λ o. option_and_then (effect r) o) told ∙ rw reads refl,
)

pub address_run : (q a j k g : ℕ) → (q == 31) ≡ false → sum_64 (sum_64 (page a) j) k ≡ g → run (Some (Adrp q j) ∷ Some (Add q q k) ∷ []) a [] ≡ Some (does (runs.Sets q) (has.Number g))
address_run q a j k g e at = (let t : (q == q) ≡ true = eq-eqb q q refl in rw (e, t, e, t, at) refl)

pub slot_run : (q a j k g : ℕ) → (q == 31) ≡ false → sum_64 (sum_64 (page a) j) k ≡ g → run (Some (Adrp q j) ∷ Some (Ldr q q k) ∷ []) a [] ≡ Some (does (runs.Sets q) (has.Word g))
slot_run q a j k g e at = (let t : (q == q) ≡ true = eq-eqb q q refl in rw (e, t, e, t, at) refl)

-- register 0 has the descriptor's address, and another one the word there
pub call_run : (q a j k i g : ℕ) → (suc q == 31) ≡ false → sum_64 (sum_64 (page a) j) k ≡ g → sum_64 (sum_64 (page a) j) i ≡ g → run (Some (Adrp 0 j) ∷ Some (Ldr (suc q) 0 k) ∷ Some (Add 0 0 i) ∷ Some (Blr (suc q)) ∷ []) a [] ≡ Some (does (runs.Sets 0) (has.Offset g))
call_run q a j k i g e at too =
    let t : (suc q == suc q) ≡ true = eq-eqb (suc q) (suc q) refl in
    let s : (g == g) ≡ true = eq-eqb g g refl in
    let other : (suc q == 0) ≡ false = ne_eqb (suc q) 0 (λ z. omega (arith, z)) in
    let back : (0 == suc q) ≡ false = ne_eqb 0 (suc q) (λ z. omega (arith, z)) in
    rw (e, at, other, too, back, t, s, other, t) refl

-- ---- what is known of a run of the input

record IsKnown (t : Template) (ns ws : List ℕ) : Type 0 where
  filled : are_filled ns ws ≡ true
  codes : begins (codes_of t (register_in ws)) (map read ws) ≡ true
  told : has_known_meaning (run (shapes ws) 0 []) ≡ true

known : (t : Template) (ns ws : List ℕ) → is_run t ns ws ≡ true → IsKnown t ns ws
known t ns ws h =
    let p = and_parts (are_filled ns ws) (begins (codes_of t (register_in ws)) (map read ws) && has_known_meaning (run (shapes ws) 0 [])) h in
    let q = and_parts (begins (codes_of t (register_in ws)) (map read ws)) (has_known_meaning (run (shapes ws) 0 [])) p.1 in
    record { filled = p.0; codes = q.0; told = q.1 }

two_stand : (a b : Bool) → ((a || false) && ((b || false) && true)) ≡ true → (a ≡ true) × (b ≡ true)
two_stand true true h = (refl, refl)
two_stand true false h = cc
two_stand false b h = cc

three_stand : (a b c : Bool) → ((a || false) && ((b || false) && ((c || false) && true))) ≡ true → (a ≡ true) × (b ≡ true) × (c ≡ true)
three_stand true true true h = (refl, refl, refl)
three_stand true true false h = cc
three_stand true false c h = cc
three_stand false b c h = cc

-- both words of a pair set the register that the second one reads
pair_registers : (p q n : ℕ) → ((q == p && true) && ((q == q && (q == n && true)) && true)) ≡ true → (n ≡ q) × (q ≡ p)
pair_registers p q n h = by (q == p) (q == q) (q == n) refl refl h
  where
    by : (a b c : Bool) → (q == p) ≡ a → (q == n) ≡ c → ((a && true) && ((b && (c && true)) && true)) ≡ true → (n ≡ q) × (q ≡ p)
    by true true true e f h = (sym (eqb-true q n f), eqb-true q p e)
    by true true false e f h = cc
    by true false c e f h = cc
    by false b c e f h = cc

-- ---- runs

-- `adrp; add` sets a register to an address
pub address_pair_does : (r : Reader) (a t x w0 w1 u0 u1 : ℕ) → r (Number t) ≡ Some t → is_run kinds.AddressPair (r_aarch64_adr_prel_pg_hi21 ∷ r_aarch64_add_abs_lo12_nc ∷ []) (w0 ∷ w1 ∷ []) ≡ true → others AdrField w0 ≡ others AdrField u0 → sign_extended 33 (immediate AdrField u0 * 2 ^ 12) ≡ x
    → others Imm12Field w1 ≡ others Imm12Field u1 → sum_64 (sum_64 (page a) x) (immediate Imm12Field u1) ≡ t → RunDoes r a t (w0 ∷ w1 ∷ []) (u0 ∷ u1 ∷ [])
address_pair_does r a t x w0 w1 u0 u1 number is k0 decodes k1 at = by (d w0 == 31) refl
  where
    facts : IsKnown kinds.AddressPair (r_aarch64_adr_prel_pg_hi21 ∷ r_aarch64_add_abs_lo12_nc ∷ []) (w0 ∷ w1 ∷ [])
    facts = known kinds.AddressPair (r_aarch64_adr_prel_pg_hi21 ∷ r_aarch64_add_abs_lo12_nc ∷ []) (w0 ∷ w1 ∷ []) is

    there : (has_fixed_bits adrp.fixed w0 ≡ true) × (has_fixed_bits add.fixed w1 ≡ true)
    there = two_stand (has_fixed_bits adrp.fixed w0) (has_fixed_bits add.fixed w1) facts.filled

    old0 : read w0 ≡ Some (Adrp (d w0) (sign_extended 33 (immediate AdrField w0 * 2 ^ 12)))
    old0 = adrp_read w0 w0 (sign_extended 33 (immediate AdrField w0 * 2 ^ 12)) there.0 refl refl

    old1 : read w1 ≡ Some (Add (d w1) (n w1) (immediate Imm12Field w1))
    old1 = add_read w1 w1 there.1 refl

    registers : (n w1 ≡ d w1) × (d w1 ≡ d w0)
    registers = (let all : begins (codes_of kinds.AddressPair (d w1)) (read w0 ∷ read w1 ∷ []) ≡ true = facts.codes in pair_registers (d w0) (d w1) (n w1) (rw (old0, old1) at all))

    words : shapes (w0 ∷ w1 ∷ []) ≡ Some (Adrp (d w0) 0) ∷ Some (Add (d w0) (d w0) 0) ∷ []
    words = rw (old0, old1, registers.0, registers.1) refl

    new : map read (u0 ∷ u1 ∷ []) ≡ Some (Adrp (d w0) x) ∷ Some (Add (d w0) (d w0) (immediate Imm12Field u1)) ∷ []
    new = (let a0 = adrp_read w0 u0 x there.0 k0 decodes in let a1 = add_read w1 u1 there.1 k1 in rw (a0, a1, registers.0, registers.1) refl)

    by : (b : Bool) → (d w0 == 31) ≡ b → RunDoes r a t (w0 ∷ w1 ∷ []) (u0 ∷ u1 ∷ [])
    by true e =
        (let none : has_known_meaning (run (Some (Adrp (d w0) 0) ∷ Some (Add (d w0) (d w0) 0) ∷ []) 0 []) ≡ true = subst (λ (cs : List (Option Code)). has_known_meaning (run cs 0 []) ≡ true) words facts.told in
        let no : false ≡ true = rw e at none in
        cc)
    by false e =
        sets_it r a t (d w0) (w0 ∷ w1 ∷ []) (u0 ∷ u1 ∷ []) (has.Number (sum_64 (sum_64 (page a) 0) 0)) (has.Number t) (Number (sum_64 (sum_64 (page a) 0) 0)) (Number t)
        (ap (λ (cs : List (Option Code)). run cs a []) words ∙ address_run (d w0) a 0 0 _ e refl) refl (ap (λ (cs : List (Option Code)). run cs a []) new ∙ address_run (d w0) a x (immediate Imm12Field u1) t e at) refl number

-- `adrp; ldr` sets it to the word in a slot
pub slot_pair_does : (r : Reader) (a t g x w0 w1 u0 u1 : ℕ) → r (Word g) ≡ Some t → is_run kinds.SlotPair (r_aarch64_tlsie_adr_gottprel_page21 ∷ r_aarch64_tlsie_ld64_gottprel_lo12_nc ∷ []) (w0 ∷ w1 ∷ []) ≡ true → others AdrField w0 ≡ others AdrField u0 → sign_extended 33 (immediate AdrField u0 * 2 ^ 12) ≡ x
    → others Imm12Field w1 ≡ others Imm12Field u1 → sum_64 (sum_64 (page a) x) (immediate Imm12Field u1 * 8) ≡ g → RunDoes r a t (w0 ∷ w1 ∷ []) (u0 ∷ u1 ∷ [])
slot_pair_does r a t g x w0 w1 u0 u1 word is k0 decodes k1 at = by (d w0 == 31) refl
  where
    facts : IsKnown kinds.SlotPair (r_aarch64_tlsie_adr_gottprel_page21 ∷ r_aarch64_tlsie_ld64_gottprel_lo12_nc ∷ []) (w0 ∷ w1 ∷ [])
    facts = known kinds.SlotPair (r_aarch64_tlsie_adr_gottprel_page21 ∷ r_aarch64_tlsie_ld64_gottprel_lo12_nc ∷ []) (w0 ∷ w1 ∷ []) is

    there : (has_fixed_bits adrp.fixed w0 ≡ true) × (has_fixed_bits ldr.fixed w1 ≡ true)
    there = two_stand (has_fixed_bits adrp.fixed w0) (has_fixed_bits ldr.fixed w1) facts.filled

    old0 : read w0 ≡ Some (Adrp (d w0) (sign_extended 33 (immediate AdrField w0 * 2 ^ 12)))
    old0 = adrp_read w0 w0 (sign_extended 33 (immediate AdrField w0 * 2 ^ 12)) there.0 refl refl

    old1 : read w1 ≡ Some (Ldr (d w1) (n w1) (immediate Imm12Field w1 * 8))
    old1 = ldr_read w1 w1 there.1 refl

    registers : (n w1 ≡ d w1) × (d w1 ≡ d w0)
    registers = (let all : begins (codes_of kinds.SlotPair (d w1)) (read w0 ∷ read w1 ∷ []) ≡ true = facts.codes in pair_registers (d w0) (d w1) (n w1) (rw (old0, old1) at all))

    words : shapes (w0 ∷ w1 ∷ []) ≡ Some (Adrp (d w0) 0) ∷ Some (Ldr (d w0) (d w0) 0) ∷ []
    words = rw (old0, old1, registers.0, registers.1) refl

    new : map read (u0 ∷ u1 ∷ []) ≡ Some (Adrp (d w0) x) ∷ Some (Ldr (d w0) (d w0) (immediate Imm12Field u1 * 8)) ∷ []
    new = (let a0 = adrp_read w0 u0 x there.0 k0 decodes in let a1 = ldr_read w1 u1 there.1 k1 in rw (a0, a1, registers.0, registers.1) refl)

    by : (b : Bool) → (d w0 == 31) ≡ b → RunDoes r a t (w0 ∷ w1 ∷ []) (u0 ∷ u1 ∷ [])
    by true e =
        (let none : has_known_meaning (run (Some (Adrp (d w0) 0) ∷ Some (Ldr (d w0) (d w0) 0) ∷ []) 0 []) ≡ true = subst (λ (cs : List (Option Code)). has_known_meaning (run cs 0 []) ≡ true) words facts.told in
        let no : false ≡ true = rw e at none in
        cc)
    by false e =
        sets_it r a t (d w0) (w0 ∷ w1 ∷ []) (u0 ∷ u1 ∷ []) (has.Word (sum_64 (sum_64 (page a) 0) 0)) (has.Word g) (Word (sum_64 (sum_64 (page a) 0) 0)) (Word g)
        (ap (λ (cs : List (Option Code)). run cs a []) words ∙ slot_run (d w0) a 0 0 _ e refl) refl (ap (λ (cs : List (Option Code)). run cs a []) new ∙ slot_run (d w0) a x (immediate Imm12Field u1 * 8) g e at) refl word

-- `adrp; ldr; add; blr` sets register 0 to what a descriptor gives
pub call_does : (r : Reader) (a t g x w0 w1 w2 w3 u0 u1 u2 : ℕ) → r (Offset g) ≡ Some t → is_run kinds.DescriptorCall (r_aarch64_tlsdesc_adr_page21 ∷ r_aarch64_tlsdesc_ld64_lo12 ∷ r_aarch64_tlsdesc_add_lo12 ∷ r_aarch64_tlsdesc_call ∷ []) (w0 ∷ w1 ∷ w2 ∷ w3 ∷ []) ≡ true
    → others AdrField w0 ≡ others AdrField u0 → sign_extended 33 (immediate AdrField u0 * 2 ^ 12) ≡ x → others Imm12Field w1 ≡ others Imm12Field u1 → sum_64 (sum_64 (page a) x) (immediate Imm12Field u1 * 8) ≡ g → others Imm12Field w2 ≡ others Imm12Field u2 → sum_64 (sum_64 (page a) x) (immediate Imm12Field u2) ≡ g
    → RunDoes r a t (w0 ∷ w1 ∷ w2 ∷ w3 ∷ []) (u0 ∷ u1 ∷ u2 ∷ w3 ∷ [])
call_does r a t g x w0 w1 w2 w3 u0 u1 u2 offset is k0 decodes k1 at k2 too = by (d w1) refl
  where
    types : List ℕ
    types = r_aarch64_tlsdesc_adr_page21 ∷ r_aarch64_tlsdesc_ld64_lo12 ∷ r_aarch64_tlsdesc_add_lo12 ∷ r_aarch64_tlsdesc_call ∷ []

    facts : IsKnown kinds.DescriptorCall types (w0 ∷ w1 ∷ w2 ∷ w3 ∷ [])
    facts = known kinds.DescriptorCall types (w0 ∷ w1 ∷ w2 ∷ w3 ∷ []) is

    there : (has_fixed_bits adrp.fixed w0 ≡ true) × (has_fixed_bits ldr.fixed w1 ≡ true) × (has_fixed_bits add.fixed w2 ≡ true)
    there = three_stand (has_fixed_bits adrp.fixed w0) (has_fixed_bits ldr.fixed w1) (has_fixed_bits add.fixed w2) facts.filled

    old0 : read w0 ≡ Some (Adrp (d w0) (sign_extended 33 (immediate AdrField w0 * 2 ^ 12)))
    old0 = adrp_read w0 w0 (sign_extended 33 (immediate AdrField w0 * 2 ^ 12)) there.0 refl refl

    old1 : read w1 ≡ Some (Ldr (d w1) (n w1) (immediate Imm12Field w1 * 8))
    old1 = ldr_read w1 w1 there.1 refl

    old2 : read w2 ≡ Some (Add (d w2) (n w2) (immediate Imm12Field w2))
    old2 = add_read w2 w2 there.2 refl

    -- the registers are 0 but for one, which the last word reads
    all : ((0 == d w0 && true) && ((d w1 == d w1 && (0 == n w1 && true)) && ((0 == d w2 && (0 == n w2 && true)) && (fits (Blr (d w1)) (read w3) && true)))) ≡ true
    all = (let codes : begins (codes_of kinds.DescriptorCall (d w1)) (read w0 ∷ read w1 ∷ read w2 ∷ read w3 ∷ []) ≡ true = facts.codes in rw (old0, old1, old2) at codes)

    registers : (d w0 ≡ 0) × (n w1 ≡ 0) × (d w2 ≡ 0) × (n w2 ≡ 0) × (read w3 ≡ Some (Blr (d w1)))
    registers =
        let p = and_parts (0 == d w0 && true) ((d w1 == d w1 && (0 == n w1 && true)) && ((0 == d w2 && (0 == n w2 && true)) && (fits (Blr (d w1)) (read w3) && true))) all in
        let q = and_parts (d w1 == d w1 && (0 == n w1 && true)) ((0 == d w2 && (0 == n w2 && true)) && (fits (Blr (d w1)) (read w3) && true)) p.1 in
        let o = and_parts (0 == d w2 && (0 == n w2 && true)) (fits (Blr (d w1)) (read w3) && true) q.1 in
        let n1 = and_parts (0 == n w1) true (and_parts (d w1 == d w1) (0 == n w1 && true) q.0).1 in
        let both = and_parts (0 == d w2) (0 == n w2 && true) o.0 in (
          sym (eqb-true 0 (d w0) (and_parts (0 == d w0) true p.0).0),
          sym (eqb-true 0 (n w1) n1.0),
          sym (eqb-true 0 (d w2) both.0),
          sym (eqb-true 0 (n w2) (and_parts (0 == n w2) true both.1).0),
          blr_read (d w1) (read w3) (and_parts (fits (Blr (d w1)) (read w3)) true o.1).0,
        )

    words : shapes (w0 ∷ w1 ∷ w2 ∷ w3 ∷ []) ≡ Some (Adrp 0 0) ∷ Some (Ldr (d w1) 0 0) ∷ Some (Add 0 0 0) ∷ Some (Blr (d w1)) ∷ []
    words = rw (old0, old1, old2, registers.4, registers.0, registers.1, registers.2, registers.3) refl

    new : map read (u0 ∷ u1 ∷ u2 ∷ w3 ∷ []) ≡ Some (Adrp 0 x) ∷ Some (Ldr (d w1) 0 (immediate Imm12Field u1 * 8)) ∷ Some (Add 0 0 (immediate Imm12Field u2)) ∷ Some (Blr (d w1)) ∷ []
    new =
        (let a0 = adrp_read w0 u0 x there.0 k0 decodes in
        let a1 = ldr_read w1 u1 there.1 k1 in
        let a2 = add_read w2 u2 there.2 k2 in
        rw (a0, a1, a2, registers.4, registers.0, registers.1, registers.2, registers.3) refl)

    told_of : (q : ℕ) → d w1 ≡ q → has_known_meaning (run (Some (Adrp 0 0) ∷ Some (Ldr q 0 0) ∷ Some (Add 0 0 0) ∷ Some (Blr q) ∷ []) 0 []) ≡ true
    told_of q e =
        let told = subst (λ (cs : List (Option Code)). has_known_meaning (run cs 0 []) ≡ true) words facts.told in
        subst (λ (k : ℕ). has_known_meaning (run (Some (Adrp 0 0) ∷ Some (Ldr k 0 0) ∷ Some (Add 0 0 0) ∷ Some (Blr k) ∷ []) 0 []) ≡ true) e told

    by : (q : ℕ) → d w1 ≡ q → RunDoes r a t (w0 ∷ w1 ∷ w2 ∷ w3 ∷ []) (u0 ∷ u1 ∷ u2 ∷ w3 ∷ [])
    by zero e = (let none : false ≡ true = told_of zero e in cc)
    by (suc q) e = by_31 (suc q == 31) refl
      where
        by_31 : (b : Bool) → (suc q == 31) ≡ b → RunDoes r a t (w0 ∷ w1 ∷ w2 ∷ w3 ∷ []) (u0 ∷ u1 ∷ u2 ∷ w3 ∷ [])
        by_31 true f = (let none = told_of (suc q) e in let no : false ≡ true = rw f at none in cc)
        by_31 false f =
            let asked = words ∙ ap (λ (k : ℕ). Some (Adrp 0 0) ∷ Some (Ldr k 0 0) ∷ Some (Add 0 0 0) ∷ Some (Blr k) ∷ []) e in
            let done = new ∙ ap (λ (k : ℕ). Some (Adrp 0 x) ∷ Some (Ldr k 0 (immediate Imm12Field u1 * 8)) ∷ Some (Add 0 0 (immediate Imm12Field u2)) ∷ Some (Blr k) ∷ []) e in
            sets_it r a t 0 (w0 ∷ w1 ∷ w2 ∷ w3 ∷ []) (u0 ∷ u1 ∷ u2 ∷ w3 ∷ []) (has.Offset (sum_64 (sum_64 (page a) 0) 0)) (has.Offset g) (Offset (sum_64 (sum_64 (page a) 0) 0)) (Offset g)
            (ap (λ (cs : List (Option Code)). run cs a []) asked ∙ call_run q a 0 0 0 _ f refl refl) refl (ap (λ (cs : List (Option Code)). run cs a []) done ∙ call_run q a x (immediate Imm12Field u1 * 8) (immediate Imm12Field u2) g f at too) refl offset
