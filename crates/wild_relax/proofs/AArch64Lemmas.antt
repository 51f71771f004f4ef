-- Stubs and thunks of AArch64 go where they should.
use Rattle.std.proofs.Common.{◌≡◌, ℕ, ◌+◌, ◌-◌, ◌*◌, ◌/◌, ◌%◌, ◌^◌, ◌<◌, ◌≤◌, true, false, ◌&&◌, nat_le, nat_lt, List, [], ◌∷◌, ◌++◌, Some, refl, ap, sym, subst, ◌∙◌, arith}
use Rattle.std.proofs.lemmas.Bool.{and_parts, leb-true, ltb-true}
use Rattle.wild_words.specs.Words.{word, number}
use Rattle.wild_reloc.specs.Immediate.{insert_bits, word_with_immediate}
use Rattle.wild_reloc.specs.declared.instruction.AArch64Instruction.TheVariants.{Adr, Imm12}
use Rattle.wild_aarch64.specs.Immediate as judge
use Rattle.wild_aarch64.specs.Machine.{page, meaning, jump_to, jump_through}
use Rattle.wild_aarch64.specs.Row.{Within}
use Rattle.wild_aarch64.specs.Effect.{words_of}
use Rattle.wild_aarch64.specs.Stub as judged
use Rattle.wild_aarch64.specs.Stub.{HasSlot}
use Rattle.wild_aarch64.proofs.StubLemmas as reach
use Rattle.wild_slot.specs.StubAArch64.{spelled, page_of, stub_words}
use Rattle.wild_relax.specs.ThunkAArch64.{thunk_words}
use Rattle.wild_relax.proofs.FieldsAArch64Lemmas.{fields_agree}
use Rattle.wild_relax.specs.LawsAArch64.{StubsOfAArch64Jump, ThunksReach}

-- ---- words as bytes, and back

abbrev AreSmall : List ℕ → Type 0
AreSmall [] = Unit {0}
AreSmall (w ∷ ws) = (w < 2 ^ 32) × AreSmall ws

pub words_of-more : (w : ℕ) (bytes : List ℕ) → w < 2 ^ 32 → words_of (word 4 w ++ bytes) ≡ w ∷ words_of bytes
unfolding word number
words_of-more w bytes h =
    let e : w % 256 + 256 * (w / 256 % 256 + 256 * (w / 256 / 256 % 256 + 256 * (w / 256 / 256 / 256 % 256 + 256 * 0))) ≡ w = omega arith in
    rw e refl

words_of-spelled : (ws : List ℕ) → AreSmall ws → words_of (spelled ws) ≡ ws
words_of-spelled [] s = refl
words_of-spelled (w ∷ ws) s = words_of-more w (spelled ws) s.0 ∙ ap (λ (us : List ℕ). w ∷ us) (words_of-spelled ws s.1)

-- ---- words that fit

adrp_small : (x : ℕ) → word_with_immediate Adr x 0x90000010 < 2 ^ 32
unfolding insert_bits
adrp_small x = omega arith

ldr_small : (x : ℕ) → word_with_immediate Imm12 x 0xf9400211 < 2 ^ 32
unfolding insert_bits
ldr_small x = omega arith

add_small : (x : ℕ) → word_with_immediate Imm12 x 0x91000210 < 2 ^ 32
unfolding insert_bits
add_small x = omega arith

-- ---- stubs

plain_words : (k : ℕ) → words_of (spelled (stub_words false k)) ≡ judged.jump_to_slot k ++ (0xd503201f ∷ [])
plain_words k =
    words_of-spelled (stub_words false k) (adrp_small (k / 4096), (ldr_small (k % 4096 / 8), (omega arith, (omega arith, tt))))
    ∙ rw (fields_agree Adr (k / 4096) 0x90000010, fields_agree Imm12 (k % 4096 / 8) 0xf9400211) refl

marked_words : (k : ℕ) → words_of (spelled (stub_words true k)) ≡ 0xd503245f ∷ judged.jump_to_slot k
marked_words k =
    words_of-spelled (stub_words true k) (omega arith, (adrp_small (k / 4096), (ldr_small (k % 4096 / 8), (omega arith, tt))))
    ∙ rw (fields_agree Adr (k / 4096) 0x90000010, fields_agree Imm12 (k % 4096 / 8) 0xf9400211) refl

has_slot : (q p g : ℕ) → q ≡ page p → nat_le q g && nat_lt g (q + 2 ^ 32) ≡ true → g % 8 ≡ 0 → HasSlot p g
has_slot q p g e h m =
    let parts = and_parts _ _ h in
    let low = leb-true _ _ parts.0 in
    let high = ltb-true _ _ parts.1 in
    record { from = subst (λ (i : ℕ). i ≤ g) e low; near = subst (λ (i : ℕ). g < i + 2 ^ 32) e high; aligned = m }

pub stubs_jump : StubsOfAArch64Jump
stubs_jump base slot stub false h m s =
    subst (λ (ws : List ℕ). meaning (base + stub) ws ≡ Some (jump_through (base + slot))) (sym (plain_words (slot - page stub))) (reach.stubs_jump base stub slot (has_slot (page stub) stub slot refl h m) s)
stubs_jump base slot stub true h m s =
    let code = s.code in
    let at : (stub + 4) % 2 ^ 64 ≡ stub + 4 = omega arith in
    let start : page_of ((stub + 4) % 2 ^ 64) ≡ page (stub + 4) = ap page at in
    let words : words_of (spelled (stub_words true (slot - page_of ((stub + 4) % 2 ^ 64)))) ≡ judged.marked_stub stub slot = rw start (marked_words (slot - page (stub + 4))) in
    subst (λ (ws : List ℕ). meaning (base + stub) ws ≡ Some (jump_through (base + slot))) (sym words) (reach.marked_stubs_jump base stub slot (has_slot (page_of ((stub + 4) % 2 ^ 64)) (stub + 4) slot start h m) s)

-- ---- thunks

thunk_is : (k t : ℕ) → words_of (spelled (thunk_words k t)) ≡ judge.word_with_immediate judge.Imm21 (k / 4096 % 2 ^ 21) 0x90000010 ∷ judge.word_with_immediate judge.Imm12 (t % 4096) 0x91000210 ∷ 0xd61f0200 ∷ []
thunk_is k t =
    words_of-spelled (thunk_words k t) (adrp_small (k / 4096 % 2 ^ 21), (add_small (t % 4096), (omega arith, tt)))
    ∙ rw (fields_agree Adr (k / 4096 % 2 ^ 21) 0x90000010, fields_agree Imm12 (t % 4096) 0x91000210) refl

pub within : (p t : ℕ) → nat_le (p / 4096) (t / 4096 + 2 ^ 20) && nat_lt (t / 4096) (p / 4096 + 2 ^ 20) ≡ true → Within (2 ^ 32) (page p) (page t)
within p t h =
    let parts = and_parts _ _ h in
    let low : p / 4096 ≤ t / 4096 + 2 ^ 20 = leb-true _ _ parts.0 in
    let high : t / 4096 < p / 4096 + 2 ^ 20 = ltb-true _ _ parts.1 in
    record { above = omega (arith, low); below = omega (arith, high) }

pub thunks_reach : ThunksReach
thunks_reach base thunk target h pages code =
    subst (λ (ws : List ℕ). meaning (base + thunk) ws ≡ Some (jump_to ((base + target) % 2 ^ 64))) (sym (thunk_is ((page target + (2 ^ 64 - page thunk)) % 2 ^ 64) target))
    (reach.thunks_reach base thunk target (within thunk target h) pages code)
