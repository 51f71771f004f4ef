-- A run of words of AArch64 that its references keep does what it demands.
use Rattle.wild_references.proofs.Common.{◌≡◌, ℕ, ℤ, ◌+◌, ◌-◌, ◌*◌, ◌/◌, ◌%◌, ◌^◌, ◌<◌, ◌≤◌, ◌⊎◌, inl, inr, true, List, [], ◌∷◌, length, refl, sym, ap, ◌∙◌, subst, arith, slice_range, slice_index, Option, Some, Contains, w64, cast_unsigned, number, length-range, range_byte, r_aarch64_adr_prel_pg_hi21, r_aarch64_add_abs_lo12_nc, r_aarch64_tlsie_adr_gottprel_page21, r_aarch64_tlsie_ld64_gottprel_lo12_nc, r_aarch64_tlsdesc_adr_page21, r_aarch64_tlsdesc_ld64_lo12, r_aarch64_tlsdesc_add_lo12, r_aarch64_tlsdesc_call, Machine, InputRelocation, Layout, Item, Value, SymbolPart, PageDistance, SlotAddress, SlotPageDistance, ThreadOffset, Descriptor, AdrField, Imm12Field, WithinPower, Bits, Formula, formula, immediate, aarch64_formula, page, Memory, World, byte_in, Holds, is_run, Instruction, by_word, IsOwnByte, descriptor_call_words, offset_pair_words, address_pair_words, instructions_of, place_at, IsInputByte, IsReferent, IsReferentOnAArch64, IsOffset, page_of, IsUndefinedWeak, IsOneAddress, IsSlot, HasPartners, IsOfSequence, reads, DoesDemanded, only_one, NamesStrings}
use Rattle.wild_types.specs.declared.kind.Machine.TheVariants as machine
use Rattle.wild_reloc.specs.Formula.{NoCheck}
use Rattle.wild_aarch64.specs.declared.template.Template.TheVariants as kinds
use Rattle.wild_aarch64.specs.Machine.{sum_64}
use Rattle.wild_meaning.specs.Sequence.{Partner}
use Rattle.wild_meaning.specs.Formula.{IsReferentOnMachine}
use Rattle.wild_meaning.specs.Partners.{HasPartner}
use Rattle.wild_meaning.proofs.PairLemmas.{only, one_of_two}
use Rattle.wild_references.proofs.RightOperands.{low_place}
use Rattle.wild_references.proofs.OneAddress.{one_address, one_slot}
use Rattle.wild_references.proofs.RunsAArch64.{address_pair_does, slot_pair_does, call_does}
use Rattle.wild_references.proofs.WordsAArch64.{words_from, words_read, IsWordThere, by_words}
use Rattle.wild_references.proofs.RunWords.{IsRun, is_run_of, IsKeptRun, IsOfSlot, slot_word, IsOfAddress, HasPart, part_word}
use Rattle.wild_references.proofs.MergedStrings.{one_string}

-- ---- formulas

abbrev pub page_of_value : Value → Formula
page_of_value v = formula v (Bits AdrField 32 12 (WithinPower 33) 4096)

abbrev low_of_value : Value → Formula
low_of_value v = formula v (Bits Imm12Field 11 0 NoCheck 1)

-- of a multiple of 8
abbrev eights_of_value : Value → Formula
eights_of_value v = formula v (Bits Imm12Field 11 3 NoCheck 8)

as_word : (m : Memory) (a b : ℕ) (bytes : List ℕ) → a ≡ b → length bytes ≡ 4 → Holds m a bytes → IsWordThere m b (number bytes)
as_word m a b bytes e whole held = record { bytes = bytes; whole = whole; held = subst (λ (p : ℕ). Holds m p bytes) e held; is = refl }

-- ---- the two parts of an address

page_adds : (a g x i : ℕ) → a < 2 ^ 64 → g < 2 ^ 64 → x ≡ (page_of g + (2 ^ 64 - page_of a)) % 2 ^ 64 → i ≡ g % 4096 → sum_64 (sum_64 (page a) x) i ≡ g
page_adds a g x i low small is part = omega (arith, low, small, is, part)

low_part : (y g i : ℕ) → g < 2 ^ 64 → y ≡ g % 2 ^ 64 → i ≡ y / 2 ^ 0 % 2 ^ (11 + 1 - 0) → i ≡ g % 4096
low_part y g i small is bits = omega (arith, small, is, bits)

-- of a multiple of 8
low_eights : (y g i : ℕ) → g < 2 ^ 64 → y ≡ g % 2 ^ 64 → i ≡ y / 2 ^ 3 % 2 ^ (11 + 1 - 3) → y % 8 ≡ 0 → i * 8 ≡ g % 4096
low_eights y g i small is bits whole = omega (arith, small, is, bits, whole)

below : (n x : ℕ) → n ≡ x % 2 ^ 64 → n < 2 ^ 64
below n x is = omega (arith, is)

-- ---- a slot of an offset

pub offset_page : IsOfSlot r_aarch64_tlsie_adr_gottprel_page21 (page_of_value (SlotPageDistance ThreadOffset))
unfolding aarch64_formula
offset_page = record { known = refl; still = λ h. h; offset = λ h. h; address = λ h. h; other = refl }

offset_low : IsOfSlot r_aarch64_tlsie_ld64_gottprel_lo12_nc (eights_of_value (SlotAddress ThreadOffset))
unfolding aarch64_formula
offset_low = record { known = refl; still = λ h. h; offset = λ h. h; address = λ h. h; other = refl }

slot_pair_run : (l : Layout) (w : World) (m : Memory) (s : Item) (r : InputRelocation) (start : ℕ) (first : InputRelocation) → IsKeptRun l w m s r start offset_pair_words first → DoesDemanded (reads w m) l w m s first start offset_pair_words
slot_pair_run l w m s r start first k =
    let q = k.sequence in
    let two = only l s first start (q.index + 1) (by_word 4 4 r_aarch64_tlsie_ld64_gottprel_lo12_nc) k.rest q.has in
    let a = place_at w s start in
    let at : first.offset ≡ start = omega (arith, q.stands.field) in
    let second : Contains (first ∷ k.rest) two.second = subst (λ (rs : List InputRelocation). Contains (first ∷ rs) two.second) (sym two.is) (1, omega arith, refl) in
    let high = slot_word (page_of_value (SlotPageDistance ThreadOffset)) r_aarch64_tlsie_adr_gottprel_page21 l w m s r first start start offset_pair_words first k offset_page (0, omega arith, refl) q.stands.number at in
    let low = slot_word (eights_of_value (SlotAddress ThreadOffset)) r_aarch64_tlsie_ld64_gottprel_lo12_nc l w m s r two.second start (start + 4) offset_pair_words first k offset_low second two.has.number two.has.field in
    let g = high.gives.0 in
    let same : low.gives.0 ≡ g = one_slot ThreadOffset l w m first.symbol low.gives.0 g (subst (λ (o : Option ℕ). IsSlot ThreadOffset l w m o low.gives.0) two.has.names.0 low.gives.1.0) high.gives.1.0 in
    let slot = subst (λ (o : Option ℕ). IsSlot ThreadOffset l w m o g) q.named high.gives.1.0 in
    let small = below g (w.base + slot.slot) slot.moves in
    let loaded = low_place m a high.bytes high.whole high.held in
    let distance = high.gives.2 ∙ ap (λ (p : ℕ). (page_of g + (2 ^ 64 - page_of (place_at w s p))) % 2 ^ 64) at in
    let part = low_eights low.value g (immediate Imm12Field (number low.bytes)) small (low.gives.2 ∙ ap (λ (n : ℕ). n % 2 ^ 64) same) low.reads.bits low.reads.whole in
    let words : is_run kinds.SlotPair (r_aarch64_tlsie_adr_gottprel_page21 ∷ r_aarch64_tlsie_ld64_gottprel_lo12_nc ∷ []) (words_from 2 start s.bytes) ≡ true =
    subst (λ (ws : List ℕ). is_run kinds.SlotPair (r_aarch64_tlsie_adr_gottprel_page21 ∷ r_aarch64_tlsie_ld64_gottprel_lo12_nc ∷ []) ws ≡ true) (words_read 2 start s.bytes q.stands.inside) q.stands.words in
    let does = slot_pair_does (reads w m) a slot.holds.0 g high.value _ _ (number high.bytes) (number low.bytes) slot.holds.1 words high.keeps high.reads.decodes low.keeps (page_adds a g high.value (immediate Imm12Field (number low.bytes) * 8) loaded small distance part) in
    let next : place_at w s (start + 4) ≡ a + 4 = omega arith in
    record {
      value = slot.holds.0;
      demands = subst (λ (o : Option ℕ). IsOffset l w o slot.holds.0) (sym q.named) slot.holds.2;
      code = by_words (reads w m) l w m s start offset_pair_words slot.holds.0 (number high.bytes ∷ number low.bytes ∷ []) k.on refl q.stands.inside (λ e h. h) (as_word m a a high.bytes refl high.whole high.held, (as_word m _ _ low.bytes next low.whole low.held, tt)) does;
    }

-- ---- a descriptor's call

pub call_page : IsOfSlot r_aarch64_tlsdesc_adr_page21 (page_of_value (SlotPageDistance Descriptor))
unfolding aarch64_formula
call_page = record { known = refl; still = λ h. h; offset = λ h. h; address = λ h. h; other = refl }

call_load : IsOfSlot r_aarch64_tlsdesc_ld64_lo12 (eights_of_value (SlotAddress Descriptor))
unfolding aarch64_formula
call_load = record { known = refl; still = λ h. h; offset = λ h. h; address = λ h. h; other = refl }

call_add : IsOfSlot r_aarch64_tlsdesc_add_lo12 (low_of_value (SlotAddress Descriptor))
unfolding aarch64_formula
call_add = record { known = refl; still = λ h. h; offset = λ h. h; address = λ h. h; other = refl }

-- the three further relocations
pub record HasThree (l : Layout) (s : Item) (first : InputRelocation) (start i : ℕ) (p q o : Partner) (rest : List InputRelocation) : Type 0 where
  pub second : InputRelocation
  pub third : InputRelocation
  pub fourth : InputRelocation
  pub is : rest ≡ second ∷ third ∷ fourth ∷ []
  pub two : HasPartner l s first second start i p
  pub three : HasPartner l s first third start (i + 1) q
  pub four : HasPartner l s first fourth start (i + 1 + 1) o

pub has_three : (l : Layout) (s : Item) (first : InputRelocation) (start i : ℕ) (p q o : Partner) (rest : List InputRelocation) → HasPartners l s first start i (p ∷ q ∷ o ∷ []) rest → HasThree l s first start i p q o rest
has_three l s first start i p q o [] h = absurd h
has_three l s first start i p q o (a ∷ []) h = absurd h.1
has_three l s first start i p q o (a ∷ b ∷ []) h = absurd h.1.1
has_three l s first start i p q o (a ∷ b ∷ c ∷ []) h = record { second = a; third = b; fourth = c; is = refl; two = h.0; three = h.1.0; four = h.1.1.0 }
has_three l s first start i p q o (a ∷ b ∷ c ∷ e ∷ rs) h = absurd h.1.1.1

-- the call itself has no field
call_word : (w : World) (m : Memory) (s : Item) (start : ℕ) → start + 16 ≤ length s.bytes → ((k : ℕ) → IsOwnByte descriptor_call_words k → IsInputByte w m s (start + k)) → IsWordThere m (place_at w s start + 4 + 4 + 4) (number (slice_range s.bytes (start + 4 + 4 + 4) (start + 4 + 4 + 4 + 4)))
call_word w m s start inside own = record { bytes = bytes; whole = whole; held = there; is = refl }
  where
    bytes : List ℕ
    bytes = slice_range s.bytes (start + 4 + 4 + 4) (start + 4 + 4 + 4 + 4)

    whole : length bytes ≡ 4
    whole = length-range s.bytes (start + 4 + 4 + 4) 4 (omega (arith, inside))

    there : Holds m (place_at w s start + 4 + 4 + 4) bytes
    there k lt =
        let short : k < 4 = omega (arith, lt, whole) in
        let byte = own (12 + k) (record { inside = omega (arith, short); beside = inr (omega arith); apart = (inr (omega arith), (inr (omega arith), (inr (omega arith), tt))) }) in
        let place : place_at w s (start + (12 + k)) ≡ place_at w s start + 4 + 4 + 4 + k = omega arith in
        let at : start + (12 + k) ≡ start + 4 + 4 + 4 + k = omega arith in
        let same : slice_index s.bytes (start + (12 + k)) ≡ slice_index bytes k = ap (λ (n : ℕ). slice_index s.bytes n) at ∙ sym (range_byte s.bytes (start + 4 + 4 + 4) 4 k short) in
        subst (λ (p : ℕ). byte_in m p ≡ Some (slice_index bytes k)) place (byte ∙ ap (λ (n : ℕ). Some n) same)

call_run : (l : Layout) (w : World) (m : Memory) (s : Item) (r : InputRelocation) (start : ℕ) (first : InputRelocation) → IsKeptRun l w m s r start descriptor_call_words first → DoesDemanded (reads w m) l w m s first start descriptor_call_words
call_run l w m s r start first k =
    let q = k.sequence in
    let three = has_three l s first start (q.index + 1) (by_word 4 4 r_aarch64_tlsdesc_ld64_lo12) (by_word 8 4 r_aarch64_tlsdesc_add_lo12) (by_word 12 0 r_aarch64_tlsdesc_call) k.rest q.has in
    let a = place_at w s start in
    let at : first.offset ≡ start = omega (arith, q.stands.field) in
    let second : Contains (first ∷ k.rest) three.second = subst (λ (rs : List InputRelocation). Contains (first ∷ rs) three.second) (sym three.is) (1, omega arith, refl) in
    let third : Contains (first ∷ k.rest) three.third = subst (λ (rs : List InputRelocation). Contains (first ∷ rs) three.third) (sym three.is) (2, omega arith, refl) in
    let high = slot_word (page_of_value (SlotPageDistance Descriptor)) r_aarch64_tlsdesc_adr_page21 l w m s r first start start descriptor_call_words first k call_page (0, omega arith, refl) q.stands.number at in
    let load = slot_word (eights_of_value (SlotAddress Descriptor)) r_aarch64_tlsdesc_ld64_lo12 l w m s r three.second start (start + 4) descriptor_call_words first k call_load second three.two.number three.two.field in
    let behind : three.third.offset ≡ start + 4 + 4 = (let there = three.three.field in omega (arith, there)) in
    let low = slot_word (low_of_value (SlotAddress Descriptor)) r_aarch64_tlsdesc_add_lo12 l w m s r three.third start (start + 4 + 4) descriptor_call_words first k call_add third three.three.number behind in
    let g = high.gives.0 in
    let loads : load.gives.0 ≡ g = one_slot Descriptor l w m first.symbol load.gives.0 g (subst (λ (o : Option ℕ). IsSlot Descriptor l w m o load.gives.0) three.two.names.0 load.gives.1.0) high.gives.1.0 in
    let adds : low.gives.0 ≡ g = one_slot Descriptor l w m first.symbol low.gives.0 g (subst (λ (o : Option ℕ). IsSlot Descriptor l w m o low.gives.0) three.three.names.0 low.gives.1.0) high.gives.1.0 in
    let slot = subst (λ (o : Option ℕ). IsSlot Descriptor l w m o g) q.named high.gives.1.0 in
    let small = below g (w.base + slot.slot) slot.moves in
    let loaded = low_place m a high.bytes high.whole high.held in
    let distance = high.gives.2 ∙ ap (λ (p : ℕ). (page_of g + (2 ^ 64 - page_of (place_at w s p))) % 2 ^ 64) at in
    let eights = low_eights load.value g (immediate Imm12Field (number load.bytes)) small (load.gives.2 ∙ ap (λ (n : ℕ). n % 2 ^ 64) loads) load.reads.bits load.reads.whole in
    let part = low_part low.value g (immediate Imm12Field (number low.bytes)) small (low.gives.2 ∙ ap (λ (n : ℕ). n % 2 ^ 64) adds) low.reads.bits in
    let types = r_aarch64_tlsdesc_adr_page21 ∷ r_aarch64_tlsdesc_ld64_lo12 ∷ r_aarch64_tlsdesc_add_lo12 ∷ r_aarch64_tlsdesc_call ∷ [] in
    let words : is_run kinds.DescriptorCall types (words_from 4 start s.bytes) ≡ true = subst (λ (ws : List ℕ). is_run kinds.DescriptorCall types ws ≡ true) (words_read 4 start s.bytes q.stands.inside) q.stands.words in
    let does = call_does (reads w m) a slot.holds.0 g high.value _ _ _ _ (number high.bytes) (number load.bytes) (number low.bytes) slot.holds.1 words high.keeps high.reads.decodes load.keeps (page_adds a g high.value (immediate Imm12Field (number load.bytes) * 8) loaded small distance eights) low.keeps (page_adds a g high.value (immediate Imm12Field (number low.bytes)) loaded small distance part) in
    let next : place_at w s (start + 4) ≡ a + 4 = omega arith in
    let later : place_at w s (start + 4 + 4) ≡ a + 4 + 4 = omega arith in
    let last = number (slice_range s.bytes (start + 4 + 4 + 4) (start + 4 + 4 + 4 + 4)) in
    record {
      value = slot.holds.0;
      demands = subst (λ (o : Option ℕ). IsOffset l w o slot.holds.0) (sym q.named) slot.holds.2;
      code = by_words (reads w m) l w m s start descriptor_call_words slot.holds.0 (number high.bytes ∷ number load.bytes ∷ number low.bytes ∷ last ∷ []) k.on refl q.stands.inside (λ e h. h)
          (as_word m a a high.bytes refl high.whole high.held, (as_word m _ _ load.bytes next load.whole load.held, (as_word m _ _ low.bytes later low.whole low.held, (call_word w m s start q.stands.inside k.own, tt)))) does;
    }

-- ---- an address

address_page : IsOfAddress r_aarch64_adr_prel_pg_hi21 (page_of_value PageDistance)
unfolding aarch64_formula
address_page = record { straight = refl; known = refl; takes = tt; part = λ e. cc; offset = λ h. h }

address_low : IsOfAddress r_aarch64_add_abs_lo12_nc (low_of_value SymbolPart)
unfolding aarch64_formula
address_low = record { straight = refl; known = refl; takes = tt; part = λ e. cc; offset = λ h. h }

-- the address of a symbol that is there
high_stands : (l : Layout) (w : World) (m : Memory) (s : Item) (r : InputRelocation) (i a : ℕ) → l.machine ≡ machine.AArch64 → r.symbol ≡ Some i → (IsUndefinedWeak l i → ⊥) → IsReferentOnMachine l.machine PageDistance l w m s r a → IsOneAddress l w m i a
high_stands l w m s r i a on named there h = by (subst (λ (o : Option ℕ). IsReferentOnAArch64 PageDistance l w m s r o a) named (subst (λ (k : Machine). IsReferentOnMachine k PageDistance l w m s r a) on h))
  where
    by : IsReferentOnAArch64 PageDistance l w m s r (Some i) a → IsOneAddress l w m i a
    by (inl x) = absurd (there x.0.1)
    by (inr x) = x.1

low_stands : (l : Layout) (w : World) (m : Memory) (s : Item) (r : InputRelocation) (i a : ℕ) → l.machine ≡ machine.AArch64 → r.symbol ≡ Some i → IsReferentOnMachine l.machine SymbolPart l w m s r a → IsOneAddress l w m i a
low_stands l w m s r i a on named h = by (subst (λ (o : Option ℕ). IsReferentOnAArch64 SymbolPart l w m s r o a) named (subst (λ (k : Machine). IsReferentOnMachine k SymbolPart l w m s r a) on h))
  where
    by : IsReferentOnAArch64 SymbolPart l w m s r (Some i) a → IsOneAddress l w m i a
    by (inl x) = absurd x.0.0
    by (inr x) = x.1

-- of both halves of an address S is one: the symbol's, or what makes the place of a string
names_both : (l : Layout) (r q : InputRelocation) → r.symbol ≡ q.symbol → NamesStrings l r → NamesStrings l q
names_both l r q e n = record { symbol = n.symbol; named = sym e ∙ n.named; strings = n.strings; has = n.has }

one_referent : (l : Layout) (w : World) (m : Memory) (s : Item) (first second : InputRelocation) (i b a : ℕ) → l.machine ≡ machine.AArch64 → first.symbol ≡ Some i → second.symbol ≡ first.symbol → second.addend ≡ first.addend → (IsUndefinedWeak l i → ⊥) → IsReferent l.machine SymbolPart l w m s second b → IsReferent l.machine PageDistance l w m s first a → b ≡ a
one_referent l w m s first second i b a on named same added there (inl low) (inl high) = one_string l w second first b a same added low.1 high.1
one_referent l w m s first second i b a on named same added there (inl low) (inr high) = absurd (high.0 (tt, names_both l second first same low.0.1))
one_referent l w m s first second i b a on named same added there (inr low) (inl high) = absurd (low.0 (tt, names_both l first second (sym same) high.0.1))
one_referent l w m s first second i b a on named same added there (inr low) (inr high) = one_address l w m i b a (low_stands l w m s second i b on (same ∙ named) low.1) (high_stands l w m s first i a on named there high.1)

-- each of both has a part
has_part : (r first second : InputRelocation) → Contains (r_aarch64_adr_prel_pg_hi21 ∷ []) first.number → Contains (r_aarch64_add_abs_lo12_nc ∷ []) second.number → second.symbol ≡ first.symbol → (r ≡ first) ⊎ (r ≡ second) → HasPart r first
has_part r first second a b symbol (inl e) = subst (λ (x : InputRelocation). HasPart x first) (sym e) (record { symbol = refl; formula = page_of_value PageDistance; is = subst (λ (n : ℕ). IsOfAddress n (page_of_value PageDistance)) (sym (only_one r_aarch64_adr_prel_pg_hi21 first.number a)) address_page })
has_part r first second a b symbol (inr e) = subst (λ (x : InputRelocation). HasPart x first) (sym e) (record { symbol = symbol; formula = low_of_value SymbolPart; is = subst (λ (n : ℕ). IsOfAddress n (low_of_value SymbolPart)) (sym (only_one r_aarch64_add_abs_lo12_nc second.number b)) address_low })

pub part_of : (l : Layout) (s : Item) (r : InputRelocation) (start : ℕ) (first : InputRelocation) → IsOfSequence l s r start address_pair_words first → HasPart r first
part_of l s r start first t =
    let q = t.sequence in
    let two = only l s first start (q.index + 1) (by_word 4 4 r_aarch64_add_abs_lo12_nc) t.rest q.has in
    has_part r first two.second q.stands.number two.has.number two.has.names.0 (one_of_two first two.second r (subst (λ (rs : List InputRelocation). Contains (first ∷ rs) r) two.is t.one))

address_pair_run : (l : Layout) (w : World) (m : Memory) (s : Item) (r : InputRelocation) (start : ℕ) (first : InputRelocation) → IsKeptRun l w m s r start address_pair_words first → DoesDemanded (reads w m) l w m s first start address_pair_words
address_pair_run l w m s r start first k =
    let q = k.sequence in
    let two = only l s first start (q.index + 1) (by_word 4 4 r_aarch64_add_abs_lo12_nc) k.rest q.has in
    let a = place_at w s start in
    let at : first.offset ≡ start = omega (arith, q.stands.field) in
    let second : Contains (first ∷ k.rest) two.second = subst (λ (rs : List InputRelocation). Contains (first ∷ rs) two.second) (sym two.is) (1, omega arith, refl) in
    let own = part_of l s r start first (record { rest = k.rest; sequence = k.sequence; one = k.one }) in
    let high = part_word (page_of_value PageDistance) r_aarch64_adr_prel_pg_hi21 l w m s r first start start first k own address_page refl (0, omega arith, refl) q.stands.number at in
    let low = part_word (low_of_value SymbolPart) r_aarch64_add_abs_lo12_nc l w m s r two.second start (start + 4) first k own address_low two.has.names.0 second two.has.number two.has.field in
    let sum = high.gives.1 in
    let one = one_referent l w m s first two.second q.symbol low.gives.symbol sum.symbol k.on q.named two.has.names.0 two.has.names.1 q.met.0 low.gives.denoted sum.denoted in
    let t = high.gives.0 in
    let small = below t (sum.symbol + cast_unsigned w64 first.addend) sum.sum in
    let same : low.value ≡ t = low.gives.sum ∙ ap (λ (n : ℕ). (n + cast_unsigned w64 two.second.addend) % 2 ^ 64) one ∙ ap (λ (n : ℤ). (sum.symbol + cast_unsigned w64 n) % 2 ^ 64) two.has.names.1 ∙ sym sum.sum in
    let loaded = low_place m a high.bytes high.whole high.held in
    let distance = high.gives.2 ∙ ap (λ (p : ℕ). (page_of t + (2 ^ 64 - page_of (place_at w s p))) % 2 ^ 64) at in
    let whole : low.value ≡ t % 2 ^ 64 = omega (arith, same, small) in
    let part = low_part low.value t (immediate Imm12Field (number low.bytes)) small whole low.reads.bits in
    let types = r_aarch64_adr_prel_pg_hi21 ∷ r_aarch64_add_abs_lo12_nc ∷ [] in
    let words : is_run kinds.AddressPair types (words_from 2 start s.bytes) ≡ true = subst (λ (ws : List ℕ). is_run kinds.AddressPair types ws ≡ true) (words_read 2 start s.bytes q.stands.inside) q.stands.words in
    let does = address_pair_does (reads w m) a t high.value _ _ (number high.bytes) (number low.bytes) refl words high.keeps high.reads.decodes low.keeps (page_adds a t high.value (immediate Imm12Field (number low.bytes)) loaded small distance part) in
    let next : place_at w s (start + 4) ≡ a + 4 = omega arith in
    record {
      value = t;
      demands = sum;
      code = by_words (reads w m) l w m s start address_pair_words t (number high.bytes ∷ number low.bytes ∷ []) k.on refl q.stands.inside (λ e h. h) (as_word m a a high.bytes refl high.whole high.held, (as_word m _ _ low.bytes next low.whole low.held, tt)) does;
    }

-- ---- any of them

pub run_does : (l : Layout) (w : World) (m : Memory) (s : Item) (r : InputRelocation) (start : ℕ) (o : Instruction) (first : InputRelocation) → IsKeptRun l w m s r start o first → DoesDemanded (reads w m) l w m s first start o
run_does l w m s r start o first k = by (is_run_of o (subst (λ (x : Machine). Contains (instructions_of x) o) k.on k.sequence.stands.known) k.sequence.several)
  where
    by : IsRun o → DoesDemanded (reads w m) l w m s first start o
    by (inl e) = subst (λ (p : Instruction). DoesDemanded (reads w m) l w m s first start p) (sym e) (call_run l w m s r start first (subst (λ (p : Instruction). IsKeptRun l w m s r start p first) e k))
    by (inr (inl e)) = subst (λ (p : Instruction). DoesDemanded (reads w m) l w m s first start p) (sym e) (slot_pair_run l w m s r start first (subst (λ (p : Instruction). IsKeptRun l w m s r start p first) e k))
    by (inr (inr e)) = subst (λ (p : Instruction). DoesDemanded (reads w m) l w m s first start p) (sym e) (address_pair_run l w m s r start first (subst (λ (p : Instruction). IsKeptRun l w m s r start p first) e k))
