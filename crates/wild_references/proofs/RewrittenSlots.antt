-- The call through a descriptor, in whose place the slot of an offset is read: `nop; nop; adrp; ldr`.
use Rattle.wild_references.proofs.Common.{◌≡◌, ℕ, ℤ, ◌+◌, ◌-◌, ◌*◌, ◌/◌, ◌%◌, ◌^◌, ◌<◌, ◌≤◌, ◌⊎◌, inl, inr, Bool, true, false, List, [], ◌∷◌, ◌++◌, length, refl, sym, ap, ◌∙◌, subst, arith, Option, Some, Ok, Result, ◌||◌, ◌==◌, if◌then◌else◌, slice_range, nat_lt, nat_le, w64, cast_unsigned, and_parts, ltb-true, leb-true, word, number, is_aligned, allows, ThreadOffset, any, static_row, thread_row, RelocationKindInfo, Machine, Fault, InputRelocation, Layout, KeepsAll, Item, DescriptorCall, CALL_FIRST, CALL_SECOND, CALL_FOURTH_SLOT, Rewriting, rewriting, templates_at, RowsOfAArch64Keep, page, words_of, template_of, info_written, words_at, words_match, place_to, term_to, sum, value_in, weak_resolves_to_place, undefined_weak_target, Memory, World, Reader, Number, Word, place_at, IsOffset, descriptor_call_words, reads_without_calls, IsOffsetSlot, IsLoadedItem}
use Rattle.std.proofs.Common.{eqb-true}
use Rattle.wild_reloc.specs.TableAArch64.{imm12, slot_page}
use Rattle.wild_reloc.specs.TableAArch64.{row as field_row}
use Rattle.wild_reloc.specs.declared.expression.SlotSort.TheVariants as sorts
use Rattle.wild_reloc.specs.declared.info.RelocationKind.TheVariants as kinds
use Rattle.wild_types.specs.declared.kind.Machine.TheVariants as machine
use Rattle.wild_relax.specs.declared.table_aarch64.TheConstants.{CALL_THIRD_SLOT}
use Rattle.wild_aarch64.specs.Row as judged
use Rattle.wild_aarch64.specs.Row.{distance, IsNear, IsRead}
use Rattle.wild_layout.specs.SlotValues.{slot_address}
use Rattle.wild_meaning.specs.Slot.{IsSlotOf}
use Rattle.wild_references.proofs.KeptItems.{item_lies}
use Rattle.wild_references.proofs.SlotTerms.{offset_slots, slot_given}
use Rattle.wild_references.proofs.ThreadPlaces.{offsets_stand}
use Rattle.wild_references.proofs.WholeSections.{placed}
use Rattle.wild_references.proofs.RunsAArch64.{RunDoes}
use Rattle.wild_references.proofs.WordsAArch64.{IsWordThere, AreWordsThere, by_words}
use Rattle.wild_references.proofs.RewrittenCode.{lower, run_done, one_slot_read}
use Rattle.wild_references.proofs.RewrittenReads.{reads_at, reads_there, IsDone}
use Rattle.wild_references.proofs.RewrittenOffsets.{IsWrittenWord, WritesWord, word_there, word_small, word_same, written_long}
use Rattle.wild_references.proofs.RewrittenDescriptors.{IsWrittenPart, first_word, second_word, nop_first, nop_second, four_words}

third_word : WritesWord CALL_THIRD_SLOT
unfolding static_row thread_row
third_word = record { begins = refl; size = refl; fits = refl }

fourth_word : WritesWord CALL_FOURTH_SLOT
unfolding static_row thread_row
fourth_word = record { begins = refl; size = refl; fits = refl }

abbrev page_info : RelocationKindInfo
page_info = slot_page kinds.GotTpOff

abbrev low_info : RelocationKindInfo
low_info = field_row kinds.GotTpOffGot (imm12 3 12) any 8

page_is : info_written CALL_THIRD_SLOT ≡ page_info
unfolding static_row thread_row
page_is = refl

low_is : info_written CALL_FOURTH_SLOT ≡ low_info
unfolding static_row thread_row
low_is = refl

abbrev pub call_rows : Rewriting
call_rows = rewriting DescriptorCall (CALL_FIRST ∷ CALL_SECOND ∷ CALL_THIRD_SLOT ∷ CALL_FOURTH_SLOT ∷ []) judged.call_to_slot

-- ---- the values

-- the distance of the slot's page
record IsPageValue (l : Layout) (s : Item) (p : InputRelocation) (v : ℕ) : Type 0 where
  term : ℕ
  given : slot_address l sorts.TpOff p.symbol ≡ Ok term
  value : value_in l page_info term p.addend (place_to s p CALL_THIRD_SLOT) ≡ v

-- the low bits of its address
record IsLowValue (l : Layout) (p : InputRelocation) (v : ℕ) : Type 0 where
  term : ℕ
  given : slot_address l sorts.TpOff p.symbol ≡ Ok term
  value : sum term p.addend ≡ v

page_at : (j : Machine) (l : Layout) (p : InputRelocation) (o : Result ℕ Fault) (at t : ℕ) → (if weak_resolves_to_place j l p page_info then Ok (undefined_weak_target p.number at) else o) ≡ Ok t → o ≡ Ok t
page_at machine.X86_64 l p o at t h = h
page_at machine.AArch64 l p o at t h = h

low_at : (j : Machine) (l : Layout) (p : InputRelocation) (o : Result ℕ Fault) (at t : ℕ) → (if weak_resolves_to_place j l p low_info then Ok (undefined_weak_target p.number at) else o) ≡ Ok t → o ≡ Ok t
low_at machine.X86_64 l p o at t h = h
low_at machine.AArch64 l p o at t h = h

page_value : (l : Layout) (s : Item) (i : ℕ) (p : InputRelocation) (v : ℕ) → IsWrittenWord l s i p CALL_THIRD_SLOT v → IsPageValue l s p v
page_value l s i p v w =
    let given = subst (λ (f : RelocationKindInfo). term_to l p f (place_to s p CALL_THIRD_SLOT) ≡ Ok w.term) page_is w.given in
    let value = subst (λ (f : RelocationKindInfo). value_in l f w.term p.addend (place_to s p CALL_THIRD_SLOT) ≡ v) page_is w.value in
    record { term = w.term; given = page_at l.machine l p (slot_address l sorts.TpOff p.symbol) (place_to s p CALL_THIRD_SLOT) w.term given; value = value }

low_value : (l : Layout) (s : Item) (i : ℕ) (p : InputRelocation) (v : ℕ) → IsWrittenWord l s i p CALL_FOURTH_SLOT v → IsLowValue l p v
low_value l s i p v w =
    let given = subst (λ (f : RelocationKindInfo). term_to l p f (place_to s p CALL_FOURTH_SLOT) ≡ Ok w.term) low_is w.given in
    let value = subst (λ (f : RelocationKindInfo). value_in l f w.term p.addend (place_to s p CALL_FOURTH_SLOT) ≡ v) low_is w.value in
    record { term = w.term; given = low_at l.machine l p (slot_address l sorts.TpOff p.symbol) (place_to s p CALL_FOURTH_SLOT) w.term given; value = value }

-- a type of 33 signed bits takes it
within_33 : (v : ℕ) → allows page_info v ≡ true → (v < 2 ^ 32) ⊎ (2 ^ 64 ≤ v + 2 ^ 32)
within_33 v h = by (nat_lt v (2 ^ 32)) (nat_le (2 ^ 64 - 2 ^ 32) v) refl refl (and_parts (is_aligned 4096 v) (nat_lt v (2 ^ 32) || nat_le (2 ^ 64 - 2 ^ 32) v) h).1
  where
    by : (a b : Bool) → nat_lt v (2 ^ 32) ≡ a → nat_le (2 ^ 64 - 2 ^ 32) v ≡ b → (a || b) ≡ true → (v < 2 ^ 32) ⊎ (2 ^ 64 ≤ v + 2 ^ 32)
    by true b e f h = inl (ltb-true v (2 ^ 32) e)
    by false true e f h = inr (let over = leb-true (2 ^ 64 - 2 ^ 32) v f in omega (arith, over))
    by false false e f h = cc

eights : (v : ℕ) → allows low_info v ≡ true → v % 8 ≡ 0
eights v h = eqb-true (v % 8) 0 (and_parts (v % 8 == 0) (nat_lt v (2 ^ 63) || nat_le (2 ^ 64 - 2 ^ 63) v) h).0

-- the distance of the pages
distance_is : (term c address offset start v : ℕ) → c ≡ 0 → offset ≡ start + 4 + 4 → address + start + 16 ≤ 2 ^ 62 → ((term + c) % 2 ^ 64 / 4096 * 4096 + (2 ^ 64 - (address + (offset - 0 + 0)) % 2 ^ 64 / 4096 * 4096)) % 2 ^ 64 ≡ v → distance (page (address + start + 4 + 4)) (page (term % 2 ^ 64)) ≡ v
distance_is term c address offset start v none at low e =
    let place : (address + (offset - 0 + 0)) % 2 ^ 64 ≡ address + start + 4 + 4 = omega (arith, at, low) in
    let to : (term + c) % 2 ^ 64 ≡ term % 2 ^ 64 = omega (arith, none) in
    ap (λ (p : ℕ). distance (page p) (page (term % 2 ^ 64))) (sym place) ∙ (ap (λ (n : ℕ). distance (page ((address + (offset - 0 + 0)) % 2 ^ 64)) (page n)) (sym to) ∙ e)

same_low : (term c : ℕ) → c ≡ 0 → (term + c) % 2 ^ 64 ≡ term % 2 ^ 64
same_low term c none = omega (arith, none)

-- ---- the call

pub call_to_slot : RowsOfAArch64Keep → (l : Layout) (w : World) (m : Memory) (s : Item) (first : InputRelocation) (start k : ℕ) → IsLoadedItem machine.AArch64 l w m s → KeepsAll l → start + 16 ≤ length s.bytes → words_match DescriptorCall (words_at s.bytes start 4) ≡ true → first.symbol ≡ Some k
    → IsWrittenPart l s first start CALL_FIRST → IsWrittenPart l s first (start + 4) CALL_SECOND → IsWrittenPart l s first (start + 4 + 4) CALL_THIRD_SLOT → IsWrittenPart l s first (start + 4 + 4 + 4) CALL_FOURTH_SLOT
    → IsDone machine.AArch64 l w m s first start descriptor_call_words
call_to_slot keeps l w m s first start k g all inside stands named p q t u =
    let in_p : start + 4 ≤ length s.bytes = omega (arith, inside) in
    let in_q : start + 4 + 4 ≤ length s.bytes = omega (arith, inside) in
    let in_t : start + 4 + 4 + 4 ≤ length s.bytes = omega (arith, inside) in
    let in_u : start + 4 + 4 + 4 + 4 ≤ length s.bytes = omega (arith, inside) in
    let low = (item_lies l s g.loadable g.laid g.kept).low in
    let high = page_value l s t.index t.relocation t.value t.written in
    let part = low_value l s u.index u.relocation u.value u.written in
    let term = high.term in
    let at_t : slot_address l sorts.TpOff (Some k) ≡ Ok term = subst (λ (o : Option ℕ). slot_address l sorts.TpOff o ≡ Ok term) (t.symbol ∙ named) high.given in
    let at_u : slot_address l sorts.TpOff (Some k) ≡ Ok part.term = subst (λ (o : Option ℕ). slot_address l sorts.TpOff o ≡ Ok part.term) (u.symbol ∙ named) part.given in
    let both : Ok term ≡ Ok part.term = sym at_t ∙ at_u in
    let one_term : part.term ≡ term = cc in
    let placed_l = placed machine.AArch64 l w m s g in
    let slot : IsSlotOf ThreadOffset l w m k ((w.base + term) % 2 ^ 64) = slot_given sorts.TpOff l w m (Some k) k term (offset_slots l placed_l.symbols.own) (offsets_stand l w m placed_l all) refl at_t in
    let x = term % 2 ^ 64 in
    let v = slot.holds.0 in
    let a = s.address + start in
    let c_t : cast_unsigned w64 t.relocation.addend ≡ 0 = ap (λ (z : ℤ). cast_unsigned w64 z) t.none in
    let c_u : cast_unsigned w64 u.relocation.addend ≡ 0 = ap (λ (z : ℤ). cast_unsigned w64 z) u.none in
    let is : distance (page (a + 4 + 4)) (page x) ≡ t.value = distance_is term (cast_unsigned w64 t.relocation.addend) s.address t.relocation.offset start t.value c_t t.place (omega (arith, low, inside)) high.value in
    let low_bits : x ≡ u.value = sym (same_low term (cast_unsigned w64 u.relocation.addend) c_u) ∙ (ap (λ (n : ℕ). sum n u.relocation.addend) (sym one_term) ∙ part.value) in
    let range = within_33 t.value (subst (λ (f : RelocationKindInfo). allows f t.value ≡ true) page_is t.written.allowed) in
    let aligned : x % 8 ≡ 0 = ap (λ (n : ℕ). n % 8) low_bits ∙ eights u.value (subst (λ (f : RelocationKindInfo). allows f u.value ≡ true) low_is u.written.allowed) in
    let eight : a + 4 + 4 ≡ a + 8 = omega arith in
    let near : IsNear (2 ^ 32) (page (a + 8)) (page x) = record { origin = omega (arith, low, inside); near = subst (λ (n : ℕ). (n < 2 ^ 32) ⊎ (2 ^ 64 ≤ n + 2 ^ 32)) (sym is ∙ ap (λ (n : ℕ). distance (page n) (page x)) eight) range } in
    let loaded : (w.base + term) % 2 ^ 64 ≡ (w.base + x) % 2 ^ 64 = omega arith in
    let b0 = slice_range s.bytes start (start + 4) in
    let b1 = slice_range s.bytes (start + 4) (start + 4 + 4) in
    let b2 = slice_range s.bytes (start + 4 + 4) (start + 4 + 4 + 4) in
    let b3 = slice_range s.bytes (start + 4 + 4 + 4) (start + 4 + 4 + 4 + 4) in
    let t0 = template_of CALL_FIRST p.value b0 in
    let t1 = template_of CALL_SECOND q.value b1 in
    let t2 = template_of CALL_THIRD_SLOT t.value b2 in
    let t3 = template_of CALL_FOURTH_SLOT u.value b3 in
    let ws = number b0 ∷ number b1 ∷ number b2 ∷ number b3 ∷ [] in
    let us = number t0 ∷ number t1 ∷ number t2 ∷ number t3 ∷ [] in
    let d = distance (page (a + 4 + 4)) (page x) in
    let one = word_there l w m s p.index p.relocation CALL_FIRST p.value start g p.written.has first_word p.place in_p in
    let two = word_there l w m s q.index q.relocation CALL_SECOND q.value (start + 4) g q.written.has second_word q.place in_q in
    let three = word_there l w m s t.index t.relocation CALL_THIRD_SLOT t.value (start + 4 + 4) g t.written.has third_word t.place in_t in
    let four = word_there l w m s u.index u.relocation CALL_FOURTH_SLOT u.value (start + 4 + 4 + 4) g u.written.has fourth_word u.place in_u in
    let third : template_of CALL_THIRD_SLOT d (word 4 (number b2)) ≡ t2 = ap (λ (n : ℕ). template_of CALL_THIRD_SLOT n (word 4 (number b2))) is ∙ ap (λ (bs : List ℕ). template_of CALL_THIRD_SLOT t.value bs) (word_same w m l s (start + 4 + 4) g in_t) in
    let fourth : template_of CALL_FOURTH_SLOT x (word 4 (number b3)) ≡ t3 = ap (λ (n : ℕ). template_of CALL_FOURTH_SLOT n (word 4 (number b3))) low_bits ∙ ap (λ (bs : List ℕ). template_of CALL_FOURTH_SLOT u.value bs) (word_same w m l s (start + 4 + 4 + 4) g in_u) in
    let new : words_of (templates_at call_rows.rows a x ws) ≡ us =
    ap (λ (bs : List ℕ). words_of (bs ++ (template_of CALL_SECOND 0 (word 4 (number b1)) ++ (template_of CALL_THIRD_SLOT d (word 4 (number b2)) ++ (template_of CALL_FOURTH_SLOT x (word 4 (number b3)) ++ []))))) (nop_first w m l s start p.value g in_p)
    ∙ (ap (λ (bs : List ℕ). words_of (t0 ++ (bs ++ (template_of CALL_THIRD_SLOT d (word 4 (number b2)) ++ (template_of CALL_FOURTH_SLOT x (word 4 (number b3)) ++ []))))) (nop_second w m l s (start + 4) q.value g in_q)
    ∙ (ap (λ (bs : List ℕ). words_of (t0 ++ (t1 ++ (bs ++ (template_of CALL_FOURTH_SLOT x (word 4 (number b3)) ++ []))))) third
    ∙ (ap (λ (bs : List ℕ). words_of (t0 ++ (t1 ++ (t2 ++ (bs ++ []))))) fourth
    ∙ four_words t0 t1 t2 t3 (written_long s CALL_FIRST p.value start first_word in_p) (written_long s CALL_SECOND q.value (start + 4) second_word in_q) (written_long s CALL_THIRD_SLOT t.value (start + 4 + 4) third_word in_t) (written_long s CALL_FOURTH_SLOT u.value (start + 4 + 4 + 4) fourth_word in_u)))) in
    let place : place_at w s start ≡ w.base + a = omega arith in
    let second : place_at w s (start + 4) ≡ place_at w s start + 4 = omega arith in
    let third_place : place_at w s (start + 4 + 4) ≡ place_at w s start + 4 + 4 = omega arith in
    let fourth_place : place_at w s (start + 4 + 4 + 4) ≡ place_at w s start + 4 + 4 + 4 = omega arith in
    let done : (read : Reader) → ((y : ℕ) → read (Number y) ≡ Some y) → read (Word ((w.base + term) % 2 ^ 64)) ≡ Some v → RunDoes read (place_at w s start) v ws us = λ read numbers slot_reads.
    (let reads : IsRead (lower read) w.base x v = record { aligned = aligned; pages = g.paged.pages; slot = subst (λ (n : ℕ). read (Word n) ≡ Some v) loaded slot_reads } in
    subst (λ (n : ℕ). RunDoes read n v ws us) (sym place) (subst (λ (xs : List ℕ). RunDoes read (w.base + a) v ws xs) new
    (run_done keeps call_rows (1, omega arith, refl) ws read numbers w.base a x v
    (word_small w m l s start g in_p, (word_small w m l s (start + 4) g in_q, (word_small w m l s (start + 4 + 4) g in_t, (word_small w m l s (start + 4 + 4 + 4) g in_u, tt)))) stands (reads, near)))) in
    let there : AreWordsThere m (place_at w s start) us =
    (one, (subst (λ (n : ℕ). IsWordThere m n (number t1)) second two, (subst (λ (n : ℕ). IsWordThere m n (number t2)) third_place three, (subst (λ (n : ℕ). IsWordThere m n (number t3)) fourth_place four, tt)))) in
    let own : IsOffsetSlot l w first.symbol ((w.base + term) % 2 ^ 64) = record { index = k; named = named; slot = slot.slot; given = slot.given; moves = slot.moves } in
    record {
      does = record {
        value = v;
        demands = subst (λ (o : Option ℕ). IsOffset l w o v) (sym named) slot.holds.2;
        code = by_words (reads_without_calls w m) l w m s start descriptor_call_words v us g.on refl inside (λ e h. h) there (done (reads_without_calls w m) (λ y. refl) slot.holds.1);
      };
      words = one_slot_read l w m s first start descriptor_call_words v ((w.base + term) % 2 ^ 64) ws us refl there (done (reads_at ((w.base + term) % 2 ^ 64) v) (λ y. refl) (reads_there ((w.base + term) % 2 ^ 64) v)) own;
    }
