-- `nop; adr` in place of the two words of an address does what they demand.
use Rattle.wild_references.proofs.Common.{◌≡◌, ℕ, ℤ, pos, ◌+◌, ◌-◌, ◌%◌, ◌^◌, ◌<◌, ◌≤◌, ◌⊎◌, inl, inr, Bool, true, false, List, [], ◌∷◌, ◌++◌, length, refl, sym, ap, ◌∙◌, subst, arith, Option, Some, Ok, Result, ◌||◌, if◌then◌else◌, slice_range, nat_lt, nat_le, w64, cast_unsigned, and_parts, ltb-true, leb-true, word, number, holds_at, is_aligned, allows, x86_64_row, static_row, RelocationKindInfo, PageDistance, Machine, Fault, InputRelocation, Layout, interposable, has_flag, absolute, undefined_weak, Item, flags_at, Address, Rewriting, rewriting, templates_at, RowsOfAArch64Keep, words_of, template_of, info_written, words_at, words_match, place_to, term_to, NamesSymbol, address_of, displacement, value_in, is_undefined_weak_without_stub, weak_resolves_to_place, undefined_weak_target, flag_is, Memory, World, place_at, IsReplaceable, with_base, IsUndefinedWeak, IsOneAddress, IsReferent, IsReferentOnAArch64, IsSum, address_pair_words, reads_without_calls, reads_numbers, Reader, Number, HasStubAddress, IsLoadedItem, names_merged, address_for, NamesStrings, rewritten_aarch64}
use Rattle.wild_reloc.specs.TableAArch64.{adr, signed}
use Rattle.wild_reloc.specs.TableAArch64.{row as field_row}
use Rattle.wild_reloc.specs.declared.info.RelocationKind.TheVariants as kinds
use Rattle.wild_types.specs.declared.kind.Machine.TheVariants as machine
use Rattle.wild_relax.specs.declared.table_aarch64.TheConstants.{ADDRESS_FIRST, ADDRESS_SECOND}
use Rattle.wild_aarch64.specs.Row as judged
use Rattle.wild_aarch64.specs.Row.{distance, IsNear}
use Rattle.wild_relax.proofs.KeepAArch64Lemmas.{address_first}
use Rattle.wild_references.proofs.KeptItems.{item_lies}
use Rattle.wild_references.proofs.StubCode.{StubLaws}
use Rattle.wild_references.proofs.Targets.{StubIsWritten, addressed, one_addressed}
use Rattle.wild_references.proofs.RewrittenSymbols.{definition, own_one}
use Rattle.wild_references.proofs.WholeSections.{placed}
use Rattle.wild_references.proofs.RunsAArch64.{RunDoes}
use Rattle.wild_references.proofs.WordsAArch64.{IsWordThere, AreWordsThere, by_words}
use Rattle.wild_references.proofs.RewrittenCode.{run_done, words_of-front, no_slot}
use Rattle.wild_references.proofs.RewrittenReads.{IsDone}
use Rattle.wild_references.proofs.RewrittenOffsets.{IsWrittenWord, IsWrittenPair, WritesWord, word_there, word_small, word_same, written_long}
use Rattle.wild_layout.proofs.MergedLemmas.{address_plain}
use Rattle.wild_references.proofs.MergedStrings.{names_none}

abbrev near_info : RelocationKindInfo
near_info = field_row kinds.Relative (adr 0 21) (signed 21) 1

first_word : WritesWord ADDRESS_FIRST
unfolding x86_64_row
first_word = record { begins = refl; size = refl; fits = refl }

second_word : WritesWord ADDRESS_SECOND
unfolding static_row
second_word = record { begins = refl; size = refl; fits = refl }

info_is : info_written ADDRESS_SECOND ≡ near_info
unfolding static_row
info_is = refl

abbrev pub address_rows : Rewriting
address_rows = rewriting Address (ADDRESS_FIRST ∷ ADDRESS_SECOND ∷ []) judged.address_to_near

-- ---- the value

-- the distance of a symbol that is there
pub record IsNearValue (l : Layout) (s : Item) (p : InputRelocation) (v : ℕ) : Type 0 where
  pub term : ℕ
  pub given : address_of l p.symbol ≡ Ok term
  pub value : displacement term p.addend (place_to s p ADDRESS_SECOND) ≡ v

at_symbol : (j : Machine) (l : Layout) (p : InputRelocation) (o : Result ℕ Fault) (at t : ℕ) → is_undefined_weak_without_stub l p.symbol ≡ false → (if weak_resolves_to_place j l p near_info then Ok (undefined_weak_target p.number at) else o) ≡ Ok t → o ≡ Ok t
at_symbol machine.X86_64 l p o at t present h = h
at_symbol machine.AArch64 l p o at t present h = rw present at h

near_value : (l : Layout) (s : Item) (i : ℕ) (p : InputRelocation) (v : ℕ) → is_undefined_weak_without_stub l p.symbol ≡ false → names_merged l p.symbol ≡ false → IsWrittenWord l s i p ADDRESS_SECOND v → IsNearValue l s p v
near_value l s i p v present plain w =
    let given = subst (λ (f : RelocationKindInfo). term_to l p f (place_to s p ADDRESS_SECOND) ≡ Ok w.term) info_is w.given in
    let value = subst (λ (f : RelocationKindInfo). value_in l f w.term p.addend (place_to s p ADDRESS_SECOND) ≡ v) info_is w.value in
    record { term = w.term; given = sym (address_plain l p plain) ∙ at_symbol l.machine l p (address_for l p) (place_to s p ADDRESS_SECOND) w.term present given; value = value }

-- a type of 21 signed bits takes it
within_21 : (v : ℕ) → allows near_info v ≡ true → (v < 2 ^ 20) ⊎ (2 ^ 64 ≤ v + 2 ^ 20)
within_21 v h = by (nat_lt v (2 ^ 20)) (nat_le (2 ^ 64 - 2 ^ 20) v) refl refl (and_parts (is_aligned 1 v) (nat_lt v (2 ^ 20) || nat_le (2 ^ 64 - 2 ^ 20) v) h).1
  where
    by : (a b : Bool) → nat_lt v (2 ^ 20) ≡ a → nat_le (2 ^ 64 - 2 ^ 20) v ≡ b → (a || b) ≡ true → (v < 2 ^ 20) ⊎ (2 ^ 64 ≤ v + 2 ^ 20)
    by true b e f h = inl (ltb-true v (2 ^ 20) e)
    by false true e f h = inr (let over = leb-true (2 ^ 64 - 2 ^ 20) v f in omega (arith, over))
    by false false e f h = cc

distance_is : (term c address offset start v : ℕ) → c ≡ 0 → offset ≡ start + 4 → address + start + 8 ≤ 2 ^ 62 → ((term + c) % 2 ^ 64 + (2 ^ 64 - (address + (offset - 0 + 0)) % 2 ^ 64)) % 2 ^ 64 ≡ v → distance (address + start + 4) term ≡ v
distance_is term c address offset start v none at low e = omega (arith, none, at, low, e)

-- ---- the symbol

absent_no : (l : Layout) (k : ℕ) → has_flag (flags_at l k) undefined_weak ≡ false → IsUndefinedWeak l k → ⊥
absent_no l k weak a =
    let yes : has_flag (flags_at l k) undefined_weak ≡ true = flag_is l k undefined_weak true a.weak in
    let both : true ≡ false = sym yes ∙ weak in
    cc

present : (l : Layout) (o : Option ℕ) (k : ℕ) → o ≡ Some k → has_flag (flags_at l k) undefined_weak ≡ false → is_undefined_weak_without_stub l o ≡ false
present l o k named weak = rw (named, weak) refl

-- its address is more by the base
stands_moved : StubLaws → (l : Layout) (w : World) (m : Memory) (s : Item) (k term : ℕ) → IsLoadedItem machine.AArch64 l w m s → StubIsWritten l k → IsReplaceable l k false → has_flag (flags_at l k) absolute ≡ false → address_of l (Some k) ≡ Ok term → IsOneAddress l w m k ((w.base + term) % 2 ^ 64)
stands_moved stubs l w m s k term g stands own moves given =
    let p = placed machine.AArch64 l w m s g in
    let t = addressed stubs l w m (Some k) term p (λ i e. (let same : k ≡ i = cc in subst (λ (x : ℕ). StubIsWritten l x) same stands)) (λ i e. (let same : k ≡ i = cc in subst (λ (x : ℕ). IsReplaceable l x false ⊎ HasStubAddress l x) same (inl own))) given in
    let still : t.still ≡ false = sym (t.flag k refl) ∙ moves in
    let one = one_addressed l w m k term t.still p (inl own) given (t.flag k refl) t.denoted in
    subst (λ (b : Bool). IsOneAddress l w m k (with_base b w.base term)) still one

sum_of : (l : Layout) (w : World) (m : Memory) (s : Item) (first : InputRelocation) (k v : ℕ) → l.machine ≡ machine.AArch64 → first.symbol ≡ Some k → first.addend ≡ pos 0 → (IsUndefinedWeak l k → ⊥) → (NamesStrings l first → ⊥) → IsOneAddress l w m k v → v < 2 ^ 64 → IsSum PageDistance l w m s first v
sum_of l w m s first k v on named none there plain one small =
    let stands : IsReferentOnAArch64 PageDistance l w m s first (Some k) v = inr ((λ own. there own.1), one) in
    let c : cast_unsigned w64 first.addend ≡ 0 = ap (λ (x : ℤ). cast_unsigned w64 x) none in
    record {
      symbol = v;
      denoted = subst (λ (j : Machine). IsReferent j PageDistance l w m s first v) (sym on) (inr ((λ t. plain t.1), subst (λ (o : Option ℕ). IsReferentOnAArch64 PageDistance l w m s first o v) (sym named) stands));
      sum = omega (arith, c, small);
    }

-- ---- the pair

pub address_pair_to_near : StubLaws → RowsOfAArch64Keep → (l : Layout) (w : World) (m : Memory) (s : Item) (first : InputRelocation) (start k : ℕ) → IsLoadedItem machine.AArch64 l w m s → StubIsWritten l k → start + 8 ≤ length s.bytes → words_match Address (words_at s.bytes start 2) ≡ true
    → first.symbol ≡ Some k → interposable (flags_at l k) ≡ false → has_flag (flags_at l k) absolute ≡ false → has_flag (flags_at l k) undefined_weak ≡ false → IsWrittenPair l s first start ADDRESS_FIRST ADDRESS_SECOND → IsDone machine.AArch64 l w m s first start address_pair_words
address_pair_to_near stubs keeps l w m s first start k g addressed_so inside stands named own moves weak t =
    let here : start + 4 ≤ length s.bytes = omega (arith, inside) in
    let behind : start + 4 + 4 ≤ length s.bytes = omega (arith, inside) in
    let lies = item_lies l s g.loadable g.laid g.kept in
    let low = lies.low in
    let second_named : t.second.symbol ≡ Some k = sym t.symbol ∙ named in
    let none : t.second.addend ≡ pos 0 = sym t.addend ∙ t.none in
    let c : cast_unsigned w64 t.second.addend ≡ 0 = ap (λ (x : ℤ). cast_unsigned w64 x) none in
    let value = near_value l s t.place t.second t.other (present l t.second.symbol k second_named weak) (rewritten_aarch64 l s t.place t.second ADDRESS_SECOND t.other g.on t.there.has.listed t.there.has.decided).chosen.plain t.there in
    let x = value.term in
    let given : address_of l (Some k) ≡ Ok x = subst (λ (o : Option ℕ). address_of l o ≡ Ok x) second_named value.given in
    let names = holds_at (NamesSymbol l) s.relocations t.index first t.here.has.listed lies.symbols in
    let own_symbol = own_one l k g.laid.slot_flags (definition l k g.laid.definitions (names k named)) own in
    let v = (w.base + x) % 2 ^ 64 in
    let a = s.address + start in
    let is : distance (a + 4) x ≡ t.other = distance_is x (cast_unsigned w64 t.second.addend) s.address t.second.offset start t.other c t.behind (omega (arith, low, inside)) value.value in
    let range = within_21 t.other (subst (λ (f : RelocationKindInfo). allows f t.other ≡ true) info_is t.there.allowed) in
    let near : IsNear (2 ^ 20) (a + 4) x = record { origin = omega (arith, low, inside); near = subst (λ (n : ℕ). (n < 2 ^ 20) ⊎ (2 ^ 64 ≤ n + 2 ^ 20)) (sym is) range } in
    let old = slice_range s.bytes start (start + 4) in
    let next = slice_range s.bytes (start + 4) (start + 4 + 4) in
    let small = word_small w m l s start g here in
    let one = word_there l w m s t.index first ADDRESS_FIRST t.value start g t.here.has first_word t.at here in
    let two = word_there l w m s t.place t.second ADDRESS_SECOND t.other (start + 4) g t.there.has second_word t.behind behind in
    let plain : template_of ADDRESS_FIRST 0 (word 4 (number old)) ≡ template_of ADDRESS_FIRST t.value old =
    address_first 0 (number old) small ∙ (sym (address_first t.value (number old) small) ∙ ap (λ (bs : List ℕ). template_of ADDRESS_FIRST t.value bs) (word_same w m l s start g here)) in
    let filled : template_of ADDRESS_SECOND (distance (a + 4) x) (word 4 (number next)) ≡ template_of ADDRESS_SECOND t.other next =
    ap (λ (n : ℕ). template_of ADDRESS_SECOND n (word 4 (number next))) is ∙ ap (λ (bs : List ℕ). template_of ADDRESS_SECOND t.other bs) (word_same w m l s (start + 4) g behind) in
    let new : words_of (templates_at address_rows.rows a x (number old ∷ number next ∷ [])) ≡ number (template_of ADDRESS_FIRST t.value old) ∷ number (template_of ADDRESS_SECOND t.other next) ∷ [] =
    ap (λ (bs : List ℕ). words_of (bs ++ (template_of ADDRESS_SECOND (distance (a + 4) x) (word 4 (number next)) ++ []))) plain
    ∙ (ap (λ (bs : List ℕ). words_of (template_of ADDRESS_FIRST t.value old ++ (bs ++ []))) filled
    ∙ (words_of-front (template_of ADDRESS_FIRST t.value old) (template_of ADDRESS_SECOND t.other next ++ []) (written_long s ADDRESS_FIRST t.value start first_word here)
    ∙ ap (λ (ws : List ℕ). number (template_of ADDRESS_FIRST t.value old) ∷ ws) (words_of-front (template_of ADDRESS_SECOND t.other next) [] (written_long s ADDRESS_SECOND t.other (start + 4) second_word behind)))) in
    let ws = number old ∷ number next ∷ [] in
    let us = number (template_of ADDRESS_FIRST t.value old) ∷ number (template_of ADDRESS_SECOND t.other next) ∷ [] in
    let place : place_at w s start ≡ w.base + a = omega arith in
    let both : place_at w s (start + 4) ≡ place_at w s start + 4 = omega arith in
    let done : (read : Reader) → ((y : ℕ) → read (Number y) ≡ Some y) → RunDoes read (place_at w s start) v ws us = λ read numbers.
    subst (λ (n : ℕ). RunDoes read n v ws us) (sym place) (subst (λ (xs : List ℕ). RunDoes read (w.base + a) v ws xs) new
    (run_done keeps address_rows (3, omega arith, refl) ws read numbers w.base a x v (small, (word_small w m l s (start + 4) g behind, tt)) stands (refl, near))) in
    let there : AreWordsThere m (place_at w s start) us = (one, (subst (λ (n : ℕ). IsWordThere m n (number (template_of ADDRESS_SECOND t.other next))) both two, tt)) in
    record {
      does = record {
        value = v;
        demands = sum_of l w m s first k v g.on named t.none (absent_no l k weak) (names_none l first (rewritten_aarch64 l s t.index first ADDRESS_FIRST t.value g.on t.here.has.listed t.here.has.decided).chosen.plain) (stands_moved stubs l w m s k x g addressed_so own_symbol moves given) (omega arith);
        code = by_words (reads_without_calls w m) l w m s start address_pair_words v us g.on refl inside (λ e h. h) there (done (reads_without_calls w m) (λ y. refl));
      };
      words = no_slot l w m s first start address_pair_words v ws us refl there (done reads_numbers (λ y. refl));
    }
