-- A word of AArch64 code that a row rewrites is one of a run that the reader knows.
--   kind_of, run_of         the kind of run that a sequence is, and its instruction
--   run_stands              its words are a run of that kind
--   IsRewrittenWord ..      a row of a sequence is chosen for a relocation
--   IsRunThere, run_there   where its sequence stands, and with which relocations
--   run_is                  the reader takes it for that instruction
use Rattle.wild_references.proofs.Common.{◌≡◌, ℕ, zero, suc, ◌+◌, ◌-◌, ◌*◌, ◌/◌, ◌%◌, ◌^◌, ◌<◌, ◌≤◌, Bool, true, false, List, [], ◌∷◌, length, refl, sym, ap, ◌∙◌, subst, arith, ◌&&◌, ◌||◌, ◌==◌, not, nat_lt, drop, slice_get, slice_range, Option, Some, None, Ok, option_map, list_all, and_parts, and_from, ne_eqb, leb-true, ltb-true, not-true, number, implied, listed_passes, InputRelocation, Layout, ValueFlags, has_flag, interposable, absolute, dynamic, undefined_weak, Item, executable, flags_at, Code, Adrp, Add, Ldr, Blr, has_fixed_bits, read, run, shapes, Pattern, Sequence, DescriptorCall, OffsetSlot, Address, RelocationInfo, Row, ValueTest, pattern_of, Question, relocation_of, takes_value, rows_aarch64, chosen_row_aarch64, types_of, words_before, relocations_match, words_at, words_match, nameless, infos_from, question_around, relocation_around, has_known_meaning, is_run, Instruction, descriptor_call_words, offset_pair_words, address_pair_words, names_merged}
use Rattle.std.proofs.Common.{eqb-true, eq-eqb}
use Rattle.wild_types.specs.declared.kind.Machine.TheVariants as machine
use Rattle.wild_aarch64.specs.declared.template.Template.{Template}
use Rattle.wild_aarch64.specs.declared.template.Template.TheVariants as kinds
use Rattle.wild_aarch64.specs.Slice.{bits}
use Rattle.wild_aarch64.specs.Forms.{d, adrp, add, ldr}
use Rattle.wild_aarch64.specs.Effect.{without_immediate}
use Rattle.wild_aarch64.specs.Template.{codes_of, same, fits, begins}
use Rattle.wild_relax.specs.declared.pattern.Pattern.TheVariants.{Among}
use Rattle.wild_relax.specs.declared.row.ValueTest.TheVariants as value
use Rattle.wild_relax.specs.RewriteX86_64.{register_set}
use Rattle.wild_relax.specs.SequenceAArch64.{is_adrp, is_ldr, is_add}
use Rattle.wild_relax.proofs.KeepAArch64Lemmas.{adrp_shape, ldr_shape, add_shape, blr_shape}
use Rattle.wild_relax.proofs.TogetherLemmas.{chosen_word}
use Rattle.wild_meaning.specs.WordsAArch64.{are_filled}
use Rattle.wild_references.proofs.RunsAArch64.{address_run, slot_run, call_run}
use Rattle.wild_references.proofs.WordsAArch64.{words_from}

-- ---- the runs

abbrev pub kind_of : Sequence → Template
kind_of DescriptorCall = kinds.DescriptorCall
kind_of OffsetSlot = kinds.SlotPair
kind_of Address = kinds.AddressPair

abbrev pub run_of : Sequence → Instruction
run_of DescriptorCall = descriptor_call_words
run_of OffsetSlot = offset_pair_words
run_of Address = address_pair_words

-- ---- words

adrp_form : (r w : ℕ) → is_adrp r w ≡ true → has_fixed_bits adrp.fixed w ≡ true
adrp_form r w h =
    let first = and_parts _ _ (and_parts _ _ h).0 in
    let top : w / 2 ^ 31 ≡ 1 = eqb-true _ _ first.0 in
    let class : w / 2 ^ 24 % 2 ^ 5 ≡ 16 = eqb-true _ _ first.1 in
    let a : bits 26 3 w ≡ 4 = omega (arith, class) in
    let b : bits 24 5 w ≡ 16 = omega (arith, class) in
    let c : bits 31 1 w ≡ 1 = omega (arith, top) in
    and_from _ _ (eq-eqb _ _ a) (and_from _ _ (eq-eqb _ _ b) (and_from _ _ (eq-eqb _ _ c) refl))

ldr_form : (r q w : ℕ) → is_ldr r q w ≡ true → has_fixed_bits ldr.fixed w ≡ true
ldr_form r q w h =
    let first = and_parts _ _ (and_parts _ _ h).0 in
    let top : w / 2 ^ 22 ≡ 0x3e5 = eqb-true _ _ first.0 in
    let a : bits 26 3 w ≡ 6 = omega (arith, top) in
    let b : bits 24 2 w ≡ 1 = omega (arith, top) in
    let c : bits 29 3 w ≡ 7 = omega (arith, top) in
    let e : bits 22 2 w ≡ 1 = omega (arith, top) in
    and_from _ _ (eq-eqb _ _ a) (and_from _ _ (eq-eqb _ _ b) (and_from _ _ (eq-eqb _ _ c) (and_from _ _ (eq-eqb _ _ e) refl)))

add_form : (r q w : ℕ) → is_add r q w ≡ true → has_fixed_bits add.fixed w ≡ true
add_form r q w h =
    let first = and_parts _ _ (and_parts _ _ h).0 in
    let top : w / 2 ^ 22 ≡ 0x244 = eqb-true _ _ first.0 in
    let a : bits 26 3 w ≡ 4 = omega (arith, top) in
    let b : bits 24 5 w ≡ 17 = omega (arith, top) in
    let c : bits 22 10 w ≡ 0x244 = omega (arith, top) in
    and_from _ _ (eq-eqb _ _ a) (and_from _ _ (eq-eqb _ _ b) (and_from _ _ (eq-eqb _ _ c) refl))

-- an instruction of that shape
fits_shape : (t : Code) (o : Option Code) → option_map without_immediate o ≡ Some t → same t t ≡ true → fits t o ≡ true
fits_shape t None e s = cc
fits_shape t (Some c) e s = (let is : without_immediate c ≡ t = cc in subst (λ (x : Code). same t x ≡ true) (sym is) s)

two_fit : (t u : Code) (a b : Option Code) → fits t a ≡ true → fits u b ≡ true → begins (t ∷ u ∷ []) (a ∷ b ∷ []) ≡ true
two_fit t u a b f g = rw (f, g) refl

four_fit : (t u x y : Code) (a b c e : Option Code) → fits t a ≡ true → fits u b ≡ true → fits x c ≡ true → fits y e ≡ true → begins (t ∷ u ∷ x ∷ y ∷ []) (a ∷ b ∷ c ∷ e ∷ []) ≡ true
four_fit t u x y a b c e f g h k = rw (f, g, h, k) refl

two_filled : (a b : Bool) → a ≡ true → b ≡ true → ((a || false) && ((b || false) && true)) ≡ true
two_filled a b f g = rw (f, g) refl

three_filled : (a b c : Bool) → a ≡ true → b ≡ true → c ≡ true → ((a || false) && ((b || false) && ((c || false) && (true && true)))) ≡ true
three_filled a b c f g h = rw (f, g, h) refl

itself : (r : ℕ) → (r == r) ≡ true
itself r = eq-eqb r r refl

same_adrp : (r : ℕ) → same (Adrp r 0) (Adrp r 0) ≡ true
same_adrp r = rw (itself r) refl

same_ldr : (r q : ℕ) → same (Ldr r q 0) (Ldr r q 0) ≡ true
same_ldr r q = rw (itself r, itself q) refl

same_add : (r q : ℕ) → same (Add r q 0) (Add r q 0) ≡ true
same_add r q = rw (itself r, itself q) refl

same_blr : (r : ℕ) → same (Blr r) (Blr r) ≡ true
same_blr r = itself r

-- the register is the one that the second word sets
second_sets : (w : ℕ) → d w ≡ register_set w
second_sets w = omega arith

address_stands : (b c : ℕ) → words_match Address (b ∷ c ∷ []) ≡ true → is_run kinds.AddressPair (types_of Address) (b ∷ c ∷ []) ≡ true
address_stands b c h =
    let both = and_parts _ _ h in
    let r = register_set c in
    let low : r < 31 = ltb-true _ _ both.0 in
    let each = and_parts _ _ both.1 in
    let pb = adrp_shape r b each.0 in
    let pc = add_shape r r c each.1 in
    let e = second_sets c in
    let filled : are_filled (types_of Address) (b ∷ c ∷ []) ≡ true = two_filled (has_fixed_bits adrp.fixed b) (has_fixed_bits add.fixed c) (adrp_form r b each.0) (add_form r r c each.1) in
    let codes : begins (codes_of kinds.AddressPair r) (read b ∷ read c ∷ []) ≡ true = two_fit (Adrp r 0) (Add r r 0) (read b) (read c) (fits_shape (Adrp r 0) (read b) pb (same_adrp r)) (fits_shape (Add r r 0) (read c) pc (same_add r r)) in
    let shaped : shapes (b ∷ c ∷ []) ≡ Some (Adrp r 0) ∷ Some (Add r r 0) ∷ [] = rw (pb, pc) refl in
    let told : has_known_meaning (run (shapes (b ∷ c ∷ [])) 0 []) ≡ true = ap (λ (cs : List (Option Code)). has_known_meaning (run cs 0 [])) shaped ∙ ap has_known_meaning (address_run r 0 0 0 _ (ne_eqb r 31 (λ z. omega (arith, low, z))) refl) in
    and_from _ _ filled (and_from _ _ (subst (λ (q : ℕ). begins (codes_of kinds.AddressPair q) (read b ∷ read c ∷ []) ≡ true) (sym e) codes) told)

slot_stands : (b c : ℕ) → words_match OffsetSlot (b ∷ c ∷ []) ≡ true → is_run kinds.SlotPair (types_of OffsetSlot) (b ∷ c ∷ []) ≡ true
slot_stands b c h =
    let both = and_parts _ _ h in
    let r = register_set c in
    let low : r < 31 = ltb-true _ _ both.0 in
    let each = and_parts _ _ both.1 in
    let pb = adrp_shape r b each.0 in
    let pc = ldr_shape r r c each.1 in
    let e = second_sets c in
    let filled : are_filled (types_of OffsetSlot) (b ∷ c ∷ []) ≡ true = two_filled (has_fixed_bits adrp.fixed b) (has_fixed_bits ldr.fixed c) (adrp_form r b each.0) (ldr_form r r c each.1) in
    let codes : begins (codes_of kinds.SlotPair r) (read b ∷ read c ∷ []) ≡ true = two_fit (Adrp r 0) (Ldr r r 0) (read b) (read c) (fits_shape (Adrp r 0) (read b) pb (same_adrp r)) (fits_shape (Ldr r r 0) (read c) pc (same_ldr r r)) in
    let shaped : shapes (b ∷ c ∷ []) ≡ Some (Adrp r 0) ∷ Some (Ldr r r 0) ∷ [] = rw (pb, pc) refl in
    let told : has_known_meaning (run (shapes (b ∷ c ∷ [])) 0 []) ≡ true = ap (λ (cs : List (Option Code)). has_known_meaning (run cs 0 [])) shaped ∙ ap has_known_meaning (slot_run r 0 0 0 _ (ne_eqb r 31 (λ z. omega (arith, low, z))) refl) in
    and_from _ _ filled (and_from _ _ (subst (λ (q : ℕ). begins (codes_of kinds.SlotPair q) (read b ∷ read c ∷ []) ≡ true) (sym e) codes) told)

call_told : (r : ℕ) → 1 ≤ r → r < 31 → has_known_meaning (run (Some (Adrp 0 0) ∷ Some (Ldr r 0 0) ∷ Some (Add 0 0 0) ∷ Some (Blr r) ∷ []) 0 []) ≡ true
call_told zero some low = absurd (omega (arith, some))
call_told (suc q) some low = ap has_known_meaning (call_run q 0 0 0 0 _ (ne_eqb (suc q) 31 (λ z. omega (arith, low, z))) refl refl)

call_stands : (b c e f : ℕ) → words_match DescriptorCall (b ∷ c ∷ e ∷ f ∷ []) ≡ true → is_run kinds.DescriptorCall (types_of DescriptorCall) (b ∷ c ∷ e ∷ f ∷ []) ≡ true
call_stands b c e f h =
    let both = and_parts _ _ h in
    let r = register_set c in
    let low : r < 31 = ltb-true _ _ both.0 in
    let last = and_parts _ _ both.1 in
    let third = and_parts _ _ last.0 in
    let second = and_parts _ _ third.0 in
    let first = and_parts _ _ second.0 in
    let some : 1 ≤ r = leb-true _ _ first.0 in
    let pb = adrp_shape 0 b first.1 in
    let pc = ldr_shape r 0 c second.1 in
    let pe = add_shape 0 0 e third.1 in
    let pf = blr_shape r f last.1 in
    let at = second_sets c in
    let filled : are_filled (types_of DescriptorCall) (b ∷ c ∷ e ∷ f ∷ []) ≡ true = three_filled (has_fixed_bits adrp.fixed b) (has_fixed_bits ldr.fixed c) (has_fixed_bits add.fixed e) (adrp_form 0 b first.1) (ldr_form r 0 c second.1) (add_form 0 0 e third.1) in
    let codes : begins (codes_of kinds.DescriptorCall r) (read b ∷ read c ∷ read e ∷ read f ∷ []) ≡ true =
    four_fit (Adrp 0 0) (Ldr r 0 0) (Add 0 0 0) (Blr r) (read b) (read c) (read e) (read f) (fits_shape (Adrp 0 0) (read b) pb refl) (fits_shape (Ldr r 0 0) (read c) pc (same_ldr r 0)) (fits_shape (Add 0 0 0) (read e) pe refl) (fits_shape (Blr r) (read f) pf (same_blr r)) in
    let shaped : shapes (b ∷ c ∷ e ∷ f ∷ []) ≡ Some (Adrp 0 0) ∷ Some (Ldr r 0 0) ∷ Some (Add 0 0 0) ∷ Some (Blr r) ∷ [] = rw (pb, pc, pe, pf) refl in
    let told : has_known_meaning (run (shapes (b ∷ c ∷ e ∷ f ∷ [])) 0 []) ≡ true = ap (λ (cs : List (Option Code)). has_known_meaning (run cs 0 [])) shaped ∙ call_told r some low in
    and_from _ _ filled (and_from _ _ (subst (λ (q : ℕ). begins (codes_of kinds.DescriptorCall q) (read b ∷ read c ∷ read e ∷ read f ∷ []) ≡ true) (sym at) codes) told)

pub same_words : (n at : ℕ) (bs : List ℕ) → words_at bs at n ≡ words_from n at bs
same_words zero at bs = refl
same_words (suc n) at bs = ap (λ (ws : List ℕ). number (slice_range bs at (at + 4)) ∷ ws) (same_words n (at + 4) bs)

abbrev word : ℕ → List ℕ → ℕ
word at bs = number (slice_range bs at (at + 4))

-- the words of a sequence in bytes are such a run
pub run_stands : (q : Sequence) (at : ℕ) (bs : List ℕ) → words_match q (words_at bs at (length (types_of q))) ≡ true → is_run (kind_of q) (types_of q) (words_from (length (types_of q)) at bs) ≡ true
run_stands DescriptorCall at bs h = call_stands (word at bs) (word (at + 4) bs) (word (at + 4 + 4) bs) (word (at + 4 + 4 + 4) bs) h
run_stands OffsetSlot at bs h = slot_stands (word at bs) (word (at + 4) bs) h
run_stands Address at bs h = address_stands (word at bs) (word (at + 4) bs) h

-- ---- relocations

-- a row that is one of a sequence's is chosen for relocation i
pub record IsRewrittenWord (l : Layout) (s : Item) (i : ℕ) (r : InputRelocation) (row : Row) : Type 0 where
  pub on : l.machine ≡ machine.AArch64
  pub listed : slice_get s.relocations i ≡ Some r
  pub symbol : ℕ
  pub named : r.symbol ≡ Some symbol
  pub plain : names_merged l (Some symbol) ≡ false
  pub chosen : chosen_row_aarch64 (question_around l s i r symbol) ≡ Ok (Some row)
  pub sequence : Sequence
  pub word : ℕ
  pub among : pattern_of row ≡ Among sequence word

-- what each such row asks
abbrev pub is_word : Pattern → Bool
is_word (Among q k) = true
is_word other = false

abbrev asks_for_code : Row → Bool
asks_for_code row = not (is_word (pattern_of row)) || row.in_code

each_asks : list_all asks_for_code rows_aarch64 ≡ true
unfolding rows_aarch64
each_asks = refl

abbrev counts : Pattern → ℕ → Bool
counts (Among q k) n = words_before n == k && nat_lt k (length (types_of q))
counts other n = true

abbrev is_counted : Row → Bool
is_counted row = counts (pattern_of row) row.number

each_is_counted : list_all is_counted rows_aarch64 ≡ true
unfolding rows_aarch64
each_is_counted = refl

abbrev is_address : Pattern → Bool
is_address (Among Address k) = true
is_address other = false

abbrev pub asks_near : ValueTest → Bool
asks_near (value.OwnNear behind) = true
asks_near other = false

abbrev is_near_address : Row → Bool
is_near_address row = not (is_address (pattern_of row)) || asks_near row.value

each_is_near : list_all is_near_address rows_aarch64 ≡ true
unfolding rows_aarch64
each_is_near = refl

-- a near address is of an own symbol that is there and moves
pub record IsNearSymbol (f : ValueFlags) : Type 0 where
  pub own : interposable f ≡ false
  pub moves : has_flag f absolute ≡ false
  pub here : has_flag f dynamic ≡ false
  pub defined : has_flag f undefined_weak ≡ false

pub near_symbol : (t : ValueTest) (q : Question) → asks_near t ≡ true → takes_value t q ≡ true → IsNearSymbol q.flags
near_symbol (value.OwnNear behind) q near h =
    let weak = and_parts _ _ (and_parts _ _ h).0 in
    let own = and_parts _ _ weak.0 in
    let address = and_parts _ _ own.1 in
    record { own = not-true _ own.0; moves = not-true _ address.0; here = not-true _ address.1; defined = not-true _ weak.1 }
near_symbol other q near h = cc

in_code : (b c : Bool) → b ≡ true → (not b || c) ≡ true → c ≡ true
in_code true c e h = h
in_code false c e h = cc

-- the whole sequence, of which relocation i is that of a word
pub record IsRunThere (l : Layout) (s : Item) (i : ℕ) (r : InputRelocation) (row : Row) (q : Sequence) (k : ℕ) : Type 0 where
  pub index : ℕ
  pub at : i ≡ index + k
  pub few : k < length (types_of q)
  pub before : words_before r.number ≡ k
  pub start : ℕ
  pub place : r.offset ≡ start + 4 * k
  pub follows : relocations_match r.symbol start (types_of q) (infos_from s.relocations index) ≡ true
  pub inside : start + 4 * length (types_of q) ≤ length s.bytes
  pub words : words_match q (words_at s.bytes start (length (types_of q))) ≡ true
  pub code : executable s.flags ≡ true

back : (i w : ℕ) → w ≤ i - (i - w) → (i - w + w ≡ i) × (i - (i - w) - w ≡ 0)
back i w h = (omega (arith, h), omega (arith, h))

pub run_there : (l : Layout) (s : Item) (i : ℕ) (r : InputRelocation) (row : Row) → (t : IsRewrittenWord l s i r row) → IsRunThere l s i r row t.sequence t.word
run_there l s i r row t =
    let q = question_around l s i r t.symbol in
    let c = chosen_word q row t.sequence t.word t.chosen t.among in
    let is : relocation_of q ≡ nameless r = relocation_around l s i r t.symbol t.listed in
    let number : r.number ≡ row.number = sym (ap (λ (x : RelocationInfo). x.number) is) ∙ c.applied.number in
    let counted : counts (pattern_of row) row.number ≡ true = listed_passes is_counted rows_aarch64 row each_is_counted c.listed in
    let both = and_parts (words_before row.number == t.word) (nat_lt t.word (length (types_of t.sequence))) (subst (λ (p : Pattern). counts p row.number ≡ true) t.among counted) in
    let few : words_before r.number ≡ t.word = ap words_before number ∙ eqb-true (words_before row.number) t.word both.0 in
    let far : t.word ≤ i - (i - t.word) = subst (λ (n : ℕ). t.word ≤ i - (i - n)) few c.among.behind in
    let b = back i t.word far in
    let offset : (relocation_of q).offset ≡ r.offset = ap (λ (x : RelocationInfo). x.offset) is in
    let from : 4 * t.word ≤ r.offset = subst (λ (n : ℕ). 4 * t.word ≤ n) offset c.among.offset in
    let first : i - words_before r.number ≡ i - t.word = ap (λ (n : ℕ). i - n) few in
    let none : i - (i - words_before r.number) - t.word ≡ 0 = ap (λ (n : ℕ). i - (i - n) - t.word) few ∙ b.1 in
    let in_row : row.in_code ≡ true = implied _ _ (listed_passes asks_for_code rows_aarch64 row each_asks c.listed) (ap is_word t.among) in
    record {
      index = i - t.word;
      at = sym b.0;
      few = ltb-true _ _ both.1;
      before = few;
      start = r.offset - 4 * t.word;
      place = omega (arith, from);
      follows =
          subst (λ (j : ℕ). relocations_match r.symbol (r.offset - 4 * t.word) (types_of t.sequence) (infos_from s.relocations j) ≡ true) first
          (subst (λ (n : ℕ). relocations_match r.symbol (r.offset - 4 * t.word) (types_of t.sequence) (drop n (infos_from s.relocations (i - words_before r.number))) ≡ true) none
          (subst (λ (x : RelocationInfo). relocations_match x.symbol (x.offset - 4 * t.word) (types_of t.sequence) (drop (i - (i - words_before r.number) - t.word) (infos_from s.relocations (i - words_before r.number))) ≡ true) is c.among.follows));
      inside = subst (λ (n : ℕ). n - 4 * t.word + 4 * length (types_of t.sequence) ≤ length s.bytes) offset c.among.within;
      words = subst (λ (n : ℕ). words_match t.sequence (words_at s.bytes (n - 4 * t.word) (length (types_of t.sequence))) ≡ true) offset c.among.words;
      code = in_code row.in_code (executable s.flags) in_row c.applied.section;
    }

-- the symbol of a near address is there
pub address_there : (l : Layout) (s : Item) (i : ℕ) (r : InputRelocation) (row : Row) → (t : IsRewrittenWord l s i r row) → t.sequence ≡ Address → has_flag (flags_at l t.symbol) undefined_weak ≡ false
address_there l s i r row t e =
    let q = question_around l s i r t.symbol in
    let c = chosen_word q row t.sequence t.word t.chosen t.among in
    let near = implied _ _ (listed_passes is_near_address rows_aarch64 row each_is_near c.listed) (ap is_address (t.among ∙ ap (λ (x : Sequence). Among x t.word) e)) in
    (near_symbol row.value q near c.applied.value).defined
