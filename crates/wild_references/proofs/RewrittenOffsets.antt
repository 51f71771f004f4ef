-- Runs of AArch64 words in whose place an offset from the thread pointer is written.
--   IsWrittenWord ..   a word is written by a row, with a value
--   word_there         it stands in memory
--   offset_of_word     its value is the symbol's offset
--   slot_pair_to_offset   `movz; movk` for the slot of an offset
use Rattle.wild_references.proofs.Common.{◌≡◌, ℕ, ℤ, pos, ◌+◌, ◌^◌, ◌<◌, ◌≤◌, inl, inr, Bool, true, false, List, [], ◌∷◌, ◌++◌, length, refl, sym, ap, ◌∙◌, subst, arith, Option, Some, None, Ok, Result, ◌&&◌, ◌||◌, ◌==◌, not, is_none, if◌then◌else◌, slice_range, slice_get, nat_lt, nat_le, w64, cast_unsigned, and_parts, ltb-true, leb-true, word, number, length-range, holds_at, is_aligned, allows, any, static_row, thread_row, RelocationKindInfo, Machine, Fault, InputRelocation, Layout, interposable, Item, is_executable, place_of, flags_at, row_accepts, OffsetSlot, Row, Rewriting, rewriting, templates_at, RowsOfAArch64Keep, words_of, pattern_of, pattern_size, template_of, field_of, rewrite_of, info_written, words_at, words_match, Rewritten, place_to, term_to, NamesSymbol, template_start, sum, value_in, term_of, weak_resolves_to_place, undefined_weak_target, HasDecision, Memory, World, Holds, IsReplaceable, place_at, IsOffset, offset_pair_words, reads_without_calls, reads_numbers, Reader, Number, IsLoadedItem, TermGives, is_expressed, HasTerm}
use Rattle.wild_reloc.specs.TableAArch64.{tp_off, imm16, unsigned}
use Rattle.wild_reloc.specs.declared.expression.Subtrahend.TheVariants as subtrahend
use Rattle.wild_reloc.specs.declared.expression.Term.TheVariants as term
use Rattle.wild_reloc.specs.declared.info.RelocationKind.TheVariants as kinds
use Rattle.wild_reloc.specs.declared.instruction.BitMask.{BitMask}
use Rattle.wild_reloc.specs.declared.range.AllowedRange.{AllowedRange}
use Rattle.wild_reloc.proofs.BitLemmas.{number_32}
use Rattle.wild_types.specs.declared.kind.Machine.TheVariants as machine
use Rattle.wild_relax.specs.declared.table_aarch64.TheConstants.{SLOT_FIRST, SLOT_SECOND}
use Rattle.wild_aarch64.specs.Row as judged
use Rattle.wild_relax.specs.LinkedPattern.{fits_in}
use Rattle.wild_relax.proofs.TemplateLemmas.{length-template}
use Rattle.wild_references.proofs.Fields.{small_range}
use Rattle.wild_references.proofs.KeptItems.{item_lies}
use Rattle.wild_references.proofs.RewrittenSymbols.{definition, own_one}
use Rattle.wild_references.proofs.RewrittenThreads.{offset_at}
use Rattle.wild_references.proofs.RewrittenValues.{pointer_value}
use Rattle.wild_references.proofs.RewrittenTerms.{wide_type, wide}
use Rattle.wild_references.proofs.WholeSections.{placed}
use Rattle.wild_references.proofs.RunsAArch64.{RunDoes}
use Rattle.wild_references.proofs.WordsAArch64.{IsWordThere, AreWordsThere, by_words}
use Rattle.wild_references.proofs.RewrittenCode.{run_done, words_of-front, word_back, no_slot}
use Rattle.wild_references.proofs.RewrittenReads.{IsDone}

-- ---- a word

-- it is written by the row, with the value v of the row's type
pub record IsWrittenWord (l : Layout) (s : Item) (i : ℕ) (p : InputRelocation) (row : Row) (v : ℕ) : Type 0 where
  pub has : HasDecision l s i p (Rewritten row v)
  pub term : ℕ
  pub given : term_to l p (info_written row) (place_to s p row) ≡ Ok term
  pub value : value_in l (info_written row) term ((rewrite_of row).addend p.addend) (place_to s p row) ≡ v
  pub allowed : allows (info_written row) v ≡ true

-- the row writes a word, at its relocation
pub record WritesWord (row : Row) : Type 0 where
  pub begins : field_of (pattern_of row) ≡ 0
  pub size : pattern_size row ≡ 4
  pub fits : fits_in row ≡ true

pub written_long : (s : Item) (row : Row) (v at : ℕ) → WritesWord row → at + 4 ≤ length s.bytes → length (template_of row v (slice_range s.bytes at (at + 4))) ≡ 4
written_long s row v at t inside = length-template row v (slice_range s.bytes at (at + 4)) t.fits (length-range s.bytes at 4 inside ∙ sym t.size) ∙ t.size

pub word_there : (l : Layout) (w : World) (m : Memory) (s : Item) (i : ℕ) (p : InputRelocation) (row : Row) (v at : ℕ) → IsLoadedItem machine.AArch64 l w m s → HasDecision l s i p (Rewritten row v) → WritesWord row → p.offset ≡ at → at + 4 ≤ length s.bytes
    → IsWordThere m (place_at w s at) (number (template_of row v (slice_range s.bytes at (at + 4))))
word_there l w m s i p row v at g has t place inside =
    let begins = t.begins in
    let start : template_start row p ≡ at = omega (arith, begins, place) in
    let old = slice_range s.bytes at (at + 4) in
    let held = subst (λ (n : ℕ). Holds m (w.base + s.address + at) (template_of row v (slice_range s.bytes at (at + n)))) t.size
    (subst (λ (n : ℕ). Holds m (w.base + s.address + n) (template_of row v (slice_range s.bytes n (n + pattern_size row)))) start (g.item.rewritten i p row v has)) in
    record { bytes = template_of row v old; whole = written_long s row v at t inside; held = held; is = refl }

pub word_small : (w : World) (m : Memory) (l : Layout) (s : Item) (at : ℕ) → IsLoadedItem machine.AArch64 l w m s → at + 4 ≤ length s.bytes → number (slice_range s.bytes at (at + 4)) < 2 ^ 32
word_small w m l s at g inside = number_32 (slice_range s.bytes at (at + 4)) (small_range s.bytes at 4 g.bytes inside) (length-range s.bytes at 4 inside)

pub word_same : (w : World) (m : Memory) (l : Layout) (s : Item) (at : ℕ) → IsLoadedItem machine.AArch64 l w m s → at + 4 ≤ length s.bytes → word 4 (number (slice_range s.bytes at (at + 4))) ≡ slice_range s.bytes at (at + 4)
word_same w m l s at g inside =
    let old = slice_range s.bytes at (at + 4) in
    ap (λ (n : ℕ). word n (number old)) (sym (length-range s.bytes at 4 inside)) ∙ word_back old (small_range s.bytes at 4 g.bytes inside)

-- ---- its value

-- the row's type is one of an offset from the thread pointer
pub record IsOffsetRow (row : Row) : Type 0 where
  pub bits : BitMask
  pub range : AllowedRange
  pub info : info_written row ≡ tp_off bits range 1
  pub keeps : (a : ℤ) → (rewrite_of row).addend a ≡ a

-- the value is the symbol's offset
pub record IsOffsetValue (l : Layout) (p : InputRelocation) (v : ℕ) : Type 0 where
  pub term : ℕ
  pub given : term_of l p.symbol kinds.TpOff ≡ Ok term
  pub value : sum term p.addend ≡ v

at_symbol : (k : Machine) (l : Layout) (p : InputRelocation) (bits : BitMask) (range : AllowedRange) (o : Result ℕ Fault) (at t : ℕ) → (if weak_resolves_to_place k l p (tp_off bits range 1) then Ok (undefined_weak_target p.number at) else o) ≡ Ok t → o ≡ Ok t
at_symbol machine.X86_64 l p bits range o at t h = h
at_symbol machine.AArch64 l p bits range o at t h = h

pub value_of_word : (l : Layout) (s : Item) (i : ℕ) (p : InputRelocation) (row : Row) (v : ℕ) → IsOffsetRow row → IsWrittenWord l s i p row v → IsOffsetValue l p v
value_of_word l s i p row v t w =
    let given = subst (λ (f : RelocationKindInfo). term_to l p f (place_to s p row) ≡ Ok w.term) t.info w.given in
    let value = subst (λ (a : ℤ). value_in l (tp_off t.bits t.range 1) w.term a (place_to s p row) ≡ v) (t.keeps p.addend)
    (subst (λ (f : RelocationKindInfo). value_in l f w.term ((rewrite_of row).addend p.addend) (place_to s p row) ≡ v) t.info w.value) in
    record { term = w.term; given = at_symbol l.machine l p t.bits t.range (term_of l p.symbol kinds.TpOff) (place_to s p row) w.term given; value = value }

suits_offset : (x : Bool) (o : Option ℕ) → ((x || true) && not (is_none o && false)) ≡ true
suits_offset true None = refl
suits_offset true (Some i) = refl
suits_offset false None = refl
suits_offset false (Some i) = refl

-- the offset itself, of an own symbol of a program, where nothing is added
pub record IsOwnOffsetOf (l : Layout) (w : World) (symbol : Option ℕ) (v : ℕ) : Type 0 where
  pub offset : IsOffset l w symbol v
  pub small : v < 2 ^ 64

pub offset_of_word : TermGives term.PointerOffset → (l : Layout) (w : World) (m : Memory) (s : Item) (i : ℕ) (p : InputRelocation) (k v at : ℕ) → IsLoadedItem machine.AArch64 l w m s → slice_get s.relocations i ≡ Some p → p.symbol ≡ Some k → p.addend ≡ pos 0 → p.offset ≡ at → at + 4 ≤ length s.bytes
    → is_executable l.kind ≡ true → interposable (flags_at l k) ≡ false → IsOffsetValue l p v → IsOwnOffsetOf l w p.symbol v
offset_of_word law l w m s i p k v at g listed named none place inside program own t =
    let lies = item_lies l s g.loadable g.laid g.kept in
    let names = holds_at (NamesSymbol l) s.relocations i p listed lies.symbols in
    let info = tp_off (imm16 0 16) any 1 in
    let low = lies.low in
    let ends = g.item.ends (omega (arith, inside)) in
    let own_symbol = own_one l k g.laid.slot_flags (definition l k g.laid.definitions (names k named)) own in
    let there : HasTerm l w m s p info v = record {
      placed = placed machine.AArch64 l w m s g;
      present = inr tt;
      room = lies.room;
      listed = names;
      number = wide_type;
      row = wide;
      treated = pointer_value l s k p.symbol named program;
      row_that_accepts = subst (λ (j : Machine). row_accepts j p info ≡ true) (sym g.on) (suits_offset (cast_unsigned w64 p.addend == 0) p.symbol);
      expressed = subst (λ (j : Machine). is_expressed j term.PointerOffset subtrahend.Nothing None ≡ true) (sym g.on) refl;
      term = t.term;
      given = by_place l.machine t.given;
      value = t.value;
      place = omega (arith, low, inside, place);
      ends = omega (arith, low, inside, place, ends);
      addend = λ some. (let zero : cast_unsigned w64 p.addend ≡ 0 = ap (λ (x : ℤ). cast_unsigned w64 x) none in omega (arith, zero));
      asked = λ relative. absurd relative;
    } in
    let gives = law info refl refl l w m s p v there (λ j n. inl (let same : k ≡ j = (let e : Some k ≡ Some j = sym named ∙ n in cc) in subst (λ (x : ℕ). IsReplaceable l x false) same own_symbol)) in
    let is = offset_at l w k gives.0 p.symbol named gives.1 in
    let low_offset = is.small in
    let e = gives.2 in
    let c : cast_unsigned w64 p.addend ≡ 0 = ap (λ (x : ℤ). cast_unsigned w64 x) none in
    let same : gives.0 ≡ v = omega (arith, e, c, low_offset) in
    record { offset = subst (λ (n : ℕ). IsOffset l w p.symbol n) same is.offset; small = subst (λ (n : ℕ). n < 2 ^ 64) same low_offset }
  where
    by_place : (j : Machine) → term_of l p.symbol kinds.TpOff ≡ Ok t.term → (if weak_resolves_to_place j l p (tp_off (imm16 0 16) any 1) then Ok (undefined_weak_target p.number (place_of s.address p)) else term_of l p.symbol kinds.TpOff) ≡ Ok t.term
    by_place machine.X86_64 h = h
    by_place machine.AArch64 h = h

-- two words of one symbol have one value
pub one_value : (l : Layout) (p q : InputRelocation) (u v : ℕ) → p.symbol ≡ q.symbol → p.addend ≡ q.addend → IsOffsetValue l p u → IsOffsetValue l q v → u ≡ v
one_value l p q u v symbol addend a b =
    let there = subst (λ (o : Option ℕ). term_of l o kinds.TpOff ≡ Ok a.term) symbol a.given in
    let both : Ok a.term ≡ Ok b.term = sym there ∙ b.given in
    let same : a.term ≡ b.term = cc in
    sym a.value ∙ (ap (λ (n : ℕ). sum n p.addend) same ∙ (ap (λ (x : ℤ). sum b.term x) addend ∙ b.value))

-- a type of 32 bits takes it
pub within_32 : (bits : BitMask) (v : ℕ) → v < 2 ^ 64 → allows (tp_off bits (unsigned 32) 1) v ≡ true → v < 2 ^ 32
within_32 bits v low h = by (nat_lt v (2 ^ 32)) (nat_le (2 ^ 64) v) refl refl (and_parts (is_aligned 1 v) (nat_lt v (2 ^ 32) || nat_le (2 ^ 64) v) h).1
  where
    by : (a b : Bool) → nat_lt v (2 ^ 32) ≡ a → nat_le (2 ^ 64) v ≡ b → (a || b) ≡ true → v < 2 ^ 32
    by true b e f h = ltb-true v (2 ^ 32) e
    by false true e f h = absurd (let over = leb-true (2 ^ 64) v f in omega (arith, low, over))
    by false false e f h = cc

-- ---- the slot of an offset

slot_first_word : WritesWord SLOT_FIRST
unfolding static_row thread_row
slot_first_word = record { begins = refl; size = refl; fits = refl }

slot_second_word : WritesWord SLOT_SECOND
unfolding static_row thread_row
slot_second_word = record { begins = refl; size = refl; fits = refl }

slot_first_offset : IsOffsetRow SLOT_FIRST
unfolding static_row thread_row
slot_first_offset = record { bits = imm16 16 32; range = unsigned 32; info = refl; keeps = λ a. refl }

slot_second_offset : IsOffsetRow SLOT_SECOND
unfolding static_row thread_row
slot_second_offset = record { bits = imm16 0 16; range = any; info = refl; keeps = λ a. refl }

slot_info : info_written SLOT_FIRST ≡ tp_off (imm16 16 32) (unsigned 32) 1
unfolding static_row thread_row
slot_info = refl

abbrev pub slot_rows : Rewriting
slot_rows = rewriting OffsetSlot (SLOT_FIRST ∷ SLOT_SECOND ∷ []) judged.slot_to_offset

-- both words of a pair are written
pub record IsWrittenPair (l : Layout) (s : Item) (first : InputRelocation) (start : ℕ) (one two : Row) : Type 0 where
  pub index : ℕ
  pub value : ℕ
  pub here : IsWrittenWord l s index first one value
  pub at : first.offset ≡ start
  pub none : first.addend ≡ pos 0
  pub second : InputRelocation
  pub place : ℕ
  pub other : ℕ
  pub there : IsWrittenWord l s place second two other
  pub behind : second.offset ≡ start + 4
  pub symbol : first.symbol ≡ second.symbol
  pub addend : first.addend ≡ second.addend

pub slot_pair_to_offset : RowsOfAArch64Keep → TermGives term.PointerOffset → (l : Layout) (w : World) (m : Memory) (s : Item) (first : InputRelocation) (start k : ℕ) → IsLoadedItem machine.AArch64 l w m s → start + 8 ≤ length s.bytes → words_match OffsetSlot (words_at s.bytes start 2) ≡ true
    → first.symbol ≡ Some k → is_executable l.kind ≡ true → interposable (flags_at l k) ≡ false → IsWrittenPair l s first start SLOT_FIRST SLOT_SECOND → IsDone machine.AArch64 l w m s first start offset_pair_words
slot_pair_to_offset keeps law l w m s first start k g inside stands named program own t =
    let v = t.value in
    let here : start + 4 ≤ length s.bytes = omega (arith, inside) in
    let behind : start + 4 + 4 ≤ length s.bytes = omega (arith, inside) in
    let value = value_of_word l s t.index first SLOT_FIRST v slot_first_offset t.here in
    let same : t.value ≡ t.other = one_value l first t.second t.value t.other t.symbol t.addend value (value_of_word l s t.place t.second SLOT_SECOND t.other slot_second_offset t.there) in
    let offset = offset_of_word law l w m s t.index first k v start g t.here.has.listed named t.none t.at here program own value in
    let small : v < 2 ^ 32 = within_32 (imm16 16 32) v offset.small (subst (λ (f : RelocationKindInfo). allows f v ≡ true) slot_info t.here.allowed) in
    let a = s.address + start in
    let old = slice_range s.bytes start (start + 4) in
    let next = slice_range s.bytes (start + 4) (start + 4 + 4) in
    let place : place_at w s start ≡ w.base + a = omega arith in
    let one = word_there l w m s t.index first SLOT_FIRST v start g t.here.has slot_first_word t.at here in
    let two = word_there l w m s t.place t.second SLOT_SECOND t.other (start + 4) g t.there.has slot_second_word t.behind behind in
    let new : words_of (templates_at slot_rows.rows a v (number old ∷ number next ∷ [])) ≡ number (template_of SLOT_FIRST v old) ∷ number (template_of SLOT_SECOND t.other next) ∷ [] =
    (ap (λ (bs : List ℕ). words_of (template_of SLOT_FIRST v bs ++ (template_of SLOT_SECOND v (word 4 (number next)) ++ []))) (word_same w m l s start g here)
    ∙ ap (λ (bs : List ℕ). words_of (template_of SLOT_FIRST v old ++ (template_of SLOT_SECOND v bs ++ []))) (word_same w m l s (start + 4) g behind))
    ∙ (ap (λ (n : ℕ). words_of (template_of SLOT_FIRST v old ++ (template_of SLOT_SECOND n next ++ []))) same
    ∙ (words_of-front (template_of SLOT_FIRST v old) (template_of SLOT_SECOND t.other next ++ []) (written_long s SLOT_FIRST v start slot_first_word here)
    ∙ ap (λ (ws : List ℕ). number (template_of SLOT_FIRST v old) ∷ ws) (words_of-front (template_of SLOT_SECOND t.other next) [] (written_long s SLOT_SECOND t.other (start + 4) slot_second_word behind)))) in
    let ws = number old ∷ number next ∷ [] in
    let us = number (template_of SLOT_FIRST v old) ∷ number (template_of SLOT_SECOND t.other next) ∷ [] in
    let both : place_at w s (start + 4) ≡ place_at w s start + 4 = omega arith in
    let done : (read : Reader) → ((x : ℕ) → read (Number x) ≡ Some x) → RunDoes read (place_at w s start) v ws us = λ read numbers.
    subst (λ (n : ℕ). RunDoes read n v ws us) (sym place) (subst (λ (xs : List ℕ). RunDoes read (w.base + a) v ws xs) new
    (run_done keeps slot_rows (2, omega arith, refl) ws read numbers w.base a v v (word_small w m l s start g here, (word_small w m l s (start + 4) g behind, tt)) stands (small, refl))) in
    let there : AreWordsThere m (place_at w s start) us = (one, (subst (λ (n : ℕ). IsWordThere m n (number (template_of SLOT_SECOND t.other next))) both two, tt)) in
    record {
      does = record { value = v; demands = offset.offset; code = by_words (reads_without_calls w m) l w m s start offset_pair_words v us g.on refl inside (λ e h. h) there (done (reads_without_calls w m) (λ x. refl)) };
      words = no_slot l w m s first start offset_pair_words v ws us refl there (done reads_numbers (λ x. refl));
    }
