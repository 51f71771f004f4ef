-- The rows of a sequence of AArch64 stand together: each is asked of the same relocations, words and symbol.
use Rattle.std.proofs.Common.{◌≡◌, ℕ, zero, suc, ◌+◌, ◌-◌, ◌*◌, ◌%◌, ◌^◌, ◌<◌, ◌≤◌, ◌⊎◌, inl, inr, Bool, true, false, List, [], ◌∷◌, length, drop, refl, sym, ap, ◌∙◌, arith, subst, eq-eqb}
use Rattle.std.specs.Prelude.{⊤, Option, Some, None, Ok, Contains, ◌==◌, ◌&&◌, ◌||◌, not, if◌then◌else◌, slice_get, slice_index_or, slice_range}
use Rattle.std.proofs.lemmas.Bool.{cases_Bool, and_parts, and_from, eqb-true, leb-true, le-leb, not-true}
use Rattle.std.specs.List.{list_all}
use Rattle.wild_words.proofs.Basics.{length-range, or_other, listed_passes}
use Rattle.wild_reloc.specs.TableX86_64.{x86_64_row}
use Rattle.wild_reloc.specs.TableAArch64.{static_row, thread_row}
use Rattle.wild_records.specs.Abi.Relocation as abi
use Rattle.wild_types.specs.Kinds.{is_executable}
use Rattle.wild_types.specs.Lookups.{executable}
use Rattle.wild_relax.specs.declared.pattern.Pattern.{Pattern}
use Rattle.wild_relax.specs.declared.pattern.Pattern.TheVariants as pattern
use Rattle.wild_relax.specs.declared.pattern.Sequence.{Sequence}
use Rattle.wild_relax.specs.declared.pattern.Sequence.TheVariants.{DescriptorCall, OffsetSlot, Address}
use Rattle.wild_relax.specs.declared.reference.RelocationInfo.{RelocationInfo}
use Rattle.wild_relax.specs.declared.row.Row.{Row}
use Rattle.wild_relax.specs.declared.row.SymbolTest.TheVariants as symbol
use Rattle.wild_relax.specs.declared.row.ValueTest.TheVariants as value
use Rattle.wild_relax.specs.declared.table_aarch64.TheConstants.{PLT, TEST, CONDITION, IFUNC_JUMP, JUMP, IFUNC_CALL, CALL, CALL_FIRST, CALL_SECOND, CALL_THIRD, CALL_FOURTH, CALL_THIRD_SLOT, CALL_FOURTH_SLOT, SLOT_FIRST, SLOT_SECOND, ADDRESS_FIRST, ADDRESS_SECOND}
use Rattle.wild_aarch64.specs.Row as judged
use Rattle.wild_relax.specs.FirstRow.{first_standing}
use Rattle.wild_relax.specs.KeepAArch64.{Rewriting, rewriting}
use Rattle.wild_relax.specs.LinkedPattern.{either_pattern, pattern_of, pattern_size, keeps_bytes, fits_in}
use Rattle.wild_relax.specs.Pattern.{field_of, matches_cells, field, cells_match_at, pattern_matches_before}
use Rattle.wild_relax.specs.Question.{Question, relocation_of, minus_four, no_relocation, zero as none_added}
use Rattle.wild_relax.specs.RowSequences.{has_its_sequence, has_partner}
use Rattle.wild_relax.specs.RowSymbols.{is_in_reach, takes_symbol, takes_value, is_mandatory}
use Rattle.wild_relax.specs.Rows.{applies, unknown_sequence}
use Rattle.wild_relax.specs.RowsAArch64.{rows_aarch64, rows_with_aarch64, applies_aarch64, has_its_words, first_row_aarch64, chosen_row_aarch64}
use Rattle.wild_relax.specs.SequenceAArch64.{types_of, same_symbol, relocations_match, words_at, sequence_start, is_among, has_around, words_match}
use Rattle.wild_relax.specs.SequenceRowsAArch64.{question_at, IsRowOfSequence, RowsApplyTogether, ChosenRowsApply}
use Rattle.wild_relax.proofs.RoomLemmas.{IsApplied, applied, chosen_is_aarch64, always_stands, needed_stands}
use Rattle.wild_relax.proofs.SectionLemmas.{stands_on, at_place, either_at}
use Rattle.wild_relax.proofs.RowsAArch64Lemmas.{standing_is}

-- ---- a relocation among those of a sequence

-- what is_among asks
pub record IsAmong (q : Question) (s : Sequence) (k : ℕ) : Type 0 where
  pub behind : k ≤ q.at
  pub listed : q.at ≤ length q.relocations
  pub offset : 4 * k ≤ (relocation_of q).offset
  pub follows : relocations_match (relocation_of q).symbol (sequence_start q k) (types_of s) (drop (q.at - k) q.relocations) ≡ true
  pub within : sequence_start q k + 4 * length (types_of s) ≤ length q.bytes
  pub words : words_match s (words_at q.bytes (sequence_start q k) (length (types_of s))) ≡ true

among_parts : (q : Question) (s : Sequence) (k : ℕ) → is_among q s k ≡ true → IsAmong q s k
unfolding is_among
among_parts q s k h =
    let a = and_parts _ _ h in
    let b = and_parts _ _ a.0 in
    let c = and_parts _ _ b.0 in
    let d = and_parts _ _ c.0 in
    let e = and_parts _ _ d.0 in
    record { behind = leb-true _ _ e.0; listed = leb-true _ _ e.1; offset = leb-true _ _ d.1; follows = c.1; within = leb-true _ _ b.1; words = a.1 }

among_from : (q : Question) (s : Sequence) (k : ℕ) → IsAmong q s k → is_among q s k ≡ true
unfolding is_among
among_from q s k h = and_from _ _ (and_from _ _ (and_from _ _ (and_from _ _ (and_from _ _ (le-leb _ _ h.behind) (le-leb _ _ h.listed)) (le-leb _ _ h.offset)) h.follows) (le-leb _ _ h.within)) h.words

-- the relocation of word j
record IsWord (names : Option ℕ) (place n : ℕ) (r : RelocationInfo) : Type 0 where
  number : r.number ≡ n
  offset : r.offset ≡ place
  symbol : r.symbol ≡ names

pub same_is : (a b : Option ℕ) → same_symbol a b ≡ true → a ≡ b
same_is (Some x) (Some y) h = ap (λ (n : ℕ). Some n) (eqb-true x y h)
same_is (Some x) None h = cc
same_is None b h = cc

first_word : (symbol : Option ℕ) (place m : ℕ) (ns : List ℕ) (r : RelocationInfo) (rs : List RelocationInfo) → relocations_match symbol place (m ∷ ns) (r ∷ rs) ≡ true → IsWord symbol place m r × (relocations_match symbol (place + 4) ns rs ≡ true)
first_word symbol place m ns r rs h =
    let a = and_parts (r.number == m && r.offset == place && same_symbol r.symbol symbol && none_added r.addend) (relocations_match symbol (place + 4) ns rs) h in
    let b = and_parts (r.number == m && r.offset == place && same_symbol r.symbol symbol) (none_added r.addend) a.0 in
    let c = and_parts (r.number == m && r.offset == place) (same_symbol r.symbol symbol) b.0 in
    let d = and_parts (r.number == m) (r.offset == place) c.0 in
    (record { number = eqb-true r.number m d.0; offset = eqb-true r.offset place d.1; symbol = same_is r.symbol symbol c.1 }, a.1)

word_at : (symbol : Option ℕ) (place : ℕ) (ns : List ℕ) (rs : List RelocationInfo) (j n : ℕ) → relocations_match symbol place ns rs ≡ true → slice_get ns j ≡ Some n → (r : RelocationInfo) × (slice_get rs j ≡ Some r) × IsWord symbol (place + 4 * j) n r
word_at symbol place [] rs j n h at = cc
word_at symbol place (m ∷ ns) [] j n h at = cc
word_at symbol place (m ∷ ns) (r ∷ rs) zero n h at =
    let w = first_word symbol place m ns r rs h in
    let same : m ≡ n = cc in
    let offset : r.offset ≡ place = w.0.offset in
    (r, refl, record { number = w.0.number ∙ same; offset = omega (arith, offset); symbol = w.0.symbol })
word_at symbol place (m ∷ ns) (r ∷ rs) (suc j) n h at =
    let rest = word_at symbol (place + 4) ns rs j n (first_word symbol place m ns r rs h).1 at in
    let w = rest.2 in
    let offset = w.offset in
    (rest.0, rest.1, record { number = w.number; offset = omega (arith, offset); symbol = w.symbol })

-- an element behind others
record IsAfter {X : Type 0} (xs : List X) (i : ℕ) (d x : X) : Type 0 where
  is : slice_index_or xs i d ≡ x
  inside : i < length xs

at_front : {X : Type 0} (xs : List X) (j : ℕ) (d x : X) → slice_get xs j ≡ Some x → IsAfter xs j d x
at_front [] j d x h = cc
at_front (y ∷ ys) zero d x h = (let same : y ≡ x = cc in record { is = same; inside = omega arith })
at_front (y ∷ ys) (suc j) d x h =
    let rest = at_front ys j d x h in
    let low = rest.inside in
    record { is = rest.is; inside = omega (arith, low) }

at_behind : {X : Type 0} (xs : List X) (a j i : ℕ) (d x : X) → i ≡ a + j → slice_get (drop a xs) j ≡ Some x → IsAfter xs i d x
at_behind xs zero j i d x e h = subst (λ (n : ℕ). IsAfter xs n d x) (sym (omega (arith, e))) (at_front xs j d x h)
at_behind [] (suc a) j i d x e h = cc
at_behind (y ∷ ys) (suc a) j zero d x e h = absurd (omega (arith, e))
at_behind (y ∷ ys) (suc a) j (suc i) d x e h =
    let rest = at_behind ys a j i d x (omega (arith, e)) h in
    let low = rest.inside in
    record { is = rest.is; inside = omega (arith, low) }

-- the same question of the relocation of word j
record IsMoved (q : Question) (s : Sequence) (first start j n : ℕ) : Type 0 where
  number : (relocation_of (question_at q (first + j))).number ≡ n
  offset : (relocation_of (question_at q (first + j))).offset ≡ start + 4 * j
  among : is_among (question_at q (first + j)) s j ≡ true

moved : (q : Question) (s : Sequence) (k j n : ℕ) → IsAmong q s k → slice_get (types_of s) j ≡ Some n → IsMoved q s (q.at - k) (sequence_start q k) j n
moved q s k j n h at =
    let first = q.at - k in
    let start = sequence_start q k in
    let w = word_at (relocation_of q).symbol start (types_of s) (drop first q.relocations) j n h.follows at in
    let b = at_behind q.relocations first j (first + j) no_relocation w.0 refl w.1 in
    let word = subst (λ (r : RelocationInfo). IsWord (relocation_of q).symbol (start + 4 * j) n r) (sym b.is) w.2 in
    let offset = word.offset in
    let here : sequence_start (question_at q (first + j)) j ≡ start = omega (arith, offset) in
    let back : first + j - j ≡ first = omega arith in
    let low = b.inside in
    record {
      number = word.number;
      offset = word.offset;
      among = among_from (question_at q (first + j)) s j (record {
        behind = omega arith;
        listed = omega (arith, low);
        offset = omega (arith, offset);
        follows = subst (λ (o : Option ℕ). relocations_match o (sequence_start (question_at q (first + j)) j) (types_of s) (drop (first + j - j) q.relocations) ≡ true) (sym word.symbol)
            (subst (λ (p : ℕ). relocations_match (relocation_of q).symbol p (types_of s) (drop (first + j - j) q.relocations) ≡ true) (sym here) (subst (λ (f : ℕ). relocations_match (relocation_of q).symbol start (types_of s) (drop f q.relocations) ≡ true) (sym back) h.follows));
        within = subst (λ (p : ℕ). p + 4 * length (types_of s) ≤ length q.bytes) (sym here) h.within;
        words = subst (λ (p : ℕ). words_match s (words_at q.bytes p (length (types_of s))) ≡ true) (sym here) h.words;
      });
    }

-- ---- a row that stands

-- any word stands
any_word : (xs : List ℕ) → length xs ≡ 4 → matches_cells field xs ≡ true
any_word [] h = absurd (omega (arith, h))
any_word (a ∷ []) h = absurd (omega (arith, h))
any_word (a ∷ b ∷ []) h = absurd (omega (arith, h))
any_word (a ∷ b ∷ c ∷ []) h = absurd (omega (arith, h))
any_word (a ∷ b ∷ c ∷ d ∷ xs) h = refl

word_stands : (bs : List ℕ) (o : ℕ) (s : Sequence) (j : ℕ) → o + 4 ≤ length bs → pattern_matches_before bs o (pattern.Among s j) ≡ true
unfolding pattern_matches_before cells_match_at
word_stands bs o s j h = and_from _ _ (le-leb 0 o (omega arith)) (and_from _ _ (le-leb _ _ (omega (arith, h))) (any_word (slice_range bs (o - 0) (o - 0 + 4)) (length-range bs (o - 0) 4 (omega (arith, h)))))

nothing_stands : (bs : List ℕ) (o : ℕ) → o ≤ length bs → pattern_matches_before bs o pattern.Nothing ≡ true
unfolding pattern_matches_before cells_match_at
nothing_stands bs o h = and_from _ _ (le-leb 0 o (omega arith)) (and_from _ _ (le-leb _ _ (omega (arith, h))) refl)

-- what a row asks that stands
record Asks (q : Question) (row : Row) : Type 0 where
  number : (relocation_of q).number ≡ row.number
  on : (q.relax || is_mandatory row.duty q) ≡ true
  section : (not row.in_code || executable q.section_flags) ≡ true
  symbol : takes_symbol row.symbol q ≡ true
  thread : (not row.thread_local || is_executable q.kind) ≡ true
  value : takes_value row.value q ≡ true
  addend : (not row.ends || minus_four (relocation_of q).addend) ≡ true
  bytes : (row.ignores_bytes || pattern_matches_before q.bytes (relocation_of q).offset row.required_bytes) ≡ true
  around : has_around q row.required_bytes ≡ true

stands_then : (q : Question) (row : Row) → Asks q row → applies_aarch64 q row ≡ true
unfolding applies
stands_then q row a = and_from _ _ (and_from _ _ (and_from _ _ (and_from _ _ (and_from _ _ (and_from _ _ (and_from _ _ (and_from _ _ (eq-eqb _ _ a.number) a.on) a.section) a.symbol) a.thread) a.value) a.addend) a.bytes) a.around

-- what it needs besides
record Has (q : Question) (row : Row) : Type 0 where
  bytes : pattern_matches_before q.bytes (relocation_of q).offset row.needed ≡ true
  addend : (not row.needs_end || minus_four (relocation_of q).addend) ≡ true
  partner : has_partner row q ≡ true
  around : has_around q row.needed ≡ true

has_then : (q : Question) (row : Row) → Has q row → has_its_words q row ≡ true
unfolding has_its_sequence
has_then q row h = and_from _ _ (and_from _ _ (and_from _ _ h.bytes h.addend) h.partner) h.around

-- the first of its type, or the second where the first does not stand
chosen_then : (q : Question) (row : Row) → first_row_aarch64 q ≡ Some row → has_its_words q row ≡ true → chosen_row_aarch64 q ≡ Ok (Some row)
unfolding chosen_row_aarch64
chosen_then q row first_row has = rw (first_row, has) refl

first_then : (q : Question) (n : ℕ) (row : Row) (rest : List Row) → (relocation_of q).number ≡ n → rows_with_aarch64 n ≡ row ∷ rest → Asks q row → Has q row → chosen_row_aarch64 q ≡ Ok (Some row)
first_then q n row rest number rows a h =
    let there = ap (λ (m : ℕ). first_standing (applies_aarch64 q) (rows_with_aarch64 m)) number ∙ ap (first_standing (applies_aarch64 q)) rows in
    chosen_then q row (sym (standing_is q) ∙ there ∙ by (applies_aarch64 q row) (stands_then q row a)) (has_then q row h)
  where
    by : (b : Bool) → b ≡ true → (if b then Some row else first_standing (applies_aarch64 q) rest) ≡ Some row
    by true e = refl
    by false e = cc

second_then : (q : Question) (n : ℕ) (before row : Row) → (relocation_of q).number ≡ n → rows_with_aarch64 n ≡ before ∷ row ∷ [] → applies_aarch64 q before ≡ false → Asks q row → Has q row → chosen_row_aarch64 q ≡ Ok (Some row)
second_then q n before row number rows none a h =
    let there = ap (λ (m : ℕ). first_standing (applies_aarch64 q) (rows_with_aarch64 m)) number ∙ ap (first_standing (applies_aarch64 q)) rows in
    chosen_then q row (sym (standing_is q) ∙ there ∙ by (applies_aarch64 q before) (applies_aarch64 q row) none (stands_then q row a)) (has_then q row h)
  where
    by : (b c : Bool) → b ≡ false → c ≡ true → (if b then Some before else (if c then Some row else None)) ≡ Some row
    by true c e f = cc
    by false true e f = refl
    by false false e f = cc

-- a row for own symbols does not stand at another
own_falls : (q : Question) (row : Row) → takes_value row.value q ≡ false → applies_aarch64 q row ≡ false
own_falls q row none =
    elim (cases_Bool (applies_aarch64 q row)) [
      | inr f ↦ f
      | inl t ↦ (let stands = (applied q row (and_parts _ _ t).0).value in let both : true ≡ false = sym stands ∙ none in cc)
    ]

-- ---- rows of words

has_word : (q : Question) (row : Row) (s : Sequence) (j : ℕ) → row.needed ≡ pattern.Among s j → row.needs_end ≡ false → row.partner ≡ None → (relocation_of q).offset + 4 ≤ length q.bytes → is_among q s j ≡ true → Has q row
has_word q row s j needed ends alone room among = record {
  bytes = subst (λ (p : Pattern). pattern_matches_before q.bytes (relocation_of q).offset p ≡ true) (sym needed) (word_stands q.bytes (relocation_of q).offset s j room);
  addend = rw ends refl;
  partner = rw alone refl;
  around = subst (λ (p : Pattern). has_around q p ≡ true) (sym needed) among;
}

has_nothing : (q : Question) (row : Row) → row.needed ≡ pattern.Nothing → row.needs_end ≡ false → row.partner ≡ None → (relocation_of q).offset ≤ length q.bytes → Has q row
has_nothing q row needed ends alone room = record {
  bytes = subst (λ (p : Pattern). pattern_matches_before q.bytes (relocation_of q).offset p ≡ true) (sym needed) (nothing_stands q.bytes (relocation_of q).offset room);
  addend = rw ends refl;
  partner = rw alone refl;
  around = subst (λ (p : Pattern). has_around q p ≡ true) (sym needed) refl;
}

-- word j lies in the section
room_of : (q : Question) (s : Sequence) (k j n first : ℕ) → IsAmong q s k → IsMoved q s first (sequence_start q k) j n → j < length (types_of s) → (relocation_of (question_at q (first + j))).offset + 4 ≤ length q.bytes
room_of q s k j n first h m low =
    let offset = m.offset in
    let within = h.within in
    omega (arith, offset, within, low)

-- ---- conditional branches

with_test : rows_with_aarch64 abi.r_aarch64_tstbr14 ≡ TEST ∷ []
unfolding rows_with_aarch64 rows_aarch64
with_test = refl

with_condition : rows_with_aarch64 abi.r_aarch64_condbr19 ≡ CONDITION ∷ []
unfolding rows_with_aarch64 rows_aarch64
with_condition = refl

-- a row stands at one in code to a weak symbol that another module may define
pub record IsConditional (q : Question) : Type 0 where
  pub number : ((relocation_of q).number ≡ abi.r_aarch64_tstbr14) ⊎ ((relocation_of q).number ≡ abi.r_aarch64_condbr19)
  pub section : executable q.section_flags ≡ true
  pub symbol : takes_symbol symbol.UndefinedWeak q ≡ true
  pub value : takes_value value.Interposable q ≡ true
  pub room : (relocation_of q).offset ≤ length q.bytes

pub conditional_chosen : (q : Question) → IsConditional q → (row : Row) × (chosen_row_aarch64 q ≡ Ok (Some row))
conditional_chosen q c = by c.number
  where
    on : (b : Bool) → (b || true) ≡ true
    on true = refl
    on false = refl

    by : ((relocation_of q).number ≡ abi.r_aarch64_tstbr14) ⊎ ((relocation_of q).number ≡ abi.r_aarch64_condbr19) → (row : Row) × (chosen_row_aarch64 q ≡ Ok (Some row))
    by (inl n) = (
      TEST,
      first_then q abi.r_aarch64_tstbr14 TEST [] n with_test (record { number = n; on = on q.relax; section = c.section; symbol = c.symbol; thread = refl; value = c.value; addend = refl; bytes = nothing_stands q.bytes (relocation_of q).offset c.room; around = refl }) (has_nothing q TEST refl refl refl c.room),
    )
    by (inr n) = (
      CONDITION,
      first_then q abi.r_aarch64_condbr19 CONDITION [] n with_condition (record { number = n; on = on q.relax; section = c.section; symbol = c.symbol; thread = refl; value = c.value; addend = refl; bytes = nothing_stands q.bytes (relocation_of q).offset c.room; around = refl }) (has_nothing q CONDITION refl refl refl c.room),
    )

-- what each row of a sequence asks alike
record Alike (q : Question) (row : Row) : Type 0 where
  on : (q.relax || is_mandatory row.duty q) ≡ true
  section : (not row.in_code || executable q.section_flags) ≡ true
  symbol : takes_symbol row.symbol q ≡ true
  thread : (not row.thread_local || is_executable q.kind) ≡ true

-- ---- the call of a descriptor's function

abbrev descriptor_rows : Bool → Rewriting
descriptor_rows true = rewriting DescriptorCall (CALL_FIRST ∷ CALL_SECOND ∷ CALL_THIRD ∷ CALL_FOURTH ∷ []) judged.call_to_offset
descriptor_rows false = rewriting DescriptorCall (CALL_FIRST ∷ CALL_SECOND ∷ CALL_THIRD_SLOT ∷ CALL_FOURTH_SLOT ∷ []) judged.call_to_slot

with_first : rows_with_aarch64 abi.r_aarch64_tlsdesc_adr_page21 ≡ CALL_FIRST ∷ []
unfolding rows_with_aarch64 rows_aarch64
with_first = refl

with_second : rows_with_aarch64 abi.r_aarch64_tlsdesc_ld64_lo12 ≡ CALL_SECOND ∷ []
unfolding rows_with_aarch64 rows_aarch64
with_second = refl

with_third : rows_with_aarch64 abi.r_aarch64_tlsdesc_add_lo12 ≡ CALL_THIRD ∷ CALL_THIRD_SLOT ∷ []
unfolding rows_with_aarch64 rows_aarch64
with_third = refl

with_fourth : rows_with_aarch64 abi.r_aarch64_tlsdesc_call ≡ CALL_FOURTH ∷ CALL_FOURTH_SLOT ∷ []
unfolding rows_with_aarch64 rows_aarch64
with_fourth = refl

call_first : (q : Question) (k : ℕ) → IsAmong q DescriptorCall k → Alike q CALL_FIRST → chosen_row_aarch64 (question_at q (q.at - k + 0)) ≡ Ok (Some CALL_FIRST)
call_first q k h a =
    let m = moved q DescriptorCall k 0 abi.r_aarch64_tlsdesc_adr_page21 h refl in
    first_then (question_at q (q.at - k + 0)) abi.r_aarch64_tlsdesc_adr_page21 CALL_FIRST [] m.number with_first
    (record { number = m.number; on = a.on; section = a.section; symbol = a.symbol; thread = a.thread; value = refl; addend = refl; bytes = refl; around = refl })
    (has_word (question_at q (q.at - k + 0)) CALL_FIRST DescriptorCall 0 refl refl refl (room_of q DescriptorCall k 0 _ (q.at - k) h m (omega arith)) m.among)

call_second : (q : Question) (k : ℕ) → IsAmong q DescriptorCall k → Alike q CALL_FIRST → chosen_row_aarch64 (question_at q (q.at - k + 1)) ≡ Ok (Some CALL_SECOND)
call_second q k h a =
    let m = moved q DescriptorCall k 1 abi.r_aarch64_tlsdesc_ld64_lo12 h refl in
    first_then (question_at q (q.at - k + 1)) abi.r_aarch64_tlsdesc_ld64_lo12 CALL_SECOND [] m.number with_second
    (record { number = m.number; on = a.on; section = a.section; symbol = a.symbol; thread = a.thread; value = refl; addend = refl; bytes = refl; around = refl })
    (has_word (question_at q (q.at - k + 1)) CALL_SECOND DescriptorCall 1 refl refl refl (room_of q DescriptorCall k 1 _ (q.at - k) h m (omega arith)) m.among)

call_third : (q : Question) (k : ℕ) → IsAmong q DescriptorCall k → Alike q CALL_FIRST → takes_value value.Own q ≡ true → chosen_row_aarch64 (question_at q (q.at - k + 2)) ≡ Ok (Some CALL_THIRD)
call_third q k h a own =
    let m = moved q DescriptorCall k 2 abi.r_aarch64_tlsdesc_add_lo12 h refl in
    first_then (question_at q (q.at - k + 2)) abi.r_aarch64_tlsdesc_add_lo12 CALL_THIRD (CALL_THIRD_SLOT ∷ []) m.number with_third
    (record { number = m.number; on = a.on; section = a.section; symbol = a.symbol; thread = a.thread; value = own; addend = refl; bytes = refl; around = refl })
    (has_word (question_at q (q.at - k + 2)) CALL_THIRD DescriptorCall 2 refl refl refl (room_of q DescriptorCall k 2 _ (q.at - k) h m (omega arith)) m.among)

call_fourth : (q : Question) (k : ℕ) → IsAmong q DescriptorCall k → Alike q CALL_FIRST → takes_value value.Own q ≡ true → chosen_row_aarch64 (question_at q (q.at - k + 3)) ≡ Ok (Some CALL_FOURTH)
call_fourth q k h a own =
    let m = moved q DescriptorCall k 3 abi.r_aarch64_tlsdesc_call h refl in
    first_then (question_at q (q.at - k + 3)) abi.r_aarch64_tlsdesc_call CALL_FOURTH (CALL_FOURTH_SLOT ∷ []) m.number with_fourth
    (record { number = m.number; on = a.on; section = a.section; symbol = a.symbol; thread = a.thread; value = own; addend = refl; bytes = refl; around = refl })
    (has_word (question_at q (q.at - k + 3)) CALL_FOURTH DescriptorCall 3 refl refl refl (room_of q DescriptorCall k 3 _ (q.at - k) h m (omega arith)) m.among)

call_third_slot : (q : Question) (k : ℕ) → IsAmong q DescriptorCall k → Alike q CALL_FIRST → takes_value value.Own q ≡ false → chosen_row_aarch64 (question_at q (q.at - k + 2)) ≡ Ok (Some CALL_THIRD_SLOT)
call_third_slot q k h a own =
    let m = moved q DescriptorCall k 2 abi.r_aarch64_tlsdesc_add_lo12 h refl in
    let others : takes_value value.Interposable q ≡ true = ap not own in
    second_then (question_at q (q.at - k + 2)) abi.r_aarch64_tlsdesc_add_lo12 CALL_THIRD CALL_THIRD_SLOT m.number with_third (own_falls (question_at q (q.at - k + 2)) CALL_THIRD own)
    (record { number = m.number; on = a.on; section = a.section; symbol = a.symbol; thread = a.thread; value = others; addend = refl; bytes = refl; around = refl })
    (has_word (question_at q (q.at - k + 2)) CALL_THIRD_SLOT DescriptorCall 2 refl refl refl (room_of q DescriptorCall k 2 _ (q.at - k) h m (omega arith)) m.among)

call_fourth_slot : (q : Question) (k : ℕ) → IsAmong q DescriptorCall k → Alike q CALL_FIRST → takes_value value.Own q ≡ false → chosen_row_aarch64 (question_at q (q.at - k + 3)) ≡ Ok (Some CALL_FOURTH_SLOT)
call_fourth_slot q k h a own =
    let m = moved q DescriptorCall k 3 abi.r_aarch64_tlsdesc_call h refl in
    let others : takes_value value.Interposable q ≡ true = ap not own in
    second_then (question_at q (q.at - k + 3)) abi.r_aarch64_tlsdesc_call CALL_FOURTH CALL_FOURTH_SLOT m.number with_fourth (own_falls (question_at q (q.at - k + 3)) CALL_FOURTH own)
    (record { number = m.number; on = a.on; section = a.section; symbol = a.symbol; thread = a.thread; value = others; addend = refl; bytes = refl; around = refl })
    (has_word (question_at q (q.at - k + 3)) CALL_FOURTH_SLOT DescriptorCall 3 refl refl refl (room_of q DescriptorCall k 3 _ (q.at - k) h m (omega arith)) m.among)

-- the row of a place
row_there : (q : Question) (row other : Row) → Some row ≡ Some other → chosen_row_aarch64 q ≡ Ok (Some row) → chosen_row_aarch64 q ≡ Ok (Some other)
row_there q row other e h = h ∙ ap (λ (o : Option Row). Ok o) e

call_each : (q : Question) (k : ℕ) (b : Bool) → IsAmong q DescriptorCall k → Alike q CALL_FIRST → takes_value value.Own q ≡ b → (j : ℕ) (other : Row) → slice_get (descriptor_rows b).rows j ≡ Some other → chosen_row_aarch64 (question_at q (q.at - k + j)) ≡ Ok (Some other)
call_each q k b h a own zero other e = row_there (question_at q (q.at - k + 0)) CALL_FIRST other (sym (by b) ∙ e) (call_first q k h a)
  where
    by : (b : Bool) → slice_get (descriptor_rows b).rows 0 ≡ Some CALL_FIRST
    by true = refl
    by false = refl
call_each q k b h a own (suc zero) other e = row_there (question_at q (q.at - k + 1)) CALL_SECOND other (sym (by b) ∙ e) (call_second q k h a)
  where
    by : (b : Bool) → slice_get (descriptor_rows b).rows 1 ≡ Some CALL_SECOND
    by true = refl
    by false = refl
call_each q k true h a own (suc (suc zero)) other e = row_there (question_at q (q.at - k + 2)) CALL_THIRD other e (call_third q k h a own)
call_each q k false h a own (suc (suc zero)) other e = row_there (question_at q (q.at - k + 2)) CALL_THIRD_SLOT other e (call_third_slot q k h a own)
call_each q k true h a own (suc (suc (suc zero))) other e = row_there (question_at q (q.at - k + 3)) CALL_FOURTH other e (call_fourth q k h a own)
call_each q k false h a own (suc (suc (suc zero))) other e = row_there (question_at q (q.at - k + 3)) CALL_FOURTH_SLOT other e (call_fourth_slot q k h a own)
call_each q k true h a own (suc (suc (suc (suc j)))) other e = cc
call_each q k false h a own (suc (suc (suc (suc j)))) other e = cc

call_one : (q : Question) (k : ℕ) (row : Row) (b : Bool) → IsAmong q DescriptorCall k → Alike q CALL_FIRST → takes_value value.Own q ≡ b → slice_get (descriptor_rows b).rows k ≡ Some row → IsRowOfSequence q row DescriptorCall k
call_one q k row true h a own here =
    let low = h.behind in
    record { whole = descriptor_rows true; known = (0, omega arith, refl); same = refl; first = q.at - k; place = omega (arith, low); here = here; each = call_each q k true h a own; words = h.words }
call_one q k row false h a own here =
    let low = h.behind in
    record { whole = descriptor_rows false; known = (1, omega arith, refl); same = refl; first = q.at - k; place = omega (arith, low); here = here; each = call_each q k false h a own; words = h.words }

-- ---- the offset in a slot

abbrev slot_rows : Rewriting
slot_rows = rewriting OffsetSlot (SLOT_FIRST ∷ SLOT_SECOND ∷ []) judged.slot_to_offset

with_slot_page : rows_with_aarch64 abi.r_aarch64_tlsie_adr_gottprel_page21 ≡ SLOT_FIRST ∷ []
unfolding rows_with_aarch64 rows_aarch64
with_slot_page = refl

with_slot_low : rows_with_aarch64 abi.r_aarch64_tlsie_ld64_gottprel_lo12_nc ≡ SLOT_SECOND ∷ []
unfolding rows_with_aarch64 rows_aarch64
with_slot_low = refl

slot_first : (q : Question) (k : ℕ) → IsAmong q OffsetSlot k → Alike q SLOT_FIRST → takes_value value.Own q ≡ true → chosen_row_aarch64 (question_at q (q.at - k + 0)) ≡ Ok (Some SLOT_FIRST)
slot_first q k h a own =
    let m = moved q OffsetSlot k 0 abi.r_aarch64_tlsie_adr_gottprel_page21 h refl in
    let room = room_of q OffsetSlot k 0 _ (q.at - k) h m (omega arith) in
    first_then (question_at q (q.at - k + 0)) abi.r_aarch64_tlsie_adr_gottprel_page21 SLOT_FIRST [] m.number with_slot_page
    (record { number = m.number; on = a.on; section = a.section; symbol = a.symbol; thread = a.thread; value = own; addend = refl; bytes = word_stands q.bytes _ OffsetSlot 0 room; around = m.among })
    (has_nothing (question_at q (q.at - k + 0)) SLOT_FIRST refl refl refl (omega (arith, room)))

slot_second : (q : Question) (k : ℕ) → IsAmong q OffsetSlot k → Alike q SLOT_FIRST → takes_value value.Own q ≡ true → chosen_row_aarch64 (question_at q (q.at - k + 1)) ≡ Ok (Some SLOT_SECOND)
slot_second q k h a own =
    let m = moved q OffsetSlot k 1 abi.r_aarch64_tlsie_ld64_gottprel_lo12_nc h refl in
    let room = room_of q OffsetSlot k 1 _ (q.at - k) h m (omega arith) in
    first_then (question_at q (q.at - k + 1)) abi.r_aarch64_tlsie_ld64_gottprel_lo12_nc SLOT_SECOND [] m.number with_slot_low
    (record { number = m.number; on = a.on; section = a.section; symbol = a.symbol; thread = a.thread; value = own; addend = refl; bytes = word_stands q.bytes _ OffsetSlot 1 room; around = m.among })
    (has_nothing (question_at q (q.at - k + 1)) SLOT_SECOND refl refl refl (omega (arith, room)))

slot_each : (q : Question) (k : ℕ) → IsAmong q OffsetSlot k → Alike q SLOT_FIRST → takes_value value.Own q ≡ true → (j : ℕ) (other : Row) → slice_get slot_rows.rows j ≡ Some other → chosen_row_aarch64 (question_at q (q.at - k + j)) ≡ Ok (Some other)
slot_each q k h a own zero other e = row_there (question_at q (q.at - k + 0)) SLOT_FIRST other e (slot_first q k h a own)
slot_each q k h a own (suc zero) other e = row_there (question_at q (q.at - k + 1)) SLOT_SECOND other e (slot_second q k h a own)
slot_each q k h a own (suc (suc j)) other e = cc

slot_one : (q : Question) (k : ℕ) (row : Row) → IsAmong q OffsetSlot k → Alike q SLOT_FIRST → takes_value value.Own q ≡ true → slice_get slot_rows.rows k ≡ Some row → IsRowOfSequence q row OffsetSlot k
slot_one q k row h a own here =
    let low = h.behind in
    record { whole = slot_rows; known = (2, omega arith, refl); same = refl; first = q.at - k; place = omega (arith, low); here = here; each = slot_each q k h a own; words = h.words }

-- ---- an address

abbrev address_rows : Rewriting
address_rows = rewriting Address (ADDRESS_FIRST ∷ ADDRESS_SECOND ∷ []) judged.address_to_near

with_page : rows_with_aarch64 abi.r_aarch64_adr_prel_pg_hi21 ≡ ADDRESS_FIRST ∷ []
unfolding rows_with_aarch64 rows_aarch64
with_page = refl

with_low : rows_with_aarch64 abi.r_aarch64_add_abs_lo12_nc ≡ ADDRESS_SECOND ∷ []
unfolding rows_with_aarch64 rows_aarch64
with_low = refl

-- the address is near the same place, whichever word is asked
near_there : (q : Question) (i b c : ℕ) → (relocation_of q).offset + b ≡ (relocation_of (question_at q i)).offset + c → takes_value (value.OwnNear b) q ≡ true → takes_value (value.OwnNear c) (question_at q i) ≡ true
near_there q i b c e h =
    let same : q.address + (relocation_of q).offset + b ≡ q.address + (relocation_of (question_at q i)).offset + c = omega (arith, e) in
    let a = and_parts _ _ h in
    and_from _ _ a.0 (subst (λ (p : ℕ). is_in_reach (p % 2 ^ 64) q.value ≡ true) same a.1)

address_first : (q : Question) (k b : ℕ) → IsAmong q Address k → Alike q ADDRESS_FIRST → 4 * k + b ≡ 4 → takes_value (value.OwnNear b) q ≡ true → chosen_row_aarch64 (question_at q (q.at - k + 0)) ≡ Ok (Some ADDRESS_FIRST)
address_first q k b h a sum near =
    let m = moved q Address k 0 abi.r_aarch64_adr_prel_pg_hi21 h refl in
    let room = room_of q Address k 0 _ (q.at - k) h m (omega arith) in
    let offset = m.offset in
    let back = h.offset in
    first_then (question_at q (q.at - k + 0)) abi.r_aarch64_adr_prel_pg_hi21 ADDRESS_FIRST [] m.number with_page
    (record { number = m.number; on = a.on; section = a.section; symbol = a.symbol; thread = a.thread; value = near_there q (q.at - k + 0) b 4 (omega (arith, offset, back, sum)) near; addend = refl; bytes = word_stands q.bytes _ Address 0 room; around = m.among })
    (has_nothing (question_at q (q.at - k + 0)) ADDRESS_FIRST refl refl refl (omega (arith, room)))

address_second : (q : Question) (k b : ℕ) → IsAmong q Address k → Alike q ADDRESS_FIRST → 4 * k + b ≡ 4 → takes_value (value.OwnNear b) q ≡ true → chosen_row_aarch64 (question_at q (q.at - k + 1)) ≡ Ok (Some ADDRESS_SECOND)
address_second q k b h a sum near =
    let m = moved q Address k 1 abi.r_aarch64_add_abs_lo12_nc h refl in
    let room = room_of q Address k 1 _ (q.at - k) h m (omega arith) in
    let offset = m.offset in
    let back = h.offset in
    first_then (question_at q (q.at - k + 1)) abi.r_aarch64_add_abs_lo12_nc ADDRESS_SECOND [] m.number with_low
    (record { number = m.number; on = a.on; section = a.section; symbol = a.symbol; thread = a.thread; value = near_there q (q.at - k + 1) b 0 (omega (arith, offset, back, sum)) near; addend = refl; bytes = word_stands q.bytes _ Address 1 room; around = m.among })
    (has_nothing (question_at q (q.at - k + 1)) ADDRESS_SECOND refl refl refl (omega (arith, room)))

address_each : (q : Question) (k b : ℕ) → IsAmong q Address k → Alike q ADDRESS_FIRST → 4 * k + b ≡ 4 → takes_value (value.OwnNear b) q ≡ true → (j : ℕ) (other : Row) → slice_get address_rows.rows j ≡ Some other → chosen_row_aarch64 (question_at q (q.at - k + j)) ≡ Ok (Some other)
address_each q k b h a sum near zero other e = row_there (question_at q (q.at - k + 0)) ADDRESS_FIRST other e (address_first q k b h a sum near)
address_each q k b h a sum near (suc zero) other e = row_there (question_at q (q.at - k + 1)) ADDRESS_SECOND other e (address_second q k b h a sum near)
address_each q k b h a sum near (suc (suc j)) other e = cc

address_one : (q : Question) (k b : ℕ) (row : Row) → IsAmong q Address k → Alike q ADDRESS_FIRST → 4 * k + b ≡ 4 → takes_value (value.OwnNear b) q ≡ true → slice_get address_rows.rows k ≡ Some row → IsRowOfSequence q row Address k
address_one q k b row h a sum near here =
    let low = h.behind in
    record { whole = address_rows; known = (3, omega arith, refl); same = refl; first = q.at - k; place = omega (arith, low); here = here; each = address_each q k b h a sum near; words = h.words }

-- ---- each row

-- what is known of a row that is chosen
record IsThere (q : Question) (row : Row) : Type 0 where
  applied : IsApplied q row
  before : has_around q row.required_bytes ≡ true
  needed : has_around q row.needed ≡ true

there : (q : Question) (row : Row) → applies_aarch64 q row ≡ true → has_its_words q row ≡ true → IsThere q row
there q row here whole = record { applied = applied q row (and_parts _ _ here).0; before = (and_parts _ _ here).1; needed = (and_parts _ _ whole).1 }

-- it is one of a sequence
abbrev Finds : Row → Type 0
Finds row = (q : Question) (s : Sequence) (k : ℕ) → IsThere q row → pattern_of row ≡ pattern.Among s k → IsRowOfSequence q row s k

-- where the pattern is word j of a sequence
found_at : (q : Question) (row : Row) (t s : Sequence) (j k : ℕ) → pattern.Among t j ≡ pattern.Among s k → IsRowOfSequence q row t j → IsRowOfSequence q row s k
found_at q row t s j k e found =
    let same : t ≡ s = cc in
    let place : j ≡ k = cc in
    subst (λ (n : ℕ). IsRowOfSequence q row s n) place (subst (λ (x : Sequence). IsRowOfSequence q row x j) same found)

first_either : (b : Bool) → slice_get (descriptor_rows b).rows 0 ≡ Some CALL_FIRST
first_either true = refl
first_either false = refl

second_either : (b : Bool) → slice_get (descriptor_rows b).rows 1 ≡ Some CALL_SECOND
second_either true = refl
second_either false = refl

finds_first : Finds CALL_FIRST
finds_first q s k t e =
    let a = t.applied in
    found_at q CALL_FIRST DescriptorCall s 0 k e (call_one q 0 CALL_FIRST (takes_value value.Own q) (among_parts q DescriptorCall 0 t.needed) (record { on = a.on; section = a.section; symbol = a.symbol; thread = a.thread }) refl (first_either (takes_value value.Own q)))

finds_second : Finds CALL_SECOND
finds_second q s k t e =
    let a = t.applied in
    found_at q CALL_SECOND DescriptorCall s 1 k e (call_one q 1 CALL_SECOND (takes_value value.Own q) (among_parts q DescriptorCall 1 t.needed) (record { on = a.on; section = a.section; symbol = a.symbol; thread = a.thread }) refl (second_either (takes_value value.Own q)))

finds_third : Finds CALL_THIRD
finds_third q s k t e =
    let a = t.applied in
    found_at q CALL_THIRD DescriptorCall s 2 k e (call_one q 2 CALL_THIRD true (among_parts q DescriptorCall 2 t.needed) (record { on = a.on; section = a.section; symbol = a.symbol; thread = a.thread }) a.value refl)

finds_fourth : Finds CALL_FOURTH
finds_fourth q s k t e =
    let a = t.applied in
    found_at q CALL_FOURTH DescriptorCall s 3 k e (call_one q 3 CALL_FOURTH true (among_parts q DescriptorCall 3 t.needed) (record { on = a.on; section = a.section; symbol = a.symbol; thread = a.thread }) a.value refl)

finds_third_slot : Finds CALL_THIRD_SLOT
finds_third_slot q s k t e =
    let a = t.applied in
    found_at q CALL_THIRD_SLOT DescriptorCall s 2 k e (call_one q 2 CALL_THIRD_SLOT false (among_parts q DescriptorCall 2 t.needed) (record { on = a.on; section = a.section; symbol = a.symbol; thread = a.thread }) (not-true _ a.value) refl)

finds_fourth_slot : Finds CALL_FOURTH_SLOT
finds_fourth_slot q s k t e =
    let a = t.applied in
    found_at q CALL_FOURTH_SLOT DescriptorCall s 3 k e (call_one q 3 CALL_FOURTH_SLOT false (among_parts q DescriptorCall 3 t.needed) (record { on = a.on; section = a.section; symbol = a.symbol; thread = a.thread }) (not-true _ a.value) refl)

finds_slot_first : Finds SLOT_FIRST
finds_slot_first q s k t e =
    let a = t.applied in
    found_at q SLOT_FIRST OffsetSlot s 0 k e (slot_one q 0 SLOT_FIRST (among_parts q OffsetSlot 0 t.before) (record { on = a.on; section = a.section; symbol = a.symbol; thread = a.thread }) a.value refl)

finds_slot_second : Finds SLOT_SECOND
finds_slot_second q s k t e =
    let a = t.applied in
    found_at q SLOT_SECOND OffsetSlot s 1 k e (slot_one q 1 SLOT_SECOND (among_parts q OffsetSlot 1 t.before) (record { on = a.on; section = a.section; symbol = a.symbol; thread = a.thread }) a.value refl)

finds_address_first : Finds ADDRESS_FIRST
finds_address_first q s k t e =
    let a = t.applied in
    found_at q ADDRESS_FIRST Address s 0 k e (address_one q 0 4 ADDRESS_FIRST (among_parts q Address 0 t.before) (record { on = a.on; section = a.section; symbol = a.symbol; thread = a.thread }) refl a.value refl)

finds_address_second : Finds ADDRESS_SECOND
finds_address_second q s k t e =
    let a = t.applied in
    found_at q ADDRESS_SECOND Address s 1 k e (address_one q 1 0 ADDRESS_SECOND (among_parts q Address 1 t.before) (record { on = a.on; section = a.section; symbol = a.symbol; thread = a.thread }) refl a.value refl)

-- the others are of no sequence
none : (row : Row) → pattern_of row ≡ pattern.Nothing → Finds row
none row e q s k t h = let both : pattern.Nothing ≡ pattern.Among s k = sym e ∙ h in cc

abbrev FindsAll : List Row → Type 0
FindsAll [] = ⊤
FindsAll (row ∷ rows) = Finds row × FindsAll rows

finds_all : FindsAll rows_aarch64
unfolding rows_aarch64
finds_all = (none PLT refl, (none TEST refl, (none CONDITION refl, (none IFUNC_JUMP refl, (none JUMP refl, (none IFUNC_CALL refl, (none CALL refl, (finds_first, (finds_second, (finds_third, (finds_third_slot, (finds_fourth, (finds_fourth_slot, (finds_slot_first, (finds_slot_second, (finds_address_first, (finds_address_second, tt)))))))))))))))))

pick : (rows : List Row) (row : Row) → FindsAll rows → Contains rows row → Finds row
pick [] row h c = absurd (omega (arith, c.1))
pick (x ∷ rows) row h (zero, low, is) = subst Finds is h.0
pick (x ∷ rows) row h (suc k, low, is) = pick rows row h.1 (k, omega (arith, low), is)

-- what a row of a sequence asked of the relocation
pub record IsChosenWord (q : Question) (row : Row) (s : Sequence) (k : ℕ) : Type 0 where
  pub listed : Contains rows_aarch64 row
  pub applied : IsApplied q row
  pub among : IsAmong q s k

either_around : (q : Question) (needed required_bytes : Pattern) → has_around q needed ≡ true → has_around q required_bytes ≡ true → has_around q (either_pattern needed required_bytes) ≡ true
either_around q pattern.Nothing required_bytes n a = a
either_around q other required_bytes n a = n

pub chosen_word : (q : Question) (row : Row) (s : Sequence) (k : ℕ) → chosen_row_aarch64 q ≡ Ok (Some row) → pattern_of row ≡ pattern.Among s k → IsChosenWord q row s k
chosen_word q row s k e p =
    let c = chosen_is_aarch64 q row e in
    let t = there q row c.here c.whole in
    let around = subst (λ (x : Pattern). has_around q x ≡ true) p (either_around q row.needed row.required_bytes t.needed t.before) in
    record { listed = c.listed; applied = t.applied; among = among_parts q s k around }

pub rows_stand_together : RowsApplyTogether
rows_stand_together q row s k e p =
    let c = chosen_is_aarch64 q row e in
    pick rows_aarch64 row finds_all c.listed q s k (there q row c.here c.whole) p

-- ---- one row

each_stands_on : list_all (λ (row : Row). stands_on row.needed row) rows_aarch64 ≡ true
unfolding rows_aarch64
each_stands_on = refl

each_begins : list_all (λ (row : Row). field_of (pattern_of row) == 0) rows_aarch64 ≡ true
unfolding rows_aarch64
each_begins = refl

-- what a row changes is a word
abbrev keeps_or_fits : Row → Bool
keeps_or_fits row = keeps_bytes row || pattern_size row == 4 && fits_in row

each_fits : list_all keeps_or_fits rows_aarch64 ≡ true
unfolding x86_64_row static_row thread_row rows_aarch64
each_fits = refl

pub chosen_stand : ChosenRowsApply
chosen_stand q row e =
    let c = chosen_is_aarch64 q row e in
    let here = and_parts (applies q row) (has_around q row.required_bytes) c.here in
    let whole = and_parts (has_its_sequence q row) (has_around q row.needed) c.whole in
    let at = either_at q.bytes (relocation_of q).offset row row.needed (λ h. at_place q.bytes (relocation_of q).offset row.required_bytes (always_stands q row here.0 h)) (at_place q.bytes (relocation_of q).offset row.needed (needed_stands q row whole.0))
    (listed_passes (λ (r : Row). stands_on r.needed r) rows_aarch64 row each_stands_on c.listed) in
    let begins : field_of (pattern_of row) ≡ 0 = eqb-true _ 0 (listed_passes (λ (r : Row). field_of (pattern_of r) == 0) rows_aarch64 row each_begins c.listed) in
    let inside = at.inside in
    record {
      listed = c.listed;
      here = c.here;
      whole = c.whole;
      number = (applied q row here.0).number;
      begins = begins;
      inside = omega (arith, inside, begins);
      fits = λ changes. (let both = and_parts _ _ (or_other (keeps_bytes row) (pattern_size row == 4 && fits_in row) (listed_passes keeps_or_fits rows_aarch64 row each_fits c.listed) changes) in (eqb-true _ 4 both.0, both.1));
    }
