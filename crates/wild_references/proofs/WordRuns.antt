-- The words of a run of AArch64 are rewritten together, and the call of one stands alone.
--   type_is         the sequence that a relocation type is of, and its word
--   own_type        the type of a word that is rewritten
--   run_word        where a word of a run is rewritten, each is
--   calls_alone     no relocation has a field in the word of a call
use Rattle.wild_references.proofs.Common.{◌≡◌, ℕ, zero, suc, ◌+◌, ◌*◌, ◌<◌, ◌≤◌, ◌⊎◌, inl, inr, Bool, true, false, List, [], ◌∷◌, length, get_or, refl, sym, ap, ◌∙◌, subst, arith, ◌==◌, ◌&&◌, ◌||◌, not, if◌then◌else◌, slice_get, Option, Some, Contains, list_all, and_parts, eqb-true, not-true, cases_eq, slice_get_within, slice_get-get_or, get_or_from_slice_get, not_both, listed_passes, Machine, InputRelocation, Layout, Item, aarch64_formula, Sequence, DescriptorCall, OffsetSlot, Address, RelocationInfo, Row, CALL_FIRST, Rewriting, rewritings, keeps_bytes, types_of, words_before, relocations_match, RowsApplyTogether, Rewritten, infos_from, question_around, IsDecided, HasDecision, IsOwnByte, descriptor_call_words, formula_of, IsOutsideField, WindowsHaveNoOtherField}
use Rattle.std.proofs.Common.{eq-eqb}
use Rattle.wild_records.specs.Abi.Relocation as abi
use Rattle.wild_layout.specs.Choice.{info_at}
use Rattle.wild_references.proofs.Windows.{order}
use Rattle.wild_references.proofs.WordWindows.{word_here, call_width, no_partner_there}
use Rattle.wild_references.proofs.RewrittenRuns.{IsRewrittenWord, IsRunThere}
use Rattle.wild_references.proofs.RewrittenSequences.{IsPart, part, StandsAlone}
use Rattle.wild_references.proofs.RewrittenWords.{words_are_written}
use Rattle.wild_references.proofs.RewrittenHold.{word_of_run}

-- ---- relocation types

abbrev pub of_type : ℕ → Sequence
of_type n =
    if n == abi.r_aarch64_tlsdesc_adr_page21 || n == abi.r_aarch64_tlsdesc_ld64_lo12 || n == abi.r_aarch64_tlsdesc_add_lo12 || n == abi.r_aarch64_tlsdesc_call then DescriptorCall
    else if n == abi.r_aarch64_tlsie_adr_gottprel_page21 || n == abi.r_aarch64_tlsie_ld64_gottprel_lo12_nc then OffsetSlot
    else Address

pub record IsOfType (q : Sequence) (j n : ℕ) : Type 0 where
  pub sequence : of_type n ≡ q
  pub before : words_before n ≡ j

pub type_is : (q : Sequence) (j n : ℕ) → slice_get (types_of q) j ≡ Some n → IsOfType q j n
type_is q j n h = by q j h
  where
    at : (q : Sequence) (j m : ℕ) → of_type m ≡ q → words_before m ≡ j → Some m ≡ Some n → IsOfType q j n
    at q j m a b e = (let same : m ≡ n = cc in subst (IsOfType q j) same (record { sequence = a; before = b }))

    by : (q : Sequence) (j : ℕ) → slice_get (types_of q) j ≡ Some n → IsOfType q j n
    by DescriptorCall zero h = at DescriptorCall 0 abi.r_aarch64_tlsdesc_adr_page21 refl refl h
    by DescriptorCall (suc zero) h = at DescriptorCall 1 abi.r_aarch64_tlsdesc_ld64_lo12 refl refl h
    by DescriptorCall (suc (suc zero)) h = at DescriptorCall 2 abi.r_aarch64_tlsdesc_add_lo12 refl refl h
    by DescriptorCall (suc (suc (suc zero))) h = at DescriptorCall 3 abi.r_aarch64_tlsdesc_call refl refl h
    by DescriptorCall (suc (suc (suc (suc j)))) h = cc
    by OffsetSlot zero h = at OffsetSlot 0 abi.r_aarch64_tlsie_adr_gottprel_page21 refl refl h
    by OffsetSlot (suc zero) h = at OffsetSlot 1 abi.r_aarch64_tlsie_ld64_gottprel_lo12_nc refl refl h
    by OffsetSlot (suc (suc j)) h = cc
    by Address zero h = at Address 0 abi.r_aarch64_adr_prel_pg_hi21 refl refl h
    by Address (suc zero) h = at Address 1 abi.r_aarch64_add_abs_lo12_nc refl refl h
    by Address (suc (suc j)) h = cc

-- ---- the relocation of each word

abbrev are_types : List ℕ → Bool
are_types ns = list_all (λ (n : ℕ). not (n == 0)) ns

each_is_type : (q : Sequence) → are_types (types_of q) ≡ true
each_is_type DescriptorCall = refl
each_is_type OffsetSlot = refl
each_is_type Address = refl

-- so many from an index on
abbrev infos_up : List InputRelocation → ℕ → ℕ → List RelocationInfo
infos_up rs i zero = []
infos_up rs i (suc k) = info_at rs i ∷ infos_up rs (i + 1) k

four_up : (rs : List InputRelocation) (i : ℕ) → infos_from rs i ≡ infos_up rs i 4
four_up rs i =
    let a : i + 2 ≡ i + 1 + 1 = omega arith in
    let b : i + 3 ≡ i + 1 + 1 + 1 = omega arith in
    ap (λ (n : ℕ). info_at rs i ∷ info_at rs (i + 1) ∷ info_at rs n ∷ info_at rs (i + 3) ∷ []) a ∙ ap (λ (n : ℕ). info_at rs i ∷ info_at rs (i + 1) ∷ info_at rs (i + 1 + 1) ∷ info_at rs n ∷ []) b

part_at : (s : Item) (symbol : Option ℕ) (ns : List ℕ) (k index place j n : ℕ) → are_types ns ≡ true → relocations_match symbol place ns (infos_up s.relocations index k) ≡ true → slice_get ns j ≡ Some n → IsPart s symbol (place + 4 * j) n (index + j)
part_at s symbol [] k index place j n types h at = cc
part_at s symbol (m ∷ ns) zero index place j n types h at = cc
part_at s symbol (m ∷ ns) (suc k) index place zero n types h at =
    let t = and_parts (not (m == 0)) (are_types ns) types in
    let a = part s index symbol place m ns (infos_up s.relocations (index + 1) k) (λ e. not_both (m == 0) t.0 (eq-eqb m 0 e)) h in
    let same : m ≡ n = cc in
    let here : place ≡ place + 4 * 0 = omega arith in
    let there : index ≡ index + 0 = omega arith in
    subst (λ (i : ℕ). IsPart s symbol (place + 4 * 0) n i) there (subst (λ (p : ℕ). IsPart s symbol p n index) here (subst (λ (x : ℕ). IsPart s symbol place x index) same a.0))
part_at s symbol (m ∷ ns) (suc k) index place (suc j) n types h at =
    let t = and_parts (not (m == 0)) (are_types ns) types in
    let a = part s index symbol place m ns (infos_up s.relocations (index + 1) k) (λ e. not_both (m == 0) t.0 (eq-eqb m 0 e)) h in
    let here : place + 4 + 4 * j ≡ place + 4 * suc j = omega arith in
    let there : index + 1 + j ≡ index + suc j = omega arith in
    subst (λ (i : ℕ). IsPart s symbol (place + 4 * suc j) n i) there (subst (λ (p : ℕ). IsPart s symbol p n (index + 1 + j)) here (part_at s symbol ns k (index + 1) (place + 4) j n t.1 a.1 at))

run_part : (l : Layout) (s : Item) (i : ℕ) (r : InputRelocation) (row : Row) (q : Sequence) (k : ℕ) → (c : IsRunThere l s i r row q k) → (j n : ℕ) → slice_get (types_of q) j ≡ Some n → IsPart s r.symbol (c.start + 4 * j) n (c.index + j)
run_part l s i r row q k c j n at = part_at s r.symbol (types_of q) 4 c.index c.start j n (each_is_type q) (subst (λ (rs : List RelocationInfo). relocations_match r.symbol c.start (types_of q) rs ≡ true) (four_up s.relocations c.index) c.follows) at

pub own_type : (l : Layout) (s : Item) (i : ℕ) (r : InputRelocation) (row : Row) → (t : IsRewrittenWord l s i r row) → IsRunThere l s i r row t.sequence t.word → slice_get (types_of t.sequence) t.word ≡ Some r.number
own_type l s i r row t c =
    let n = get_or (types_of t.sequence) t.word 0 in
    let at : slice_get (types_of t.sequence) t.word ≡ Some n = slice_get-get_or (types_of t.sequence) t.word 0 c.few in
    let p = run_part l s i r row t.sequence t.word c t.word n at in
    let there : slice_get s.relocations i ≡ Some p.relocation = subst (λ (k : ℕ). slice_get s.relocations k ≡ Some p.relocation) (sym c.at) p.listed in
    let both : Some p.relocation ≡ Some r = sym there ∙ t.listed in
    let is : p.relocation ≡ r = cc in
    at ∙ ap (λ (x : ℕ). Some x) (sym p.number ∙ ap (λ (x : InputRelocation). x.number) is)

-- ---- each is rewritten

-- a row for each word, that changes it
abbrev are_words : Rewriting → Bool
are_words t = (length t.rows == length (types_of t.sequence)) && list_all (λ (row : Row). not (keeps_bytes row)) t.rows

each_are_words : list_all are_words rewritings ≡ true
each_are_words = refl

row_at : (t : Rewriting) → Contains rewritings t → (j n : ℕ) → slice_get (types_of t.sequence) j ≡ Some n → (row : Row) × (slice_get t.rows j ≡ Some row) × (keeps_bytes row ≡ false)
row_at t known j n at =
    let a = and_parts (length t.rows == length (types_of t.sequence)) (list_all (λ (row : Row). not (keeps_bytes row)) t.rows) (listed_passes are_words rewritings t each_are_words known) in
    let long = eqb-true (length t.rows) (length (types_of t.sequence)) a.0 in
    let few = slice_get_within (types_of t.sequence) j n at in
    let within : j < length t.rows = omega (arith, long, few) in
    let row = get_or t.rows j CALL_FIRST in
    let there : slice_get t.rows j ≡ Some row = slice_get-get_or t.rows j CALL_FIRST within in
    (row, there, not-true (keeps_bytes row) (listed_passes (λ (x : Row). not (keeps_bytes x)) t.rows row a.1 (j, within, get_or_from_slice_get t.rows j row row there)))

-- the relocation at an index is rewritten
pub record IsWordAt (l : Layout) (s : Item) (index place n : ℕ) : Type 0 where
  pub relocation : InputRelocation
  pub number : relocation.number ≡ n
  pub offset : relocation.offset ≡ place
  pub row : Row
  pub value : ℕ
  pub has : HasDecision l s index relocation (Rewritten row value)

pub run_word : RowsApplyTogether → (l : Layout) (s : Item) (i : ℕ) (r : InputRelocation) (row : Row) → IsDecided l s → (t : IsRewrittenWord l s i r row) → (c : IsRunThere l s i r row t.sequence t.word) → (j n : ℕ) → slice_get (types_of t.sequence) j ≡ Some n → IsWordAt l s (c.index + j) (c.start + 4 * j) n
run_word together l s i r row decided t c j n at =
    let p = run_part l s i r row t.sequence t.word c j n at in
    let o = together (question_around l s i r t.symbol) row t.sequence t.word t.chosen t.among in
    let x = row_at o.whole o.known j n (subst (λ (q : Sequence). slice_get (types_of q) j ≡ Some n) (sym o.same) at) in
    let w = word_of_run l s i r row t.sequence t c o (words_are_written l s t.symbol t.on t.plain decided) j n p.relocation x.0 x.1 x.2 (type_is t.sequence j n at).before (0, omega arith, sym p.number) p.listed (p.names ∙ t.named) in
    record { relocation = p.relocation; number = p.number; offset = p.offset; row = x.0; value = w.value; has = w.written.has }

-- ---- the word of a call

-- is what other words leave of a run, and has no field
pub call_bytes : (k : ℕ) → IsOwnByte descriptor_call_words k → (12 ≤ k) × (k < 16)
call_bytes k h = (by h.beside h.apart.0 h.apart.1.0, h.inside)
  where
    by : (k < 0) ⊎ (4 ≤ k) → (k < 4) ⊎ (8 ≤ k) → (k < 8) ⊎ (12 ≤ k) → 12 ≤ k
    by (inl a) b c = absurd (omega (arith, a))
    by (inr a) (inl b) c = absurd (omega (arith, a, b))
    by (inr a) (inr b) (inl c) = absurd (omega (arith, b, c))
    by (inr a) (inr b) (inr c) = c

pub calls_alone : RowsApplyTogether → WindowsHaveNoOtherField → (l : Layout) (s : Item) (i : ℕ) (r : InputRelocation) (row : Row) → IsDecided l s → (t : IsRewrittenWord l s i r row) → (c : IsRunThere l s i r row t.sequence t.word) → t.sequence ≡ DescriptorCall → StandsAlone l s DescriptorCall c.start
calls_alone together windows l s i r row decided t c same k own j d lt = by (cases_eq (c.index + 3) j)
  where
    w : IsWordAt l s (c.index + 3) (c.start + 4 * 3) abi.r_aarch64_tlsdesc_call
    w = run_word together l s i r row decided t c 3 abi.r_aarch64_tlsdesc_call (ap (λ (q : Sequence). slice_get (types_of q) 3) same)

    q : InputRelocation
    q = get_or s.relocations j d

    listed : slice_get s.relocations j ≡ Some q
    listed = slice_get-get_or s.relocations j d lt

    by : (c.index + 3 ≡ j) ⊎ (c.index + 3 ≡ j → ⊥) → IsOutsideField l q (c.start + k)
    by (inl here) f known =
        let there : slice_get s.relocations j ≡ Some w.relocation = subst (λ (n : ℕ). slice_get s.relocations n ≡ Some w.relocation) here w.has.listed in
        let both : Some q ≡ Some w.relocation = sym listed ∙ there in
        let is : q ≡ w.relocation = cc in
        let number : q.number ≡ abi.r_aarch64_tlsdesc_call = ap (λ (x : InputRelocation). x.number) is ∙ w.number in
        let none = call_width f (subst (λ (n : ℕ). aarch64_formula n ≡ Some f) number (subst (λ (m : Machine). formula_of m q.number ≡ Some f) t.on known)) in
        subst (λ (n : ℕ). (c.start + k < q.offset) ⊎ (q.offset + n ≤ c.start + k)) (sym none) (order (c.start + k) q.offset)
    by (inr other) f known =
        let e = decided.each j lt in
        let has : HasDecision l s j q e.0 = record { listed = listed; decided = e.1 } in
        let h = word_here l s (c.index + 3) w.relocation w.row w.value t.on w.has in
        let start = h.start in
        let size = h.size in
        let offset = w.offset in
        let own_bytes = call_bytes k own in
        let from = own_bytes.0 in
        let to = own_bytes.1 in
        windows l s decided (c.index + 3) j w.relocation q w.row w.value e.0 w.has has other (λ a b. no_partner_there l s j q e.0 t.on has b) (c.start + k) (omega (arith, start, offset, from)) (omega (arith, start, size, offset, to)) f known
