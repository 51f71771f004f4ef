-- The reader takes the run of a word that is rewritten for one of its instructions.
--   IsJudgedRun ..   the run that a relocation is of, as an instruction of the reader
--   judged_run       so it is of each word that is rewritten
use Rattle.wild_references.proofs.Common.{◌≡◌, ℕ, ℤ, pos, negsuc, zero, suc, ◌+◌, ◌*◌, ◌%◌, ◌^◌, ◌<◌, ◌≤◌, ◌⊎◌, inl, inr, true, false, List, [], ◌∷◌, length, refl, sym, ap, ◌∙◌, subst, arith, ◌&&◌, ◌==◌, slice_get, slice_range, Option, Some, None, Contains, w64, cast_unsigned, and_parts, length-range, r_aarch64_adr_prel_pg_hi21, r_aarch64_add_abs_lo12_nc, r_aarch64_tlsie_adr_gottprel_page21, r_aarch64_tlsie_ld64_gottprel_lo12_nc, r_aarch64_tlsdesc_adr_page21, r_aarch64_tlsdesc_ld64_lo12, r_aarch64_tlsdesc_add_lo12, r_aarch64_tlsdesc_call, Machine, InputRelocation, Layout, has_flag, undefined_weak, Item, flags_at, flag_is, words_of, Sequence, DescriptorCall, OffsetSlot, Address, RelocationInfo, Row, types_of, relocations_match, nameless, matches_cells, is_run, size_of, by_word, IsOwnByte, descriptor_call_words, offset_pair_words, address_pair_words, instructions_of, InNoField, IsUndefinedWeak, HasOriginAddend, field_origin, IsInstruction, IsSequence, IsOfSequence, bit_code}
use Rattle.std.proofs.Common.{eqb-true}
use Rattle.wild_types.specs.declared.kind.Machine.TheVariants as machine
use Rattle.wild_relax.specs.Question.{zero as none_added}
use Rattle.wild_relax.specs.SequenceAArch64.{same_symbol}
use Rattle.wild_relax.proofs.TogetherLemmas.{same_is}
use Rattle.wild_layout.specs.Choice.{info_at}
use Rattle.wild_meaning.specs.Sequence.{bytes_of}
use Rattle.wild_meaning.specs.Partners.{HasPartner}
use Rattle.wild_references.proofs.WordsAArch64.{fours, words_from, words_read}
use Rattle.wild_references.proofs.RewrittenRuns.{kind_of, run_of, run_stands, IsRewrittenWord, IsRunThere, address_there}

-- ---- the relocations of a run

-- relocation i is of that type, at that place and of that symbol, and adds nothing
pub record IsPart (s : Item) (symbol : Option ℕ) (place n index : ℕ) : Type 0 where
  pub relocation : InputRelocation
  pub listed : slice_get s.relocations index ≡ Some relocation
  pub number : relocation.number ≡ n
  pub offset : relocation.offset ≡ place
  pub names : relocation.symbol ≡ symbol
  pub none : relocation.addend ≡ pos 0

none_is : (a : ℤ) → none_added a ≡ true → a ≡ pos 0
unfolding none_added
none_is (pos n) h = ap pos (eqb-true n 0 h)
none_is (negsuc n) h = cc

there : (rs : List InputRelocation) (i n : ℕ) → (info_at rs i).number ≡ n → (n ≡ 0 → ⊥) → (p : InputRelocation) × (slice_get rs i ≡ Some p) × (info_at rs i ≡ nameless p)
there rs i n e some = by (slice_get rs i) refl
  where
    by : (o : Option InputRelocation) → slice_get rs i ≡ o → (p : InputRelocation) × (slice_get rs i ≡ Some p) × (info_at rs i ≡ nameless p)
    by None h = absurd (some (sym e ∙ (rw h refl)))
    by (Some p) h = (p, h, rw h refl)

pub part : (s : Item) (index : ℕ) (symbol : Option ℕ) (place n : ℕ) (ns : List ℕ) (rest : List RelocationInfo) → (n ≡ 0 → ⊥) → relocations_match symbol place (n ∷ ns) (info_at s.relocations index ∷ rest) ≡ true → IsPart s symbol place n index × (relocations_match symbol (place + 4) ns rest ≡ true)
part s index symbol place n ns rest some h =
    let r = info_at s.relocations index in
    let a = and_parts (r.number == n && r.offset == place && same_symbol r.symbol symbol && none_added r.addend) (relocations_match symbol (place + 4) ns rest) h in
    let b = and_parts (r.number == n && r.offset == place && same_symbol r.symbol symbol) (none_added r.addend) a.0 in
    let c = and_parts (r.number == n && r.offset == place) (same_symbol r.symbol symbol) b.0 in
    let e = and_parts (r.number == n) (r.offset == place) c.0 in
    let number : r.number ≡ n = eqb-true r.number n e.0 in
    let t = there s.relocations index n number some in
    let is : nameless t.0 ≡ r = sym t.2 in (
      record {
        relocation = t.0;
        listed = t.1;
        number = ap (λ (x : RelocationInfo). x.number) is ∙ number;
        offset = ap (λ (x : RelocationInfo). x.offset) is ∙ eqb-true r.offset place e.1;
        names = ap (λ (x : RelocationInfo). x.symbol) is ∙ same_is r.symbol symbol c.1;
        none = ap (λ (x : RelocationInfo). x.addend) is ∙ none_is r.addend b.1;
      },
      a.1,
    )

-- as the reader has a further one
partner : (l : Layout) (s : Item) (symbol : Option ℕ) (place n index start k width : ℕ) (first : InputRelocation) → first.symbol ≡ symbol → first.addend ≡ pos 0 → (p : IsPart s symbol place n index) → place ≡ start + k → HasPartner l s first p.relocation start index (by_word k width n)
partner l s symbol place n index start k width first named none p e = record {
  listed = p.listed;
  field = p.offset ∙ e;
  number = (0, omega arith, sym p.number);
  names = (p.names ∙ sym named, p.none ∙ sym none);
}

-- ---- its bytes

any_stand : (n : ℕ) (bs : List ℕ) → length bs ≡ fours n → matches_cells (bytes_of n).cells bs ≡ true
any_stand zero bs h = refl
any_stand (suc n) [] h = cc
any_stand (suc n) (a ∷ []) h = cc
any_stand (suc n) (a ∷ b ∷ []) h = cc
any_stand (suc n) (a ∷ b ∷ c ∷ []) h = cc
any_stand (suc n) (a ∷ b ∷ c ∷ e ∷ bs) h = any_stand n bs (omega (arith, h))

known_run : (q : Sequence) → Contains (instructions_of machine.AArch64) (run_of q)
known_run DescriptorCall = (46, omega arith, refl)
known_run OffsetSlot = (47, omega arith, refl)
known_run Address = (48, omega arith, refl)

pub run_size : (q : Sequence) → size_of (run_of q) ≡ 4 * length (types_of q)
run_size DescriptorCall = refl
run_size OffsetSlot = refl
run_size Address = refl

run_stands_there : (q : Sequence) (start : ℕ) (bs : List ℕ) → start + size_of (run_of q) ≤ length bs → matches_cells (run_of q).template.cells (slice_range bs start (start + size_of (run_of q))) ≡ true
run_stands_there DescriptorCall start bs h = any_stand 4 (slice_range bs start (start + 16)) (length-range bs start 16 h)
run_stands_there OffsetSlot start bs h = any_stand 2 (slice_range bs start (start + 8)) (length-range bs start 8 h)
run_stands_there Address start bs h = any_stand 2 (slice_range bs start (start + 8)) (length-range bs start 8 h)

run_words : (q : Sequence) (start : ℕ) (bs : List ℕ) → start + size_of (run_of q) ≤ length bs → is_run (kind_of q) (types_of q) (words_from (length (types_of q)) start bs) ≡ true → (run_of q).words (words_of (slice_range bs start (start + size_of (run_of q)))) ≡ true
run_words DescriptorCall start bs h w = subst (λ (ws : List ℕ). descriptor_call_words.words ws ≡ true) (sym (words_read 4 start bs h)) w
run_words OffsetSlot start bs h w = subst (λ (ws : List ℕ). offset_pair_words.words ws ≡ true) (sym (words_read 2 start bs h)) w
run_words Address start bs h w = subst (λ (ws : List ℕ). address_pair_words.words ws ≡ true) (sym (words_read 2 start bs h)) w

run_counts : (l : Layout) (q : Sequence) (first : InputRelocation) → l.machine ≡ machine.AArch64 → first.addend ≡ pos 0 → HasOriginAddend l.machine (run_of q).sort first
run_counts l DescriptorCall first on none = subst (λ (m : Machine). (cast_unsigned w64 first.addend + field_origin m) % 2 ^ 64 ≡ 0) (sym on) (ap (λ (a : ℤ). (cast_unsigned w64 a + 0) % 2 ^ 64) none)
run_counts l OffsetSlot first on none = subst (λ (m : Machine). (cast_unsigned w64 first.addend + field_origin m) % 2 ^ 64 ≡ 0) (sym on) (ap (λ (a : ℤ). (cast_unsigned w64 a + 0) % 2 ^ 64) none)
run_counts l Address first on none = tt

-- what stands alone of a run: the word of a call has no field of its own
abbrev pub StandsAlone : Layout → Item → Sequence → ℕ → Type 0
StandsAlone l s q start = (k : ℕ) → IsOwnByte (run_of q) k → InNoField l s (start + k)

-- both words of a pair have a field
pub no_own_byte : (k : ℕ) → IsOwnByte offset_pair_words k → ⊥
no_own_byte k h = by h.beside h.apart.0
  where
    inside : k < 8
    inside = h.inside

    by : (k < 0) ⊎ (4 ≤ k) → (k < 4) ⊎ (8 ≤ k) → ⊥
    by (inl a) b = omega (arith, a)
    by (inr a) (inl b) = omega (arith, a, b)
    by (inr a) (inr b) = omega (arith, inside, b)

pub no_own_byte_of_address : (k : ℕ) → IsOwnByte address_pair_words k → ⊥
no_own_byte_of_address k h = by h.beside h.apart.0
  where
    inside : k < 8
    inside = h.inside

    by : (k < 0) ⊎ (4 ≤ k) → (k < 4) ⊎ (8 ≤ k) → ⊥
    by (inl a) b = omega (arith, a)
    by (inr a) (inl b) = omega (arith, a, b)
    by (inr a) (inr b) = omega (arith, inside, b)

instruction : (l : Layout) (s : Item) (i : ℕ) (r : InputRelocation) (row : Row) (q : Sequence) (k : ℕ) → l.machine ≡ machine.AArch64 → (t : IsRunThere l s i r row q k) → StandsAlone l s q t.start → (first : InputRelocation) → Contains (run_of q).numbers first.number → first.offset ≡ t.start + (run_of q).field → first.addend ≡ pos 0 → IsInstruction l s first t.start (run_of q)
instruction l s i r row q k on t alone first number field none =
    let inside : t.start + size_of (run_of q) ≤ length s.bytes = subst (λ (n : ℕ). t.start + n ≤ length s.bytes) (sym (run_size q)) t.inside in
    record {
      code = bit_code s.flags t.code;
      known = subst (λ (m : Machine). Contains (instructions_of m) (run_of q)) (sym on) (known_run q);
      number = number;
      field = field;
      inside = inside;
      stands = run_stands_there q t.start s.bytes inside;
      words = run_words q t.start s.bytes inside (run_stands q t.start s.bytes t.words);
      counts = run_counts l q first on none;
      alone = alone;
    }

-- ---- the run

pub record IsJudgedRun (l : Layout) (s : Item) (r : InputRelocation) (q : Sequence) (start index : ℕ) : Type 0 where
  pub first : InputRelocation
  pub listed : slice_get s.relocations index ≡ Some first
  pub names : first.symbol ≡ r.symbol
  pub none : first.addend ≡ pos 0
  pub begins : first.offset ≡ start
  pub rest : List InputRelocation
  pub sequence : IsSequence l s first rest start (run_of q)
  pub at : sequence.index ≡ index
  pub one : Contains (first ∷ rest) r

pub of_run : (l : Layout) (s : Item) (r : InputRelocation) (q : Sequence) (start index : ℕ) → (j : IsJudgedRun l s r q start index) → IsOfSequence l s r start (run_of q) j.first
of_run l s r q start index j = record { rest = j.rest; sequence = j.sequence; one = j.one }

same_at : (s : Item) (a b : ℕ) (p r : InputRelocation) → slice_get s.relocations a ≡ Some p → slice_get s.relocations b ≡ Some r → b ≡ a → p ≡ r
same_at s a b p r there here e = (let both : Some p ≡ Some r = sym there ∙ subst (λ (n : ℕ). slice_get s.relocations n ≡ Some r) e here in cc)

-- relocation i is one of those from an index on
one_of_pair : (s : Item) (i index k : ℕ) (r p o : InputRelocation) → i ≡ index + k → k < 2 → slice_get s.relocations i ≡ Some r → slice_get s.relocations index ≡ Some p → slice_get s.relocations (index + 1) ≡ Some o → Contains (p ∷ o ∷ []) r
one_of_pair s i index zero r p o e few here a b = (0, omega arith, same_at s index i p r a here (omega (arith, e)))
one_of_pair s i index (suc zero) r p o e few here a b = (1, omega arith, same_at s (index + 1) i o r b here (omega (arith, e)))
one_of_pair s i index (suc (suc k)) r p o e few here a b = absurd (omega (arith, few))

one_of_four : (s : Item) (i index k : ℕ) (r p o u v : InputRelocation) → i ≡ index + k → k < 4 → slice_get s.relocations i ≡ Some r → slice_get s.relocations index ≡ Some p → slice_get s.relocations (index + 1) ≡ Some o → slice_get s.relocations (index + 2) ≡ Some u → slice_get s.relocations (index + 3) ≡ Some v
    → Contains (p ∷ o ∷ u ∷ v ∷ []) r
one_of_four s i index zero r p o u v e few here a b c d = (0, omega arith, same_at s index i p r a here (omega (arith, e)))
one_of_four s i index (suc zero) r p o u v e few here a b c d = (1, omega arith, same_at s (index + 1) i o r b here (omega (arith, e)))
one_of_four s i index (suc (suc zero)) r p o u v e few here a b c d = (2, omega arith, same_at s (index + 2) i u r c here (omega (arith, e)))
one_of_four s i index (suc (suc (suc zero))) r p o u v e few here a b c d = (3, omega arith, same_at s (index + 3) i v r d here (omega (arith, e)))
one_of_four s i index (suc (suc (suc (suc k)))) r p o u v e few here a b c d = absurd (omega (arith, few))

abbrev infos_last : Item → ℕ → List RelocationInfo
infos_last s i = info_at s.relocations (i + 2) ∷ info_at s.relocations (i + 3) ∷ []

abbrev infos_behind : Item → ℕ → List RelocationInfo
infos_behind s i = info_at s.relocations (i + 1) ∷ infos_last s i

slot_run_is : (l : Layout) (s : Item) (i : ℕ) (r : InputRelocation) (row : Row) (k symbol : ℕ) → l.machine ≡ machine.AArch64 → slice_get s.relocations i ≡ Some r → r.symbol ≡ Some symbol → (t : IsRunThere l s i r row OffsetSlot k) → IsJudgedRun l s r OffsetSlot t.start t.index
slot_run_is l s i r row k symbol on listed named t =
    let a = part s t.index r.symbol t.start r_aarch64_tlsie_adr_gottprel_page21 (r_aarch64_tlsie_ld64_gottprel_lo12_nc ∷ []) (infos_behind s t.index) (λ z. omega (arith, z)) t.follows in
    let b = part s (t.index + 1) r.symbol (t.start + 4) r_aarch64_tlsie_ld64_gottprel_lo12_nc [] (infos_last s t.index) (λ z. omega (arith, z)) a.1 in
    let first = a.0.relocation in
    record {
      first = first;
      listed = a.0.listed;
      names = a.0.names;
      none = a.0.none;
      begins = a.0.offset;
      rest = b.0.relocation ∷ [];
      sequence = record {
        stands = instruction l s i r row OffsetSlot k on t (λ j own. absurd (no_own_byte j own)) first (0, omega arith, sym a.0.number) (let e : first.offset ≡ t.start = a.0.offset in omega (arith, e)) a.0.none;
        several = omega arith;
        index = t.index;
        listed = a.0.listed;
        has = (partner l s r.symbol (t.start + 4) r_aarch64_tlsie_ld64_gottprel_lo12_nc (t.index + 1) t.start 4 4 first a.0.names a.0.none b.0 refl, tt);
        symbol = symbol;
        named = a.0.names ∙ named;
        met = tt;
      };
      at = refl;
      one = one_of_pair s i t.index k r first b.0.relocation t.at t.few listed a.0.listed b.0.listed;
    }

address_run_is : (l : Layout) (s : Item) (i : ℕ) (r : InputRelocation) (row : Row) (k symbol : ℕ) → l.machine ≡ machine.AArch64 → slice_get s.relocations i ≡ Some r → r.symbol ≡ Some symbol → (IsUndefinedWeak l symbol → ⊥) → (t : IsRunThere l s i r row Address k) → IsJudgedRun l s r Address t.start t.index
address_run_is l s i r row k symbol on listed named present t =
    let a = part s t.index r.symbol t.start r_aarch64_adr_prel_pg_hi21 (r_aarch64_add_abs_lo12_nc ∷ []) (infos_behind s t.index) (λ z. omega (arith, z)) t.follows in
    let b = part s (t.index + 1) r.symbol (t.start + 4) r_aarch64_add_abs_lo12_nc [] (infos_last s t.index) (λ z. omega (arith, z)) a.1 in
    let first = a.0.relocation in
    record {
      first = first;
      listed = a.0.listed;
      names = a.0.names;
      none = a.0.none;
      begins = a.0.offset;
      rest = b.0.relocation ∷ [];
      sequence = record {
        stands = instruction l s i r row Address k on t (λ j own. absurd (no_own_byte_of_address j own)) first (0, omega arith, sym a.0.number) (let e : first.offset ≡ t.start = a.0.offset in omega (arith, e)) a.0.none;
        several = omega arith;
        index = t.index;
        listed = a.0.listed;
        has = (partner l s r.symbol (t.start + 4) r_aarch64_add_abs_lo12_nc (t.index + 1) t.start 4 4 first a.0.names a.0.none b.0 refl, tt);
        symbol = symbol;
        named = a.0.names ∙ named;
        met = (present, tt);
      };
      at = refl;
      one = one_of_pair s i t.index k r first b.0.relocation t.at t.few listed a.0.listed b.0.listed;
    }

call_run_is : (l : Layout) (s : Item) (i : ℕ) (r : InputRelocation) (row : Row) (k symbol : ℕ) → l.machine ≡ machine.AArch64 → slice_get s.relocations i ≡ Some r → r.symbol ≡ Some symbol → (t : IsRunThere l s i r row DescriptorCall k) → StandsAlone l s DescriptorCall t.start → IsJudgedRun l s r DescriptorCall t.start t.index
call_run_is l s i r row k symbol on listed named t alone =
    let a = part s t.index r.symbol t.start r_aarch64_tlsdesc_adr_page21 (r_aarch64_tlsdesc_ld64_lo12 ∷ r_aarch64_tlsdesc_add_lo12 ∷ r_aarch64_tlsdesc_call ∷ []) (infos_behind s t.index) (λ z. omega (arith, z)) t.follows in
    let b = part s (t.index + 1) r.symbol (t.start + 4) r_aarch64_tlsdesc_ld64_lo12 (r_aarch64_tlsdesc_add_lo12 ∷ r_aarch64_tlsdesc_call ∷ []) (infos_last s t.index) (λ z. omega (arith, z)) a.1 in
    let c = part s (t.index + 2) r.symbol (t.start + 4 + 4) r_aarch64_tlsdesc_add_lo12 (r_aarch64_tlsdesc_call ∷ []) (info_at s.relocations (t.index + 3) ∷ []) (λ z. omega (arith, z)) b.1 in
    let e = part s (t.index + 3) r.symbol (t.start + 4 + 4 + 4) r_aarch64_tlsdesc_call [] [] (λ z. omega (arith, z)) c.1 in
    let first = a.0.relocation in
    let third : t.index + 2 ≡ t.index + 1 + 1 = omega arith in
    let fourth : t.index + 3 ≡ t.index + 1 + 1 + 1 = omega arith in
    record {
      first = first;
      listed = a.0.listed;
      names = a.0.names;
      none = a.0.none;
      begins = a.0.offset;
      rest = b.0.relocation ∷ c.0.relocation ∷ e.0.relocation ∷ [];
      sequence = record {
        stands = instruction l s i r row DescriptorCall k on t alone first (0, omega arith, sym a.0.number) (let h : first.offset ≡ t.start = a.0.offset in omega (arith, h)) a.0.none;
        several = omega arith;
        index = t.index;
        listed = a.0.listed;
        has = (
          partner l s r.symbol (t.start + 4) r_aarch64_tlsdesc_ld64_lo12 (t.index + 1) t.start 4 4 first a.0.names a.0.none b.0 refl,
          (
            subst (λ (j : ℕ). HasPartner l s first c.0.relocation t.start j (by_word 8 4 r_aarch64_tlsdesc_add_lo12)) third (partner l s r.symbol (t.start + 4 + 4) r_aarch64_tlsdesc_add_lo12 (t.index + 2) t.start 8 4 first a.0.names a.0.none c.0 (omega arith)),
            (subst (λ (j : ℕ). HasPartner l s first e.0.relocation t.start j (by_word 12 0 r_aarch64_tlsdesc_call)) fourth (partner l s r.symbol (t.start + 4 + 4 + 4) r_aarch64_tlsdesc_call (t.index + 3) t.start 12 0 first a.0.names a.0.none e.0 (omega arith)), tt),
          ),
        );
        symbol = symbol;
        named = a.0.names ∙ named;
        met = tt;
      };
      at = refl;
      one = one_of_four s i t.index k r first b.0.relocation c.0.relocation e.0.relocation t.at t.few listed a.0.listed b.0.listed c.0.listed e.0.listed;
    }

-- where the word of a call stands alone
pub judged_run : (l : Layout) (s : Item) (i : ℕ) (r : InputRelocation) (row : Row) → (w : IsRewrittenWord l s i r row) → (t : IsRunThere l s i r row w.sequence w.word) → (w.sequence ≡ DescriptorCall → StandsAlone l s DescriptorCall t.start) → IsJudgedRun l s r w.sequence t.start t.index
judged_run l s i r row w t alone = by w.sequence refl t alone
  where
    present : w.sequence ≡ Address → IsUndefinedWeak l w.symbol → ⊥
    present e a =
        (let no = address_there l s i r row w e in
        let yes : has_flag (flags_at l w.symbol) undefined_weak ≡ true = flag_is l w.symbol undefined_weak true a.weak in
        let both : true ≡ false = sym yes ∙ no in
        cc)

    by : (q : Sequence) → w.sequence ≡ q → (t : IsRunThere l s i r row q w.word) → (q ≡ DescriptorCall → StandsAlone l s DescriptorCall t.start) → IsJudgedRun l s r q t.start t.index
    by DescriptorCall e t alone = call_run_is l s i r row w.word w.symbol w.on w.listed w.named t (alone refl)
    by OffsetSlot e t alone = slot_run_is l s i r row w.word w.symbol w.on w.listed w.named t
    by Address e t alone = address_run_is l s i r row w.word w.symbol w.on w.listed w.named (present e) t
