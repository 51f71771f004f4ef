-- What is decided of the relocations of a run that is rewritten.
--   word_written        where a row is chosen that changes its word, that is what is written
--   words_are_written   so it is of each relocation of an item
--   rewritten_word      what is rewritten is a word of a run
--   asked_there         each word of a run asks the same question
use Rattle.wild_references.proofs.Common.{◌≡◌, ℕ, ◌+◌, ◌-◌, Bool, true, false, refl, sym, ap, ◌∙◌, subst, arith, Option, Some, Result, Ok, Err, ◌||◌, if◌then◌else◌, slice_get, list_all, slice_get_within, or_other, listed_passes, Machine, Fault, InputRelocation, Layout, Item, allows, UnknownSequence, Row, Pattern, Sequence, pattern_of, keeps_bytes, rewrite_of, info_written, rows_aarch64, chosen_row_aarch64, words_before, Decision, Rewritten, infos_from, question_around, choice_on, is_partner, place_to, term_to, decide_with, decide, value_in, rewritten_aarch64, IsDecided, HasDecision, names_merged}
use Rattle.wild_types.specs.declared.kind.Machine.TheVariants as machine
use Rattle.wild_types.specs.declared.fault.Fault.TheVariants as faults
use Rattle.wild_relax.specs.declared.pattern.Pattern.TheVariants.{Among}
use Rattle.wild_relax.specs.SequenceRowsAArch64.{question_at}
use Rattle.wild_layout.specs.Choice.{question_for, choice_around_by, choice_around}
use Rattle.wild_layout.specs.Decide.{value_to, rewritten_decision}
use Rattle.wild_layout.proofs.ChoiceLemmas.{no_partner_aarch64}
use Rattle.wild_references.proofs.RewrittenRuns.{IsRewrittenWord, is_word}
use Rattle.wild_references.proofs.RewrittenOffsets.{IsWrittenWord}

-- ---- the decision

-- the word is written with some value, which is what is decided
pub record IsDecidedWord (l : Layout) (s : Item) (i : ℕ) (r : InputRelocation) (row : Row) (d : Decision) : Type 0 where
  pub value : ℕ
  pub is : d ≡ Rewritten row value
  pub written : IsWrittenWord l s i r row value

pub word_written : (l : Layout) (s : Item) (i : ℕ) (r : InputRelocation) (row : Row) (d : Decision) → l.machine ≡ machine.AArch64 → slice_get s.relocations i ≡ Some r → choice_around l s i r ≡ Ok (Some row) → keeps_bytes row ≡ false → is_partner l s i ≡ false → decide l s i ≡ Ok d → IsDecidedWord l s i r row d
unfolding decide
word_written l s i r row d on listed chosen changes alone h = by_term (term_to l r (info_written row) (place_to s r row)) refl made
  where
    with_choice : decide_with l s r (choice_on l.machine l s i r) ≡ Ok d
    with_choice = rw (alone, listed) at h

    on_machine : decide_with l s r (choice_around l s i r) ≡ Ok d
    on_machine = subst (λ (m : Machine). decide_with l s r (choice_on m l s i r) ≡ Ok d) on with_choice

    made : rewritten_decision l s r row ≡ Ok d
    made = subst (λ (c : Result (Option Row) UnknownSequence). decide_with l s r c ≡ Ok d) chosen on_machine

    by_test : (a v : ℕ) (b : Bool) → term_to l r (info_written row) (place_to s r row) ≡ Ok a → value_in l (info_written row) a ((rewrite_of row).addend r.addend) (place_to s r row) ≡ v → allows (info_written row) v ≡ b
        → (if b then Ok (Rewritten row v) else Err (faults.OutOfRange v)) ≡ Ok d → IsDecidedWord l s i r row d
    by_test a v false given value allowed e = cc
    by_test a v true given value allowed e =
        let is : d ≡ Rewritten row v = cc in
        record { value = v; is = is; written = record { has = record { listed = listed; decided = h ∙ ap (λ (x : Decision). Ok x) is }; term = a; given = given; value = value; allowed = allowed } }

    by_term : (t : Result ℕ Fault) → term_to l r (info_written row) (place_to s r row) ≡ t → value_to l s r row t ≡ Ok d → IsDecidedWord l s i r row d
    by_term (Err f) given e = cc
    by_term (Ok a) given e = by_test a (value_in l (info_written row) a ((rewrite_of row).addend r.addend) (place_to s r row)) (allows (info_written row) (value_in l (info_written row) a ((rewrite_of row).addend r.addend) (place_to s r row))) given refl refl (rw changes at e)

choice_there : (l : Layout) (s : Item) (i symbol : ℕ) (r : InputRelocation) (row : Row) → names_merged l (Some symbol) ≡ false → r.symbol ≡ Some symbol → chosen_row_aarch64 (question_around l s i r symbol) ≡ Ok (Some row) → choice_around l s i r ≡ Ok (Some row)
unfolding choice_around_by
choice_there l s i symbol r row plain named h = rw (named, plain) h

-- where a row is chosen that changes its word, the word is written
abbrev pub WordsAreWritten : Layout → Item → ℕ → Type 0
WordsAreWritten l s symbol = (i : ℕ) (r : InputRelocation) (row : Row) → slice_get s.relocations i ≡ Some r → r.symbol ≡ Some symbol → chosen_row_aarch64 (question_around l s i r symbol) ≡ Ok (Some row) → keeps_bytes row ≡ false → (v : ℕ) × IsWrittenWord l s i r row v

pub words_are_written : (l : Layout) (s : Item) (symbol : ℕ) → l.machine ≡ machine.AArch64 → names_merged l (Some symbol) ≡ false → IsDecided l s → WordsAreWritten l s symbol
words_are_written l s symbol on plain decided i r row listed named chosen changes =
    let d = decided.each i (slice_get_within s.relocations i r listed) in
    let w = word_written l s i r row d.0 on listed (choice_there l s i symbol r row plain named chosen) changes (no_partner_aarch64 l s i on) d.1 in
    (w.value, w.written)

-- ---- words of runs

abbrev keeps_or_word : Row → Bool
keeps_or_word row = keeps_bytes row || is_word (pattern_of row)

each_is_word : list_all keeps_or_word rows_aarch64 ≡ true
unfolding rows_aarch64
each_is_word = refl

among : (p : Pattern) → is_word p ≡ true → (q : Sequence) × (k : ℕ) × (p ≡ Among q k)
among (Among q k) h = (q, k, refl)
among other h = cc

pub rewritten_word : (l : Layout) (s : Item) (i : ℕ) (r : InputRelocation) (row : Row) (v : ℕ) → l.machine ≡ machine.AArch64 → HasDecision l s i r (Rewritten row v) → IsRewrittenWord l s i r row
rewritten_word l s i r row v on has =
    let w = rewritten_aarch64 l s i r row v on has.listed has.decided in
    let c = w.chosen in
    let t = among (pattern_of row) (or_other (keeps_bytes row) (is_word (pattern_of row)) (listed_passes keeps_or_word rows_aarch64 row each_is_word c.listed) w.changes) in
    record { on = on; listed = has.listed; symbol = c.symbol; named = c.named; plain = sym (ap (λ (o : Option ℕ). names_merged l o) c.named) ∙ c.plain; chosen = c.chosen; sequence = t.0; word = t.1; among = t.2 }

-- ---- the question

-- the relocation of word j of a run that begins with relocation index asks what those of the others ask
pub asked_there : (l : Layout) (s : Item) (i index k j symbol : ℕ) (r p : InputRelocation) → i ≡ index + k → words_before r.number ≡ k → words_before p.number ≡ j → question_at (question_around l s i r symbol) j ≡ question_around l s (index + j) p symbol
asked_there l s i index k j symbol r p at mine its =
    let first : i - words_before r.number ≡ index = ap (λ (n : ℕ). i - n) mine ∙ omega (arith, at) in
    let other : index + j - words_before p.number ≡ index = ap (λ (n : ℕ). index + j - n) its ∙ omega arith in
    let place : j ≡ index + j - (index + j - words_before p.number) = (let e : index + j - index ≡ j = omega arith in sym (ap (λ (n : ℕ). index + j - n) other ∙ e)) in
    ap (λ (n : ℕ). question_for l s symbol (infos_from s.relocations n) j) (first ∙ sym other) ∙ ap (λ (n : ℕ). question_for l s symbol (infos_from s.relocations (index + j - words_before p.number)) n) place
