-- Words of AArch64 that are rewritten hold.
--   LawsOfWords               the laws below, as they are called
--   IsRunOf .., run_of_word   the run of a word that is rewritten, as the reader has it
--   word_stands, word_holds   the reader knows it, and the loaded code does what it demands
use Rattle.wild_references.proofs.Common.{◌≡◌, ℕ, inl, inr, refl, sym, subst, arith, Some, Machine, InputRelocation, Layout, KeepsAll, Item, Sequence, DescriptorCall, OffsetSlot, Address, Row, RowsOfAArch64Keep, pattern_size, RowsApplyTogether, Rewritten, template_start, IsDecided, HasDecision, Memory, World, formula_of, HoldsRewritten, IsOmitted, descriptor_call_words, IsLoadedItem, TermGives}
use Rattle.wild_reloc.specs.declared.expression.Term.TheVariants as term
use Rattle.wild_types.specs.declared.kind.Machine.TheVariants as machine
use Rattle.wild_references.specs.EffectLaws.{IsLocatedAt}
use Rattle.wild_references.proofs.OmittedSequences.{beside_slot}
use Rattle.wild_references.proofs.OmittedReferences.{all_or_bare, keeps_all}
use Rattle.wild_references.proofs.SequencesAArch64.{part_of}
use Rattle.wild_references.proofs.Targets.{StubIsWritten}
use Rattle.wild_references.proofs.WordWindows.{word_here}
use Rattle.wild_references.proofs.RewrittenRuns.{run_of, IsRewrittenWord, IsRunThere, run_there}
use Rattle.wild_references.proofs.RewrittenSequences.{StandsAlone, run_size, IsJudgedRun, of_run, judged_run}
use Rattle.wild_references.proofs.RewrittenWords.{words_are_written, rewritten_word}
use Rattle.wild_references.proofs.RewrittenHold.{slot_holds, near_holds, call_holds}
use Rattle.wild_references.proofs.StubCode.{StubLaws}

-- the word of a call, which has no field, stands alone
abbrev pub CallsAreAlone : Type 0
CallsAreAlone = (l : Layout) (s : Item) (i : ℕ) (r : InputRelocation) (row : Row) → IsDecided l s → (t : IsRewrittenWord l s i r row) → (c : IsRunThere l s i r row t.sequence t.word) → t.sequence ≡ DescriptorCall → StandsAlone l s DescriptorCall c.start

pub record LawsOfWords : Type 0 where
  pub alone : CallsAreAlone
  pub together : RowsApplyTogether
  pub keeps : RowsOfAArch64Keep
  pub stubs : StubLaws
  pub pointer : TermGives term.PointerOffset

-- ---- a word

pub record IsRunOf (l : Layout) (s : Item) (i : ℕ) (r : InputRelocation) (row : Row) : Type 0 where
  pub word : IsRewrittenWord l s i r row
  pub there : IsRunThere l s i r row word.sequence word.word
  pub judged : IsJudgedRun l s r word.sequence there.start there.index

pub run_of_word : CallsAreAlone → (l : Layout) (s : Item) (i : ℕ) (r : InputRelocation) (row : Row) (v : ℕ) → l.machine ≡ machine.AArch64 → IsDecided l s → HasDecision l s i r (Rewritten row v) → IsRunOf l s i r row
run_of_word alone l s i r row v on decided has =
    let t = rewritten_word l s i r row v on has in
    let c = run_there l s i r row t in
    record { word = t; there = c; judged = judged_run l s i r row t c (alone l s i r row decided t c) }

pub word_stands : CallsAreAlone → (l : Layout) (s : Item) (i : ℕ) (r : InputRelocation) (row : Row) (v : ℕ) → l.machine ≡ machine.AArch64 → IsDecided l s → HasDecision l s i r (Rewritten row v) → IsLocatedAt l s r (template_start row r) (pattern_size row)
word_stands alone l s i r row v on decided has =
    let t = run_of_word alone l s i r row v on decided has in
    let q = t.word.sequence in
    let c = t.there in
    let w = word_here l s i r row v on has in
    let start = w.start in
    let long = w.size in
    let place = c.place in
    let few = c.few in
    let size = run_size q in
    record { from = c.start; instruction = run_of q; first = t.judged.first; template = inr (of_run l s r q c.start c.index t.judged); before = omega (arith, start, place); behind = omega (arith, start, long, place, few, size) }

pub word_holds : LawsOfWords → (l : Layout) (w : World) (m : Memory) (s : Item) → IsLoadedItem machine.AArch64 l w m s → (i : ℕ) (r : InputRelocation) (row : Row) (v : ℕ) → HasDecision l s i r (Rewritten row v) → (IsOmitted l s r → ⊥) → HoldsRewritten l w m s r
word_holds laws l w m s g i r row v has present = by t.word.sequence refl t.there t.judged
  where
    t : IsRunOf l s i r row
    t = run_of_word laws.alone l s i r row v g.on g.decided has

    -- a run by a slot is written, or left out
    all : (c : IsRunThere l s i r row DescriptorCall t.word.word) → IsJudgedRun l s r DescriptorCall c.start c.index → KeepsAll l
    all c j = keeps_all l (λ bare. present (bare, inr (inl (inr (beside_slot l s r c.start descriptor_call_words j.first g.on (of_run l s r DescriptorCall c.start c.index j) (inl refl))))))

    -- and so is an address that is a stub's
    stands : (c : IsRunThere l s i r row Address t.word.word) → IsJudgedRun l s r Address c.start c.index → StubIsWritten l t.word.symbol
    stands c j =
        let part = part_of l s r c.start j.first (of_run l s r Address c.start c.index j) in
        elim (all_or_bare l) [
          | inl all ↦ inl all
          | inr bare ↦ inr (λ stubbed. present (
            bare,
            inr (inr (inl (record {
              symbol = t.word.symbol;
              named = t.word.named;
              formula = part.formula;
              known = subst (λ (k : Machine). formula_of k r.number ≡ Some part.formula) (sym g.on) part.is.known;
              stub = inl (inl part.is.takes, stubbed);
            }))),
          ))
        ]

    by : (q : Sequence) → t.word.sequence ≡ q → (c : IsRunThere l s i r row q t.word.word) → IsJudgedRun l s r q c.start c.index → HoldsRewritten l w m s r
    by DescriptorCall e c j = call_holds laws.together laws.keeps laws.pointer l w m s i r row g t.word (all c j) e c j (words_are_written l s t.word.symbol g.on t.word.plain g.decided)
    by OffsetSlot e c j = slot_holds laws.together laws.keeps laws.pointer l w m s i r row g t.word e c j (words_are_written l s t.word.symbol g.on t.word.plain g.decided)
    by Address e c j = near_holds laws.stubs laws.together laws.keeps l w m s i r row g t.word (stands c j) e c j (words_are_written l s t.word.symbol g.on t.word.plain g.decided)
