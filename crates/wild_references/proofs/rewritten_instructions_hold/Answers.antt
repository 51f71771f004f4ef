use Rattle.wild_references.proofs.Common.{refl, plain, Four, Signed}
use Rattle.wild_reloc.specs.declared.expression.SlotSort.TheVariants as sorts
use Rattle.wild_reloc.specs.declared.info.RelocationKind.TheVariants as kinds
use Rattle.wild_references.proofs.RewrittenPlaces.{LawsBelow}
use Rattle.wild_references.proofs.RewrittenAArch64.{LawsOfWords}
use Rattle.wild_references.proofs.RewrittenLaws.{rewritten_stand, rewritten_hold, partners_hold}
use Rattle.wild_references.proofs.WordRuns.{calls_alone}
use Rattle.wild_references.proofs.rewritten_instructions_hold.Goals as goal

laws : goal.After-stubs_of_words_are_read → LawsBelow
laws c = record {
  alone = c.windows_have_no_other_field.ensures;
  keeps = c.rewrites_keep_the_effect.ensures;
  stand = c.rewrites_stay_in_their_patterns.ensures.stand;
  whole = c.rewrites_stay_in_their_patterns.ensures.whole;
  sum = λ sign. c.symbols_are_given.ensures.gives (plain kinds.Absolute Four sign) refl refl;
  distance = c.symbols_are_given.ensures.gives (plain kinds.Relative Four Signed) refl refl;
  pointer = c.offsets_from_the_thread_pointer_are_given.ensures.gives (plain kinds.TpOff Four Signed) refl refl;
  slot = λ l w m s r x h f. c.slots_are_given.ensures sorts.TpOff (plain kinds.GotTpOff Four Signed) refl refl l w m s r x h (λ e. cc);
}

words : goal.After-stubs_of_words_are_read → LawsOfWords
words c = record {
  alone = calls_alone c.aarch64_rows_apply_together.ensures.together c.windows_have_no_other_field.ensures;
  together = c.aarch64_rows_apply_together.ensures.together;
  keeps = c.aarch64_rewrites_keep_the_effect.ensures;
  stubs = record { value = c.stubs_are_read.ensures.value; plain = c.stubs_of_words_are_read.ensures.plain; marked = c.stubs_of_words_are_read.ensures.marked; meant = c.stubs_jump_to_their_slots.ensures; words = c.aarch64_code_reaches.ensures.stubs };
  pointer = c.offsets_from_the_thread_pointer_are_given.ensures.gives;
}

pub returns-clause-stand : goal.returns-clause-stand
returns-clause-stand c = rewritten_stand (laws c) (words c)

pub returns-clause-rewritten : goal.returns-clause-rewritten
returns-clause-rewritten c = rewritten_hold (laws c) (words c)

pub returns-clause-partners : goal.returns-clause-partners
returns-clause-partners c = partners_hold (laws c)
