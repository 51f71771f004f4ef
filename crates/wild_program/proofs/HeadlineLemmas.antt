-- The text of status 0 is that of a sound image, or of a sound memory.
use Rattle.wild_program.proofs.Common.{◌≡◌, ℕ, List, [], ◌∷◌, ◌++◌, Option, Some, None, Result, Ok, Err, refl, sym, ap, ◌∙◌, subst, String, Global, Bool, true, false, ◌==◌, if◌then◌else◌, length, Error, Layout, bytes, NumbersFit, errors, changed_layout, answer, RelinkFault, Memory, PlaceFault, plan, RelinkRequest, PlaceRequest, Answer, of_plan, of_relink, of_place, errors_status, change_status, memory_status, SourceChange, SinkChange, IsWrittenWhole, IsAnsweredBy}
use Rattle.std.proofs.lemmas.List.{append_cancel_left}
use Rattle.std.specs.Io.KnownBytes.{Appends}
use Rattle.wild_types.specs.ResolvedFlags.{HaveTheirFlags}
use Rattle.wild_types.specs.declared.input.InputSection.{InputSection}
use Rattle.wild_layout.specs.Image.{counts}
use Rattle.wild_layout.specs.Warnings.{warnings}
use Rattle.wild_laws.specs.Laws.{ImagesAreSound}
use Rattle.wild_change.specs.declared.change.Change.{Change}
use Rattle.wild_change.specs.Change.{found_section}
use Rattle.wild_relinker.specs.Answer.{unless_errors, answer_for}
use Rattle.wild_relinker.specs.declared.fault.RelinkFault.TheVariants as refusals
use Rattle.wild_placer.specs.Laws.{PlacementsAreSound}
use Rattle.wild_placer.specs.declared.fault.PlaceFault.TheVariants as place_faults
use Rattle.wild_text.specs.Answer.{image_text}
use Rattle.wild_text.specs.Laws.{PlansAreRead, RelinkPlansAreRead, PlacePlansAreRead}
use Rattle.wild_program.specs.Exit as exit
use Rattle.wild_program.specs.Program.{errors_text, change_text, placed_memory, memory_text, IsLinkedText, IsRewrittenText}
use Rattle.wild_program.specs.Clauses.{IsHeadline}
use Rattle.wild_program.specs.Steps.{AnswerFits}
use Rattle.wild_program.proofs.Statuses.{clash}
use Rattle.wild_program.proofs.MeaningLemmas.{whole_if_linked, written_if_linked, plan_answer, relink_answer, place_answer}

-- the laws of images and of memories
pub record HasSoundLaws : Type 0 where
  pub images : ImagesAreSound
  pub memories : PlacementsAreSound
  pub plans : PlansAreRead
  pub relink_plans : RelinkPlansAreRead
  pub place_plans : PlacePlansAreRead

-- text that was appended is the text that was added
pub appended : (before after : Option (List ℕ)) (xs added text : List ℕ) → before ≡ Some xs → after ≡ Some (xs ++ text) → Appends before after added → text ≡ added
appended None after xs added text b a h = absurd cc
appended (Some ys) None xs added text b a h = absurd cc
appended (Some ys) (Some zs) xs added text b a h =
    let before : ys ≡ xs = cc in
    let after : zs ≡ xs ++ text = cc in
    append_cancel_left xs text added (sym after ∙ h ∙ ap (λ (ws : List ℕ). ws ++ added) before)

-- an answer that is known, with what was written
record IsKnown (u : SinkChange) (said : ℕ) (a : Answer) : Type 0 where
  pub written : IsWrittenWhole u a said
  pub fits : AnswerFits a

known : (words : List (String Global)) (t : SourceChange) (u : SinkChange) (said : ℕ) (a : Answer) (h : IsAnsweredBy words t u said) → said ≡ exit.linked → h.answer ≡ a → IsKnown u said a
known words t u said a h zero is =
    subst (IsKnown u said) is (record { written = written_if_linked u said h.answer zero h.told_as; fits = h.fits })

-- ---- an image

no_errors : (es : List Error) (said : ℕ) → said ≡ exit.linked → said ≡ errors_status es → es ≡ []
no_errors [] said zero h = refl
no_errors (e ∷ es) said zero h = clash exit.linked exit.refused said refl zero h

-- the text of a layout without faults
linked_text : (l : Layout) (text : List ℕ) → ImagesAreSound → NumbersFit l → HaveTheirFlags l → errors l ≡ [] → text ≡ image_text l (bytes l) (warnings l) (counts l) → IsLinkedText l text
linked_text l text sound fits own none shown = (bytes l, warnings l, counts l, shown, sound l fits own none)

-- ---- an image after a change

pub record IsAccepted (es : List Error) (a : Result (Unit {0}) RelinkFault) : Type 0 where
  pub none : es ≡ []
  pub accepted : a ≡ Ok tt

is_accepted : (es : List Error) (a : Result (Unit {0}) RelinkFault) (said : ℕ) → said ≡ exit.linked → said ≡ change_status es a → IsAccepted es a
is_accepted (e ∷ es) a said zero h = clash exit.linked exit.refused said refl zero h
is_accepted [] (Ok done) said zero h = record { none = refl; accepted = refl }
is_accepted [] (Err (refusals.Write e)) said zero h = clash exit.linked exit.refused said refl zero h
is_accepted [] (Err (refusals.Length given needed)) said zero h = clash exit.linked exit.not_changed said refl zero h
is_accepted [] (Err refusals.NoSection) said zero h = clash exit.linked exit.not_changed said refl zero h
is_accepted [] (Err refusals.OutOfMemory) said zero h = clash exit.linked exit.not_changed said refl zero h

none_first : (es : List Error) → unless_errors es ≡ Ok tt → es ≡ []
none_first [] h = refl
none_first (e ∷ es) h = absurd cc

length_accepted : (same : Bool) (given needed : ℕ) (es : List Error) → (if same then unless_errors es else Err (refusals.Length given needed)) ≡ Ok tt → es ≡ []
length_accepted true given needed es h = none_first es h
length_accepted false given needed es h = absurd cc

found_accepted : (l : Layout) (c : Change) (found : Option InputSection) → answer_for l c found ≡ Ok tt → errors (changed_layout l c) ≡ []
found_accepted l c None h = absurd cc
found_accepted l c (Some s) h = length_accepted (length c.bytes == length s.bytes) (length c.bytes) (length s.bytes) (errors (changed_layout l c)) h

-- a change that is accepted leaves no fault
none_after : (l : Layout) (c : Change) → answer l c ≡ Ok tt → errors (changed_layout l c) ≡ []
none_after l c h = found_accepted l c (found_section l c) h

-- the text of a change that is accepted
rewritten_text_is : (es : List Error) (a : Result (Unit {0}) RelinkFault) (l : Layout) (text : List ℕ) → ImagesAreSound → NumbersFit l → HaveTheirFlags l → errors l ≡ [] → IsAccepted es a → text ≡ change_text es a l → IsRewrittenText l text
rewritten_text_is es a l text sound fits own none h shown =
    let of_image = image_text l (bytes l) (warnings l) (counts l) in (
      of_image,
      shown ∙ ap (λ (xs : List Error). change_text xs a l) h.none ∙ ap (λ (x : Result (Unit {0}) RelinkFault). change_text [] x l) h.accepted,
      linked_text l of_image sound fits own none refl,
    )

-- ---- a memory

is_memory : (m : Result Memory PlaceFault) (said : ℕ) → said ≡ exit.linked → said ≡ memory_status m → (x : Memory) × (m ≡ Ok x)
is_memory (Ok x) said zero h = (x, refl)
is_memory (Err (place_faults.Write e)) said zero h = clash exit.linked exit.refused said refl zero h
is_memory (Err (place_faults.Load f)) said zero h = clash exit.linked exit.not_placed said refl zero h
is_memory (Err (place_faults.Taken a)) said zero h = clash exit.linked exit.not_placed said refl zero h
is_memory (Err (place_faults.NoSuch n)) said zero h = clash exit.linked exit.not_placed said refl zero h
is_memory (Err place_faults.Full) said zero h = clash exit.linked exit.not_placed said refl zero h
is_memory (Err place_faults.OutOfMemory) said zero h = clash exit.linked exit.not_placed said refl zero h

-- ---- together

pub headline : (words : List (String Global)) (t : SourceChange) (u : SinkChange) (said : ℕ) → HasSoundLaws → IsAnsweredBy words t u said → IsHeadline words t u said
headline words t u said laws h = record {
  linked = λ whole before text layout command zero left means loads b a.
      let for_whole = whole_if_linked h.answer said zero (written_if_linked u said h.answer zero h.told_as).status in
      let k = known words t u said (of_plan (plan layout)) h zero (plan_answer words t h.answer for_whole h.due whole (plan layout) command left means) in
      let none = no_errors (errors layout) said zero k.written.status in
      let shown = appended u.taken_before u.taken_after before _ text b a k.written.text in
      linked_text layout text laws.images k.fits (laws.plans means.0 layout means.2).own none (shown ∙ ap (errors_text layout) none);
  rewritten = λ whole before text r command zero left means loads b a.
      let for_whole = whole_if_linked h.answer said zero (written_if_linked u said h.answer zero h.told_as).status in
      let k = known words t u said (of_relink (plan r)) h zero (relink_answer words t h.answer for_whole h.due whole (plan r) command left means) in
      let e = is_accepted (errors r.plan) (answer r.plan r.change) said zero k.written.status in
      let shown = appended u.taken_before u.taken_after before _ text b a k.written.text in
      rewritten_text_is (errors r.plan) (answer r.plan r.change) (changed_layout r.plan r.change) text laws.images (k.fits e.none e.accepted) (laws.relink_plans means.0 r means.2).own (none_after r.plan r.change e.accepted) e shown;
  placed = λ whole before text r command zero left means loads legal b a.
      let for_whole = whole_if_linked h.answer said zero (written_if_linked u said h.answer zero h.told_as).status in
      let k = known words t u said (of_place (plan r)) h zero (place_answer words t h.answer for_whole h.due whole (plan r) command left means) in
      let m = is_memory (placed_memory r) said zero k.written.status in
      let shown = appended u.taken_before u.taken_after before _ text b a k.written.text in
      record {
        memory = m.0;
        shown = shown ∙ ap (λ (x : Result Memory PlaceFault). memory_text r x) m.1;
        sound = laws.memories r.plan r.world m.0 k.fits (laws.place_plans means.0 r means.2).own loads legal m.1;
      };
}
