-- The text of status 0 is that of a sound image of the layout that the plan encodes.
use Rattle.std.proofs.Common.{◌≡◌, ℕ, Bool, true, false, List, [], ◌∷◌, ◌⊎◌, inl, inr, refl, sym, ap, ◌∙◌, subst}
use Rattle.wild_types.specs.declared.fault.Error.{Error}
use Rattle.wild_types.specs.declared.layout.Layout.{Layout}
use Rattle.wild_layout.specs.Faults.{errors}
use Rattle.wild_layout.specs.Image.{bytes, counts}
use Rattle.wild_layout.specs.Numbers.{NumbersFit}
use Rattle.wild_layout.specs.Warnings.{warnings}
use Rattle.wild_laws.specs.Laws.{ImagesAreSound}
use Rattle.wild_text.specs.Laws.{PlansAreRead}
use Rattle.wild_text.specs.Means.{Meaning, plan, Means}
use Rattle.wild_text.specs.Plan.{layout_in}
use Rattle.wild_c_layout.specs.Text.{fits}
use Rattle.wild_program.specs.Exit as exit
use Rattle.wild_program.specs.declared.command.Command.TheVariants.{Link}
use Rattle.wild_program.specs.Program as program
use Rattle.wild_program.specs.Steps.{IsAnswerOf, AnswerFits}
use Rattle.wild_program.proofs.OneMeaning.{one_meaning}
use Rattle.wild_program.proofs.Statuses.{clash}
use Rattle.wild_json_c.specs.Answers.{linked, no_memory, wrong_size, status_if, IsLinked, IsSoundlyLinked}

none_if_linked : (es : List Error) (code : ℕ) → code ≡ linked → code ≡ program.errors_status es → es ≡ []
none_if_linked [] code zero h = refl
none_if_linked (e ∷ es) code zero h = clash linked exit.refused code refl zero h

linked_text : (l : Layout) (whole text : List ℕ) (code : ℕ) → PlansAreRead → ImagesAreSound → IsAnswerOf (Link 1) whole code text → code ≡ linked → Means whole (plan l) → program.IsLinkedText l text
linked_text l whole text code plans sound a zero means =
    let same : a.meant.0 ≡ plan l = one_meaning layout_in whole a.meant.0 (plan l) a.meant.2 means in
    let is : a.answer ≡ program.of_plan (plan l) = a.meant.1 ∙ ap (λ (m : Meaning Layout). program.of_plan m) same in
    let fit : NumbersFit l = subst AnswerFits is a.fits in
    let none = none_if_linked (errors l) code zero (a.status_is ∙ ap program.status is) in
    let shown = a.text_is ∙ ap program.text is ∙ ap (program.errors_text l) none in
    (bytes l, warnings l, counts l, shown, sound l fit (plans means.0 l means.2).own none)

code_if_linked : (b : Bool) (code : ℕ) → status_if b code ≡ linked → code ≡ linked
code_if_linked true code h = h
code_if_linked false code h = clash wrong_size linked wrong_size refl refl h

pub soundly_linked : (whole before after : List ℕ) (used_before used_after result : ℕ) → PlansAreRead → ImagesAreSound
    → (IsLinked whole before after used_after result ⊎ ((result ≡ no_memory) × (after ≡ before) × (used_after ≡ used_before)))
    → result ≡ linked → IsSoundlyLinked whole before after used_after
soundly_linked whole before after used_before used_after result plans sound (inl k) zero = λ l means. record {
  text = k.text;
  sound = linked_text l whole k.text k.code plans sound k.answer (code_if_linked (fits k.text before) k.code (sym k.status ∙ zero)) means;
  length_is = k.length_is;
  buffer = k.buffer;
}
soundly_linked whole before after used_before used_after result plans sound (inr k) zero = clash no_memory linked result refl k.0 zero
