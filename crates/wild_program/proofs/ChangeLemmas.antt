-- The answer to a change, and its status and text.
use Rattle.wild_program.proofs.Common.{◌≡◌, ◌⊎◌, inl, inr, ℕ, Bool, true, false, List, [], ◌∷◌, length, Option, Some, None, Result, Ok, Err, refl, sym, ap, subst, ◌∙◌, if◌then◌else◌, ◌==◌, IfOk, OnOk, Error, Layout, errors, NumbersFit, changed_layout, answer, RelinkFault, RelinkRequest, change_status, IsRefusal}
use Rattle.wild_types.specs.declared.input.InputSection.{InputSection}
use Rattle.wild_types.specs.Faults.{IsFirst, RefusesWith}
use Rattle.wild_change.specs.declared.change.Change.{Change}
use Rattle.wild_change.specs.Change.{found_section}
use Rattle.wild_relinker.specs.Answer.{unless_errors, answer_for}
use Rattle.wild_relinker.specs.declared.fault.RelinkFault.TheVariants as refusals
use Rattle.wild_text.specs.Answer.{refusal_text}
use Rattle.wild_program.specs.Exit as exit
use Rattle.wild_program.specs.Program.{change_text}
use Rattle.wild_program.specs.Steps.{ChangeFits, IsChangeAnswer}
use Rattle.wild_program.proofs.RefusalLemmas.{first_of}

-- ---- the answer is never that memory was refused

errors_known : (es : List Error) → unless_errors es ≡ Err refusals.OutOfMemory → ⊥
errors_known [] h = cc
errors_known (e ∷ es) h = cc

length_known : (same : Bool) (given needed : ℕ) (es : List Error) → (if same then unless_errors es else Err (refusals.Length given needed)) ≡ Err refusals.OutOfMemory → ⊥
length_known true given needed es h = errors_known es h
length_known false given needed es h = cc

found_known : (l : Layout) (c : Change) (found : Option InputSection) → answer_for l c found ≡ Err refusals.OutOfMemory → ⊥
found_known l c None h = cc
found_known l c (Some s) h = length_known (length c.bytes == length s.bytes) (length c.bytes) (length s.bytes) (errors (changed_layout l c)) h

pub answer_known : (l : Layout) (c : Change) → answer l c ≡ Err refusals.OutOfMemory → ⊥
answer_known l c h = found_known l c (found_section l c) h

-- ---- its status and text

first_said : (e : Error) (es : List Error) (a : Result (Unit {0}) RelinkFault) (l : Layout) (code : ℕ) (text : List ℕ) → IsFirst e es → code ≡ exit.refused → text ≡ refusal_text e → (code ≡ change_status es a) × (text ≡ change_text es a l)
first_said e [] a l code text first c t = absurd first
first_said e (f ∷ fs) a l code text first c t = (c, t ∙ ap refusal_text first)

-- a plan with faults is refused with the first of them
pub plan_refused : (e : Error) (es : List Error) (a : Result (Unit {0}) RelinkFault) (l : Layout) (code : ℕ) (text : List ℕ) → RefusesWith e.fault e es → IsRefusal e code text → (code ≡ change_status es a) × (text ≡ change_text es a l)
plan_refused e es a l code text h is = first_said e es a l code text (first_of e.fault e es h is.known) is.status_is is.text_is

write_known : (e : Error) (r : Result (Unit {0}) RelinkFault) → r ≡ Err (refusals.Write e) → r ≡ Err refusals.OutOfMemory → ⊥
write_known e r h k = absurd cc

-- a change is refused with the first fault of the layout after it
pub write_refused : (e : Error) (l : Layout) (code : ℕ) (text : List ℕ) → IsRefusal e code text → IsChangeAnswer (Err (refusals.Write e)) l code text
write_refused e l code text is = record { known = write_known e (Err (refusals.Write e)) refl; status_is = is.status_is; text_is = is.text_is }

is_answer : (a r : Result (Unit {0}) RelinkFault) → (r ≡ a) ⊎ (r ≡ Err refusals.OutOfMemory) → (r ≡ Err refusals.OutOfMemory → ⊥) → r ≡ a
is_answer a r (inl h) known = h
is_answer a r (inr h) known = absurd (known h)

-- the text has the layout after the change only if that was made
same_text : (a : Result (Unit {0}) RelinkFault) (l m : Layout) → OnOk a (l ≡ m) → change_text [] a l ≡ change_text [] a m
same_text (Ok done) l m h = ap (λ (k : Layout). change_text [] (Ok done) k) h
same_text (Err (refusals.Write e)) l m h = refl
same_text (Err (refusals.Length given needed)) l m h = refl
same_text (Err refusals.NoSection) l m h = refl
same_text (Err refusals.OutOfMemory) l m h = refl

-- the status and the text of a change of a plan without faults
pub change_said : (es : List Error) (a r : Result (Unit {0}) RelinkFault) (l m : Layout) (code : ℕ) (text : List ℕ) → es ≡ [] → (r ≡ a) ⊎ (r ≡ Err refusals.OutOfMemory) → OnOk r (l ≡ m) → IsChangeAnswer r l code text
    → (code ≡ change_status es a) × (text ≡ change_text es a m)
change_said es a r l m code text none answered made said =
    let e = is_answer a r answered said.known in (
      said.status_is ∙ ap (λ (x : Result (Unit {0}) RelinkFault). change_status [] x) e ∙ sym (ap (λ (xs : List Error). change_status xs a) none),
      said.text_is ∙ same_text r l m made ∙ ap (λ (x : Result (Unit {0}) RelinkFault). change_text [] x m) e ∙ sym (ap (λ (xs : List Error). change_text xs a m) none),
    )

-- ---- the numbers of the layout after the change

-- what each value of a result gives
pub on_value : {A E : Type 0} (r : Result A E) (P : A → Type 0) (Q : Type 0) → ((a : A) → P a → Q) → IfOk r P → OnOk r Q
on_value (Ok a) P Q f h = f a h
on_value (Err e) P Q f h = tt

-- a plan that is refused has a fault
pub refused_fits : (e : Error) (r : RelinkRequest) (code : ℕ) (text : List ℕ) → RefusesWith e.fault e (errors r.plan) → IsRefusal e code text → ChangeFits r
refused_fits e r code text h is = λ none accepted. absurd (subst (IsFirst e) none (first_of e.fault e (errors r.plan) h is.known))

on_ok : (r : Result (Unit {0}) RelinkFault) (Q : Type 0) → r ≡ Ok tt → OnOk r Q → Q
on_ok (Ok done) Q is h = h
on_ok (Err e) Q is h = absurd cc

-- the layout after a change that is accepted is the changed layout
pub said_fits : (r : RelinkRequest) (a : Result (Unit {0}) RelinkFault) (l : Layout) (code : ℕ) (text : List ℕ) → (a ≡ answer r.plan r.change) ⊎ (a ≡ Err refusals.OutOfMemory) → OnOk a (l ≡ changed_layout r.plan r.change) → NumbersFit l → IsChangeAnswer a l code text
    → ChangeFits r
said_fits r a l code text answered made fits said = λ none accepted.
    let is = is_answer (answer r.plan r.change) a answered said.known ∙ accepted in
    subst NumbersFit (on_ok a (l ≡ changed_layout r.plan r.change) is made) fits
