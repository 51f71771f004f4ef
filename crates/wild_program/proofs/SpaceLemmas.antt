-- The text of status 0 of `space` is that of images that are bound as a dynamic linker binds them.
use Rattle.wild_program.proofs.Common.{◌≡◌, ◌≤◌, ℕ, List, length, Result, Ok, Err, refl, subst, String, Global, Bound, BindFault, plan, MeansBy, space_in, SpaceRequest, Answer, bound_status, SourceChange, SinkChange, IsWrittenWhole, IsAnsweredBy}
use Rattle.wild_space.specs.OrderLaws.{OrdersAreBreadthFirst}
use Rattle.wild_space.specs.BindLaws.{BindsAreFirst}
use Rattle.wild_space.specs.BoundLaws.{SpacesAreMade}
use Rattle.wild_text.specs.Laws.{SpacesHaveImages}
use Rattle.wild_program.specs.Exit as exit
use Rattle.wild_program.specs.Program.{bound_images, bound_text, IsSpaceText}
use Rattle.wild_program.specs.Clauses.{IsBoundBy}
use Rattle.wild_program.proofs.Statuses.{clash}
use Rattle.wild_program.proofs.MeaningLemmas.{whole_if_linked, written_if_linked, space_answer}
use Rattle.wild_program.proofs.HeadlineLemmas.{appended}

-- the laws of a space
pub record HasLaws : Type 0 where
  pub some : SpacesHaveImages
  pub made : SpacesAreMade
  pub order : OrdersAreBreadthFirst
  pub first : BindsAreFirst

shown : (s : SpaceRequest) (r : Result Bound BindFault) (said : ℕ) (text : List ℕ) → HasLaws → 1 ≤ length s.images → bound_images s ≡ r → said ≡ exit.linked → said ≡ bound_status r → text ≡ bound_text r → IsSpaceText s text
shown s (Ok b) said text laws some is zero h e =
    let made = laws.made s.images s.resolvers b some is in
    record { space = b; shown = e; order = laws.order s.images b.order some made.0; made = made.1; first = λ n k d at. laws.first s.images b.order n k d at }
shown s (Err fault) said text laws some is zero h e = clash exit.linked exit.not_bound said refl zero h

pub bound_by : (words : List (String Global)) (t : SourceChange) (u : SinkChange) (said : ℕ) → HasLaws → IsAnsweredBy words t u said → IsBoundBy words t u said
bound_by words t u said laws h = λ whole before text s command zero left means b a.
    let w = written_if_linked u said h.answer zero h.told_as in
    let is = space_answer words t h.answer (whole_if_linked h.answer said zero w.status) h.due whole (plan s) command left means in
    let written = subst (λ (k : Answer). IsWrittenWhole u k said) is w in
    let own : MeansBy space_in whole (plan s) = means in
    let some = laws.some own.0 s own.2 in
    shown s (bound_images s) said text laws some refl zero written.status (appended u.taken_before u.taken_after before _ text b a written.text)
