-- What `verify` answers, and what status 0 says.
use Rattle.wild_program.proofs.Common.{◌≡◌, ℕ, List, [], ◌∷◌, Some, refl, sym, ap, ◌∙◌, subst, String, Global, Error, Meaning, no_json, no_plan, plan, VerifyRequest, Verdict, Yes, Answer, status, clause_faults, check_status, IsVerdictOn, SourceChange, SinkChange, IsRefusal, IsAnsweredBy}
use Rattle.wild_checker.specs.Verdict.{IsAnswer, HoldsEverywhere}
use Rattle.wild_checker.specs.declared.verdict.Verdict.TheVariants.{No}
use Rattle.wild_program.specs.Exit as exit
use Rattle.wild_program.specs.Program.{check_text, verdict_status, verdict_text}
use Rattle.wild_program.specs.Clauses.{IsCheckedBy}
use Rattle.wild_program.specs.Steps.{no_plan_line, IsVerified, AnswerFits}
use Rattle.wild_program.proofs.Statuses.{clash}
use Rattle.wild_program.proofs.MeaningLemmas.{whole_if_linked, written_if_linked, verify_answer}

-- ---- the answer

some_fault : {X : Type 0} (es : List Error) (e : Error) → es ≡ e ∷ [] → es ≡ [] → X
some_fault es e is none = let bad : e ∷ [] ≡ [] = sym is ∙ none in absurd cc

-- bytes that are no plan have any verdict
pub no_verdict : (m : Meaning VerifyRequest) (said : List ℕ) (v : Verdict) → no_plan_line m ≡ Some said → IsVerdictOn m v
no_verdict no_json said v h = tt
no_verdict (no_plan path) said v h = tt
no_verdict (plan r) said v h = absurd cc

-- a plan that is not well formed is refused with its clause
pub clause_refused : (r : VerifyRequest) (e : Error) (code : ℕ) (said : List ℕ) → clause_faults r.plan ≡ e ∷ [] → IsRefusal e code said → IsVerified r code said
clause_refused r e code said is h = record {
  verdict = Yes;
  is = λ none. some_fault (clause_faults r.plan) e is none;
  holds = λ none yes. some_fault (clause_faults r.plan) e is none;
  status_is = h.status_is ∙ sym (ap (λ (es : List Error). check_status es Yes) is);
  text_is = h.text_is ∙ sym (ap (λ (es : List Error). check_text es Yes) is);
}

-- the image of a well-formed plan has its verdict
pub verdict_said : (r : VerifyRequest) (v : Verdict) (code : ℕ) (said : List ℕ) → clause_faults r.plan ≡ [] → IsAnswer r.plan r.image v → (v ≡ Yes → HoldsEverywhere r.plan r.image) → code ≡ verdict_status v → said ≡ verdict_text v → IsVerified r code said
verdict_said r v code said none is holds c t = record {
  verdict = v;
  is = λ e. is;
  holds = λ e yes. holds yes;
  status_is = c ∙ sym (ap (λ (es : List Error). check_status es v) none);
  text_is = t ∙ sym (ap (λ (es : List Error). check_text es v) none);
}

-- ---- status 0

record IsYes (es : List Error) (v : Verdict) : Type 0 where
  pub none : es ≡ []
  pub yes : v ≡ Yes

is_yes : (es : List Error) (v : Verdict) (said : ℕ) → said ≡ exit.linked → said ≡ check_status es v → IsYes es v
is_yes (e ∷ es) v said zero h = clash exit.linked exit.refused said refl zero h
is_yes [] Yes said zero h = record { none = refl; yes = refl }
is_yes [] (No doubt) said zero h = clash exit.linked exit.doubted said refl zero h

-- an answer that is known, with its status
record IsKnown (said : ℕ) (a : Answer) : Type 0 where
  pub status_is : said ≡ status a
  pub fits : AnswerFits a

pub checked_by : (words : List (String Global)) (t : SourceChange) (u : SinkChange) (said : ℕ) → IsAnsweredBy words t u said → IsCheckedBy words t said
checked_by words t u said h = λ whole r command zero left means.
    let w = written_if_linked u said h.answer zero h.told_as in
    let is = verify_answer words t h.answer (whole_if_linked h.answer said zero w.status) h.due whole (plan r) command left means in
    let k = subst (IsKnown said) is.1 (record { status_is = w.status; fits = h.fits }) in
    let e = is_yes (clause_faults r.plan) is.0 said zero k.status_is in
    k.fits e.none e.yes
