-- The answer for words and input that are known.
use Rattle.wild_program.proofs.Common.{◌≡◌, ℕ, ◌≤◌, List, length, Some, refl, ap, subst, inl, inr, String, Global, Data, Result, Layout, Meaning, no_json, no_plan, plan, MeansBy, RelinkRequest, PlaceRequest, space_in, VerifyRequest, Verdict, SpaceRequest, IsLinkCommand, IsRelinkCommand, IsPlaceCommand, IsSpace, IsVerify, limit, Answer, usage, read_fault, too_long, of_plan, of_make, of_relink, of_place, of_space, of_verify, IsVerdictOn, status, text, SourceChange, SinkChange, IsRightAnswer, IsWritten, IsWrittenWhole}
use Rattle.wild_text.specs.Plan.{layout_in}
use Rattle.wild_text.specs.Relink.{relink_in}
use Rattle.wild_text.specs.Place.{place_in}
use Rattle.wild_text.specs.Verify.{verify_in}
use Rattle.wild_program.specs.Exit as exit
use Rattle.wild_program.specs.Program.{HasMeaningBy}
use Rattle.wild_program.specs.Clauses.{NothingFailed}
use Rattle.wild_program.proofs.Statuses.{clash}
use Rattle.wild_program.proofs.Commands.{two_commands, link_or_relink, link_or_place, relink_or_place, place_or_space, make_or_place, relink_or_space, make_or_relink, link_or_space, make_or_space, link_or_verify, relink_or_verify, place_or_verify, space_or_verify, make_or_verify}
use Rattle.wild_program.proofs.OneMeaning.{one_meaning}
use Rattle.wild_program.proofs.SourceLemmas.{all_read, not_too_long}

-- ---- answers that are for a whole input

-- no read failed, and the input was not too long
abbrev pub IsForWholeInput : Answer → Type 0
IsForWholeInput read_fault = ⊥
IsForWholeInput too_long = ⊥
IsForWholeInput a = Unit {0}

-- such is each answer if nothing failed and the input is short
pub whole_if_calm : (words : List (String Global)) (t : SourceChange) (u : SinkChange) (a : Answer) → NothingFailed t u → IsRightAnswer words t a → (whole : List ℕ) → t.left_before ≡ Some whole → length whole ≤ limit → IsForWholeInput a
whole_if_calm words t u usage calm due whole left short = tt
whole_if_calm words t u read_fault calm due whole left short = absurd (calm.source due.1)
whole_if_calm words t u too_long calm due whole left short = not_too_long t whole left short due.1
whole_if_calm words t u (of_plan m) calm due whole left short = tt
whole_if_calm words t u (of_make n) calm due whole left short = tt
whole_if_calm words t u (of_relink m) calm due whole left short = tt
whole_if_calm words t u (of_place m) calm due whole left short = tt
whole_if_calm words t u (of_space m) calm due whole left short = tt
whole_if_calm words t u (of_verify m v) calm due whole left short = tt

-- and each whose status is 0
pub whole_if_linked : (a : Answer) (said : ℕ) → said ≡ exit.linked → said ≡ status a → IsForWholeInput a
whole_if_linked usage said zero h = tt
whole_if_linked read_fault said zero h = clash exit.linked exit.read_fault said refl zero h
whole_if_linked too_long said zero h = clash exit.linked exit.too_long said refl zero h
whole_if_linked (of_plan m) said zero h = tt
whole_if_linked (of_make n) said zero h = tt
whole_if_linked (of_relink m) said zero h = tt
whole_if_linked (of_place m) said zero h = tt
whole_if_linked (of_space m) said zero h = tt
whole_if_linked (of_verify m v) said zero h = tt

-- a text with status 0 was written whole
pub written_if_linked : (u : SinkChange) (said : ℕ) (a : Answer) → said ≡ exit.linked → IsWritten u (status a) (text a) said → IsWrittenWhole u a said
written_if_linked u said a zero (inl h) = record { status = h.0; text = h.1 }
written_if_linked u said a zero (inr h) = clash exit.linked exit.cut_short said refl zero h.0

-- ---- the meaning of an input is that of its bytes

same_meaning : {X : Type 0} (reads : Data → Result X (List ℕ)) (t : SourceChange) (whole : List ℕ) (m meaning : Meaning X) → t.left_before ≡ Some whole → HasMeaningBy reads t m → MeansBy reads whole meaning → m ≡ meaning
same_meaning {X} reads t whole m meaning left read means =
    let same = all_read t whole read.0 left read.1 in
    one_meaning reads read.0 m meaning read.2 (subst (λ (b : List ℕ). MeansBy reads b meaning) same means)

-- the answer for `link W`
pub plan_answer : (words : List (String Global)) (t : SourceChange) (a : Answer) → IsForWholeInput a → IsRightAnswer words t a → (whole : List ℕ) (meaning : Meaning Layout) → IsLinkCommand words → t.left_before ≡ Some whole → MeansBy layout_in whole meaning → a ≡ of_plan meaning
plan_answer words t usage for_whole due whole meaning command left means = absurd (due.0 (inl (inl command)))
plan_answer words t read_fault for_whole due whole meaning command left means = absurd for_whole
plan_answer words t too_long for_whole due whole meaning command left means = absurd for_whole
plan_answer words t (of_plan m) for_whole due whole meaning command left means = ap (λ (k : Meaning Layout). of_plan k) (same_meaning layout_in t whole m meaning left due.1 means)
plan_answer words t (of_make n) for_whole due whole meaning command left means = two_commands words n command due.0
plan_answer words t (of_relink m) for_whole due whole meaning command left means = link_or_relink words command due.0
plan_answer words t (of_place m) for_whole due whole meaning command left means = link_or_place words command due.0
plan_answer words t (of_space m) for_whole due whole meaning command left means = link_or_space words command due.0
plan_answer words t (of_verify m v) for_whole due whole meaning command left means = link_or_verify words command due.0

-- the answer for `relink W`
pub relink_answer : (words : List (String Global)) (t : SourceChange) (a : Answer) → IsForWholeInput a → IsRightAnswer words t a → (whole : List ℕ) (meaning : Meaning RelinkRequest) → IsRelinkCommand words → t.left_before ≡ Some whole → MeansBy relink_in whole meaning → a ≡ of_relink meaning
relink_answer words t usage for_whole due whole meaning command left means = absurd (due.0 (inl (inr (inl command))))
relink_answer words t read_fault for_whole due whole meaning command left means = absurd for_whole
relink_answer words t too_long for_whole due whole meaning command left means = absurd for_whole
relink_answer words t (of_plan m) for_whole due whole meaning command left means = link_or_relink words due.0 command
relink_answer words t (of_make n) for_whole due whole meaning command left means = make_or_relink words n due.0.0 due.0.1 command
relink_answer words t (of_relink m) for_whole due whole meaning command left means = ap (λ (k : Meaning RelinkRequest). of_relink k) (same_meaning relink_in t whole m meaning left due.1 means)
relink_answer words t (of_place m) for_whole due whole meaning command left means = relink_or_place words command due.0
relink_answer words t (of_space m) for_whole due whole meaning command left means = relink_or_space words command due.0
relink_answer words t (of_verify m v) for_whole due whole meaning command left means = relink_or_verify words command due.0

-- the answer for `place W`
pub place_answer : (words : List (String Global)) (t : SourceChange) (a : Answer) → IsForWholeInput a → IsRightAnswer words t a → (whole : List ℕ) (meaning : Meaning PlaceRequest) → IsPlaceCommand words → t.left_before ≡ Some whole → MeansBy place_in whole meaning → a ≡ of_place meaning
place_answer words t usage for_whole due whole meaning command left means = absurd (due.0 (inl (inr (inr (inl command)))))
place_answer words t read_fault for_whole due whole meaning command left means = absurd for_whole
place_answer words t too_long for_whole due whole meaning command left means = absurd for_whole
place_answer words t (of_plan m) for_whole due whole meaning command left means = link_or_place words due.0 command
place_answer words t (of_make n) for_whole due whole meaning command left means = make_or_place words n due.0.0 due.0.1 command
place_answer words t (of_relink m) for_whole due whole meaning command left means = relink_or_place words due.0 command
place_answer words t (of_place m) for_whole due whole meaning command left means = ap (λ (k : Meaning PlaceRequest). of_place k) (same_meaning place_in t whole m meaning left due.1 means)
place_answer words t (of_space m) for_whole due whole meaning command left means = place_or_space words command due.0
place_answer words t (of_verify m v) for_whole due whole meaning command left means = place_or_verify words command due.0

-- the answer for `space`
pub space_answer : (words : List (String Global)) (t : SourceChange) (a : Answer) → IsForWholeInput a → IsRightAnswer words t a → (whole : List ℕ) (meaning : Meaning SpaceRequest) → IsSpace words → t.left_before ≡ Some whole → MeansBy space_in whole meaning → a ≡ of_space meaning
space_answer words t usage for_whole due whole meaning command left means = absurd (due.0 (inl (inr (inr (inr (inl command))))))
space_answer words t read_fault for_whole due whole meaning command left means = absurd for_whole
space_answer words t too_long for_whole due whole meaning command left means = absurd for_whole
space_answer words t (of_plan m) for_whole due whole meaning command left means = link_or_space words due.0 command
space_answer words t (of_make n) for_whole due whole meaning command left means = make_or_space words n due.0.0 due.0.1 command
space_answer words t (of_relink m) for_whole due whole meaning command left means = relink_or_space words due.0 command
space_answer words t (of_place m) for_whole due whole meaning command left means = place_or_space words due.0 command
space_answer words t (of_space m) for_whole due whole meaning command left means = ap (λ (k : Meaning SpaceRequest). of_space k) (same_meaning space_in t whole m meaning left due.1 means)
space_answer words t (of_verify m v) for_whole due whole meaning command left means = space_or_verify words command due.0

-- the answer for `verify`, with a verdict on what was read
pub verify_answer : (words : List (String Global)) (t : SourceChange) (a : Answer) → IsForWholeInput a → IsRightAnswer words t a → (whole : List ℕ) (meaning : Meaning VerifyRequest) → IsVerify words → t.left_before ≡ Some whole → MeansBy verify_in whole meaning
    → (v : Verdict) × (a ≡ of_verify meaning v) × IsVerdictOn meaning v
verify_answer words t usage for_whole due whole meaning command left means = absurd (due.0 (inl (inr (inr (inr (inr command))))))
verify_answer words t read_fault for_whole due whole meaning command left means = absurd for_whole
verify_answer words t too_long for_whole due whole meaning command left means = absurd for_whole
verify_answer words t (of_plan m) for_whole due whole meaning command left means = link_or_verify words due.0 command
verify_answer words t (of_make n) for_whole due whole meaning command left means = make_or_verify words n due.0.0 due.0.1 command
verify_answer words t (of_relink m) for_whole due whole meaning command left means = relink_or_verify words due.0 command
verify_answer words t (of_place m) for_whole due whole meaning command left means = place_or_verify words due.0 command
verify_answer words t (of_space m) for_whole due whole meaning command left means = space_or_verify words due.0 command
verify_answer words t (of_verify m v) for_whole due whole meaning command left means =
    let same = same_meaning verify_in t whole m meaning left due.1 means in
    (v, ap (λ (k : Meaning VerifyRequest). of_verify k v) same, subst (λ (k : Meaning VerifyRequest). IsVerdictOn k v) same due.2)
