-- What the program answers.
--   IsLink words n            the words are `link` and the number n of workers
--   IsReading words           the words are a command that reads its input to the end
--   IsRightAnswer words turn answer   the answer is the right one for these words and this input
--   IsWritten told status text said   how an answer was written: the whole text, or a write failed
--   IsLinkedText layout text  the text is that of a sound image of the layout
--   IsRewrittenText layout text   the text says that a change was written, and then is that of a sound image of the layout
--   IsPlacedText request text the text is that of a memory in which the references of the layout hold
--   IsVerdictOn meaning v     v is the verdict on the image that was read
--   IsSpaceText request text  the text is that of images that are bound as a dynamic linker binds them
use Rattle.std.specs.Prelude.{◌≡◌, ℕ, ◌+◌, ◌^◌, ◌<◌, ◌≤◌, List, [], ◌∷◌, ◌++◌, length, map, codes, decimal, string_bytes, String, Option, Some, Result, Ok, Err, ◌⊎◌}
use Rattle.std.specs.List.{sum}
use Rattle.std.specs.declared.alloc.Global.{Global}
use Rattle.wild_program.specs.declared.command.Command.{Command}
use Rattle.wild_program.specs.declared.command.Command.TheVariants as command
use Rattle.wild_sample_layouts.specs.PlanOfGroups.{plan_of_groups}
use Rattle.std.specs.Io.KnownBytes.{Consumes, Appends, IsAtEnd}
use Rattle.wild_io.specs.Causes.{CountRose, AppendsPrefix}
use Rattle.wild_types.specs.declared.fault.Error.{Error}
use Rattle.wild_types.specs.declared.layout.Layout.{Layout}
use Rattle.wild_types.specs.declared.warning.EntryWarning.{EntryWarning}
use Rattle.wild_layout.specs.Image.{bytes, counts}
use Rattle.wild_layout.specs.Warnings.{warnings}
use Rattle.wild_layout.specs.Faults.{errors}
use Rattle.wild_layout.specs.Faults.{clause_errors}
use Rattle.wild_plan_rules.specs.WellFormed.{first_clause}
use Rattle.wild_meaning.specs.LinkedImage.{IsSound}
use Rattle.wild_checker.specs.Verdict.{IsAnswer}
use Rattle.wild_checker.specs.declared.verdict.Doubt.{Doubt}
use Rattle.wild_checker.specs.declared.verdict.Doubt.TheVariants as doubts
use Rattle.wild_checker.specs.declared.verdict.Verdict.{Verdict}
use Rattle.wild_checker.specs.declared.verdict.Verdict.TheVariants.{Yes, No}
use Rattle.serde_json.specs.Data.{Data}
use Rattle.wild_text.specs.Means.{Meaning, no_json, no_plan, plan, MeansBy}
use Rattle.wild_text.specs.Plan.{layout_in}
use Rattle.wild_text.specs.Verify.{verify_in}
use Rattle.wild_text.specs.VerifyAnswer.{yes_text, no_partial_text, no_load_text, no_segment_text, no_byte_text, no_reference_text}
use Rattle.wild_text.specs.declared.verify.VerifyRequest.{VerifyRequest}
use Rattle.wild_text.specs.Relink.{relink_in}
use Rattle.wild_text.specs.RelinkAnswer.{rewritten_line, rewritten_text, no_section_text, no_length_text}
use Rattle.wild_text.specs.declared.relink.RelinkRequest.{RelinkRequest}
use Rattle.wild_loader.specs.declared.memory.Memory.{Memory}
use Rattle.wild_placer.specs.Place.{layout_memory}
use Rattle.wild_placer.specs.Laws.{IsPlacedSoundly}
use Rattle.wild_placer.specs.declared.fault.PlaceFault.{PlaceFault}
use Rattle.wild_placer.specs.declared.fault.PlaceFault.TheVariants as place_faults
use Rattle.wild_text.specs.Place.{place_in}
use Rattle.wild_text.specs.PlaceAnswer.{place_text, not_placed_text}
use Rattle.wild_text.specs.declared.place.PlaceRequest.{PlaceRequest}
use Rattle.wild_text.specs.Space.{space_in}
use Rattle.wild_text.specs.SpaceAnswer.{space_text, not_bound_text}
use Rattle.wild_text.specs.declared.space.SpaceRequest.{SpaceRequest}
use Rattle.wild_change.specs.Change.{changed_layout}
use Rattle.wild_relinker.specs.Answer.{answer}
use Rattle.wild_relinker.specs.declared.fault.RelinkFault.{RelinkFault}
use Rattle.wild_relinker.specs.declared.fault.RelinkFault.TheVariants as refusal
use Rattle.wild_space.specs.Bound.{bound}
use Rattle.wild_space.specs.Binds.{bind}
use Rattle.wild_space.specs.OrderLaws.{IsBreadthFirst}
use Rattle.wild_space.specs.BindLaws.{IsBound}
use Rattle.wild_space.specs.BoundLaws.{IsMade}
use Rattle.wild_space.specs.declared.binds.Definition.{Definition}
use Rattle.wild_space.specs.declared.space.Bound.{Bound}
use Rattle.wild_space.specs.declared.fault.BindFault.{BindFault}
use Rattle.wild_text.specs.Answer.{image_text, image_line, count_lines, refusal_text, no_plan_text}
use Rattle.wild_program.specs.Exit as exit

-- the words are this name and a number of workers from 1 to 64, in decimal
abbrev pub HasWorkers : List ℕ → List (String Global) → ℕ → Type 0
HasWorkers name words n = (map string_bytes words ≡ name ∷ decimal n ∷ []) × (1 ≤ n) × (n ≤ 64)

-- the words are `link` and a number of workers
abbrev pub IsLink : List (String Global) → ℕ → Type 0
IsLink words n = HasWorkers (codes "link") words n

-- the words are `make`, a number of groups from 1 to 65,536 and a number of workers from 1 to 64, in decimal
abbrev pub IsMake : List (String Global) → ℕ → ℕ → Type 0
IsMake words n w = (map string_bytes words ≡ codes "make" ∷ decimal n ∷ decimal w ∷ []) × (1 ≤ n) × (n ≤ 65536) × (1 ≤ w) × (w ≤ 64)

-- the words are `link W`
abbrev pub IsLinkCommand : List (String Global) → Type 0
IsLinkCommand words = (n : ℕ) × IsLink words n

-- the words are `make N W`
abbrev pub IsMakeCommand : List (String Global) → Type 0
IsMakeCommand words = (n : ℕ) × (w : ℕ) × IsMake words n w

-- the words are `relink` and a number of workers
abbrev pub IsRelink : List (String Global) → ℕ → Type 0
IsRelink words n = HasWorkers (codes "relink") words n

-- the words are `relink W`
abbrev pub IsRelinkCommand : List (String Global) → Type 0
IsRelinkCommand words = (n : ℕ) × IsRelink words n

-- the words are `place` and a number of workers
abbrev pub IsPlace : List (String Global) → ℕ → Type 0
IsPlace words n = HasWorkers (codes "place") words n

-- the words are `place W`
abbrev pub IsPlaceCommand : List (String Global) → Type 0
IsPlaceCommand words = (n : ℕ) × IsPlace words n

-- the words are this name alone
abbrev pub IsWord : List ℕ → List (String Global) → Type 0
IsWord name words = map string_bytes words ≡ name ∷ []

-- the word is `space`
abbrev pub IsSpace : List (String Global) → Type 0
IsSpace words = IsWord (codes "space") words

-- the word is `verify`
abbrev pub IsVerify : List (String Global) → Type 0
IsVerify words = IsWord (codes "verify") words

-- the words are a command that reads its input to the end
abbrev pub IsReading : List (String Global) → Type 0
IsReading words = IsLinkCommand words ⊎ (IsRelinkCommand words ⊎ (IsPlaceCommand words ⊎ (IsSpace words ⊎ IsVerify words)))

-- the words are a command
abbrev pub IsCommand : List (String Global) → Type 0
IsCommand words = IsReading words ⊎ IsMakeCommand words

-- the words are that command
abbrev pub Asks : List (String Global) → Command → Type 0
Asks words (command.Link w) = IsLink words w
Asks words (command.Make n w) = IsMake words n w
Asks words (command.Relink w) = IsRelink words w
Asks words (command.Place w) = IsPlace words w
Asks words command.Space = IsSpace words
Asks words command.Verify = IsVerify words

-- the possible answers
pub data Answer : Type 0 where
  usage : Answer
  read_fault : Answer
  too_long : Answer
  of_plan : Meaning Layout → Answer
  of_make : ℕ → Answer
  of_relink : Meaning RelinkRequest → Answer
  of_place : Meaning PlaceRequest → Answer
  of_space : Meaning SpaceRequest → Answer
  of_verify : Meaning VerifyRequest → Verdict → Answer

-- the status for a layout with these faults
abbrev pub errors_status : List Error → ℕ
errors_status [] = exit.linked
errors_status (e ∷ es) = exit.refused

abbrev pub errors_text : Layout → List Error → List ℕ
errors_text l [] = image_text l (bytes l) (warnings l) (counts l)
errors_text l (e ∷ es) = refusal_text e

-- `linked` if the layout has no faults, else `refused`
abbrev pub layout_status : Layout → ℕ
layout_status l = errors_status (errors l)

-- the text of the image, or of the first fault
abbrev pub layout_text : Layout → List ℕ
layout_text l = errors_text l (errors l)

-- the summary of an image of n groups: its groups and bytes, its counts, and the sum of its bytes
abbrev pub summary_text : ℕ → List ℕ → List ℕ → List ℕ
summary_text n image counts = codes "groups " ++ decimal n ++ codes "\n" ++ image_line (length image) ++ count_lines 0 counts ++ codes "sum " ++ decimal (sum image) ++ codes "\n"

-- the summary for the made plan of n groups
abbrev pub made_text : ℕ → List ℕ
made_text n = summary_text n (bytes (plan_of_groups n)) (counts (plan_of_groups n))

-- the status for a plan with these faults, whose change has that answer
abbrev pub change_status : List Error → Result (Unit {0}) RelinkFault → ℕ
change_status (e ∷ es) a = exit.refused
change_status [] (Ok done) = exit.linked
change_status [] (Err (refusal.Write e)) = exit.refused
change_status [] (Err fault) = exit.not_changed

-- the text for a plan with these faults, whose change has that answer and makes this layout
abbrev pub change_text : List Error → Result (Unit {0}) RelinkFault → Layout → List ℕ
change_text (e ∷ es) a l = refusal_text e
change_text [] (Ok done) l = rewritten_text l (bytes l) (warnings l) (counts l)
change_text [] (Err (refusal.Write e)) l = refusal_text e
change_text [] (Err (refusal.Length given needed)) l = no_length_text given needed
change_text [] (Err fault) l = no_section_text

-- `refused` if the plan has a fault, or the changed layout; `not_changed` if there is no such change; else `linked`
abbrev pub relink_status : RelinkRequest → ℕ
relink_status r = change_status (errors r.plan) (answer r.plan r.change)

-- the text of the image of the changed layout, or of the first fault
abbrev pub relink_answer_text : RelinkRequest → List ℕ
relink_answer_text r = change_text (errors r.plan) (answer r.plan r.change) (changed_layout r.plan r.change)

-- the memory of the plan in its world, or the first fault
abbrev pub placed_memory : PlaceRequest → Result Memory PlaceFault
placed_memory r = layout_memory r.plan r.world

abbrev pub memory_status : Result Memory PlaceFault → ℕ
memory_status (Ok m) = exit.linked
memory_status (Err (place_faults.Write e)) = exit.refused
memory_status (Err fault) = exit.not_placed

-- the text of the memory of a plan, or of the first fault of its layout or of loading
abbrev pub memory_text : PlaceRequest → Result Memory PlaceFault → List ℕ
memory_text r (Ok m) = place_text r.world.base r.plan.segments m.runs
memory_text r (Err (place_faults.Write e)) = refusal_text e
memory_text r (Err (place_faults.Load fault)) = not_placed_text fault
memory_text r (Err fault) = []

-- `refused` if the plan has a fault; `not_placed` if the loader does not load its image; else `linked`
abbrev pub place_status : PlaceRequest → ℕ
place_status r = memory_status (placed_memory r)

abbrev pub place_answer_text : PlaceRequest → List ℕ
place_answer_text r = memory_text r (placed_memory r)

-- what the images of an input are bound to
abbrev pub bound_images : SpaceRequest → Result Bound BindFault
bound_images s = bound s.images s.resolvers

abbrev pub bound_status : Result Bound BindFault → ℕ
bound_status (Ok b) = exit.linked
bound_status (Err fault) = exit.not_bound

abbrev pub bound_text : Result Bound BindFault → List ℕ
bound_text (Ok b) = space_text b.order b.binds
bound_text (Err fault) = not_bound_text fault

-- `linked` if the images are bound, else `not_bound`
abbrev pub space_status : SpaceRequest → ℕ
space_status s = bound_status (bound_images s)

-- the text of the order and the binds, or of the first fault
abbrev pub space_answer_text : SpaceRequest → List ℕ
space_answer_text s = bound_text (bound_images s)

-- the fault of the first clause that fails, if the layout is not well formed
abbrev pub clause_faults : Layout → List Error
clause_faults l = clause_errors (first_clause l)

-- the text of a doubt
abbrev pub doubt_text : Doubt → List ℕ
doubt_text doubts.Partial = no_partial_text
doubt_text (doubts.Load fault) = no_load_text fault
doubt_text (doubts.Segment index) = no_segment_text index
doubt_text (doubts.Byte site) = no_byte_text site.group site.file site.section site.index
doubt_text (doubts.Reference site) = no_reference_text site.group site.file site.section site.index

abbrev pub verdict_status : Verdict → ℕ
verdict_status Yes = exit.linked
verdict_status (No doubt) = exit.doubted

abbrev pub verdict_text : Verdict → List ℕ
verdict_text Yes = yes_text
verdict_text (No doubt) = doubt_text doubt

-- the status for a plan whose clauses have these faults, with that verdict on the image
abbrev pub check_status : List Error → Verdict → ℕ
check_status (e ∷ es) v = exit.refused
check_status [] v = verdict_status v

abbrev pub check_text : List Error → Verdict → List ℕ
check_text (e ∷ es) v = refusal_text e
check_text [] v = verdict_text v

-- `refused` if the plan is not well formed; else `linked` or `doubted`, by the verdict on the image
abbrev pub verify_status : Verdict → VerifyRequest → ℕ
verify_status v r = check_status (clause_faults r.plan) v

abbrev pub verify_text : Verdict → VerifyRequest → List ℕ
verify_text v r = check_text (clause_faults r.plan) v

-- v is the verdict on the image, if the plan is well formed
abbrev pub IsVerdictOf : VerifyRequest → Verdict → Type 0
IsVerdictOf r v = clause_faults r.plan ≡ [] → IsAnswer r.plan r.image v

-- the same for what was read; without a plan there is none
abbrev pub IsVerdictOn : Meaning VerifyRequest → Verdict → Type 0
IsVerdictOn no_json v = Unit {0}
IsVerdictOn (no_plan path) v = Unit {0}
IsVerdictOn (plan r) v = IsVerdictOf r v

-- the status for the meaning of an input, by the status of what it encodes
abbrev pub meaning_status : {X : Type 0} → (X → ℕ) → Meaning X → ℕ
meaning_status status_of no_json = exit.no_plan
meaning_status status_of (no_plan path) = exit.no_plan
meaning_status status_of (plan x) = status_of x

-- the text for the meaning of an input, by the text of what it encodes
abbrev pub meaning_text : {X : Type 0} → (X → List ℕ) → Meaning X → List ℕ
meaning_text text_of no_json = codes "not a plan: json\n"
meaning_text text_of (no_plan path) = no_plan_text path
meaning_text text_of (plan x) = text_of x

abbrev pub status : Answer → ℕ
status usage = exit.usage
status read_fault = exit.read_fault
status too_long = exit.too_long
status (of_plan meaning) = meaning_status layout_status meaning
status (of_make n) = exit.linked
status (of_relink meaning) = meaning_status relink_status meaning
status (of_place meaning) = meaning_status place_status meaning
status (of_space meaning) = meaning_status space_status meaning
status (of_verify meaning v) = meaning_status (verify_status v) meaning

abbrev pub text : Answer → List ℕ
text usage = codes "usage: link W | make N W | verify | relink W | place W | space\n"
text read_fault = codes "read fault\n"
text too_long = codes "plan too long\n"
text (of_plan meaning) = meaning_text layout_text meaning
text (of_make n) = made_text n
text (of_relink meaning) = meaning_text relink_answer_text meaning
text (of_place meaning) = meaning_text place_answer_text meaning
text (of_space meaning) = meaning_text space_answer_text meaning
text (of_verify meaning v) = meaning_text (verify_text v) meaning

-- the maximal size of a plan in bytes
abbrev pub limit : ℕ
limit = 2 ^ 31

-- the state of the source before and after: the bytes not yet read, and the number of failed reads
pub record SourceChange : Type 0 where
  pub left_before : Option (List ℕ)
  pub left_after : Option (List ℕ)
  pub faults_before : ℕ
  pub faults_after : ℕ

abbrev pub source_change : Option (List ℕ) → Option (List ℕ) → ℕ → ℕ → SourceChange
source_change left_before left_after faults_before faults_after = record { left_before = left_before; left_after = left_after; faults_before = faults_before; faults_after = faults_after }

-- the bytes were read to the end and do not exceed the limit
pub record IsRead (t : SourceChange) (whole : List ℕ) : Type 0 where
  pub taken : Consumes t.left_before t.left_after whole
  pub ended : IsAtEnd t.left_after
  pub short : length whole ≤ limit

-- nothing was read
pub record NothingRead (t : SourceChange) : Type 0 where
  pub left : t.left_after ≡ t.left_before
  pub faults : t.faults_after ≡ t.faults_before

-- one byte more than the limit was read
abbrev pub IsTooLong : SourceChange → Type 0
IsTooLong t = (taken : List ℕ) × Consumes t.left_before t.left_after taken × (length taken ≡ limit + 1)

-- bytes that were read to the end have that meaning, if values are read so
abbrev pub HasMeaningBy : {X : Type 0} → (Data → Result X (List ℕ)) → SourceChange → Meaning X → Type 0
HasMeaningBy reads t meaning = (whole : List ℕ) × IsRead t whole × MeansBy reads whole meaning

-- the same for a plan of a layout
abbrev pub HasMeaning : SourceChange → Meaning Layout → Type 0
HasMeaning t meaning = HasMeaningBy layout_in t meaning

-- the answer is the right one for these words and this input
abbrev pub IsRightAnswer : List (String Global) → SourceChange → Answer → Type 0
IsRightAnswer words t usage = (IsCommand words → ⊥) × NothingRead t
IsRightAnswer words t read_fault = IsReading words × CountRose t.faults_before t.faults_after
IsRightAnswer words t too_long = IsReading words × IsTooLong t
IsRightAnswer words t (of_plan meaning) = IsLinkCommand words × HasMeaning t meaning
IsRightAnswer words t (of_make n) = ((w : ℕ) × IsMake words n w) × NothingRead t
IsRightAnswer words t (of_relink meaning) = IsRelinkCommand words × HasMeaningBy relink_in t meaning
IsRightAnswer words t (of_place meaning) = IsPlaceCommand words × HasMeaningBy place_in t meaning
IsRightAnswer words t (of_space meaning) = IsSpace words × HasMeaningBy space_in t meaning
IsRightAnswer words t (of_verify meaning v) = IsVerify words × HasMeaningBy verify_in t meaning × IsVerdictOn meaning v

-- the state of the sink before and after: the bytes written so far, and the number of failed writes
pub record SinkChange : Type 0 where
  pub taken_before : Option (List ℕ)
  pub taken_after : Option (List ℕ)
  pub faults_before : ℕ
  pub faults_after : ℕ

abbrev pub sink_change : Option (List ℕ) → Option (List ℕ) → ℕ → ℕ → SinkChange
sink_change taken_before taken_after faults_before faults_after = record { taken_before = taken_before; taken_after = taken_after; faults_before = faults_before; faults_after = faults_after }

-- a write failed, and only a prefix of the text was written
pub record IsCutShort (t : SinkChange) (text : List ℕ) : Type 0 where
  pub cause : CountRose t.faults_before t.faults_after
  pub front : AppendsPrefix t.taken_before t.taken_after text

-- the whole text was written and the status is the answer's; or a write failed and only a prefix was written
abbrev pub IsWritten : SinkChange → ℕ → List ℕ → ℕ → Type 0
IsWritten t status text said = ((said ≡ status) × Appends t.taken_before t.taken_after text) ⊎ ((said ≡ exit.cut_short) × IsCutShort t text)

-- the returned status belongs to an answer that is right for the input, and that was written
abbrev pub IsAnswered : List (String Global) → SourceChange → SinkChange → ℕ → Type 0
IsAnswered words t u said = (a : Answer) × IsRightAnswer words t a × IsWritten u (status a) (text a) said

-- the text is that of an image of the layout; the loader accepts the image in every legal world, and each kept reference has the
-- value or target that its relocation requires
abbrev pub IsLinkedText : Layout → List ℕ → Type 0
IsLinkedText layout text = (image : List ℕ) × (warnings : List EntryWarning) × (counts : List ℕ) × (text ≡ image_text layout image warnings counts) × IsSound layout image

-- the line of a change, and then the text of a sound image of the layout
abbrev pub IsRewrittenText : Layout → List ℕ → Type 0
IsRewrittenText layout text = (of_image : List ℕ) × (text ≡ rewritten_line ++ of_image) × IsLinkedText layout of_image

-- The text is that of a memory of the plan in its world. There each reference of a kept item holds, and every other byte is as it
-- should be.
pub record IsPlacedText (r : PlaceRequest) (text : List ℕ) : Type 0 where
  pub memory : Memory
  pub shown : text ≡ place_text r.world.base r.plan.segments memory.runs
  pub sound : IsPlacedSoundly r.plan r.world memory

-- The text is that of the order and the binds of images, as a dynamic linker makes them. The order is breadth first. Each image has
-- its binds, its world and its memory. Each symbol is bound to itself, or to the first definition of its name.
pub record IsSpaceText (s : SpaceRequest) (text : List ℕ) : Type 0 where
  pub space : Bound
  pub shown : text ≡ space_text space.order space.binds
  pub order : IsBreadthFirst s.images space.order
  pub made : (n : ℕ) → n < length space.order → IsMade s.images s.resolvers space n
  pub first : (n k : ℕ) (d : Definition) → bind s.images space.order n k ≡ Ok (Some d) → IsBound s.images space.order n k d
