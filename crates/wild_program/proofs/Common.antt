-- The names that many proofs of this crate cite, passed on from one place. Declares nothing.
pub use Rattle.serde_json.specs.Data.{Data}
pub use Rattle.std.proofs.lemmas.Result.{IfOk-weaker}
pub use Rattle.std.proofs.lemmas.Slice.Eq.{bytes_eq-Decides}
pub use Rattle.std.specs.List.{sum}
pub use Rattle.std.specs.Prelude.{All, AllPairs, Bool, Err, IfOk, IsUtf8, List, MatchOption, None, Ok, OnOk, Option, Result, Some, String, [], bytes_eq, codes, decimal, drop, false, get_or, if◌then◌else◌, length, map, nat_lt, not, string_bytes, suc, take, true, ℕ, ◌*◌, ◌++◌, ◌+◌, ◌<◌, ◌==◌, ◌∷◌, ◌≡◌, ◌≤◌, ◌⊎◌}
pub use Rattle.std.proofs.Common.{Global}
pub use Rattle.wild_change.specs.Change.{changed_layout}
pub use Rattle.wild_checker.specs.declared.verdict.Verdict.{Verdict}
pub use Rattle.wild_checker.specs.declared.verdict.Verdict.TheVariants.{Yes}
pub use Rattle.wild_layout.specs.Faults.{errors}
pub use Rattle.wild_layout.specs.Image.{bytes}
pub use Rattle.wild_layout.specs.Numbers.{NumbersFit}
pub use Rattle.wild_loader.specs.declared.fault.LoadFault.{LoadFault}
pub use Rattle.wild_loader.specs.declared.memory.Memory.{Memory}
pub use Rattle.wild_placer.specs.declared.fault.PlaceFault.{PlaceFault}
pub use Rattle.wild_program.specs.Clauses.{IsWrittenWhole}
pub use Rattle.wild_program.specs.Program.{Answer, IsCommand, IsLinkCommand, IsPlaceCommand, IsReading, IsRelinkCommand, IsRightAnswer, IsSpace, IsVerdictOn, IsVerify, IsWritten, SinkChange, SourceChange, bound_status, change_status, check_status, clause_faults, errors_status, limit, memory_status, of_make, of_place, of_plan, of_relink, of_space, of_verify, read_fault, status, text, too_long, usage}
pub use Rattle.wild_program.specs.Steps.{IsAnsweredBy, IsRefusal}
pub use Rattle.wild_relinker.specs.Answer.{answer}
pub use Rattle.wild_relinker.specs.declared.fault.RelinkFault.{RelinkFault}
pub use Rattle.wild_space.specs.declared.fault.BindFault.{BindFault}
pub use Rattle.wild_space.specs.declared.space.Bound.{Bound}
pub use Rattle.wild_text.specs.Means.{Meaning, MeansBy, no_json, no_plan, plan}
pub use Rattle.wild_text.specs.Space.{space_in}
pub use Rattle.wild_text.specs.declared.place.PlaceRequest.{PlaceRequest}
pub use Rattle.wild_text.specs.declared.relink.RelinkRequest.{RelinkRequest}
pub use Rattle.wild_text.specs.declared.space.SpaceRequest.{SpaceRequest}
pub use Rattle.wild_text.specs.declared.verify.VerifyRequest.{VerifyRequest}
pub use Rattle.wild_types.specs.declared.fault.Error.{Error}
pub use Rattle.wild_types.specs.declared.layout.Layout.{Layout}
pub use borrow.Author.Rules.{rules}
pub use lib.ListN.{length-append}
pub use mathlib.Core.Logic.{inl, inr}
pub use mathlib.Core.Path.{ap, refl, subst, sym, ◌∙◌}
pub use native.Mathlib.Omega.{arith}
