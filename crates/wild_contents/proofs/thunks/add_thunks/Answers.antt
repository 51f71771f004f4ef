use Rattle.std.proofs.Common.{◌≡◌, true, false, List, ℕ, ◌++◌, sym, ap, ◌∙◌, subst}
use Rattle.std.proofs.lemmas.Result.{on_ok_weaker}
use Rattle.wild_types.specs.declared.fault.Error.{Error}
use Rattle.wild_types.specs.Faults.{Answers}
use Rattle.wild_types.specs.Lookups.{is_header_only_part}
use Rattle.wild_contents.proofs.ThunkLemmas.{no_errors, none_written, each_asked, all_written}
use Rattle.wild_contents.proofs.thunks.add_thunks.Goals as goal

pub returns-then-is_header_only_part-clause-faults : goal.returns-then-is_header_only_part-clause-faults
returns-then-is_header_only_part-clause-faults g c =
    let l = c.args.resolved.now.layout.now in
    let header_only : is_header_only_part l l.primary_part ≡ true = sym c.is_header_only_part.ensures ∙ c.if-is_header_only_part.true in
    no_errors l c.args.place.group c.args.place.file c.args.file.now header_only

pub returns-then-is_header_only_part-clause-bytes : goal.returns-then-is_header_only_part-clause-bytes
returns-then-is_header_only_part-clause-bytes g c =
    let l = c.args.resolved.now.layout.now in
    let header_only : is_header_only_part l l.primary_part ≡ true = sym c.is_header_only_part.ensures ∙ c.if-is_header_only_part.true in
    none_written l c.args.file.now c.args.bytes.now header_only

pub returns-clause-faults : goal.returns-clause-faults
returns-clause-faults g c =
    let l = c.args.resolved.now.layout.now in
    let written : is_header_only_part l l.primary_part ≡ false = sym c.is_header_only_part.ensures ∙ c.if-is_header_only_part.false in
    subst (λ (es : List Error). Answers c.add_all_thunks.result es) (sym (each_asked l c.args.place.group c.args.place.file c.args.file.now written)) c.add_all_thunks.ensures.faults

pub returns-clause-bytes : goal.returns-clause-bytes
returns-clause-bytes g c =
    let l = c.args.resolved.now.layout.now in
    let written : is_header_only_part l l.primary_part ≡ false = sym c.is_header_only_part.ensures ∙ c.if-is_header_only_part.false in
    on_ok_weaker c.add_all_thunks.result (λ h. h ∙ ap (λ (bs : List ℕ). c.args.bytes.now ++ bs) (sym (all_written l c.args.file.now written))) c.add_all_thunks.ensures.bytes
