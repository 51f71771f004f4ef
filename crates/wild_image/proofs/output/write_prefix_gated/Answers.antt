use Rattle.wild_image.proofs.Common.{subst, List, err_from_is_err_and, Error, Answers, first_clause}
use Rattle.wild_layout.proofs.FaultLemmas.{clause_holds}
use Rattle.wild_image.proofs.JobLemmas.{few_groups}
use Rattle.wild_image.proofs.OutputLemmas.{file_trailer_errors, few_relocations, clause_refused, share_refused, bytes_fit}
use Rattle.wild_image.proofs.output.write_prefix_gated.Goals as goal

pub returns-in_err-symbols-clause-faults : goal.returns-in_err-symbols-clause-faults
returns-in_err-symbols-clause-faults g c =
    let p = err_from_is_err_and c.from_residual.result c.from_residual.ensures.1 in
    rw (p.1, p.2) (clause_refused c.args.layout.now _ c.in_err-symbols.ensures.faults)

pub returns-in_err-check_shares_by_workers-clause-faults : goal.returns-in_err-check_shares_by_workers-clause-faults
returns-in_err-check_shares_by_workers-clause-faults g c =
    let r = c.from_residual-in_err-check_shares_by_workers in
    let p = err_from_is_err_and r.result r.ensures.1 in
    rw (p.1, p.2) (share_refused c.args.layout.now _ c.in_ok-symbols.ensures.faults c.in_err-check_shares_by_workers.ensures)

pub check_shares_by_workers-requires-clause-few : goal.check_shares_by_workers-requires-clause-few
check_shares_by_workers-requires-clause-few g c = few_groups c.args.layout.now (clause_holds (first_clause c.args.layout.now) c.in_ok-symbols.ensures.faults)

pub write_laid_out-requires-clause-few : goal.write_laid_out-requires-clause-few
write_laid_out-requires-clause-few g c = few_relocations c.args.layout.now c.in_ok-symbols.ensures.faults

pub returns-clause-faults : goal.returns-clause-faults
returns-clause-faults g c =
    let P : List Error → Type 0 = λ es. Answers c.write_laid_out.result es in
    subst P (file_trailer_errors c.args.layout.now c.in_ok-symbols.ensures.faults c.in_ok-check_shares_by_workers.ensures) c.write_laid_out.ensures.faults

pub returns-clause-fits : goal.returns-clause-fits
returns-clause-fits g c =
    let l = c.args.layout.now in
    bytes_fit c.write_laid_out.result l (c.layouts_are_laid_out.ensures l (clause_holds (first_clause l) c.in_ok-symbols.ensures.faults) c.in_ok-check_shares_by_workers.ensures)
