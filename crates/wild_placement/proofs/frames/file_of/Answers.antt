use Rattle.std.proofs.Common.{ap, sym, ◌∙◌, arith, List, option_copied}
use Rattle.wild_types.specs.declared.file.Group.{Group}
use Rattle.wild_types.specs.Lookups.{files_of, file_of}
use Rattle.wild_types.proofs.FileLemmas.{file_found, file_later}
use Rattle.wild_placement.proofs.frames.file_of.Goals as goal

pub returns-in-Some : goal.returns-in-Some
returns-in-Some c =
    let all = ap (λ (gs : List Group). file_of (files_of gs) c.args.symbol) c.as_slice-group-items.ensures in
    sym (file_found c.as_slice-group-items.result.now c.loop-group.group-index c.args.symbol c.group-item.result c.as_slice.result.now c.in-Some.file.now (omega arith) c.group-item.is c.as_slice.ensures (sym c.find_file.ensures ∙ ap option_copied c.in-Some.is)) ∙ c.loop-group.invariant ∙ all

pub loop-group-preserved : goal.loop-group-preserved
loop-group-preserved c =
    sym (file_later c.as_slice-group-items.result.now c.loop-group.group-index c.args.symbol c.group-item.result c.as_slice.result.now (omega arith) c.group-item.is c.as_slice.ensures (sym c.find_file.ensures ∙ ap option_copied c.in-None.is)) ∙ c.loop-group.invariant
