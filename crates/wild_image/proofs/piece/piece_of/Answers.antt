use Rattle.wild_image.proofs.Common.{arith, All, Group, FileLies, holds_at}
use Rattle.wild_image.proofs.GatherLemmas.{section_below}
use Rattle.wild_image.proofs.StandingLemmas.{each_file_lies}
use Rattle.wild_image.proofs.TableLemmas.{gives_its_shares}
use Rattle.wild_image.proofs.piece.piece_of.Goals as goal

pub split_by_part-requires-clause-inputs : goal.split_by_part-requires-clause-inputs
split_by_part-requires-clause-inputs g c =
    let l = c.args.resolved.now.layout.now in
    let laid = c.layouts_are_laid_out.ensures l c.requires.clauses c.requires.shares in
    holds_at (λ (x : Group). All (FileLies l) x.files) l.groups c.args.index c.args.group.now c.requires.group (each_file_lies l laid)

pub split_by_part-requires-clause-gives : goal.split_by_part-requires-clause-gives
split_by_part-requires-clause-gives g c =
    let l = c.args.resolved.now.layout.now in
    gives_its_shares l c.args.index c.args.group.now (c.layouts_are_laid_out.ensures l c.requires.clauses c.requires.shares).parts c.requires.group

pub relocation_counts-requires : goal.relocation_counts-requires
relocation_counts-requires g c = λ part.
    let l = c.args.resolved.now.layout.now in
    let laid = c.layouts_are_laid_out.ensures l c.requires.clauses c.requires.shares in
    let below = section_below l laid part in
    let few = laid.sections in
    omega (arith, below, few)
