use Rattle.wild_image.proofs.Common.{◌≡◌, [], get_or, arith, rules, subst, sym, All, slice_get_within, Group, FileLies, HasStarts, holds_at}
use Rattle.wild_image.proofs.OutputLemmas.{group_written}
use Rattle.wild_image.proofs.PlacedLemmas.{table_of_all}
use Rattle.wild_image.proofs.StandingLemmas.{each_file_lies}
use Rattle.wild_image.proofs.piece.put_group.Goals as goal

pub group_bytes-requires-clause-table : goal.group_bytes-requires-clause-table
group_bytes-requires-clause-table g c = table_of_all c.args.resolved.now.layout.now c.args.prepared.now.table c.args.group.now.files c.requires.prepared.table

pub starts_of-requires : goal.starts_of-requires
starts_of-requires g c =
    let low = slice_get_within c.args.resolved.now.layout.now.groups c.args.index c.args.group.now c.requires.group in
    let count = c.requires.prepared.starts.count in
    omega (arith, low, count)

pub append_group-requires-clause-inputs : goal.append_group-requires-clause-inputs
append_group-requires-clause-inputs g c =
    let l = c.args.resolved.now.layout.now in
    let laid = c.layouts_are_laid_out.ensures l c.requires.clauses c.requires.shares in
    holds_at (λ (x : Group). All (FileLies l) x.files) l.groups c.args.index c.args.group.now c.requires.group (each_file_lies l laid)

pub append_group-requires-clause-lies : goal.append_group-requires-clause-lies
append_group-requires-clause-lies g c = (c.layouts_are_laid_out.ensures c.args.resolved.now.layout.now c.requires.clauses c.requires.shares).parts

pub append_group-requires-clause-starts : goal.append_group-requires-clause-starts
append_group-requires-clause-starts g c =
    let l = c.args.resolved.now.layout.now in
    let low = slice_get_within l.groups c.args.index c.args.group.now c.requires.group in
    let count = c.requires.prepared.starts.count in
    let is : c.deref_mut.result.now ≡ get_or c.args.prepared.now.starts c.args.index [] = search rules in
    subst (HasStarts l c.args.index) (sym is) (c.requires.prepared.starts.each c.args.index (omega (arith, low, count)))

pub append_group-requires-clause-fits : goal.append_group-requires-clause-fits
append_group-requires-clause-fits g c =
    let size = (c.layouts_are_laid_out.ensures c.args.resolved.now.layout.now c.requires.clauses c.requires.shares).size in
    omega (arith, size)

pub returns-clause-image : goal.returns-clause-image
returns-clause-image g c =
    let l = c.args.resolved.now.layout.now in
    let laid = c.layouts_are_laid_out.ensures l c.requires.clauses c.requires.shares in
    group_written l c.args.index c.args.group.now c.args.out.now c.append_group.new.out laid c.requires.group c.requires.room c.append_group.ensures
