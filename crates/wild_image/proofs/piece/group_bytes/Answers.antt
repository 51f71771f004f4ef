use Rattle.wild_contents.specs.VersionCounts.{NeedsFit}
use Rattle.wild_image.proofs.Common.{GroupStands, holds_at}
use Rattle.wild_contents.proofs.VersionLemmas.{needs_fit}
use Rattle.wild_image.proofs.StandingLemmas.{each_stands}
use Rattle.wild_image.proofs.TableLemmas.{gives_its_shares}
use Rattle.wild_image.proofs.piece.group_bytes.Goals as goal

pub add_group-requires-clause-stands : goal.add_group-requires-clause-stands
add_group-requires-clause-stands g c =
    let l = c.args.resolved.now.layout.now in
    let laid = c.layouts_are_laid_out.ensures l c.requires.clauses c.requires.shares in
    holds_at (GroupStands l) l.groups c.args.index c.args.group.now c.requires.group (each_stands l c.requires.clauses laid)

pub add_group-requires-clause-gives : goal.add_group-requires-clause-gives
add_group-requires-clause-gives g c =
    let l = c.args.resolved.now.layout.now in
    gives_its_shares l c.args.index c.args.group.now (c.layouts_are_laid_out.ensures l c.requires.clauses c.requires.shares).parts c.requires.group

pub add_group-requires-clause-few : goal.add_group-requires-clause-few
add_group-requires-clause-few g c =
    let l = c.args.resolved.now.layout.now in
    holds_at NeedsFit l.groups c.args.index c.args.group.now c.requires.group (needs_fit l (c.layouts_are_laid_out.ensures l c.requires.clauses c.requires.shares))

pub add_group-requires-clause-once : goal.add_group-requires-clause-once
add_group-requires-clause-once g c = (c.layouts_are_laid_out.ensures c.args.resolved.now.layout.now c.requires.clauses c.requires.shares).once
