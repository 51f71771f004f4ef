use Rattle.wild_image.proofs.Common.{◌≡◌, [], length, rules, sym, subst, slice_get, Some, slice_get_read, Layout, flat_map_from, part_errors}
use Rattle.wild_image.specs.Jobs.{PutsPieces}
use Rattle.wild_image.specs.Prepared.{IsPrepared}
use Rattle.wild_image.proofs.OutputLemmas.{FieldsFit-IsLaidOut}
use Rattle.wild_image.proofs.JobLemmas.{puts_found}
use Rattle.wild_image.proofs.piece.write_group_over.Goals as goal

pub new-resolved-requires-clause-fits : goal.new-resolved-requires-clause-fits
new-resolved-requires-clause-fits g c = FieldsFit-IsLaidOut c.args.layout.now (c.layouts_are_laid_out.ensures c.args.layout.now c.requires.clauses c.requires.shares)

pub put_group-requires-clause-shares : goal.put_group-requires-clause-shares
put_group-requires-clause-shares g c = subst (λ (l : Layout). flat_map_from (part_errors l) 0 l.parts ≡ []) (sym c.new-resolved.ensures) c.requires.shares

pub put_group-requires-clause-prepared : goal.put_group-requires-clause-prepared
put_group-requires-clause-prepared g c = subst (λ (l : Layout). IsPrepared l c.args.prepared.now) (sym c.new-resolved.ensures) c.requires.prepared

pub put_group-requires-clause-group : goal.put_group-requires-clause-group
put_group-requires-clause-group g c =
    let l = c.args.layout.now in
    let found = c.index-as_slice-group.result in
    let at : slice_get l.groups c.args.group ≡ Some found = slice_get_read l.groups (length l.groups) c.args.group found (search rules) c.requires.group (search rules) in
    subst (λ (m : Layout). slice_get m.groups c.args.group ≡ Some found) (sym c.new-resolved.ensures) at

pub returns-clause-pieces : goal.returns-clause-pieces
returns-clause-pieces g c =
    let l = c.args.layout.now in
    let found = c.index-as_slice-group.result in
    let at : slice_get l.groups c.args.group ≡ Some found = slice_get_read l.groups (length l.groups) c.args.group found (search rules) c.requires.group (search rules) in
    let there = subst (λ (m : Layout). slice_get m.groups c.args.group ≡ Some found) (sym c.new-resolved.ensures) at in
    subst (λ (m : Layout). PutsPieces m c.args.group c.args.out.now c.put_group.result c.put_group.new.out) c.new-resolved.ensures
    (puts_found c.new-resolved.result.layout.now c.args.group found c.args.out.now c.put_group.result c.put_group.new.out there c.put_group.ensures.faults c.put_group.ensures.image)
