use Rattle.wild_image.proofs.Common.{◌≡◌, [], length, rules, subst, sym, slice_get, Some, slice_get_read, Layout, flat_map_from, part_errors, IsLaidOut}
use Rattle.wild_types.specs.declared.part.Role.TheVariants as role
use Rattle.wild_image.specs.Jobs.{GivesPiece}
use Rattle.wild_image.proofs.OutputLemmas.{FieldsFit-IsLaidOut, role_address}
use Rattle.wild_image.proofs.JobLemmas.{piece_found}
use Rattle.wild_image.proofs.piece.write_group.Goals as goal

pub new-resolved-requires-clause-fits : goal.new-resolved-requires-clause-fits
new-resolved-requires-clause-fits g c = FieldsFit-IsLaidOut c.args.layout.now (c.layouts_are_laid_out.ensures c.args.layout.now c.requires.clauses c.requires.shares)

pub table_for-requires-clause-place : goal.table_for-requires-clause-place
table_for-requires-clause-place g c =
    let laid = subst IsLaidOut (sym c.new-resolved.ensures) (c.layouts_are_laid_out.ensures c.args.layout.now c.requires.clauses c.requires.shares) in
    role_address c.new-resolved.result.layout.now laid role.EhFrameHdr

pub piece_of-requires-clause-shares : goal.piece_of-requires-clause-shares
piece_of-requires-clause-shares g c = subst (λ (l : Layout). flat_map_from (part_errors l) 0 l.parts ≡ []) (sym c.new-resolved.ensures) c.requires.shares

pub piece_of-requires-clause-group : goal.piece_of-requires-clause-group
piece_of-requires-clause-group g c =
    let l = c.args.layout.now in
    let found = c.index-as_slice-group.result in
    let at : slice_get l.groups c.args.group ≡ Some found = slice_get_read l.groups (length l.groups) c.args.group found (search rules) c.requires.group (search rules) in
    subst (λ (m : Layout). slice_get m.groups c.args.group ≡ Some found) (sym c.new-resolved.ensures) at

pub returns-clause-piece : goal.returns-clause-piece
returns-clause-piece g c =
    let l = c.args.layout.now in
    let found = c.index-as_slice-group.result in
    let at : slice_get l.groups c.args.group ≡ Some found = slice_get_read l.groups (length l.groups) c.args.group found (search rules) c.requires.group (search rules) in
    let there = subst (λ (m : Layout). slice_get m.groups c.args.group ≡ Some found) (sym c.new-resolved.ensures) at in
    subst (λ (m : Layout). GivesPiece m c.args.group c.piece_of.result) c.new-resolved.ensures (piece_found c.new-resolved.result.layout.now c.args.group found _ there c.piece_of.ensures.faults c.piece_of.ensures.parts c.piece_of.ensures.counts)
