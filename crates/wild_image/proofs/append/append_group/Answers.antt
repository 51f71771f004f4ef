use Rattle.wild_image.proofs.Common.{List, sym, ap, ◌∙◌, Piece, overlay_prefix, table_pieces, owned_pieces}
use Rattle.wild_image.proofs.PrefixLemmas.{overlay_prefix-append}
use Rattle.wild_image.proofs.AppendLemmas.{begins_all}
use Rattle.wild_image.proofs.StandingLemmas.{pieces_of_group}
use Rattle.wild_image.proofs.append.append_group.Goals as goal

pub append_tables-requires-clause-own : goal.append_tables-requires-clause-own
append_tables-requires-clause-own c = begins_all _ _ (c.as_slice.ensures ∙ c.requires.tables)

pub append_files-requires-clause-own : goal.append_files-requires-clause-own
append_files-requires-clause-own c = begins_all _ _ (c.as_slice-2.ensures ∙ c.requires.files)

pub returns : goal.returns
returns c =
    let l = c.args.layout.now in
    let g = c.args.group.now in
    c.append_files.ensures.image
    ∙ ap (λ (ps : List Piece). overlay_prefix ps c.append_tables.new.out) (sym (pieces_of_group l g))
    ∙ ap (overlay_prefix (owned_pieces l g)) c.append_tables.ensures.image
    ∙ sym (overlay_prefix-append (table_pieces l c.args.index g) (owned_pieces l g) c.args.out.now)
