use Rattle.wild_image.proofs.Common.{◌≡◌, true, false, List, ℕ, sym, ap, ◌∙◌, subst, flat_map, Piece, overlay_prefix, thunks_of, is_header_only_part, thunk_piece, file_thunks, BeginsWith, HasRest}
use Rattle.wild_image.proofs.AppendLemmas.{all_written, none_written}
use Rattle.wild_image.proofs.append.append_thunks.Goals as goal

pub returns-then-is_header_only_part-clause-image : goal.returns-then-is_header_only_part-clause-image
returns-then-is_header_only_part-clause-image c =
    let l = c.args.layout.now in
    let header_only : is_header_only_part l l.primary_part ≡ true = sym c.is_header_only_part.ensures ∙ c.if-is_header_only_part.true in
    sym (ap (λ (ps : List Piece). overlay_prefix ps c.args.out.now) (none_written l l.primary_part (flat_map (thunk_piece l) (thunks_of l c.args.file.now)) header_only))

pub returns-then-is_header_only_part-clause-rest : goal.returns-then-is_header_only_part-clause-rest
returns-then-is_header_only_part-clause-rest c =
    let l = c.args.layout.now in
    let header_only : is_header_only_part l l.primary_part ≡ true = sym c.is_header_only_part.ensures ∙ c.if-is_header_only_part.true in
    subst (λ (own : List ℕ). HasRest own c.args.bytes.now c.args.bytes.now) (sym (none_written l l.primary_part (file_thunks l c.args.file.now) header_only)) (λ rest e. e)

pub append_all_thunks-requires-clause-lies : goal.append_all_thunks-requires-clause-lies
append_all_thunks-requires-clause-lies c =
    let l = c.args.layout.now in
    let written : is_header_only_part l l.primary_part ≡ false = sym c.is_header_only_part.ensures ∙ c.if-is_header_only_part.false in
    c.requires.lies written

pub append_all_thunks-requires-clause-own : goal.append_all_thunks-requires-clause-own
append_all_thunks-requires-clause-own c =
    let l = c.args.layout.now in
    let written : is_header_only_part l l.primary_part ≡ false = sym c.is_header_only_part.ensures ∙ c.if-is_header_only_part.false in
    subst (λ (own : List ℕ). BeginsWith own c.args.bytes.now) (all_written l l.primary_part (file_thunks l c.args.file.now) written) c.requires.own

pub returns-clause-image : goal.returns-clause-image
returns-clause-image c =
    let l = c.args.layout.now in
    let written : is_header_only_part l l.primary_part ≡ false = sym c.is_header_only_part.ensures ∙ c.if-is_header_only_part.false in
    c.append_all_thunks.ensures.image ∙ sym (ap (λ (ps : List Piece). overlay_prefix ps c.args.out.now) (all_written l l.primary_part (flat_map (thunk_piece l) (thunks_of l c.args.file.now)) written))

pub returns-clause-rest : goal.returns-clause-rest
returns-clause-rest c =
    let l = c.args.layout.now in
    let written : is_header_only_part l l.primary_part ≡ false = sym c.is_header_only_part.ensures ∙ c.if-is_header_only_part.false in
    subst (λ (own : List ℕ). HasRest own c.args.bytes.now c.append_all_thunks.result.now) (sym (all_written l l.primary_part (file_thunks l c.args.file.now) written)) c.append_all_thunks.ensures.rest
