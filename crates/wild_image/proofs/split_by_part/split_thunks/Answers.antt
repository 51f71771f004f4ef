use Rattle.wild_image.proofs.Common.{◌≡◌, true, false, List, ℕ, ◌++◌, [], get_or, sym, ap, ◌∙◌, subst, flat_map, append-nil, on_ok_weaker, IfOk-weaker, thunks_of, is_header_only_part, file_thunks, BeginsWith, HasRest, thunk_in}
use Rattle.wild_image.proofs.AppendLemmas.{all_written, none_written}
use Rattle.wild_image.proofs.split_by_part.split_thunks.Goals as goal

pub returns-then-is_header_only_part-clause-owned : goal.returns-then-is_header_only_part-clause-owned
returns-then-is_header_only_part-clause-owned c = λ k low.
    let l = c.args.layout.now in
    let header_only : is_header_only_part l l.primary_part ≡ true = sym c.is_header_only_part.ensures ∙ c.if-is_header_only_part.true in
    let none = none_written l l.primary_part (flat_map (thunk_in l k) (thunks_of l c.args.file.now)) header_only in
    sym (append-nil (get_or c.args.parts.now k [])) ∙ ap (λ (bs : List ℕ). get_or c.args.parts.now k [] ++ bs) (sym none)

pub returns-then-is_header_only_part-clause-rest : goal.returns-then-is_header_only_part-clause-rest
returns-then-is_header_only_part-clause-rest c =
    let l = c.args.layout.now in
    let header_only : is_header_only_part l l.primary_part ≡ true = sym c.is_header_only_part.ensures ∙ c.if-is_header_only_part.true in
    subst (λ (own : List ℕ). HasRest own c.args.bytes.now c.args.bytes.now) (sym (none_written l l.primary_part (file_thunks l c.args.file.now) header_only)) (λ rest e. e)

pub split_all_thunks-requires-clause-lies : goal.split_all_thunks-requires-clause-lies
split_all_thunks-requires-clause-lies c =
    let l = c.args.layout.now in
    let written : is_header_only_part l l.primary_part ≡ false = sym c.is_header_only_part.ensures ∙ c.if-is_header_only_part.false in
    c.requires.lies written

pub split_all_thunks-requires-clause-own : goal.split_all_thunks-requires-clause-own
split_all_thunks-requires-clause-own c =
    let l = c.args.layout.now in
    let written : is_header_only_part l l.primary_part ≡ false = sym c.is_header_only_part.ensures ∙ c.if-is_header_only_part.false in
    subst (λ (own : List ℕ). BeginsWith own c.args.bytes.now) (all_written l l.primary_part (file_thunks l c.args.file.now) written) c.requires.own

pub returns-clause-owned : goal.returns-clause-owned
returns-clause-owned c =
    let l = c.args.layout.now in
    let written : is_header_only_part l l.primary_part ≡ false = sym c.is_header_only_part.ensures ∙ c.if-is_header_only_part.false in
    on_ok_weaker c.split_all_thunks.result (λ h k low. h k low ∙ ap (λ (bs : List ℕ). get_or c.args.parts.now k [] ++ bs) (sym (all_written l l.primary_part (flat_map (thunk_in l k) (thunks_of l c.args.file.now)) written))) c.split_all_thunks.ensures.owned

pub returns-clause-rest : goal.returns-clause-rest
returns-clause-rest c =
    let l = c.args.layout.now in
    let written : is_header_only_part l l.primary_part ≡ false = sym c.is_header_only_part.ensures ∙ c.if-is_header_only_part.false in
    IfOk-weaker c.split_all_thunks.result _ _ (λ r h. subst (λ (own : List ℕ). HasRest own c.args.bytes.now r.now) (sym (all_written l l.primary_part (file_thunks l c.args.file.now) written)) h) c.split_all_thunks.ensures.rest
