use Rattle.wild_image.proofs.Common.{ℕ, IfOk-weaker, of_last_file, of_first_file, all_sorted, merged_and_identity_bytes}
use Rattle.wild_image.specs.Pieces.{all_sorted_in, merged_and_identity_in}
use Rattle.wild_image.proofs.AppendLemmas.{both_begin, both_go_on, both_end}
use Rattle.wild_image.proofs.OwnedLemmas.{owned_twice}
use Rattle.wild_image.proofs.split_by_part.split_trailer.Goals as goal

pub split_last_file-requires-clause-own : goal.split_last_file-requires-clause-own
split_last_file-requires-clause-own c = both_begin (of_last_file c.args.file.now (all_sorted c.args.layout.now)) (of_first_file c.args.file.now (merged_and_identity_bytes c.args.layout.now)) c.args.bytes.now c.requires.own

pub split_first_file-requires-clause-own : goal.split_first_file-requires-clause-own
split_first_file-requires-clause-own c = both_go_on (of_last_file c.args.file.now (all_sorted c.args.layout.now)) (of_first_file c.args.file.now (merged_and_identity_bytes c.args.layout.now)) c.args.bytes.now _ c.requires.own c.in_ok-rest.ensures.rest

pub returns-clause-owned : goal.returns-clause-owned
returns-clause-owned c =
    let l = c.args.layout.now in
    let f = c.args.file.now in
    owned_twice c.split_first_file.result (λ (k : ℕ). of_last_file f (all_sorted_in l k)) (λ (k : ℕ). of_first_file f (merged_and_identity_in l k)) c.args.parts.now c.split_last_file.new.parts c.split_first_file.new.parts c.split_last_file.auto.parts c.in_ok-rest.ensures.owned c.split_first_file.ensures.owned

pub returns-clause-rest : goal.returns-clause-rest
returns-clause-rest c =
    let l = c.args.layout.now in
    let f = c.args.file.now in
    IfOk-weaker c.split_first_file.result _ _ (λ r h. both_end (of_last_file f (all_sorted l)) (of_first_file f (merged_and_identity_bytes l)) c.args.bytes.now _ r.now c.in_ok-rest.ensures.rest h) c.split_first_file.ensures.rest
