use Rattle.wild_image.proofs.Common.{ℕ, flat_map, IfOk-weaker, merged_bytes, merged_in, front_in}
use Rattle.wild_image.proofs.AppendLemmas.{both_begin, both_go_on, both_end}
use Rattle.wild_image.proofs.OwnedLemmas.{owned_twice}
use Rattle.wild_image.proofs.split_by_part.split_merged_and_identity.Goals as goal

pub split_strings-requires-clause-own : goal.split_strings-requires-clause-own
split_strings-requires-clause-own c = both_begin (flat_map merged_bytes c.args.layout.now.merged) c.args.layout.now.identity.bytes c.args.bytes.now c.requires.own

pub split_identity-requires-clause-own : goal.split_identity-requires-clause-own
split_identity-requires-clause-own c = both_go_on (flat_map merged_bytes c.args.layout.now.merged) c.args.layout.now.identity.bytes c.args.bytes.now _ c.requires.own c.in_ok-rest.ensures.rest

pub returns-clause-owned : goal.returns-clause-owned
returns-clause-owned c =
    let l = c.args.layout.now in
    owned_twice c.split_identity.result (λ (k : ℕ). flat_map (merged_in l k) l.merged) (λ (k : ℕ). front_in l k l.identity.part l.identity.bytes) c.args.parts.now c.split_strings.new.parts c.split_identity.new.parts c.split_strings.auto.parts c.in_ok-rest.ensures.owned c.split_identity.ensures.owned

pub returns-clause-rest : goal.returns-clause-rest
returns-clause-rest c =
    let l = c.args.layout.now in
    IfOk-weaker c.split_identity.result _ _ (λ r h. both_end (flat_map merged_bytes l.merged) l.identity.bytes c.args.bytes.now _ r.now c.in_ok-rest.ensures.rest h) c.split_identity.ensures.rest
