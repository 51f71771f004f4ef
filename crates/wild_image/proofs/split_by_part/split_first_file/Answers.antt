use Rattle.wild_image.proofs.Common.{◌≡◌, true, rules, is_prelude}
use Rattle.wild_image.proofs.split_by_part.split_first_file.Goals as goal

pub split_merged_and_identity-requires-clause-merged : goal.split_merged_and_identity-requires-clause-merged
split_merged_and_identity-requires-clause-merged c = let t : is_prelude c.args.file.now.role ≡ true = search rules in c.requires.merged t

pub split_merged_and_identity-requires-clause-identity : goal.split_merged_and_identity-requires-clause-identity
split_merged_and_identity-requires-clause-identity c = let t : is_prelude c.args.file.now.role ≡ true = search rules in c.requires.identity t

pub split_merged_and_identity-requires-clause-own : goal.split_merged_and_identity-requires-clause-own
split_merged_and_identity-requires-clause-own c = let t : is_prelude c.args.file.now.role ≡ true = search rules in rw t at c.requires.own

pub returns-then-is_prelude-clause-owned : goal.returns-then-is_prelude-clause-owned
returns-then-is_prelude-clause-owned c = let t : is_prelude c.args.file.now.role ≡ true = search rules in rw t c.split_merged_and_identity.ensures.owned

pub returns-then-is_prelude-clause-rest : goal.returns-then-is_prelude-clause-rest
returns-then-is_prelude-clause-rest c = let t : is_prelude c.args.file.now.role ≡ true = search rules in rw t c.split_merged_and_identity.ensures.rest
