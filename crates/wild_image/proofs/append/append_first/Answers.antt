use Rattle.wild_image.proofs.Common.{◌≡◌, true, rules, is_prelude}
use Rattle.wild_image.proofs.append.append_first.Goals as goal

pub append_merged_and_identity-requires-clause-merged : goal.append_merged_and_identity-requires-clause-merged
append_merged_and_identity-requires-clause-merged c = let t : is_prelude c.args.file.now.role ≡ true = search rules in c.requires.merged t

pub append_merged_and_identity-requires-clause-identity : goal.append_merged_and_identity-requires-clause-identity
append_merged_and_identity-requires-clause-identity c = let t : is_prelude c.args.file.now.role ≡ true = search rules in c.requires.identity t

pub append_merged_and_identity-requires-clause-own : goal.append_merged_and_identity-requires-clause-own
append_merged_and_identity-requires-clause-own c = let t : is_prelude c.args.file.now.role ≡ true = search rules in rw t at c.requires.own
