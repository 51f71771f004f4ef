use Rattle.wild_image.proofs.Common.{◌≡◌, true, rules, is_epilogue}
use Rattle.wild_image.proofs.append.append_last.Goals as goal

pub append_sorted-requires-clause-lies : goal.append_sorted-requires-clause-lies
append_sorted-requires-clause-lies c = let t : is_epilogue c.args.file.now.role ≡ true = search rules in c.requires.lies t

pub append_sorted-requires-clause-own : goal.append_sorted-requires-clause-own
append_sorted-requires-clause-own c = let t : is_epilogue c.args.file.now.role ≡ true = search rules in rw t at c.requires.own
