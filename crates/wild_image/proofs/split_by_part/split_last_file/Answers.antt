use Rattle.wild_image.proofs.Common.{◌≡◌, true, rules, is_epilogue}
use Rattle.wild_image.proofs.split_by_part.split_last_file.Goals as goal

pub split_sorted-requires-clause-lies : goal.split_sorted-requires-clause-lies
split_sorted-requires-clause-lies c = let t : is_epilogue c.args.file.now.role ≡ true = search rules in c.requires.lies t

pub split_sorted-requires-clause-own : goal.split_sorted-requires-clause-own
split_sorted-requires-clause-own c = let t : is_epilogue c.args.file.now.role ≡ true = search rules in rw t at c.requires.own

pub returns-then-is_epilogue-clause-owned : goal.returns-then-is_epilogue-clause-owned
returns-then-is_epilogue-clause-owned c = let t : is_epilogue c.args.file.now.role ≡ true = search rules in rw t c.split_sorted.ensures.owned

pub returns-then-is_epilogue-clause-rest : goal.returns-then-is_epilogue-clause-rest
returns-then-is_epilogue-clause-rest c = let t : is_epilogue c.args.file.now.role ≡ true = search rules in rw t c.split_sorted.ensures.rest
