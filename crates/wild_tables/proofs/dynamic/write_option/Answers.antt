use Rattle.std.proofs.Common.{take, sym}
use Rattle.wild_table_formats.proofs.DynamicLemmas.{option_none}
use Rattle.wild_tables.proofs.dynamic.write_option.Goals as goal

pub returns-in-None-clause-written : goal.returns-in-None-clause-written
returns-in-None-clause-written c = rw c.in-None.is (sym (option_none c.args.number c.args.cursor.offset (take c.args.cursor.at c.args.out.now)))
