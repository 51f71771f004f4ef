use Rattle.wild_space.proofs.BindLemmas.{first_first, none_none, binds_first, undefined_undefined}
use Rattle.wild_space.proofs.laws.binds_are_first.Goals as goal

pub returns-clause-first : goal.returns-clause-first
returns-clause-first c = first_first

pub returns-clause-none : goal.returns-clause-none
returns-clause-none c = none_none

pub returns-clause-binds : goal.returns-clause-binds
returns-clause-binds c = binds_first

pub returns-clause-undefined : goal.returns-clause-undefined
returns-clause-undefined c = undefined_undefined
