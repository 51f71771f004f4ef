use Rattle.std.proofs.Common.{◌∙◌, refl, sym}
use Rattle.wild_sections.proofs.calls.call_value.Goals as goal

pub returns-then-not-partner-clause-alone : goal.returns-then-not-partner-clause-alone
returns-then-not-partner-clause-alone g c = λ value e. rw c.if-relocation-eq-PLT32.true refl
