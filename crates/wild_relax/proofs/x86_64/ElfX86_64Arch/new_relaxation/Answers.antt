use Rattle.std.proofs.Common.{sym, ap, ◌∙◌, Ok}
use Rattle.wild_relax.proofs.RoomLemmas.{chosen_has_room}
use Rattle.wild_relax.proofs.x86_64.ElfX86_64Arch.new_relaxation.Goals as goal

pub returns-in-Some-clause-room : goal.returns-in-Some-clause-room
returns-in-Some-clause-room c = chosen_has_room _ _ (sym c.choose.ensures ∙ c.in_ok-choose.was ∙ ap Ok c.in-Some.is)
