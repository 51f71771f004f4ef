use Rattle.std.proofs.Common.{sym, ap, ◌∙◌, Ok}
use Rattle.wild_relax.proofs.RoomLemmas.{chosen_has_room_aarch64}
use Rattle.wild_relax.proofs.aarch64.ElfAArch64Arch.new_relaxation.Goals as goal

pub returns-in-Some-clause-room : goal.returns-in-Some-clause-room
returns-in-Some-clause-room c = chosen_has_room_aarch64 _ _ (sym c.choose_aarch64.ensures ∙ c.in_ok-choose_aarch64.was ∙ ap Ok c.in-Some.is)
