use Rattle.wild_meaning.proofs.SharedRefused.{wrong_slots, wrong_addresses, wrong_offsets, wrong_size, wrong_byte, wrong_near, slots_need_flags}
use Rattle.wild_meaning.proofs.SharedCode.{wrong_code}
use Rattle.wild_meaning.proofs.SharedLinked.{shared_linked, changed_table}
use Rattle.wild_meaning.proofs.SharedStubs.{wrong_stubs}
use Rattle.wild_meaning.proofs.SharedThreads.{wrong_modules, wrong_descriptors}
use Rattle.wild_meaning.proofs.laws.wrong_shared_objects_are_refused.Goals as goal

pub returns : goal.returns
returns c = record { slots = wrong_slots; flags = slots_need_flags; stubs = wrong_stubs; addresses = wrong_addresses; offsets = wrong_offsets; modules = wrong_modules; descriptors = wrong_descriptors; size = wrong_size; byte = wrong_byte; near = wrong_near; table = changed_table; code = wrong_code; linked = shared_linked }
