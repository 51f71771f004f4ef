use Rattle.wild_references.proofs.ThreadValues.{own_distance, thread_place, thread_sum}
use Rattle.wild_references.proofs.thread_places_are_known.Goals as goal

pub returns : goal.returns
returns c = record { own = own_distance; there = thread_place; less = thread_sum }
