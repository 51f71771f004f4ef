use Rattle.std.proofs.Common.{◌≡◌, drop, []}
use Rattle.wild_loader.specs.Relocate.{add_places}
use Rattle.wild_loader.proofs.relocate.add_packed.Given as goal

abbrev pub invariant-loop-place : goal.invariant-loop-place
invariant-loop-place l = add_places l.world l.before (drop l.place-index l.places) l.patches ≡ add_places l.world l.before l.places []
