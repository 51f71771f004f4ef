use Rattle.std.proofs.Common.{◌≡◌, drop}
use Rattle.wild_tables.specs.Rooms.{first_too_small}
use Rattle.wild_tables.proofs.room.first_too_small.Given as goal

abbrev pub invariant-loop-room : goal.invariant-loop-room
invariant-loop-room l = first_too_small l.layout l.group (drop l.room-index l.rooms) ≡ first_too_small l.layout l.group l.rooms
