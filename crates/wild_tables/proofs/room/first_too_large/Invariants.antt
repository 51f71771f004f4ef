use Rattle.std.proofs.Common.{◌≡◌, drop}
use Rattle.wild_tables.specs.Rooms.{first_too_large}
use Rattle.wild_tables.proofs.room.first_too_large.Given as goal

abbrev pub invariant-loop-room : goal.invariant-loop-room
invariant-loop-room l = first_too_large l.layout l.group (drop l.room-index l.rooms) ≡ first_too_large l.layout l.group l.rooms
