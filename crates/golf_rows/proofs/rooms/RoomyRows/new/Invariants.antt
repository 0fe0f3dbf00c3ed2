use Rattle.std.proofs.Common.{◌≡◌, ℕ, List, ◌∷◌, get_or, length, map, take}
use Rattle.golf_rows.specs.Rooms.{room_for, roomy_from, AreRooms}
use Rattle.golf_rows.proofs.rooms.RoomyRows.new.Given as goal

-- the rows of the rooms so far, whatever the members are
abbrev pub invariant-loop-room : goal.invariant-loop-room
invariant-loop-room l = record {
  lie : AreRooms 0 l.ends l.nexts l.end;
  last : get_or (0 ∷ l.ends) (length l.ends) 0 ≡ l.end;
  rows : (members : List ℕ) → roomy_from 0 l.ends l.nexts members ≡ map room_for (take l.room-index l.rooms);
}
