use Rattle.std.proofs.Common.{◌≡◌, ◌∷◌, take, length, get_or}
use Rattle.open_segments.specs.FilledLists.{rooms_from}
use Rattle.open_segments.specs.FlatLists.{AreEnds}
use Rattle.open_segments.proofs.filling.ends_of.Given as goal

abbrev pub invariant-loop-room : goal.invariant-loop-room
invariant-loop-room l = record {
  rooms : rooms_from 0 l.ends.items ≡ take l.room-index l.rooms;
  ends : AreEnds 0 l.ends.items l.end;
  last : l.end ≡ get_or (0 ∷ l.ends.items) (length l.ends.items) 0;
}
