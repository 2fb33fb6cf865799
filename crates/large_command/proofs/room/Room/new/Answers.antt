use Rattle.large_command.proofs.Lengths.{has_all_room}
use Rattle.large_command.proofs.room.Room.new.Goals as goal

pub returns : goal.returns
returns c = has_all_room
