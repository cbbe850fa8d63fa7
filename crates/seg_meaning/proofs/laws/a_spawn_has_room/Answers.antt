use Rattle.seg_meaning.proofs.Rooms.{spawns_have_room}
use Rattle.seg_meaning.proofs.laws.a_spawn_has_room.Goals as goal

pub returns : goal.returns
returns c = spawns_have_room
