-- Control paths, and the futures that are out after them.
pub mod FuturesOut
-- What remains of a body is a part of it.
pub mod PartsOfBodies
pub mod MakesInBodies
-- What the rules say of a spawn, and of what one statement does itself.
pub mod Spawns
pub mod OwnActs
-- A remainder of a body is fine if all that it can do before its next task operation spares the effects of a task.
pub mod FineRests
