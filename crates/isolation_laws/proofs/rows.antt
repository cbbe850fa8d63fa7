-- Lists of rows, and the links that belong to them.
pub mod ListElements
pub mod LinksOfRows
-- What a move leaves of each row: by the join that it takes, the frame that it puts back, and the task that it adds.
pub mod RowsLater
pub mod JoinedChild
pub mod FramePutBack
pub mod AddedTask
-- Effects lie within those of spawn ancestors, so a spawned task adds no interference that its parent did not have.
pub mod Descents
pub mod SpawnedTask
