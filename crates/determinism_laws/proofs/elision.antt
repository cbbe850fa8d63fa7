-- what a segment takes off what a task may still do
pub mod Falls
-- larger bounds change nothing, and the bound of the definition is large enough
pub mod Within
-- executions, put together from their segments
pub mod Building
