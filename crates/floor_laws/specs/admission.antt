pub mod TasksOf
pub mod admission_core
