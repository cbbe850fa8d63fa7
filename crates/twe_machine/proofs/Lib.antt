-- The enabled tasks by place, and what holds an admission back.
pub mod listing
