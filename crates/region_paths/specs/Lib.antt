pub mod Written
pub mod Concrete
pub mod Inside
pub mod Apart
pub mod Filled
pub mod Arguments
pub mod Sets
