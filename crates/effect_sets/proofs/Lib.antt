pub mod Sets
pub mod Filling
pub mod Accesses
