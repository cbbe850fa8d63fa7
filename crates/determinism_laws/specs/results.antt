pub mod Main
pub mod Results
