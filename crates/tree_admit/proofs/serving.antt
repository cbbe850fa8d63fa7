-- What stays of a worker's stand over the calls that it makes.
pub mod Serving
