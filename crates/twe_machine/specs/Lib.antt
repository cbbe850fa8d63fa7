pub mod Queues
pub mod Books
pub mod Listings
pub mod inner
