pub mod Weight
pub mod Spending
pub mod GivenWork
pub mod JoinedWeight
pub mod Falls
