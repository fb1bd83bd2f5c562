pub mod Rank
pub mod Classes
pub mod Joining
