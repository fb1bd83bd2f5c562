pub mod Words
pub mod Going
pub mod Following
pub mod Advance
