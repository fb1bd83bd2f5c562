pub mod Entries
pub mod Accepting
pub mod Carrying
pub mod Joining
pub mod Parallel
pub mod Reading
