pub mod Sizes
pub mod Greedily
pub mod Filling
pub mod Leveling
pub mod Sharing
pub mod Dealing
pub mod Dividing
