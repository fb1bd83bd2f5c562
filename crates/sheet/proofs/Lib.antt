pub mod Faults
pub mod Commands
pub mod Testing
pub mod Places
pub mod Sizes
pub mod Numbers
pub mod Naming
pub mod Forming
