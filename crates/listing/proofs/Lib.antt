pub mod Pouring
pub mod Spelling
pub mod Fitting
pub mod Lining
pub mod Accepted
pub mod Most
pub mod Table
