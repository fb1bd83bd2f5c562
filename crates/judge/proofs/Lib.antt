mod Naming
pub mod Standing
pub mod Numbered
