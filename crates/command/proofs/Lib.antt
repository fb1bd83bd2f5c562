pub mod Mapped
pub mod Standing
