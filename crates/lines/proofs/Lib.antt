pub mod Cut
pub mod Given
