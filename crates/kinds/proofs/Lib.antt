pub mod Cases
pub mod Truncating
pub mod Contracting
pub mod Nothing
pub mod Above
pub mod Full
