pub mod Rowing
pub mod Pages
pub mod Digits
pub mod Stating
pub mod Answering
