-- Definition to believe: Desk (the one number that a C caller gets).
pub mod Desk
