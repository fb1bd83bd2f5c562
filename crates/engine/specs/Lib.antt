-- The vocabulary of the contracts: nothing here must be believed for the demands, which the checker's definitions state. Each file says what
-- the functions of the source file of its name promise.
pub mod Fill
pub mod Offer
pub mod Level
pub mod Deal
pub mod Share
pub mod Divide
