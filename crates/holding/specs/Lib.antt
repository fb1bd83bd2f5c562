-- Definitions of a fresh count of sizes and shortfall (Count, document 02, note 7) and of document 01's give and return (Give) and chain (Chain),
-- which the contracts equate; Words states the contract of `pool`, and Tally those of the functions that keep the counts.
pub mod Count
pub mod Give
pub mod Chain
pub mod Words
pub mod Tally
