-- Definitions to believe, in the order of document 01: Read (what a file comes to), Teams (the matroid of each team), Worth (the operation).
-- Progress states the contracts of the reading of one command. Valid is what an accepted reading holds: the theorems conclude it, and
-- `valuations_of` asks it.
pub mod Read
pub mod Teams
pub mod Worth
pub mod Progress
pub mod Valid
pub mod Entries
