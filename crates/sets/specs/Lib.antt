-- Definitions to believe: Bits (the set that a word stands for, and the word of a set). Lowest, Next, Chosen, Bundles, Joining and Assigned have the words of contracts.
pub mod Bits
pub mod Lowest
pub mod Next
pub mod Chosen
pub mod Bundles
pub mod Joining
pub mod Assigned
