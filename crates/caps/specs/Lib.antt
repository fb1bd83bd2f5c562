-- Definitions to believe: Caps (which sets are within their caps). Partition has the laws that make it a matroid, and the matroid of a team's
-- tables. Counts has the words of the functions' contracts.
pub mod Caps
pub mod Partition
pub mod Counts
