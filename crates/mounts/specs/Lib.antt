-- Definitions to believe: Mounts (which sets can be mounted, and what a team's tables say of the mounts that an instrument fits). Transversal
-- has the laws that make it a matroid, and the matroid of a team's tables. Matching has the words of the functions' contracts.
pub mod Mounts
pub mod Transversal
pub mod Matching
