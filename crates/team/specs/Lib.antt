-- Definitions to believe: Team (the bytes of the kinds, the number of joints, and the filler) and Kinds (the kind that each of those bytes opens).
pub mod Team
pub mod Kinds
