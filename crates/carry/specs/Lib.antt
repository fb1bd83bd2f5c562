-- Definitions to believe: Carry (what a command changes).
pub mod Carry
