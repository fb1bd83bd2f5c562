-- Definitions to believe: Teams (a team's matroid, by its kind and its channels) and Valuations (the matroid of a valuation).
pub mod Teams
pub mod Valuations
