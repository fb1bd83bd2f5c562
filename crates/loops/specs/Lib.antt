-- Definitions to believe: Net (spans, closed loops, walks, loop-free sets). Groups has the groups that are carried along a row of accepted gauges,
-- and the theorem `groups_lead`. Links, Trail, Labels and Graphic have the laws that make the loop-free sets a matroid, and the matroid of a
-- team's tables; Accepting, that accepted gauges are loop-free and as many as a set is worth. Forests has the words of the functions' contracts.
pub mod Net
pub mod Links
pub mod Trail
pub mod Groups
pub mod Labels
pub mod Graphic
pub mod Accepting
pub mod Forests
