-- The theory of matroids, of divisions and of exchange. Its theorems stand in proofs/.
-- Definitions to believe: Set and Sum (sets, their sizes, sums), Search (the largest value over a list), Matroid (the laws of a matroid, and
-- worth, which is matroid rank), Build (matroids from matroids), Division (bundles, moves and the total), Cuts and Share (the maximin share),
-- Best (the largest total); and of Decide `is_yes`, a decision as a test.
-- Vocabulary of the engine's contracts: Exchange (the exchange graph), Carry (a chain carried out), Closure (sets closed under exchange),
-- Levels and Breadth (breadth-first search over the exchange graph).
-- Laws that a definition needs: Taut (laws of tests), Decide (decisions), SetLaws, DivisionLaws.
pub mod Taut
pub mod Decide
pub mod Set
pub mod SetLaws
pub mod Sum
pub mod Search
pub mod Matroid
pub mod Build
pub mod Division
pub mod DivisionLaws
pub mod Shortfall
pub mod Cuts
pub mod Share
pub mod Best
pub mod Exchange
pub mod Carry
pub mod Closure
pub mod Levels
pub mod Breadth
