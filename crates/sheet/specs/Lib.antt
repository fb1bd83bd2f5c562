-- Definitions to believe: Layout (where the commands stand and how long a sheet is), Fields (what its bytes state), Form (which bytes form,
-- order and range allow), and Named (what a row of GIVEs or PARTs names), which the contract of `words` cites.
-- A theorem's statement: Formed, the form as facts about the bytes. proofs/Forming shows that a sheet passes exactly where they hold.
pub mod Layout
pub mod Fields
pub mod Form
pub mod Named
pub mod Formed
