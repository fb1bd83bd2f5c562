-- Definitions to believe: Verdict (the answer of Check), Rules (the rules 13 to 16, over Tests), Check (all rules in their order), Told (a verdict's number and place), Fair (what
-- an accepted sheet is proved to mean) and Page.
-- A theorem's statement: Stated, what acceptance comes to. proofs/Acceptance shows that Check accepts exactly where it holds.
pub mod Verdict
pub mod Tests
pub mod Rules
pub mod Check
pub mod Told
pub mod Fair
pub mod Page
pub mod Stated
