-- Definitions to believe: Command (what stands at an offset of a file), Refusal (what a call that refuses answers), Rule (rules in their order). Reader states the contracts of the reader.
pub mod Command
pub mod Refusal
pub mod Rule
pub mod Reader
