pub mod Lowest
pub mod Bundles
pub mod Divided
pub mod Shared
pub mod Verdicts
pub mod Acceptance
pub mod Answers
pub mod Table
