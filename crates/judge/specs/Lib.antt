-- Definitions to believe: Fault (which rule a command breaks) and Broken (the numbers of the faults).
pub mod Fault
pub mod Broken
