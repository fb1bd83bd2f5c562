-- The vocabulary of the contracts: nothing here must be believed for the demands, which the checker's definitions state. Agents has the
-- agents' matroids and the holdings they may have; each other file says what the functions of the source file of its name promise.
pub mod Agents
pub mod Search
pub mod Chains
