-- The laws of the scheme, and the third demand.
pub mod Decode
pub mod Leftover
pub mod Parts
pub mod Keys
pub mod Ciphertexts
pub mod Groups
pub mod Demand3
pub mod Margin
pub mod Consequences
pub mod Accepted
