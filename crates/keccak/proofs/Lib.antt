-- The laws that the proofs of the permutation cite.
pub mod Rotation
pub mod Constants
