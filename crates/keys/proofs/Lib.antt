-- The laws of the public key and its matrices.
pub mod Matrices
pub mod PublicKey
