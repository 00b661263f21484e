-- The two matrices of a ciphertext.
pub mod Sealing
