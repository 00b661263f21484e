-- The lengths of a ciphertext's parts.
pub mod Lengths
