-- Noise as signed numbers, and how large it can be.
pub mod Signed
pub mod Sizes
