-- Sampling of noise.
pub mod Noise
