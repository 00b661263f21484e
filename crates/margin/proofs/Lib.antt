-- The laws of the margin's steps.
pub mod Places
pub mod Laws
pub mod Noise
