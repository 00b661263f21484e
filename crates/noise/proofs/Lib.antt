-- The laws of sampling.
pub mod Bounds
pub mod Counts
pub mod Signs
