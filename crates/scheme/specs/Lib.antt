-- FrodoKEM on paper.
pub mod Parts
pub mod KeyGen
pub mod Encaps
pub mod Decaps
pub mod Noise
pub mod Margin
pub mod Demand3
pub mod Accepted
