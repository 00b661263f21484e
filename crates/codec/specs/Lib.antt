-- Packing of words.
pub mod Pack
pub mod Packing
