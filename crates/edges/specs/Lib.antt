-- The rules' own numbers.
pub mod Edges
