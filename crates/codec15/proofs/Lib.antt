-- The laws of the straight-line formulas.
pub mod Straight
