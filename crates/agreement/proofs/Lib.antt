-- The laws of the comparison.
pub mod Laws
