-- The laws of the products, and what a caller asks of their results.
pub mod Laws
pub mod FromSeed
