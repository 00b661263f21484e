-- The algebra in which products and noise are stated.
pub mod Sum
pub mod Congruence
pub mod Matrix
pub mod Whole
