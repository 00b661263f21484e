-- The laws of sums, congruence, matrices and whole numbers.
pub mod Sums
pub mod Congruences
pub mod Products
pub mod Tables
pub mod Turns
pub mod Wholes
