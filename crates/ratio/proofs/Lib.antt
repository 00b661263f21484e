-- The laws of the margin's answer.
pub mod Quotient
pub mod Halves
