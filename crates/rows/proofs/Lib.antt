-- The laws of rows, and of the mask of a set.
pub mod Rows
