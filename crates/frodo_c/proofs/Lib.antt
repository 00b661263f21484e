-- That the lengths fit into C's numbers, and that each call has one outcome.
pub mod Fits
pub mod One
