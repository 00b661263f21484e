-- The table holds.
pub mod Right
