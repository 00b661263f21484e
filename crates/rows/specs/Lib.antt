-- Rows of A.
pub mod Row
