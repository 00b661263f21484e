-- What the margin leaves.
pub mod Made
