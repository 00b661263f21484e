-- What decapsulation leaves.
pub mod Made
