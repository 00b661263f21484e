-- What encapsulation leaves.
pub mod Made
