-- What key generation asks and leaves.
pub mod Made
