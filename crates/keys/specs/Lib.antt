-- What the public key asks and leaves.
pub mod Made
