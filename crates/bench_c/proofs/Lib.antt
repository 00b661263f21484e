-- What the exports' proofs share.
pub mod Set3
