-- What a view of a ciphertext asks.
pub mod Sized
