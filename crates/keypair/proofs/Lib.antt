-- The laws of key generation's steps.
pub mod Keypair
