-- The laws of decapsulation's steps.
pub mod Laws
