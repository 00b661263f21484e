-- Coding of messages.
pub mod Message
pub mod Coding
