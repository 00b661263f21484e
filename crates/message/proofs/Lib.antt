-- The laws of message coding.
pub mod Steps
pub mod RoundTrip
pub mod Codes
pub mod Coded
