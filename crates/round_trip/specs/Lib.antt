-- The third demand of the calls.
pub mod RoundTrip
pub mod Signed
