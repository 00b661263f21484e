-- What key and sealing leave, and the third demand of the calls.
pub mod Sealed
pub mod RoundTrip
pub mod Signed
