-- The laws of packing.
pub mod RoundTrip
pub mod Sixteen
