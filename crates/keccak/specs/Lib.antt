-- FIPS 202 (2015), KECCAK-p[1600, 24].
pub mod Keccak
