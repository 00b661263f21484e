-- FIPS 202 (2015), the sponge construction and SHAKE.
pub mod Shake
pub mod Sponge
