-- The laws that the hashes share, and those of a signed number as it is stored.
pub mod Laws
pub mod Words
