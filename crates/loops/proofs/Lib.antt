-- What the loops of the crate share.
pub mod Eights
