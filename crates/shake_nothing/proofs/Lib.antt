-- An answer from outside, and when a sponge that was lent can be squeezed.
pub mod Nothing
pub mod Squeezed
