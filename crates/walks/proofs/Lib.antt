-- The laws of walks by hand.
pub mod Answer
pub mod Kit
pub mod Lent
