-- The laws of the sponge. Callers cite Uses and Length; the others prove that the sponge is that of specs/Shake.antt.
pub mod Length
pub mod Turn
pub mod Lanes
pub mod Lane
pub mod Eights
pub mod Add
pub mod Absorb
pub mod Padding
pub mod Squeeze
pub mod Blocks
pub mod Words
pub mod Put
pub mod Uses
