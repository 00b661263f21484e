-- The parts of an input, in a row, and a sponge that took three.
pub mod Parts
pub mod Full
