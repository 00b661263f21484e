-- Three calls in a row: what they leave is one outcome, and what comes back of it.
pub mod ThereAndBack
pub mod Fits
