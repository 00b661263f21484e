-- What three calls in a row leave, and what comes back.
pub mod Trip
pub mod ThereAndBack
