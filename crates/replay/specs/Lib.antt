-- What is promised of a tally.
pub mod Counted
