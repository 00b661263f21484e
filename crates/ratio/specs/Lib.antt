-- The margin's answer.
pub mod Ratio
pub mod Answered
