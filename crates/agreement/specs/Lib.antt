-- What redoing encapsulation asks, and what a comparison leaves.
pub mod Again
