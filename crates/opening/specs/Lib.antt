-- What opening asks, and a choice as a number.
pub mod Opening
