-- Words and their masks.
pub mod Words
