-- The laws of opening, of the comparison and of the choice.
pub mod Choices
pub mod Laws
