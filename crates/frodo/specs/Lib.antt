-- What each call leaves, whatever it is lent.
pub mod Outcome
pub mod Keypair
pub mod Encaps
pub mod Decaps
pub mod Margin
pub mod SetLengths
pub mod One
pub mod DoneWhen
pub mod Exact
