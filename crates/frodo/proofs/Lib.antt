-- From the tests to what is left, that this is one outcome, and when it is that of a done call.
pub mod Outcomes
pub mod One
pub mod Told
pub mod DoneWhen
pub mod Exact
