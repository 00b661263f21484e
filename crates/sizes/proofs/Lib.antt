-- Noise as signed numbers, and how large it can be, proved.
pub mod Stands
pub mod Small
pub mod Signed
pub mod Sizes
pub mod Keys
