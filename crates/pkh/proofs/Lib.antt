-- The laws of pkh.
pub mod Laws
