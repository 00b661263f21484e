-- A sponge that takes parts in a row.
pub mod Laws
